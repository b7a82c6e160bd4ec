use Rattle.net_build.specs.PlanText.{IsHostText}
use Rattle.net_build.proofs.Pieces.{no_texts, more_texts}
use Rattle.net_build.proofs.routes.push_routes.Goals as goal

pub loop-host-init : goal.loop-host-init
loop-host-init c = no_texts (IsHostText c.args.network.now c.args.tick) c.args.out.now.items

pub loop-host-preserved : goal.loop-host-preserved
loop-host-preserved c =
    more_texts (IsHostText c.args.network.now c.args.tick) c.args.out.now.items c.loop-host.out.items c.push_host.new.out.items c.loop-host.host c.loop-host.invariant c.in_ok-push_host.ensures
