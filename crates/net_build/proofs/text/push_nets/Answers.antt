use Rattle.std.proofs.Common.{◌∙◌}
use Rattle.net_layout.proofs.Numbered.{flat_map_next}
use Rattle.net_build.specs.PlanText.{net_line}
use Rattle.net_build.proofs.text.push_nets.Goals as goal

pub loop-net-preserved : goal.loop-net-preserved
loop-net-preserved c =
    c.in_ok-push_net.ensures ∙ flat_map_next (net_line c.args.network.now) c.args.out.now.items c.loop-net.out.items c.loop-net.net c.loop-net.invariant
