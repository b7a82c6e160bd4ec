use Rattle.net_build.specs.PlanText.{IsPeriodText}
use Rattle.net_build.proofs.Pieces.{no_texts, more_texts}
use Rattle.net_build.proofs.routes.push_periods.Goals as goal

pub loop-period-init : goal.loop-period-init
loop-period-init c = no_texts (IsPeriodText c.args.network.now) c.args.out.now.items

pub loop-period-preserved : goal.loop-period-preserved
loop-period-preserved c =
    more_texts (IsPeriodText c.args.network.now) c.args.out.now.items c.loop-period.out.items c.push_one_period.new.out.items c.loop-period.period c.loop-period.invariant c.in_ok-push_one_period.ensures
