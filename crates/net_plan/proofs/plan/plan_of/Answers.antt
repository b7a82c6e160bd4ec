use Rattle.std.proofs.Common.{◌≡◌, ◌∙◌, length, ap, sym}
use Rattle.net_layout.specs.Limits.{KeepsLimits}
use Rattle.net_layout.proofs.Limiting.{keeps_limits}
use Rattle.net_plan.proofs.Adding.{entities_as_hosts, names_as_hosts, nothing_before}
use Rattle.net_plan.proofs.plan.plan_of.Goals as goal

pub host_rows-requires-clause-few : goal.host_rows-requires-clause-few
host_rows-requires-clause-few c = (keeps_limits c.args.network.now c.requires c.in_ok-layout.ensures.faultless).channels

pub build-requires-clause-limits : goal.build-requires-clause-limits
build-requires-clause-limits c = keeps_limits c.args.network.now c.requires c.in_ok-layout.ensures.faultless

pub returns-clause-named : goal.returns-clause-named
returns-clause-named c =
    ap length c.in_ok-names.ensures ∙ names_as_hosts c.args.network.now ∙ sym (entities_as_hosts c.args.network.now c.in_ok-plan.plan c.in_ok-plan.ensures.plan)

pub returns-clause-before : goal.returns-clause-before
returns-clause-before c = nothing_before c.args.network.now c.in_ok-plan.plan c.in_ok-plan.ensures.plan
