use Rattle.std.proofs.Common.{◌≡◌, ◌∙◌, length, ap, subst, sym}
use Rattle.std.proofs.lemmas.Result.{IfOk-weaker}
use Rattle.net_layout.specs.Wiring.{wires_of}
use Rattle.net_plan.specs.NetPlan.{IsSoFar}
use Rattle.net_plan.proofs.Adding.{whole_plan, whole_valid}
use Rattle.net_plan.proofs.building.build.Goals as goal

pub finish-requires-after_bounds : goal.finish-requires-after_bounds
finish-requires-after_bounds c κs = whole_valid c.args.network.now c.add_wires.new.builder c.requires.network c.requires.limits c.in_ok-add_wires.ensures

pub returns-clause-plan : goal.returns-clause-plan
returns-clause-plan c = IfOk-weaker c.finish.result _ _ (λ plan is. whole_plan c.args.network.now c.add_wires.new.builder plan c.in_ok-add_wires.ensures is) c.finish.ensures.plan
