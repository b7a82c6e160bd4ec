use Rattle.std.proofs.Common.{◌∙◌}
use Rattle.dml_tree.specs.TreeView.{attributes}
use Rattle.ssfnet_top.proofs.Naming.{ring_nets}
use Rattle.ssfnet_top.proofs.model.plan_resolved.Goals as goal

pub returns-in-Ok-ring_plan-clause-ready : goal.returns-in-Ok-ring_plan-clause-ready
returns-in-Ok-ring_plan-clause-ready c =
    let plan = c.in-Ok-ring_plan.ensures in
    (plan.fits, plan.named, ring_nets (attributes c.args.tree.now) c.in-Ok-ring_plan.built plan.built ∙ plan.named)
