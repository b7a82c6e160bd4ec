use Rattle.sync_steps.specs.declared.steps.Step.TheVariants.{Execute}
use Rattle.core_rules.specs.Stepping.{is_enabled}
use Rattle.sync_core.proofs.Listing.{number_more}
use Rattle.sync_core.proofs.core_parts.Core.add_executes.Goals as goal

pub loop-number-preserved : goal.loop-number-preserved
loop-number-preserved g c =
    number_more (is_enabled c.args.self.now) Execute c.loop-number.number c.args.steps.now.items c.loop-number.steps.items c.add.new.steps.items c.loop-number.invariant c.in_ok-add.ensures
