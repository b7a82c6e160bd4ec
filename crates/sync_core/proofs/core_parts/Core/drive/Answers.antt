use Rattle.sync_core.proofs.Tries.{drive_over}
use Rattle.sync_core.proofs.core_parts.Core.drive.Goals as goal

pub returns-in-OverBudget-clause-over : goal.returns-in-OverBudget-clause-over
returns-in-OverBudget-clause-over g c = drive_over c.go_on.new.self c.in-OverBudget.timeline c.in_ok-go_on.field-0.end c.in-OverBudget.is c.in_ok-go_on.ensures.due
