use Rattle.sync_rules.proofs.Reports.{report_is_true, report_keeps}
use Rattle.sync_rules.proofs.laws.reporting_keeps_sound.Goals as goal

pub returns-clause-report : goal.returns-clause-report
returns-clause-report g c = λ s sh. report_is_true s sh

pub returns-clause-barrier : goal.returns-clause-barrier
returns-clause-barrier g c = λ s sh. report_keeps s sh
