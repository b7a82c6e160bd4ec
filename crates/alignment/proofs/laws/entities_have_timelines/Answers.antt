use Rattle.alignment.proofs.Numbering.{line_below}
use Rattle.alignment.proofs.Lawful.{each_number}
use Rattle.alignment.proofs.laws.entities_have_timelines.Goals as goal

pub returns-clause-below : goal.returns-clause-below
returns-clause-below g c = line_below

pub returns-clause-each : goal.returns-clause-each
returns-clause-each g c = each_number
