use Rattle.alignment.proofs.Lawful.{least_each, least_some}
use Rattle.alignment.proofs.laws.least_windowed_is_least.Goals as goal

pub returns-clause-least : goal.returns-clause-least
returns-clause-least c = least_each

pub returns-clause-is : goal.returns-clause-is
returns-clause-is c = least_some
