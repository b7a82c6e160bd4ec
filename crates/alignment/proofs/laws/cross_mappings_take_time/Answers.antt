use Rattle.alignment.proofs.Lawful.{together_each, cross_late, ends_have}
use Rattle.alignment.proofs.laws.cross_mappings_take_time.Goals as goal

pub returns-clause-at_once : goal.returns-clause-at_once
returns-clause-at_once g c = together_each

pub returns-clause-delay : goal.returns-clause-delay
returns-clause-delay g c = cross_late

pub returns-clause-ends : goal.returns-clause-ends
returns-clause-ends g c = ends_have
