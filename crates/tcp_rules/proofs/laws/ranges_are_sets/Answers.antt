use Rattle.tcp_rules.proofs.Holes.{added_again, covers_added, hole_is}
use Rattle.tcp_rules.proofs.Lasting.{beyond_holds}
use Rattle.tcp_rules.proofs.laws.ranges_are_sets.Goals as goal

pub returns-clause-added : goal.returns-clause-added
returns-clause-added c = covers_added

pub returns-clause-again : goal.returns-clause-again
returns-clause-again c = added_again

pub returns-clause-hole : goal.returns-clause-hole
returns-clause-hole c = hole_is

pub returns-clause-forgotten : goal.returns-clause-forgotten
returns-clause-forgotten c = beyond_holds
