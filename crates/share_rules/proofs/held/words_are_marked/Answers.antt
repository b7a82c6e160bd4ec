use Rattle.share_rules.proofs.Holding.{done_marked, round_marked, posted_unmarked, taken_unmarked}
use Rattle.share_rules.proofs.held.words_are_marked.Goals as goal

pub returns-clause-done : goal.returns-clause-done
returns-clause-done g c = λ key. done_marked key

pub returns-clause-round : goal.returns-clause-round
returns-clause-round g c = λ key. round_marked key

pub returns-clause-posted : goal.returns-clause-posted
returns-clause-posted g c = λ key. posted_unmarked key

pub returns-clause-taken : goal.returns-clause-taken
returns-clause-taken g c = λ key. taken_unmarked key
