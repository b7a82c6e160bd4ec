use Rattle.share_rules.proofs.Holding.{round_kept, done_kept, round_mark, done_mark}
use Rattle.share_rules.proofs.held.marks_are_lost_by_their_places.Goals as goal

pub returns-clause-round : goal.returns-clause-round
returns-clause-round g c = λ key. round_kept key

pub returns-clause-done : goal.returns-clause-done
returns-clause-done g c = λ key. done_kept key

pub returns-clause-round_mark : goal.returns-clause-round_mark
returns-clause-round_mark g c = λ key. round_mark key

pub returns-clause-done_mark : goal.returns-clause-done_mark
returns-clause-done_mark g c = λ key. done_mark key
