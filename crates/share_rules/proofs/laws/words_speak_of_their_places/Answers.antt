use Rattle.share_rules.specs.WordLaws.{words_long, posted_speaks, taken_speaks, done_speaks, round_speaks}
use Rattle.share_rules.proofs.laws.words_speak_of_their_places.Goals as goal

pub returns-clause-posted : goal.returns-clause-posted
returns-clause-posted g c = λ key. posted_speaks key

pub returns-clause-taken : goal.returns-clause-taken
returns-clause-taken g c = λ key. taken_speaks key

pub returns-clause-done : goal.returns-clause-done
returns-clause-done g c = λ key. done_speaks key

pub returns-clause-round : goal.returns-clause-round
returns-clause-round g c = λ key. round_speaks key

pub returns-clause-all : goal.returns-clause-all
returns-clause-all g c = λ key. words_long key
