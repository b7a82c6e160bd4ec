-- What a hand tells of the steps for which it was asked.
use Rattle.std.specs.Prelude.{ℕ, ◌≡◌, ◌-◌, Bool, true, false, cond, nat_lt, List, [], ◌∷◌, ◌++◌, Result, Ok, Err}
use Rattle.sim_base.specs.declared.outside.Memory.{Memory}
use Rattle.timeline.specs.declared.answers.Ran.{Ran}
use Rattle.sync_steps.specs.declared.steps.Stepped.{Stepped}
use Rattle.worker_hands.specs.declared.hand.Answer.{Answer}
use Rattle.worker_hands.specs.declared.hand.Answer.TheVariants.{Executed, Done, Memory as NoMemory}
use Rattle.worker_hands.specs.declared.hand.Made.{Made}

-- a hand tells its list, or it does not; it has room for so many steps more
pub record HandView : Type 0 where
  pub telling : Bool
  pub list : List Made
  pub spare : ℕ

-- after a step: the list has it where there was room, and is told no more where there was none
abbrev pub after_made : Made → HandView → HandView
after_made made h = cond (nat_lt 0 h.spare) (record { telling = h.telling; list = h.list ++ made ∷ []; spare = h.spare - 1 }) (record { telling = false; list = h.list; spare = h.spare })

-- after some steps, one after the other
abbrev pub after_all : List Made → HandView → HandView
after_all [] h = h
after_all (m ∷ ms) h = after_all ms (after_made m h)

abbrev pub ran_answer : Result Ran Memory → Answer
ran_answer (Ok ran) = Executed ran
ran_answer (Err e) = NoMemory

abbrev pub stepped_answer : Result Stepped Memory → Answer
stepped_answer (Ok stepped) = Done stepped
stepped_answer (Err e) = NoMemory

-- what the hand was asked since, where it tells its list
abbrev pub IsAsked : HandView → HandView → (List Made → Type 0) → Type 0
IsAsked old new law = new.telling ≡ true → (old.telling ≡ true) × ((made : List Made) × (new.list ≡ old.list ++ made) × law made)

-- it was asked for some steps since, each of which it told while it had room
abbrev pub IsToldOn : HandView → HandView → Type 0
IsToldOn old new = (made : List Made) × (new ≡ after_all made old)
