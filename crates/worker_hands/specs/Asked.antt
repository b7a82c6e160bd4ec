-- What a hand was asked, and what it answered.
use Rattle.std.specs.Prelude.{ℕ, suc, ◌≡◌, ◌⊎◌, Bool, true, false, cond, nat_eq, ◌&&◌, List, [], ◌∷◌, Option, Some, None}
use Rattle.std.specs.List.{All}
use Rattle.timeline.specs.declared.answers.Ran.TheVariants.{Ran as WasRun}
use Rattle.barrier_window.specs.declared.barrier.Crossing.{Crossing}
use Rattle.barrier_window.specs.declared.barrier.Crossing.TheVariants.{Crossed as WasCrossed, Waiting, Ended}
use Rattle.sync_steps.specs.declared.steps.Step.{Step}
use Rattle.sync_steps.specs.declared.steps.Step.TheVariants.{Execute, Post, Take, Enter, Report, Cross}
use Rattle.sync_steps.specs.declared.steps.Stepped.TheVariants.{NotEnabled}
use Rattle.worker_hands.specs.declared.hand.Answer.{Answer}
use Rattle.worker_hands.specs.declared.hand.Answer.TheVariants.{Executed, Done, Crossed}
use Rattle.worker_hands.specs.declared.hand.Made.{Made}

-- two steps are one
abbrev pub is_step : Step → Step → Bool
is_step (Execute i) (Execute j) = nat_eq i j
is_step (Post i c) (Post j d) = nat_eq i j && nat_eq c d
is_step (Take i) (Take j) = nat_eq i j
is_step (Enter i) (Enter j) = nat_eq i j
is_step (Report i) (Report j) = nat_eq i j
is_step Cross Cross = true
is_step _ _ = false

-- the first answer, and the one before it where there is none
abbrev pub first_or : Option Answer → Option Answer → Option Answer
first_or None before = before
first_or (Some a) before = Some a

-- the last answer to a step, where there is one
abbrev pub last_answer : Step → List Made → Option Answer
last_answer step [] = None
last_answer step (m ∷ ms) = first_or (last_answer step ms) (cond (is_step step m.step) (Some m.answer) None)

-- an event was executed
abbrev pub is_run : Answer → Bool
is_run (Executed (WasRun key)) = true
is_run _ = false

-- how many events were executed
abbrev pub runs_in : List Made → ℕ
runs_in [] = 0
runs_in (m ∷ ms) = cond (is_run m.answer) (suc (runs_in ms)) (runs_in ms)

-- it was asked for this step alone
abbrev pub AreOf : Step → List Made → Type 0
AreOf step made = All (λ m. m.step ≡ step) made

-- the step was asked for, and the last answer was that it is not enabled
abbrev pub WasNotEnabled : Step → List Made → Type 0
WasNotEnabled step made = last_answer step made ≡ Some (Done NotEnabled)

-- a timeline has executed as many events as a turn may have, or the last answer to Execute was another
abbrev pub IsSpentOn : ℕ → ℕ → List Made → Type 0
IsSpentOn most i made = (runs_in made ≡ most) ⊎ ((a : Answer) × (last_answer (Execute i) made ≡ Some a) × (is_run a ≡ false))

-- Cross was asked for, and the last answer was that it waits or that the run has ended
abbrev pub IsUncrossed : Option Answer → Type 0
IsUncrossed (Some (Crossed (Waiting i))) = Unit {0}
IsUncrossed (Some (Crossed Ended)) = Unit {0}
IsUncrossed _ = ⊥

-- the barrier was crossed
abbrev pub is_crossed : Crossing → Bool
is_crossed (WasCrossed window) = true
is_crossed (Waiting i) = false
is_crossed Ended = false

-- as many events were executed as were left to be, or the last answer to Execute was another
abbrev pub IsExhausted : ℕ → ℕ → List Made → Type 0
IsExhausted left i made = (left ≡ 0) ⊎ ((a : Answer) × (last_answer (Execute i) made ≡ Some a) × (is_run a ≡ false))
