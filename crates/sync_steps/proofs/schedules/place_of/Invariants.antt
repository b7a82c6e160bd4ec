use Rattle.std.proofs.Common.{◌≡◌, ℕ, ◌<◌, get_or}
use Rattle.sync_steps.proofs.schedules.place_of.Given as goal

-- the byte has not stood so far
abbrev pub invariant-loop-index : goal.invariant-loop-index
invariant-loop-index l = (k : ℕ) → k < l.index → get_or l.word k 0 ≡ l.byte → ⊥
