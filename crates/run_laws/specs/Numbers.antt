-- The writes of a plan's run by their numbers.
use Rattle.std.specs.Prelude.{ℕ, ◌≡◌, ◌+◌, ◌<◌, List, Some, slice_get}
use Rattle.ssf_model.specs.declared.event.Event.{Event}
use Rattle.ssf_model.specs.Scene.{Scene}
use Rattle.ssf_model.specs.Truth.{IsRunWrite}
use Rattle.ssf_model.specs.Run.{States}

-- each write of the run on channel c at a time below `bound` has a number below `number`
abbrev pub HasNumbersBelow : {B S P : Type 0} → Scene (States B S P) (Event P) → ℕ → ℕ → ℕ → Type 0
HasNumbersBelow {B} {S} {P} s number c bound = (d : Event P) → IsRunWrite s d → d.key.channel ≡ c → d.key.time < bound → d.key.number < number

-- these are writes of the run on channel c, with the numbers from `first` on
abbrev pub AreNumbered : {B S P : Type 0} → Scene (States B S P) (Event P) → ℕ → ℕ → List (Event P) → Type 0
AreNumbered {B} {S} {P} s c first ds = (j : ℕ) (d : Event P) → slice_get ds j ≡ Some d → IsRunWrite s d × (d.key.channel ≡ c) × (d.key.number ≡ first + j)
