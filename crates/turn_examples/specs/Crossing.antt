-- The miniature crossing: a worker at place 0 with its done word 0, and a barrier at place 1 with the round word 1. Who takes the barrier's turn loses the mark of the done word.
use Rattle.std.specs.Prelude.{◌≡◌, ℕ, suc, ◌<◌, ◌≤◌, [], ◌∷◌}
use Rattle.turn_table.specs.declared.view.Shape.{Shape}
use Rattle.turn_table.specs.Shapes.{Speaks}
use Rattle.turn_examples.specs.declared.crossing.Part.{Part}

abbrev pub crossing_shape : Shape
crossing_shape = record { places = 2; words = (0, 0) ∷ (1, 1) ∷ []; clears = (1, 0) ∷ [] }

-- the worker at home has done as much as its done word says; the barrier at home has the round word's round
abbrev pub Owes : (ℕ → ℕ) → ℕ → Part → Type 0
Owes f p x = (c : ℕ) → Speaks crossing_shape c p → f c ≡ x.number

-- the round is never beyond what was done
abbrev pub Keeps : (ℕ → ℕ) → Type 0
Keeps f = f 1 ≤ f 0

-- while the barrier is at home, what its holder has marked as done has reached its round, where it has a mark
abbrev pub Marked : (ℕ → ℕ) → ℕ → Part → Type 0
Marked m p x = p ≡ 1 → 0 < m 0 → suc x.number ≤ m 0
