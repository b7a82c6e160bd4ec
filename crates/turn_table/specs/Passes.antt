-- What contracts say of a pass and of a table of turns.
use Rattle.std.specs.Prelude.{◌≡◌, ℕ, ◌+◌, ◌<◌, Bool, false, List, [], ◌∷◌}
use Rattle.atomic_table.specs.Seated.{TableId}
use Rattle.turn_table.specs.declared.pass.Pass.{Pass}
use Rattle.turn_table.specs.declared.view.Shape.{Shape}
use Rattle.turn_table.specs.declared.view.View.{View}
use Rattle.turn_table.specs.Shapes.{places_in, words_in}
use Rattle.turn_table.specs.Views.{held, lost, note, mark, spent}

-- the view of a seat, of which a badge has one or none
abbrev pub only : List View → View
only [] = spent
only (v ∷ vs) = v

-- what the pass knows
abbrev pub view_of : Pass → View
view_of p = only p.badge.views

-- how the pass holds the place: 0 not at all, 1 with its value at home, 2 with its value out
abbrev pub holds_at : Pass → ℕ → ℕ
holds_at p place = held (view_of p) place

-- how often the pass asked for the turn of the place and found it held
abbrev pub lost_tries : Pass → ℕ → ℕ
lost_tries p place = lost (view_of p) place

-- one more than the number of the count word, or 0 where the pass has no note of it
abbrev pub note_of : Pass → ℕ → ℕ
note_of p word = note (view_of p) word

-- one more than a number that the count word has reached, or 0 where the pass has no mark of it
abbrev pub mark_of : Pass → ℕ → ℕ
mark_of p word = mark (view_of p) word

-- the pass is a seat of the table z of this shape
pub record IsSeated (z : TableId) (shape : Shape) (p : Pass) : Type 0 where
  pub table : p.badge.table_id ≡ z
  pub seated : p.badge.views ≡ view_of p ∷ []
  pub number : (view_of p).number ≡ p.number
  pub lives : 0 < p.number
  pub shaped : (view_of p).shape ≡ shape
  pub slots : z.slots ≡ places_in shape + 1
  pub words : z.words ≡ places_in shape + 1 + words_in shape

-- the pass holds no place
abbrev pub HoldsNone : Pass → Type 0
HoldsNone p = (place : ℕ) → holds_at p place ≡ 0

-- the pass holds no place, has lost no try, and has no notes or marks
pub record IsNew (p : Pass) : Type 0 where
  pub holds : HoldsNone p
  pub tries : (place : ℕ) → lost_tries p place ≡ 0
  pub notes : (word : ℕ) → note_of p word ≡ 0
  pub marks : (word : ℕ) → mark_of p word ≡ 0

-- this is the root's view
abbrev pub is_root_of : List View → Bool
is_root_of [] = false
is_root_of (v ∷ []) = v.is_root
is_root_of (v ∷ w ∷ vs) = false
