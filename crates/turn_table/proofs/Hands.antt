-- A seat's view and the slots in its hand, from one step to the next.
use Rattle.std.proofs.Common.{◌≡◌, ℕ, ◌+◌, ◌<◌, List, [], ◌∷◌, sym, ap, subst, ◌∙◌, arith, Vec, Global}
use Rattle.atomic_table.specs.Seated.{TableId}
use Rattle.atomic_table.specs.Table.{State, Me, Allows, rest}
use Rattle.turn_table.specs.declared.cell.Cell.{Cell}
use Rattle.turn_table.specs.declared.cell.Cell.TheVariants.{Value, Empty, Room}
use Rattle.turn_table.specs.Cells.{IsValue}
use Rattle.turn_table.specs.declared.pass.Pass.{Pass}
use Rattle.turn_table.specs.declared.view.Shape.{Shape}
use Rattle.turn_table.specs.declared.view.View.{View}
use Rattle.turn_table.specs.Shapes.{places_in, words_in}
use Rattle.turn_table.specs.Passes.{IsSeated}

module _ {S : Type 0} where
  -- a step from an equal view and hand
  pub from : (holds : State S View → Type 0) (slots id i : ℕ) (f : ℕ → ℕ) (then : Me S View → ℕ → Me S View → Type 0) (me you : Me S View) → me ≡ you
      → Allows holds slots id you i f (then you) → Allows holds slots id me i f (then me)
  from holds slots id i f then me you e a = subst (λ (m : Me S View). Allows holds slots id m i f (then m)) (sym e) a

  -- a view and a hand, each known by itself
  pub both : (me : Me S View) (v : View) (l : List (ℕ × S)) → me.0 ≡ v → me.1 ≡ l → me ≡ (v, l)
  both me v l a b = λ i. (a i, b i)

  -- the slot that was taken last, and the others
  pub first_of : (l : List (ℕ × S)) (x : ℕ × S) (t : List (ℕ × S)) → l ≡ x ∷ t → l ≡ x ∷ rest l
  first_of l x t e = e ∙ ap (λ k. x ∷ k) (sym (ap rest e))

  value_first : S → List (ℕ × S) → S
  value_first d [] = d
  value_first d (x ∷ l) = x.1

  -- what a slot holds is one thing
  pub same_first : (l : List (ℕ × S)) (p q : ℕ) (a b : S) (t u : List (ℕ × S)) → l ≡ (p, a) ∷ t → l ≡ (q, b) ∷ u → a ≡ b
  unfolding value_first
  same_first l p q a b t u x y = ap (value_first a) (sym x ∙ y)

-- the turn word of a place is one of the table's
pub turn_within : (z : TableId) (shape : Shape) (p : Pass) (place : ℕ) → IsSeated z shape p → place < places_in shape → place + 1 < z.words
turn_within z shape p place s h = let c = s.words in omega arith

-- a count word is one of the table's, and where it lies
pub count_at : (z : TableId) (shape : Shape) (p : Pass) (places word : ℕ) → z.slots ≡ places + 1 → IsSeated z shape p → word < words_in shape
    → (places + 1 + word < z.words) × (places + 1 + word ≡ places_in shape + 1 + word) × (places + 1 + word ≡ z.slots + word) × (z.slots ≡ places_in shape + 1)
count_at z shape p places word a s h = let b = s.slots in let c = s.words in (omega arith, omega arith, omega arith, b)

-- after a plain exchange of the slot that was taken last
pub swapped : {S : Type 0} (me now : Me S View) (v : View) (p : ℕ) (a new : S) (l : List (ℕ × S)) → now ≡ (me.0, (p, new) ∷ rest me.1) → me ≡ (v, (p, a) ∷ l) → now ≡ (v, (p, new) ∷ l)
swapped {S} me now v p a new l x e = let F : Me S View → Me S View = λ m. (m.0, (p, new) ∷ rest m.1) in x ∙ ap F e

pub swapped_out : {S : Type 0} (me : Me S View) (v : View) (p : ℕ) (a old : S) (l : List (ℕ × S)) → me.1 ≡ (p, old) ∷ rest me.1 → me ≡ (v, (p, a) ∷ l) → old ≡ a
swapped_out {S} me v p a old l x e = same_first me.1 p p old a (rest me.1) l x (ap (λ (m : Me S View). m.1) e)

value_or : {T : Type 0} → T → Cell T → T
value_or d (Value x) = x
value_or d Empty = d
value_or d (Room r) = d

pub same_value : {T : Type 0} (x y : T) → Value x ≡ Value y → x ≡ y
unfolding value_or
same_value x y e = ap (value_or x) e

pub is_value : {T : Type 0} (cell : Cell T) (x : T) → cell ≡ Value x → IsValue cell
is_value cell x e = subst IsValue (sym e) tt

room_or : {T : Type 0} → Vec T Global → Cell T → Vec T Global
room_or d (Value x) = d
room_or d Empty = d
room_or d (Room r) = r

-- the room of a cell is one thing
pub same_room : {T : Type 0} (x y : Vec T Global) → Room x ≡ Room y → x ≡ y
unfolding room_or
same_room x y e = ap (room_or x) e
