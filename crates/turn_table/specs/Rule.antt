-- The shared rule: what holds of a table of turns at every moment, whatever its passes do.
--
-- Words: 0 is the stop word, p + 1 the turn word of the place p, and places + 1 + c the count word c.
-- Slots: slot p is that of the place p, and the last one holds the room in which the values are gathered.
use Rattle.std.specs.Prelude.{◌≡◌, ℕ, suc, ◌+◌, ◌<◌, ◌≤◌, ◌⊎◌, ◌==◌, true, cond, List, [], ◌∷◌, length, slice_index, vec_len, vec_capacity}
use mathlib.Core.Option.{Option, some}
use lib.ListN.{get_elem?}
use Rattle.atomic_table.specs.Table.{State}
use Rattle.turn_table.specs.declared.cell.Cell.{Cell}
use Rattle.turn_table.specs.declared.cell.Cell.TheVariants.{Value, Empty, Room}
use Rattle.turn_table.specs.declared.tenant.Tenant.{Ghosts}
use Rattle.turn_table.specs.declared.view.Shape.{Shape}
use Rattle.turn_table.specs.declared.view.View.{View}
use Rattle.turn_table.specs.Shapes.{places_in, words_in}
use Rattle.turn_table.specs.Views.{held, note, mark, is_spoken_for}

-- the number in the turn word of the place p
abbrev pub turn_word : List ℕ → ℕ → ℕ
turn_word ws p = slice_index ws (p + 1)

-- the number in the count word c
abbrev pub count_word : Shape → List ℕ → ℕ → ℕ
count_word sh ws c = slice_index ws (places_in sh + 1 + c)

-- P holds of the view of each seat
abbrev pub Each : List View → (View → Type 0) → Type 0
Each vs P = (j : ℕ) (v : View) → get_elem? vs j ≡ some v → P v

-- 1 for the view of a pass that was not taken in, else 0
abbrev pub live : View → ℕ
live v = cond (v.number == 0) 0 1

-- how many of these are views of passes that were not taken in
abbrev pub living : List View → ℕ
living [] = 0
living (v ∷ vs) = live v + living vs

-- a seat that makes passes, or that of a pass which was not taken in
abbrev pub IsInUse : View → Type 0
IsInUse v = (v.is_root ≡ true) ⊎ (0 < v.number)

-- the last slot has room for as many values as there are places
pub record HasRoom {T : Type 0} (places : ℕ) (hs : List (Option (Cell T))) : Type 0 where
  pub room : _
  pub stands : get_elem? hs places ≡ some (some (Room room))
  pub bare : vec_len room ≡ 0
  pub wide : places ≤ vec_capacity room

module _ {T K : Type 0} (g : Ghosts T K) (key : K) where
  -- the value of a place is at home, with what is so of it by the counts and by the marks of the pass that holds its turn
  pub record IsHome (counts : ℕ → ℕ) (vs : List View) (hs : List (Option (Cell T))) (p : ℕ) : Type 0 where
    pub value : T
    pub stands : get_elem? hs p ≡ some (some (Value value))
    pub sound : g.sound key p value
    pub owed : g.owes key counts p value
    pub marked : Each vs (λ v. held v p ≡ 1 → g.marked key (mark v) p value)

  pub record Kept (s : State (Cell T) View) : Type 0 where
    -- there are the stop word, a turn word for each place, and the count words
    pub wide : length s.words ≡ places_in (g.shape key) + 1 + words_in (g.shape key)
    -- there is a slot for each place, and one for the room
    pub deep : length s.homes ≡ places_in (g.shape key) + 1
    -- the room is never touched
    pub room : HasRoom (places_in (g.shape key)) s.homes
    -- each view in use has the shape of the table
    pub shaped : Each s.views (λ v. IsInUse v → v.shape ≡ g.shape key)
    -- who holds a place is a pass with a number, and the turn word of the place names that pass
    pub named : Each s.views (λ v. (p : ℕ) → 0 < held v p → (0 < v.number) × (turn_word s.words p ≡ v.number) × (p < places_in (g.shape key)))
    -- the turn word of a place that no pass holds is 0
    pub unheld : (p : ℕ) → p < places_in (g.shape key) → Each s.views (λ v. held v p ≡ 0) → turn_word s.words p ≡ 0
    -- no two passes have one number; with the line before, no two hold one place
    pub apart : (i j : ℕ) (v w : View) → get_elem? s.views i ≡ some v → get_elem? s.views j ≡ some w → 0 < v.number → v.number ≡ w.number → i ≡ j
    -- a value that no pass moved out is at home
    pub home : (p : ℕ) → p < places_in (g.shape key) → Each s.views (λ v. held v p < 2) → IsHome (count_word (g.shape key) s.words) s.views s.homes p
    -- the slot of a value that a pass moved out is empty
    pub empty : Each s.views (λ v. (p : ℕ) → held v p ≡ 2 → get_elem? s.homes p ≡ some (some Empty))
    -- a pass has notes only of count words that speak of a place that it holds, and each note is the word's number
    pub noted : Each s.views (λ v. (c : ℕ) → 0 < note v c → (c < words_in (g.shape key)) × (is_spoken_for (g.shape key) (held v) c ≡ true) × (note v c ≡ suc (count_word (g.shape key) s.words c)))
    -- the word's number has reached each mark
    pub lower : Each s.views (λ v. (c : ℕ) → mark v c ≤ suc (count_word (g.shape key) s.words c))
    -- the count words keep among themselves what the values' type says
    pub kept : g.keeps key (count_word (g.shape key) s.words)
    -- no pass has a number above the root's count, and there is one root
    pub numbered : (i j : ℕ) (v w : View) → get_elem? s.views i ≡ some v → get_elem? s.views j ≡ some w → v.is_root ≡ true → (w.number ≤ v.made) × (w.is_root ≡ true → j ≡ i)
    -- the root is no pass; each pass that it made is in use or was taken in
    pub counted : Each s.views (λ v. v.is_root ≡ true → (v.number ≡ 0) × (living s.views + length v.back ≡ v.made))

-- All values are at home, in the order of their places, and true to these counts.
pub record AreHome {T K : Type 0} (g : Ghosts T K) (key : K) (counts : ℕ → ℕ) (values : List T) : Type 0 where
  pub places : length values ≡ places_in (g.shape key)
  pub sound : (p : ℕ) (x : T) → get_elem? values p ≡ some x → g.sound key p x
  pub owed : (p : ℕ) (x : T) → get_elem? values p ≡ some x → g.owes key counts p x
  pub kept : g.keeps key counts
