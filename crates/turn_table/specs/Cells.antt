-- What the slots of a table hold. No public clause cites this file.
use Rattle.std.specs.Prelude.{◌≡◌, ℕ, ◌<◌, ◌≤◌, List, [], ◌∷◌, ◌++◌, length, vec_len, vec_capacity}
use mathlib.Core.Option.{some}
use lib.ListN.{get_elem?}
use Rattle.turn_table.specs.declared.cell.Cell.{Cell}
use Rattle.turn_table.specs.declared.cell.Cell.TheVariants.{Value, Empty, Room}

module _ {T : Type 0} where
  abbrev pub IsValue : Cell T → Type 0
  IsValue (Value x) = Unit {0}
  IsValue Empty = ⊥
  IsValue (Room r) = ⊥

  abbrev pub IsRoom : Cell T → Type 0
  IsRoom (Value x) = ⊥
  IsRoom Empty = ⊥
  IsRoom (Room r) = Unit {0}

  -- a cell for each value, in their order
  abbrev pub valued : List T → List (Cell T)
  valued [] = []
  valued (x ∷ xs) = Value x ∷ valued xs

  -- cells with these values, and behind them an empty room that is wide enough for them
  pub record AreCells (cells : List (Cell T)) (values : List T) : Type 0 where
    pub room : _
    pub same : cells ≡ valued values ++ Room room ∷ []
    pub bare : vec_len room ≡ 0
    pub wide : length values ≤ vec_capacity room

  -- the values of these cells, in their order
  abbrev pub values_in : List (Cell T) → List T
  values_in [] = []
  values_in (Value x ∷ cs) = x ∷ values_in cs
  values_in (Empty ∷ cs) = values_in cs
  values_in (Room r ∷ cs) = values_in cs

  -- each of the first cells has a value, and the one behind them the empty room, which is wide enough
  pub record AreFull (cells : List (Cell T)) (places : ℕ) : Type 0 where
    pub valued : (p : ℕ) → p < places → (x : T) × (get_elem? cells p ≡ some (Value x))
    pub room : _
    pub stands : get_elem? cells places ≡ some (Room room)
    pub bare : vec_len room ≡ 0
    pub wide : places ≤ vec_capacity room

  -- each of these values stands in the cell of its place
  abbrev pub StandIn : List (Cell T) → List T → Type 0
  StandIn cells values = (p : ℕ) (x : T) → get_elem? values p ≡ some x → get_elem? cells p ≡ some (Value x)
