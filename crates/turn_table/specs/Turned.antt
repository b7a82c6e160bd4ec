-- What contracts say of a table of turns.
use Rattle.std.specs.Prelude.{ℕ}
use Rattle.atomic_table.specs.Seated.{TableId}
use Rattle.turn_table.specs.declared.pass.Pass.{Pass}
use Rattle.turn_table.specs.declared.tenant.Tenant.{Ghosts}
use Rattle.turn_table.specs.declared.turns.Turns.{Turns}
use Rattle.turn_table.specs.Shapes.{places_in, words_in}
use Rattle.turn_table.specs.Passes.{only, IsSeated}

module _ {T K : Type 0} where
  -- which table it is
  abbrev pub table_of : Turns T K → TableId
  table_of t = t.board.table.shared.table_id

  -- what the table was told when it was made
  abbrev pub key_of : Turns T K → K
  key_of t = t.board.table.shared.key

  -- the number of places that it keeps
  abbrev pub count_of : Turns T K → ℕ
  count_of t = t.board.places

  -- how many passes were made
  abbrev pub made_of : Turns T K → ℕ
  made_of t = (only t.root.views).made

  module _ (g : Ghosts T K) where
    -- how many places there are
    abbrev pub places_of : Turns T K → ℕ
    places_of t = places_in (g.shape (key_of t))

    -- how many count words there are
    abbrev pub words_of : Turns T K → ℕ
    words_of t = words_in (g.shape (key_of t))

    -- the pass is one of these turns and was not taken in
    abbrev pub IsPassOf : Turns T K → Pass → Type 0
    IsPassOf t p = IsSeated (table_of t) (g.shape (key_of t)) p
