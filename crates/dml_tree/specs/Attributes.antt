-- What contracts see of a tree: a list of attributes (DML), each of them with its key, the place at which the
-- key begins, and a value that is a text or again such a list.
use Rattle.std.specs.Prelude.{ℕ, ◌+◌, List}
use Rattle.dml_tree.specs.declared.tree.Place.{Place}

pub data Attributes : Type 0 where
  none : Attributes
  plain : (key : List ℕ) (place : Place) (text : List ℕ) (rest : Attributes) → Attributes
  list : (key : List ℕ) (place : Place) (inner : Attributes) (rest : Attributes) → Attributes

-- how many attributes there are, those of inner lists too
abbrev pub weight : Attributes → ℕ
weight none = 0
weight (plain key place text rest) = 1 + weight rest
weight (list key place inner rest) = 1 + weight inner + weight rest
