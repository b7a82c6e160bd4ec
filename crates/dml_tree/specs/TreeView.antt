-- The attributes of a tree as a list of records, and back.
use Rattle.std.specs.Prelude.{ℕ, List, [], ◌∷◌}
use Rattle.dml_tree.specs.declared.tree.Place.{Place}
use Rattle.dml_tree.specs.declared.tree.Attribute.{Attribute}
use Rattle.dml_tree.specs.declared.tree.Value.{Value}
use Rattle.dml_tree.specs.declared.tree.Value.TheVariants as value
use Rattle.dml_tree.specs.Attributes.{Attributes, none, plain, list}

-- a tree with one more attribute in front
abbrev pub with_value : List ℕ → Place → Value → Attributes → Attributes
with_value key place (value.Plain text) rest = plain key place text rest
with_value key place (value.List inner) rest = list key place inner rest

-- the tree of these attributes
abbrev pub tree_of : List Attribute → Attributes
tree_of [] = none
tree_of (x ∷ xs) = with_value x.key x.place x.value (tree_of xs)

-- the attributes of a tree
abbrev pub attributes : Attributes → List Attribute
attributes none = []
attributes (plain key place text rest) = record { key = key; place = place; value = value.Plain text } ∷ attributes rest
attributes (list key place inner rest) = record { key = key; place = place; value = value.List inner } ∷ attributes rest

-- one tree and then another
abbrev pub joined : Attributes → Attributes → Attributes
joined none more = more
joined (plain key place text rest) more = plain key place text (joined rest more)
joined (list key place inner rest) more = list key place inner (joined rest more)
