-- Each inner list has fewer attributes than the tree that holds it.
use Rattle.std.specs.Prelude.{ℕ, ◌≤◌, ◌+◌, max, List, [], ◌∷◌}
use Rattle.std.proofs.Common.{arith}
use Rattle.dml_tree.specs.declared.tree.Place.{Place}
use Rattle.dml_tree.specs.declared.tree.Attribute.{Attribute}
use Rattle.dml_tree.specs.declared.tree.Value.{Value}
use Rattle.dml_tree.specs.declared.tree.Value.TheVariants as value
use Rattle.dml_tree.specs.declared.tree.Tree.TheDeep.{deep-Attribute, deep-Value}
use Rattle.dml_tree.specs.Attributes.{Attributes, weight}
use Rattle.dml_tree.specs.TreeView.{tree_of, with_value}
use denote.Param.Weighed.{most}

deep_le-weight : (key : List ℕ) (place : Place) (v : Value) (rest : Attributes) → deep-Value v + weight rest ≤ weight (with_value key place v rest)
deep_le-weight key place (value.Plain text) rest = omega arith
deep_le-weight key place (value.List inner) rest = omega arith

deepest : (xs : List Attribute) → most deep-Attribute xs ≤ weight (tree_of xs)
deepest [] = omega arith
deepest (x ∷ xs) = omega (arith, deepest xs, deep_le-weight x.key x.place x.value (tree_of xs))

-- no inner list has as many attributes
pub most_le-weight : (xs : List Attribute) → max (most deep-Attribute xs) 0 ≤ weight (tree_of xs)
most_le-weight xs = omega (arith, deepest xs)
