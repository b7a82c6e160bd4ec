-- Equality of values: texts of the same bytes, or lists that are equal trees.
use Rattle.std.specs.Prelude.{Bool, false}
use Rattle.dml_tree.specs.declared.tree.Value.{Value}
use Rattle.dml_tree.specs.declared.tree.Value.TheVariants as value
use Rattle.dml_tree.specs.SameTree.{same_tree, same_text}

abbrev pub same_value : Value → Value → Bool
same_value (value.Plain text) (value.Plain other) = same_text text other
same_value (value.Plain text) (value.List other) = false
same_value (value.List inner) (value.Plain other) = false
same_value (value.List inner) (value.List other) = same_tree inner other
