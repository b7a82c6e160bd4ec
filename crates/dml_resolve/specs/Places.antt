-- Where attributes of a key stand.
use Rattle.std.specs.Prelude.{ℕ, Bool, nat_eq, List}
use Rattle.std.specs.Cmp.Lexicographic.{pointwise}
use Rattle.dml_tree.specs.declared.tree.Attribute.{Attribute}

-- the attribute has this key
abbrev pub has_key : List ℕ → Attribute → Bool
has_key key attribute = pointwise nat_eq attribute.key key
