-- The plain attributes of the root list by their keys.
use Rattle.std.specs.Prelude.{◌≡◌, ℕ, Bool, false, not, ◌&&◌, List, [], filter, map, Vec}
use Rattle.std.specs.Borrow.{Bor}
use Rattle.std.specs.Global.{Global}
use Rattle.std.specs.Ordering.{nat_cmp}
use Rattle.std.specs.Cmp.Lexicographic.{slice_cmp}
use Rattle.std.specs.Option.{option_map_or}
use Rattle.std.specs.BTreeMap.{BTreeMap, get_by}
use Rattle.dml_tree.specs.declared.tree.Attribute.{Attribute}
use Rattle.dml_tree.specs.Attributes.{Attributes}
use Rattle.dml_tree.specs.TreeView.{attributes}
use Rattle.dml_resolve.specs.declared.members.Member.{Member}
use Rattle.dml_resolve.specs.Resolving.{is_substitution}
use Rattle.dml_resolve.specs.Places.{has_key}

-- the attribute is plain, and has this key
abbrev pub is_plain : List ℕ → Attribute → Bool
is_plain wanted attribute = not (is_substitution attribute.key) && has_key wanted attribute

-- the attributes that stand under a key
abbrev pub under : BTreeMap (Bor (List ℕ)) (Vec (Bor Attribute) Global) → List ℕ → List Attribute
under by_key wanted = option_map_or (λ found. map (λ (attribute : Bor Attribute). attribute.now) found.items) (get_by (λ key. slice_cmp nat_cmp wanted key.now) by_key) []

-- under each key stand the plain attributes of the list that have it
abbrev pub IsByKey : Attributes → BTreeMap (Bor (List ℕ)) (Vec (Bor Attribute) Global) → Type 0
IsByKey root by_key = (wanted : List ℕ) → under by_key wanted ≡ filter (is_plain wanted) (attributes root)

-- an attribute of the root list that a path names
abbrev pub root_member : ℕ → Bor Attribute → Member
root_member left attribute = record { attribute = attribute; left = left; kept = false }
