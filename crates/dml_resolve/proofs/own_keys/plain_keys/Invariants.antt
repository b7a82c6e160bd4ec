use Rattle.std.proofs.Common.{◌≡◌, ℕ, List, drop}
use Rattle.std.specs.Prelude.{◌||◌}
use Rattle.std.specs.Ordering.{nat_cmp}
use Rattle.std.specs.Cmp.Lexicographic.{slice_cmp}
use Rattle.std.specs.BTreeSet.{contains_by}
use Rattle.dml_tree.specs.TreeView.{tree_of}
use Rattle.dml_resolve.specs.Resolving.{has_plain}
use Rattle.dml_resolve.proofs.own_keys.plain_keys.Given as goal

abbrev pub invariant-loop-attribute : goal.invariant-loop-attribute
invariant-loop-attribute l = (wanted : List ℕ) → (contains_by (λ key. slice_cmp nat_cmp wanted key.now) l.keys || has_plain (tree_of (drop l.attribute-index l.attribute-items)) wanted) ≡ has_plain (tree_of l.attribute-items) wanted
