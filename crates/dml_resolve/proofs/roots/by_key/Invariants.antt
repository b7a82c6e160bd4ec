use Rattle.std.proofs.Common.{◌≡◌, ◌++◌, ℕ, List, drop, filter}
use Rattle.dml_resolve.specs.Roots.{is_plain, under}
use Rattle.dml_resolve.proofs.roots.by_key.Given as goal

abbrev pub invariant-loop-attribute : goal.invariant-loop-attribute
invariant-loop-attribute l = (wanted : List ℕ) → under l.by_key wanted ++ filter (is_plain wanted) (drop l.attribute-index l.attribute-items) ≡ filter (is_plain wanted) l.attribute-items
