use Rattle.std.proofs.Common.{◌≡◌, ◌++◌, drop}
use Rattle.dml_resolve.proofs.expanding.+copied.Given as goal

abbrev pub decreases-copied : goal.decreases-copied
decreases-copied l = goal.size-copied l

abbrev pub invariant-loop-attribute : goal.invariant-loop-attribute
invariant-loop-attribute l = l.attributes.items ++ drop l.attribute-index l.attribute-items ≡ l.attribute-items
