use Rattle.std.proofs.Common.{◌≡◌, ◌++◌, drop, map}
use Rattle.dml_resolve.specs.Roots.{root_member}
use Rattle.dml_resolve.proofs.roots.members_of.Given as goal

abbrev pub invariant-loop-attribute : goal.invariant-loop-attribute
invariant-loop-attribute l = l.members.items ++ map (root_member l.left) (drop l.attribute-index l.found) ≡ map (root_member l.left) l.found
