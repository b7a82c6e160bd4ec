use Rattle.std.proofs.Common.{◌≡◌, ◌++◌, drop, map}
use Rattle.dml_resolve.specs.Members.{moved_to}
use Rattle.dml_resolve.proofs.members.push_found.Given as goal

abbrev pub invariant-loop-member : goal.invariant-loop-member
invariant-loop-member l = l.members.items ++ map (moved_to l.left) (drop l.member-index l.found) ≡ l.initial.members.items ++ map (moved_to l.left) l.found
