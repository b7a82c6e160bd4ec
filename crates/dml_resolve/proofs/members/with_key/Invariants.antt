use Rattle.std.proofs.Common.{◌≡◌, ◌++◌, drop, filter}
use Rattle.dml_resolve.specs.Members.{is_keyed}
use Rattle.dml_resolve.proofs.members.with_key.Given as goal

abbrev pub invariant-loop-member : goal.invariant-loop-member
invariant-loop-member l = l.found.items ++ filter (is_keyed l.key) (drop l.member-index l.members) ≡ filter (is_keyed l.key) l.members
