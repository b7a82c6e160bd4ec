use Rattle.std.proofs.Common.{◌≡◌, ◌++◌, drop, filter}
use Rattle.dml_resolve.specs.Members.{is_missing}
use Rattle.dml_resolve.proofs.members.push_missing.Given as goal

abbrev pub invariant-loop-member : goal.invariant-loop-member
invariant-loop-member l = l.members.items ++ filter (is_missing l.written) (drop l.member-index l.included) ≡ l.initial.members.items ++ filter (is_missing l.written) l.included
