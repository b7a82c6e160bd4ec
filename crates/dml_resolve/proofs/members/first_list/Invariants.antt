use Rattle.std.proofs.Common.{◌≡◌, ℕ, drop, All}
use Rattle.dml_tree.specs.Attributes.{Attributes}
use Rattle.dml_resolve.specs.Resolving.{first_list}
use Rattle.dml_resolve.specs.Members.{entries_of, IsSmall}
use Rattle.dml_resolve.proofs.members.first_list.Given as goal

abbrev pub invariant-loop-member : goal.invariant-loop-member
invariant-loop-member l = record {
  list : (root : Attributes) (counted : ℕ) → first_list l.place (entries_of root l.members) counted ≡ first_list l.place (entries_of root (drop l.member-index l.members)) counted;
  small : (most : ℕ) → All (IsSmall most) l.members → All (IsSmall most) (drop l.member-index l.members);
}
