-- The parts as the program has them: each with its number.
use Rattle.std.specs.Prelude.{◌≡◌, ℕ, ◌<◌, false, List, length, map, slice_index, slice_index_or, AllPairs, EachIndex, IsPermutation, Some, None}
use Rattle.ip_blocks.specs.declared.members.Member.{Member}
use Rattle.ip_blocks.specs.Blocks.{Part, goes_before, offset_in}
use Rattle.ip_blocks.specs.Tree.{at}

abbrev pub part_of : Member → Part
part_of member = record { net = member.net; exponent = member.exponent; order = member.order }

abbrev pub no_member : Member
no_member = record { net = None; exponent = 0; order = 0; number = 0 }

abbrev pub AreNumbered : List Member → Type 0
AreNumbered members = EachIndex members (λ k. (slice_index_or members k no_member).number ≡ k)

-- the same members, with larger ones first and equal ones by their order
pub record AreInTurn (members turns : List Member) : Type 0 where
  pub same : IsPermutation members turns
  pub larger_first : AllPairs (λ a b. goes_before (part_of b) (part_of a) ≡ false) turns

-- each member's place in the block of its Net
abbrev pub AreOffsets : List ℕ → List Member → Type 0
AreOffsets offsets members =
    (length offsets ≡ length members) × ((x n : ℕ) → x < length members → (at (map part_of members) x).net ≡ Some n → slice_index offsets x ≡ offset_in n (map part_of members) (at (map part_of members) x))
