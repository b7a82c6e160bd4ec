use Rattle.std.proofs.Common.{◌≡◌, ℕ, ◌<◌, length, map, take, slice_index, slice_index_or, Some}
use Rattle.ip_blocks.specs.Blocks.{sum_in, offset_in}
use Rattle.ip_blocks.specs.Members.{part_of, no_member}
use Rattle.ip_blocks.proofs.members.offsets.Given as goal

abbrev pub invariant-loop-member : goal.invariant-loop-member
invariant-loop-member l = record {
  used_long : length l.used ≡ l.nets;
  offsets_long : length l.offsets ≡ length l.members;
  used : (n : ℕ) → n < l.nets → slice_index l.used n ≡ sum_in n (map part_of (take l.member-index l.member-items));
  placed : (k n : ℕ) → k < l.member-index → (slice_index_or l.member-items k no_member).net ≡ Some n → slice_index l.offsets (slice_index_or l.member-items k no_member).number ≡ offset_in n (map part_of l.members) (part_of (slice_index_or l.member-items k no_member));
}
