use Rattle.std.proofs.Common.{◌≡◌, ℕ, ◌<◌, ◌≤◌, length, drop, slice_index}
use Rattle.ip_blocks.specs.Blocks.{parts_of}
use Rattle.ip_blocks.specs.Tree.{at}
use Rattle.ip_blocks.specs.Sums.{AreSums}
use Rattle.ip_blocks.proofs.sizes.net_exponents.Given as goal

abbrev pub invariant-loop-number : goal.invariant-loop-number
invariant-loop-number l =
    let parts = parts_of l.links l.nets in
    (length l.sums ≡ length l.nets) × (length l.exponents.items ≡ length l.nets) × AreSums l.sums (drop l.number parts) × ((n : ℕ) → l.number ≤ n → n < length l.nets → slice_index l.exponents.items n ≡ (at parts n).exponent)
