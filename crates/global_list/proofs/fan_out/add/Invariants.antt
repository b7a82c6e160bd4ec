use Rattle.std.proofs.Common.{◌≡◌, ℕ, [], length, get_or}
use Rattle.global_list.proofs.fan_out.add.Given as goal

abbrev pub invariant-loop-size : goal.invariant-loop-size
invariant-loop-size l = (length l.by_out.items ≡ l._size) × ((out : ℕ) → get_or l.by_out.items out [] ≡ get_or l.initial.by_out.items out [])
