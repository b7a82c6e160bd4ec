use Rattle.std.proofs.Common.{ℕ, ◌*◌, ◌<◌}
use Rattle.marked_numbers.specs.Least.{IsMarked}
use Rattle.marked_numbers.specs.Blocks.{IsBlocked}
use Rattle.marked_numbers.proofs.marks.find_first.Given as goal

abbrev pub invariant-loop-block : goal.invariant-loop-block
invariant-loop-block l = IsBlocked l.marked l.blocks.items × ((k : ℕ) → k < l.block * 64 → IsMarked l.marked k → ⊥)
