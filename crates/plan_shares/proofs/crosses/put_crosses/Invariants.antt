use Rattle.std.proofs.Common.{◌≡◌, ◌≤◌, ℕ, List, length, map, take}
use Rattle.alignment.specs.Classes.{class_of}
use Rattle.plan_shares.specs.Shares.{crosses_of}
use Rattle.plan_shares.proofs.crosses.put_crosses.Given as goal

abbrev pub invariant-loop-index : goal.invariant-loop-index
invariant-loop-index l = record {
  crosses : (lines : List ℕ) (threshold : ℕ) → l.fn.classes.classes ≡ map (class_of lines threshold) l.fn.mappings → l.crosses.items ≡ crosses_of lines threshold (take l.index l.fn.mappings);
  few : length l.crosses.items ≤ l.index;
}
