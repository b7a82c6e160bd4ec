use Rattle.std.proofs.Common.{◌≡◌, ◌≤◌, ◌+◌, ◌-◌, ◌++◌, List, ℕ, Some, IfSome, vec_len}
use Rattle.sim_base.proofs.transfer.read_file.Given as goal

-- where the files are told, the named file is what was read and then what is ahead
abbrev pub invariant-loop-bytes : goal.invariant-loop-bytes
invariant-loop-bytes g l = record {
  read : IfSome (g.L.Library.files l.fn.library) (λ told.
      (rest : List ℕ) × (told l.name ≡ Some (l.bytes.items ++ rest)) × (g.L.Library.ahead l.library ≡ Some rest));
  same : g.L.Library.files l.library ≡ g.L.Library.files l.fn.library;
  within : vec_len l.bytes ≤ l.most;
  later : g.L.Library.faults l.fn.library ≤ g.L.Library.faults l.library;
}

abbrev pub decreases-loop-bytes : goal.decreases-loop-bytes
decreases-loop-bytes g l = l.most + 1 - vec_len l.bytes
