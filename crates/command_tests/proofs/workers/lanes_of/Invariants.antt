use Rattle.std.proofs.Common.{◌≡◌, vec_len}
use Rattle.command_tests.proofs.workers.lanes_of.Given as goal

abbrev pub invariant-loop-place : goal.invariant-loop-place
invariant-loop-place g l = vec_len l.lanes ≡ l._place
