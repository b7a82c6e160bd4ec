use Rattle.std.proofs.Common.{◌≡◌, ◌++◌, replicate}
use Rattle.ssf_model.proofs.builder.first_counts.Given as goal

abbrev pub invariant-loop : goal.invariant-loop
invariant-loop l = l.counts.items ≡ replicate l.counter 1

abbrev pub invariant-loop-2 : goal.invariant-loop-2
invariant-loop-2 l = l.counts.items ≡ replicate l.starts 1 ++ replicate l.counter 0
