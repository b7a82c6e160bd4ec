use Rattle.std.proofs.Common.{◌≡◌, ◌+◌, ◌-◌, ◌≤◌, ◌++◌, reverse, vec_len, vec_capacity}
use Rattle.worker_pool.specs.Laid.{of_mails}
use Rattle.worker_pool.proofs.laying.take_mails.Given as goal

abbrev pub invariant-loop-values : goal.invariant-loop-values
invariant-loop-values g l = record {
  items : l.values.items ++ of_mails (reverse l.mails.items) ≡ l.initial.values.items;
  many : vec_len l.values + vec_len l.mails ≡ vec_len l.initial.values;
  most : vec_len l.mails ≤ l.count;
  capacity : vec_capacity l.mails ≡ vec_capacity l.initial.mails;
}

abbrev pub decreases-loop-values : goal.decreases-loop-values
decreases-loop-values g l = l.count - vec_len l.mails
