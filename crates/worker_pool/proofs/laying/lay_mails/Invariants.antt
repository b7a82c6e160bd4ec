use Rattle.std.proofs.Common.{◌≡◌, ◌+◌, ◌≤◌, ◌++◌, reverse, vec_len, vec_capacity}
use Rattle.worker_pool.specs.Laid.{of_mails}
use Rattle.worker_pool.proofs.laying.lay_mails.Given as goal

abbrev pub invariant-loop-mail : goal.invariant-loop-mail
invariant-loop-mail g l = record {
  items : l.values.items ++ of_mails (reverse l.mails.items) ≡ l.initial.values.items ++ of_mails (reverse l.initial.mails.items);
  room : vec_len l.values + vec_len l.mails ≤ vec_capacity l.values;
  values : vec_capacity l.values ≡ vec_capacity l.initial.values;
  kept : vec_capacity l.mails ≡ vec_capacity l.initial.mails;
}

abbrev pub decreases-loop-mail : goal.decreases-loop-mail
decreases-loop-mail g l = vec_len l.mails
