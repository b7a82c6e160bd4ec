use Rattle.std.proofs.Common.{◌≡◌, ◌≤◌, All, [], vec_len, vec_capacity}
use Rattle.turn_table.specs.Passes.{IsSeated, IsNew}
use Rattle.turn_table.specs.Views.{rooted}
use Rattle.turn_table.proofs.opening.split_all.Given as goal

abbrev pub invariant-loop-i : goal.invariant-loop-i
invariant-loop-i g l = record {
  table : l.root.table_id ≡ l.shared.table_id;
  root : l.root.me ≡ (record (rooted (g.V.Tenant.shape l.shared.key)) { made = l.i }, []);
  len : vec_len l.passes ≡ l.i;
  room : l.seats ≤ vec_capacity l.passes;
  passes : All (λ p. IsSeated l.shared.table_id (g.V.Tenant.shape l.shared.key) p × IsNew p) l.passes.items;
}
