use Rattle.std.proofs.Common.{◌≡◌, ◌+◌, length, All, true, [], vec_len}
use Rattle.turn_table.specs.Passes.{IsSeated, HoldsNone}
use Rattle.turn_table.proofs.gathering.join_all.Given as goal

abbrev pub invariant-loop-pass : goal.invariant-loop-pass
invariant-loop-pass g l = record {
  table : l.root.table_id ≡ l.fn.root.table_id;
  root : (l.root.me.0.is_root ≡ true) × (l.root.me.1 ≡ []) × (l.root.me.0.made ≡ l.fn.root.me.0.made);
  back : length l.root.me.0.back + vec_len l.passes ≡ length l.fn.root.me.0.back + vec_len l.fn.passes;
  passes : All (λ p. IsSeated l.shared.table_id (g.V.Tenant.shape l.shared.key) p × HoldsNone p) l.passes.items;
}

abbrev pub decreases-loop-pass : goal.decreases-loop-pass
decreases-loop-pass g l = vec_len l.passes
