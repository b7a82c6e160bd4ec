use Rattle.std.proofs.Common.{◌≡◌, ◌<◌, ◌≤◌}
use Rattle.turn_table.specs.Passes.{HoldsNone, IsSeated}
use Rattle.turn_table.specs.Turned.{table_of, key_of}
use Rattle.share_rules.specs.Places.{count_of, shape_of}
use Rattle.worker_turns.specs.Passes.{pass_of}
use Rattle.worker_turns.specs.declared.worker.Turned.TheVariants.{Stopped}
use Rattle.worker_pool.proofs.carrying.take_turns.Given as goal

abbrev pub invariant-loop : goal.invariant-loop
invariant-loop g l = record {
  pass : IsSeated (table_of l.turns) (shape_of (key_of l.turns).value) (pass_of l.worker);
  free : HoldsNone (pass_of l.worker);
  up : g.G.Gate.stops l.initial.gate ≤ g.G.Gate.stops l.gate;
  running : l.turned ≡ Stopped → ⊥;
  first : l.route.first < l.route.timelines;
  taken : l.route.taken < l.route.timelines;
  timelines : l.route.timelines ≡ count_of (key_of l.turns).value;
}
