use Rattle.turn_table.specs.Passes.{IsSeated, HoldsNone}
use Rattle.turn_table.specs.Turned.{table_of}
use Rattle.turn_examples.specs.Balls.{ball_shape}
use Rattle.turn_examples.proofs.tests.play.Given as goal

abbrev pub invariant-loop : goal.invariant-loop
invariant-loop g l = record {
  pass : IsSeated (table_of l.turns) ball_shape l.pass;
  free : HoldsNone l.pass;
}
