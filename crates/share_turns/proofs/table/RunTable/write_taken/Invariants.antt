use Rattle.turn_table.specs.Passes.{view_of, IsSeated}
use Rattle.turn_table.specs.Turned.{key_of, table_of}
use Rattle.share_rules.specs.Places.{shape_of}
use Rattle.share_turns.proofs.Taken.{AreTakenTo}
use Rattle.share_turns.proofs.table.RunTable.write_taken.Given as goal

abbrev pub invariant-loop-place : goal.invariant-loop-place
invariant-loop-place g l = record {
  pass : IsSeated (table_of l.fn.self.turns.now) (shape_of (key_of l.fn.self.turns.now).value) l.pass;
  taken : AreTakenTo (key_of l.fn.self.turns.now).value l.place-items (view_of l.fn.pass) (view_of l.pass) l.fn.self.number l.fn.timeline l.place-index;
}
