use Rattle.std.proofs.Common.{arith, length-drop}
use Rattle.sim_base.proofs.Appending.{appends_next, rest_of}
use Rattle.sim_base.proofs.transfer.write_all.Goals as goal

pub loop-written-preserved : goal.loop-written-preserved
loop-written-preserved g c = record {
  within = omega (arith, length-drop c.loop-written.written c.args.bytes.now, c.in_ok-written.ensures.most);
  held = appends_next _ _ _ _ _ _ _ (rest_of c.loop-written.written c.args.bytes.now) c.loop-written.invariant.held c.in_ok-written.ensures.content;
  later = omega arith;
}
