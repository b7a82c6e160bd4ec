use Rattle.std.proofs.Common.{◌≤◌}
use Rattle.global_list.specs.Standing.{standing}
use Rattle.list_run.proofs.UnderWay.{UnderWay}
use Rattle.list_run.proofs.running.run_list.Given as goal

abbrev pub invariant-loop-executed : goal.invariant-loop-executed
invariant-loop-executed g l = record {
  way : UnderWay (g.B.Behaviour.reaction l.fn.plan.behaviour) l.fn.plan l.names l.fn.until l.executed (standing l.list) l.gathered.items (g.K.Sink.held l.fn.out) (g.K.Sink.held l.out) l.fn.tally l.tally;
  later : g.K.Sink.faults l.fn.out ≤ g.K.Sink.faults l.out;
}
