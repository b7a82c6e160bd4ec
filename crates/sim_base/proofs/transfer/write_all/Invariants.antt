use Rattle.std.proofs.Common.{length, ◌-◌, ◌≤◌, take}
use Rattle.sim_base.specs.Outside.{Appends}
use Rattle.sim_base.proofs.transfer.write_all.Given as goal

abbrev pub invariant-loop-written : goal.invariant-loop-written
invariant-loop-written g l = record {
  within : l.written ≤ length l.bytes;
  held : Appends (take l.written l.bytes) (g.K.Sink.held l.initial.sink) (g.K.Sink.held l.sink);
  later : g.K.Sink.faults l.initial.sink ≤ g.K.Sink.faults l.sink;
}

abbrev pub decreases-loop-written : goal.decreases-loop-written
decreases-loop-written g l = length l.bytes - l.written
