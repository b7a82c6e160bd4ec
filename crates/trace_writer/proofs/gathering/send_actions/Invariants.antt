use Rattle.std.proofs.Common.{◌≤◌, ◌++◌, take}
use Rattle.std.specs.List.{flat_map}
use Rattle.std.specs.Vec.{vec_capacity}
use Rattle.trace_writer.specs.Trace.{action_line}
use Rattle.trace_writer.specs.Sending.{Sends}
use Rattle.trace_writer.proofs.gathering.send_actions.Given as goal

abbrev pub invariant-loop-line : goal.invariant-loop-line
invariant-loop-line g l = record {
  sent : Sends (l.initial.gathered.items ++ flat_map action_line (take l.line-index l.lines)) l.gathered.items (g.K.Sink.held l.initial.sink) (g.K.Sink.held l.sink);
  faults : g.K.Sink.faults l.initial.sink ≤ g.K.Sink.faults l.sink;
  capacity : vec_capacity l.initial.gathered ≤ vec_capacity l.gathered;
}
