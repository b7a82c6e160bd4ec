-- The run is under way: what was executed is written up to a time, and from it on kept.
use Rattle.std.proofs.Common.{◌+◌, ◌-◌, ◌≤◌, length}
use Rattle.trace_writer.specs.Merging.{HasRoom}
use Rattle.step_run.specs.Going.{Task, output, IsGiven, IsUnderWay, GoesOn}
use Rattle.step_run.proofs.running.go_on.Given as goal

abbrev pub invariant-loop-tried : goal.invariant-loop-tried
invariant-loop-tried g l = record {
  goes_on : GoesOn g.B.Behaviour.valid g.B.Behaviour.carried g.B.Behaviour.reaction l.names l.order.until l.core;
  room : HasRoom l.names (length l.core.timelines) l.records.room;
  used : l.used ≤ length l.order.schedule.now;
  faults : g.K.Sink.faults l.initial.out ≤ g.K.Sink.faults l.out;
  under : (task : Task g.row.B.Denot g.row.B-State.Denot g.row.B-Payload.Denot) → IsGiven (g.B.Behaviour.valid task.plan.behaviour) (g.B.Behaviour.carried task.plan.behaviour) l.names l.order.until task
      → IsUnderWay (g.B.Behaviour.reaction task.plan.behaviour) l.names l.order.until task l.initial.core l.initial.records (output (g.K.Sink.held l.initial.out) l.initial.tally) (output (g.K.Sink.held l.initial.out) l.initial.tally)
      → IsUnderWay (g.B.Behaviour.reaction task.plan.behaviour) l.names l.order.until task l.core l.records (output (g.K.Sink.held l.initial.out) l.initial.tally) (output (g.K.Sink.held l.out) l.tally);
}

abbrev pub decreases-loop-tried : goal.decreases-loop-tried
decreases-loop-tried g l = (l.order.until + 1) - l.core.barrier.round
