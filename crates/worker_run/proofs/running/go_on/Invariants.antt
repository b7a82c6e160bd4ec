-- The run is under way: what was executed is written up to a time, and from it on kept.
use Rattle.std.proofs.Common.{◌≡◌, ◌+◌, ◌-◌, ◌≤◌, length}
use Rattle.trace_writer.specs.Merging.{HasRoom}
use Rattle.step_run.specs.Going.{Task, output, IsGiven}
use Rattle.worker_pool.specs.Lanes.{HaveNotFallen, HaveStood}
use Rattle.worker_run.specs.Going.{IsUnderWay, GoesOn}
use Rattle.worker_run.proofs.running.go_on.Given as goal

abbrev pub invariant-loop-next : goal.invariant-loop-next
invariant-loop-next g l = record {
  goes_on : GoesOn g.B.Behaviour.valid g.B.Behaviour.carried g.B.Behaviour.reaction l.names l.until l.core;
  room : HasRoom l.names (length l.core.timelines) l.records.room;
  faults : g.K.Sink.faults l.initial.out ≤ g.K.Sink.faults l.out;
  gates : HaveNotFallen g.G.Gate.stops l.initial.lanes l.lanes;
  stood : HaveStood g.G.Gate.stops (length l.initial.lanes) l.initial.lanes l.lanes;
  lanes : length l.lanes ≡ length l.initial.lanes;
  under : (task : Task g.row.B.Denot g.row.B-State.Denot g.row.B-Payload.Denot) → IsGiven (g.B.Behaviour.valid task.plan.behaviour) (g.B.Behaviour.carried task.plan.behaviour) l.names l.until task
      → IsUnderWay (g.B.Behaviour.reaction task.plan.behaviour) l.names l.until task l.initial.core l.initial.records (output (g.K.Sink.held l.initial.out) l.initial.tally) (output (g.K.Sink.held l.initial.out) l.initial.tally)
      → IsUnderWay (g.B.Behaviour.reaction task.plan.behaviour) l.names l.until task l.core l.records (output (g.K.Sink.held l.initial.out) l.initial.tally) (output (g.K.Sink.held l.out) l.tally);
}

abbrev pub decreases-loop-next : goal.decreases-loop-next
decreases-loop-next g l = (l.until + 1) - l.core.barrier.round
