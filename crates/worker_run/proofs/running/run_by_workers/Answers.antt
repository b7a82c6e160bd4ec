use Rattle.std.proofs.Common.{◌∙◌, ℕ, ap, arith}
use Rattle.trace_writer.proofs.Writing.{appends_none}
use Rattle.step_run.proofs.Beginning.{none_too_many, too_many_lines}
use Rattle.worker_run.proofs.Beginning.{if_ended_each, if_stopped_each, work_begun, work_caused}
use Rattle.worker_run.proofs.Lanes.{none_falls, none_move}
use Rattle.worker_run.proofs.running.run_by_workers.Goals as goal
use borrow.Enum.Total.{values_d}
use Rattle.alignment.specs.contracts.timelines.AlignFault as align_fault

pub prepare-requires-clause-wired : goal.prepare-requires-clause-wired
prepare-requires-clause-wired g c κs within = c.requires.plan.wired

pub prepare-requires-clause-nets : goal.prepare-requires-clause-nets
prepare-requires-clause-nets g c κs within = c.requires.nets

pub run_prepared-requires-clause-plan : goal.run_prepared-requires-clause-plan
run_prepared-requires-clause-plan g c κs within = c.requires.plan

pub run_prepared-requires-clause-named : goal.run_prepared-requires-clause-named
run_prepared-requires-clause-named g c κs within = c.requires.named

pub run_prepared-requires-clause-until : goal.run_prepared-requires-clause-until
run_prepared-requires-clause-until g c κs within = c.requires.until

pub run_prepared-requires-clause-budget : goal.run_prepared-requires-clause-budget
run_prepared-requires-clause-budget g c κs within = c.requires.budget

pub run_prepared-requires-clause-aligned : goal.run_prepared-requires-clause-aligned
run_prepared-requires-clause-aligned g c κs within = (c.args.nets.now, c.args.order.now.mode, c.in-Ok.ensures.aligned)

pub run_prepared-requires-clause-most : goal.run_prepared-requires-clause-most
run_prepared-requires-clause-most g c κs within = c.in-Ok.ensures.most

pub run_prepared-requires-clause-classes : goal.run_prepared-requires-clause-classes
run_prepared-requires-clause-classes g c κs within = c.in-Ok.ensures.classes

pub run_prepared-requires-clause-room : goal.run_prepared-requires-clause-room
run_prepared-requires-clause-room g c κs within = c.in-Ok.ensures.room

pub run_prepared-requires-clause-none : goal.run_prepared-requires-clause-none
run_prepared-requires-clause-none g c κs within = c.in-Ok.ensures.none

pub run_prepared-requires-clause-some : goal.run_prepared-requires-clause-some
run_prepared-requires-clause-some g c κs within = c.requires.some

pub run_prepared-requires-clause-lanes : goal.run_prepared-requires-clause-lanes
run_prepared-requires-clause-lanes g c κs within = c.requires.lanes

pub returns-in-Ok-clause-trace : goal.returns-in-Ok-clause-trace
returns-in-Ok-clause-trace g c = if_ended_each c.run_prepared.result _ _ (λ steps h. h.trace) (c.run_prepared.ensures.told c.args.nets.now c.args.order.now.mode c.in-Ok.ensures.aligned).told

pub returns-in-Ok-clause-few : goal.returns-in-Ok-clause-few
returns-in-Ok-clause-few g c = if_ended_each c.run_prepared.result _ _ (λ steps h. h.few) (c.run_prepared.ensures.told c.args.nets.now c.args.order.now.mode c.in-Ok.ensures.aligned).told

pub returns-in-Ok-clause-windows : goal.returns-in-Ok-clause-windows
returns-in-Ok-clause-windows g c = if_ended_each c.run_prepared.result _ _ (λ steps h. h.windows) (c.run_prepared.ensures.told c.args.nets.now c.args.order.now.mode c.in-Ok.ensures.aligned).told

pub returns-in-Ok-clause-over : goal.returns-in-Ok-clause-over
returns-in-Ok-clause-over g c = if_ended_each c.run_prepared.result _ _ (λ steps h. h.over) (c.run_prepared.ensures.told c.args.nets.now c.args.order.now.mode c.in-Ok.ensures.aligned).told

pub returns-in-Ok-clause-budget_ends : goal.returns-in-Ok-clause-budget_ends
returns-in-Ok-clause-budget_ends g c = if_ended_each c.run_prepared.result _ _ (λ steps h. h.budget_ends) (c.run_prepared.ensures.told c.args.nets.now c.args.order.now.mode c.in-Ok.ensures.aligned).told

pub returns-in-Ok-clause-first_over : goal.returns-in-Ok-clause-first_over
returns-in-Ok-clause-first_over g c = if_ended_each c.run_prepared.result _ _ (λ steps h. h.stopped) (c.run_prepared.ensures.told c.args.nets.now c.args.order.now.mode c.in-Ok.ensures.aligned).told

pub returns-in-Ok-clause-inside : goal.returns-in-Ok-clause-inside
returns-in-Ok-clause-inside g c = if_ended_each c.run_prepared.result _ _ (λ steps h. h.inside) (c.run_prepared.ensures.told c.args.nets.now c.args.order.now.mode c.in-Ok.ensures.aligned).told

pub returns-in-Ok-clause-memory_below : goal.returns-in-Ok-clause-memory_below
returns-in-Ok-clause-memory_below g c = if_ended_each c.run_prepared.result _ _ (λ steps h. h.memory_below) (c.run_prepared.ensures.told c.args.nets.now c.args.order.now.mode c.in-Ok.ensures.aligned).told

pub returns-in-Ok-clause-in_budget : goal.returns-in-Ok-clause-in_budget
returns-in-Ok-clause-in_budget g c = if_ended_each c.run_prepared.result _ _ (λ steps h. h.in_budget) (c.run_prepared.ensures.told c.args.nets.now c.args.order.now.mode c.in-Ok.ensures.aligned).told

pub returns-in-Ok-clause-nothing : goal.returns-in-Ok-clause-nothing
returns-in-Ok-clause-nothing g c = if_ended_each c.run_prepared.result _ _ (λ steps h. h.nothing) (c.run_prepared.ensures.told c.args.nets.now c.args.order.now.mode c.in-Ok.ensures.aligned).told

pub returns-in-Ok-clause-part : goal.returns-in-Ok-clause-part
returns-in-Ok-clause-part g c = if_ended_each c.run_prepared.result _ _ (λ steps h. h.part) (c.run_prepared.ensures.told c.args.nets.now c.args.order.now.mode c.in-Ok.ensures.aligned).told

pub returns-in-Ok-clause-too_many : goal.returns-in-Ok-clause-too_many
returns-in-Ok-clause-too_many g c = if_ended_each c.run_prepared.result _ _ (λ steps h. none_too_many _ steps h.few_timelines) (c.run_prepared.ensures.told c.args.nets.now c.args.order.now.mode c.in-Ok.ensures.aligned).told

pub returns-in-Ok-clause-begun : goal.returns-in-Ok-clause-begun
returns-in-Ok-clause-begun g c = work_begun _ (c.in-Ok.prepared.alignment, c.in-Ok.ensures.aligned, c.in-Ok.ensures.most) c.run_prepared.result

pub returns-in-Ok-clause-cause : goal.returns-in-Ok-clause-cause
returns-in-Ok-clause-cause g c = work_caused (g.K.Sink.faults c.args.out.now) (g.K.Sink.faults c.run_prepared.new.out) c.run_prepared.result c.run_prepared.ensures.cause

pub returns-in-Ok-clause-never_falls : goal.returns-in-Ok-clause-never_falls
returns-in-Ok-clause-never_falls g c = c.run_prepared.ensures.never_falls

pub returns-in-Ok-clause-stopped_by : goal.returns-in-Ok-clause-stopped_by
returns-in-Ok-clause-stopped_by g c = c.run_prepared.ensures.stopped_by

pub returns-in-Ok-clause-stopped_first : goal.returns-in-Ok-clause-stopped_first
returns-in-Ok-clause-stopped_first g c = c.run_prepared.ensures.stopped_first

pub returns-in-Ok-clause-unstopped : goal.returns-in-Ok-clause-unstopped
returns-in-Ok-clause-unstopped g c = c.run_prepared.ensures.unstopped

pub returns-in-Ok-clause-gates : goal.returns-in-Ok-clause-gates
returns-in-Ok-clause-gates g c = c.run_prepared.ensures.gates

pub returns-in-Ok-clause-lanes : goal.returns-in-Ok-clause-lanes
returns-in-Ok-clause-lanes g c = c.run_prepared.ensures.lanes

pub returns-in-Ok-clause-stopped : goal.returns-in-Ok-clause-stopped
returns-in-Ok-clause-stopped g c = if_stopped_each c.run_prepared.result _ _ (λ worker below h. h.halted.written) (c.run_prepared.ensures.told c.args.nets.now c.args.order.now.mode c.in-Ok.ensures.aligned).stopped

pub returns-in-Ok-clause-stopped_inside : goal.returns-in-Ok-clause-stopped_inside
returns-in-Ok-clause-stopped_inside g c = if_stopped_each c.run_prepared.result _ _ (λ worker below h. h.halted.inside) (c.run_prepared.ensures.told c.args.nets.now c.args.order.now.mode c.in-Ok.ensures.aligned).stopped

pub returns-in-Ok-clause-stopped_safe : goal.returns-in-Ok-clause-stopped_safe
returns-in-Ok-clause-stopped_safe g c = if_stopped_each c.run_prepared.result _ _ (λ worker below h. h.safe) (c.run_prepared.ensures.told c.args.nets.now c.args.order.now.mode c.in-Ok.ensures.aligned).stopped

pub returns-in-Ok-clause-stopped_in_budget : goal.returns-in-Ok-clause-stopped_in_budget
returns-in-Ok-clause-stopped_in_budget g c = (c.run_prepared.ensures.told c.args.nets.now c.args.order.now.mode c.in-Ok.ensures.aligned).in_budget

pub returns-in-Err-TooManyTimelines-clause-nothing : goal.returns-in-Err-TooManyTimelines-clause-nothing
returns-in-Err-TooManyTimelines-clause-nothing g c = appends_none (g.K.Sink.held c.args.out.now)

pub returns-in-Err-TooManyTimelines-clause-never_falls : goal.returns-in-Err-TooManyTimelines-clause-never_falls
returns-in-Err-TooManyTimelines-clause-never_falls g c = omega arith

pub returns-in-Err-TooManyTimelines-clause-unstopped : goal.returns-in-Err-TooManyTimelines-clause-unstopped
returns-in-Err-TooManyTimelines-clause-unstopped g c = none_move g.G.Gate.stops c.args.lanes.now

pub returns-in-Err-TooManyTimelines-clause-gates : goal.returns-in-Err-TooManyTimelines-clause-gates
returns-in-Err-TooManyTimelines-clause-gates g c = none_falls g.G.Gate.stops c.args.lanes.now

pub returns-in-Err-TooManyTimelines-clause-too_many : goal.returns-in-Err-TooManyTimelines-clause-too_many
returns-in-Err-TooManyTimelines-clause-too_many g c =
    let base = too_many_lines c.args.plan c.args.nets.now c.args.order.now.mode c.in-Err-TooManyTimelines.field-0 c.in-Err-TooManyTimelines.count c.in-Err-TooManyTimelines.field-0-is c.in-Err-TooManyTimelines.ensures.cause in
    let count_is = ap {B = ℕ} (λ f. (values_d align_fault.enum 0 (0, tt) f).0) c.in-Err-TooManyTimelines.field-0-is in
    (base.0, base.1, base.2, count_is ∙ base.3)

pub returns-clause-nothing : goal.returns-clause-nothing
returns-clause-nothing g c = appends_none (g.K.Sink.held c.args.out.now)

pub returns-clause-never_falls : goal.returns-clause-never_falls
returns-clause-never_falls g c = omega arith

pub returns-clause-unstopped : goal.returns-clause-unstopped
returns-clause-unstopped g c = none_move g.G.Gate.stops c.args.lanes.now

pub returns-clause-gates : goal.returns-clause-gates
returns-clause-gates g c = none_falls g.G.Gate.stops c.args.lanes.now
