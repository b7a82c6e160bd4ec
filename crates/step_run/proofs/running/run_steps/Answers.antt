use Rattle.std.proofs.Common.{◌≡◌, ◌∙◌, ◌<◌, ◌≤◌, ℕ, List, ap, arith}
use Rattle.alignment.specs.Alignment.{IsAlignment, timeline_count}
use Rattle.trace_writer.proofs.Writing.{appends_none}
use Rattle.step_run.proofs.Beginning.{none_too_many, if_begun, caused, too_many_lines}
use Rattle.step_run.proofs.running.run_steps.Goals as goal
use borrow.Enum.Total.{values_d}
use Rattle.alignment.specs.contracts.timelines.AlignFault as align_fault

pub prepare-requires-clause-wired : goal.prepare-requires-clause-wired
prepare-requires-clause-wired g c κs within = c.requires.plan.wired

pub prepare-requires-clause-nets : goal.prepare-requires-clause-nets
prepare-requires-clause-nets g c κs within = c.requires.nets

pub run_prepared-requires-clause-plan : goal.run_prepared-requires-clause-plan
run_prepared-requires-clause-plan g c κs within = c.requires.plan

pub run_prepared-requires-clause-named : goal.run_prepared-requires-clause-named
run_prepared-requires-clause-named g c κs within = c.requires.named

pub run_prepared-requires-clause-until : goal.run_prepared-requires-clause-until
run_prepared-requires-clause-until g c κs within = c.requires.until

pub run_prepared-requires-clause-budget : goal.run_prepared-requires-clause-budget
run_prepared-requires-clause-budget g c κs within = c.requires.budget

pub run_prepared-requires-clause-aligned : goal.run_prepared-requires-clause-aligned
run_prepared-requires-clause-aligned g c κs within = (c.args.nets.now, c.args.order.now.mode, c.in-Ok.ensures.aligned)

pub run_prepared-requires-clause-most : goal.run_prepared-requires-clause-most
run_prepared-requires-clause-most g c κs within = c.in-Ok.ensures.most

pub run_prepared-requires-clause-classes : goal.run_prepared-requires-clause-classes
run_prepared-requires-clause-classes g c κs within = c.in-Ok.ensures.classes

pub run_prepared-requires-clause-room : goal.run_prepared-requires-clause-room
run_prepared-requires-clause-room g c κs within = c.in-Ok.ensures.room

pub run_prepared-requires-clause-none : goal.run_prepared-requires-clause-none
run_prepared-requires-clause-none g c κs within = c.in-Ok.ensures.none

pub returns-in-Ok-clause-trace : goal.returns-in-Ok-clause-trace
returns-in-Ok-clause-trace g c = (c.run_prepared.ensures.told c.args.nets.now c.args.order.now.mode c.in-Ok.ensures.aligned).trace

pub returns-in-Ok-clause-few : goal.returns-in-Ok-clause-few
returns-in-Ok-clause-few g c = (c.run_prepared.ensures.told c.args.nets.now c.args.order.now.mode c.in-Ok.ensures.aligned).few

pub returns-in-Ok-clause-windows : goal.returns-in-Ok-clause-windows
returns-in-Ok-clause-windows g c = (c.run_prepared.ensures.told c.args.nets.now c.args.order.now.mode c.in-Ok.ensures.aligned).windows

pub returns-in-Ok-clause-over : goal.returns-in-Ok-clause-over
returns-in-Ok-clause-over g c = (c.run_prepared.ensures.told c.args.nets.now c.args.order.now.mode c.in-Ok.ensures.aligned).over

pub returns-in-Ok-clause-budget_ends : goal.returns-in-Ok-clause-budget_ends
returns-in-Ok-clause-budget_ends g c = (c.run_prepared.ensures.told c.args.nets.now c.args.order.now.mode c.in-Ok.ensures.aligned).budget_ends

pub returns-in-Ok-clause-stopped : goal.returns-in-Ok-clause-stopped
returns-in-Ok-clause-stopped g c = (c.run_prepared.ensures.told c.args.nets.now c.args.order.now.mode c.in-Ok.ensures.aligned).stopped

pub returns-in-Ok-clause-inside : goal.returns-in-Ok-clause-inside
returns-in-Ok-clause-inside g c = (c.run_prepared.ensures.told c.args.nets.now c.args.order.now.mode c.in-Ok.ensures.aligned).inside

pub returns-in-Ok-clause-memory_below : goal.returns-in-Ok-clause-memory_below
returns-in-Ok-clause-memory_below g c = (c.run_prepared.ensures.told c.args.nets.now c.args.order.now.mode c.in-Ok.ensures.aligned).memory_below

pub returns-in-Ok-clause-in_budget : goal.returns-in-Ok-clause-in_budget
returns-in-Ok-clause-in_budget g c = (c.run_prepared.ensures.told c.args.nets.now c.args.order.now.mode c.in-Ok.ensures.aligned).in_budget

pub returns-in-Ok-clause-part : goal.returns-in-Ok-clause-part
returns-in-Ok-clause-part g c = (c.run_prepared.ensures.told c.args.nets.now c.args.order.now.mode c.in-Ok.ensures.aligned).part

pub returns-in-Ok-clause-too_many : goal.returns-in-Ok-clause-too_many
returns-in-Ok-clause-too_many g c =
    none_too_many (λ count. (lines : List ℕ) × IsAlignment c.args.plan c.args.nets.now c.args.order.now.mode lines × (4096 < timeline_count lines) × (count ≡ timeline_count lines)) c.run_prepared.result
    (c.run_prepared.ensures.told c.args.nets.now c.args.order.now.mode c.in-Ok.ensures.aligned).few_timelines

pub returns-in-Ok-clause-nothing : goal.returns-in-Ok-clause-nothing
returns-in-Ok-clause-nothing g c = (c.run_prepared.ensures.told c.args.nets.now c.args.order.now.mode c.in-Ok.ensures.aligned).nothing

pub returns-in-Ok-clause-begun : goal.returns-in-Ok-clause-begun
returns-in-Ok-clause-begun g c =
    if_begun ((lines : List ℕ) × IsAlignment c.args.plan c.args.nets.now c.args.order.now.mode lines × (timeline_count lines ≤ 4096)) (c.in-Ok.prepared.alignment, c.in-Ok.ensures.aligned, c.in-Ok.ensures.most) c.run_prepared.result

pub returns-in-Ok-clause-cause : goal.returns-in-Ok-clause-cause
returns-in-Ok-clause-cause g c = caused (g.K.Sink.faults c.args.out.now) (g.K.Sink.faults c.run_prepared.new.out) c.run_prepared.result c.run_prepared.ensures.cause

pub returns-in-Ok-clause-never_falls : goal.returns-in-Ok-clause-never_falls
returns-in-Ok-clause-never_falls g c = c.run_prepared.ensures.never_falls

pub returns-in-Err-TooManyTimelines-clause-nothing : goal.returns-in-Err-TooManyTimelines-clause-nothing
returns-in-Err-TooManyTimelines-clause-nothing g c = appends_none (g.K.Sink.held c.args.out.now)

pub returns-in-Err-TooManyTimelines-clause-never_falls : goal.returns-in-Err-TooManyTimelines-clause-never_falls
returns-in-Err-TooManyTimelines-clause-never_falls g c = omega arith

pub returns-clause-nothing : goal.returns-clause-nothing
returns-clause-nothing g c = appends_none (g.K.Sink.held c.args.out.now)

pub returns-clause-never_falls : goal.returns-clause-never_falls
returns-clause-never_falls g c = omega arith

pub returns-in-Err-TooManyTimelines-clause-too_many : goal.returns-in-Err-TooManyTimelines-clause-too_many
returns-in-Err-TooManyTimelines-clause-too_many g c =
    let base = too_many_lines c.args.plan c.args.nets.now c.args.order.now.mode c.in-Err-TooManyTimelines.field-0 c.in-Err-TooManyTimelines.count c.in-Err-TooManyTimelines.field-0-is c.in-Err-TooManyTimelines.ensures.cause in
    let count_is = ap {B = ℕ} (λ f. (values_d align_fault.enum 0 (0, tt) f).0) c.in-Err-TooManyTimelines.field-0-is in
    (base.0, base.1, base.2, count_is ∙ base.3)
