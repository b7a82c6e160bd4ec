use Rattle.std.proofs.Common.{arith, refl, sym, subst}
use Rattle.trace_writer.specs.Merging.{HasRoom}
use Rattle.trace_writer.proofs.Writing.{appends_none}
use Rattle.step_run.specs.Going.{Task, Output, IsGiven}
use Rattle.step_run.proofs.Laws.{none_law}
use Rattle.worker_run.proofs.Beginning.{first_goes_on, first_under_way, work_told, no_work_told}
use Rattle.worker_run.proofs.Lanes.{none_falls, none_move}
use Rattle.worker_run.proofs.Laws.{first_law}
use Rattle.worker_run.proofs.running.run_prepared.Goals as goal

pub new-requires-clause-fits : goal.new-requires-clause-fits
new-requires-clause-fits g c κs within = c.requires.plan

pub new-requires-clause-aligned : goal.new-requires-clause-aligned
new-requires-clause-aligned g c κs within = c.requires.aligned

pub new-requires-clause-classes : goal.new-requires-clause-classes
new-requires-clause-classes g c κs within = (c.args.order.now.threshold, c.requires.classes)

pub new-requires-clause-until : goal.new-requires-clause-until
new-requires-clause-until g c κs within = c.requires.until

pub new-requires-clause-budget : goal.new-requires-clause-budget
new-requires-clause-budget g c κs within = c.requires.budget

pub go_on-requires-clause-goes_on : goal.go_on-requires-clause-goes_on
go_on-requires-clause-goes_on g c κs within =
    let v = g.B.Behaviour.valid in
    let ca = g.B.Behaviour.carried in
    let re = g.B.Behaviour.reaction in
    let met = g.met.B.Behaviour g.world.𝓛 g.world.𝓜 g.world.𝓡 ((λ s x. x), (λ x. x), (λ x. x), λ x. x) in
    let so = met.sound in
    let mo = met.modest in
    let task : Task g.row.B.Denot g.row.B-State.Denot g.row.B-Payload.Denot = record { plan = c.args.plan; nets = c.requires.aligned.0; mode = c.requires.aligned.1; lines = c.args.prepared.now.alignment; threshold = c.args.order.now.threshold; budget = c.args.order.now.budget } in
    let given : IsGiven (v c.args.plan.behaviour) (ca c.args.plan.behaviour) c.args.names.now c.args.order.now.until task =
    record { fits = c.requires.plan; aligned = c.requires.aligned.2; few = c.requires.most; in_time = c.requires.until; most = c.requires.budget; named = c.requires.named } in
    let is_first = c.in-Ok.ensures.first c.args.order.now.threshold c.requires.classes in
    first_goes_on v ca re c.args.names.now c.args.order.now.until task given c.in-Ok.core is_first (first_law v ca re so mo)

pub go_on-requires-clause-room : goal.go_on-requires-clause-room
go_on-requires-clause-room g c κs within =
    let is_first = c.in-Ok.ensures.first c.args.order.now.threshold c.requires.classes in
    subst (λ n. HasRoom c.args.names.now n c.args.prepared.now.records.room) (sym is_first.timelines) c.requires.room

pub go_on-requires-clause-some : goal.go_on-requires-clause-some
go_on-requires-clause-some g c κs within = c.requires.some

pub go_on-requires-clause-lanes : goal.go_on-requires-clause-lanes
go_on-requires-clause-lanes g c κs within = c.requires.lanes

pub returns-in-Ok-clause-told : goal.returns-in-Ok-clause-told
returns-in-Ok-clause-told g c = λ nets mode aligned.
    let v = g.B.Behaviour.valid in
    let ca = g.B.Behaviour.carried in
    let re = g.B.Behaviour.reaction in
    let met = g.met.B.Behaviour g.world.𝓛 g.world.𝓜 g.world.𝓡 ((λ s x. x), (λ x. x), (λ x. x), λ x. x) in
    let so = met.sound in
    let mo = met.modest in
    let task : Task g.row.B.Denot g.row.B-State.Denot g.row.B-Payload.Denot = record { plan = c.args.plan; nets = nets; mode = mode; lines = c.args.prepared.now.alignment; threshold = c.args.order.now.threshold; budget = c.args.order.now.budget } in
    let given : IsGiven (v c.args.plan.behaviour) (ca c.args.plan.behaviour) c.args.names.now c.args.order.now.until task =
    record { fits = c.requires.plan; aligned = aligned; few = c.requires.most; in_time = c.requires.until; most = c.requires.budget; named = c.requires.named } in
    let is_first = c.in-Ok.ensures.first c.args.order.now.threshold c.requires.classes in
    let first : Output = record { held = g.K.Sink.held c.args.out.now; tally = c.args.tally.now } in
    let now : Output = record { held = g.K.Sink.held c.go_on.new.out; tally = c.go_on.new.tally } in
    let ended = c.go_on.ensures.ended task given refl
    (first_under_way v ca re c.args.names.now c.args.order.now.until task given c.in-Ok.core is_first (first_law v ca re so mo) (none_law v ca re so mo) c.args.prepared.now.records first c.requires.none.0 c.requires.none.1) in
    work_told (re c.args.plan.behaviour) c.args.names.now c.args.order.now.until task first now aligned c.go_on.result ended

pub returns-in-Ok-clause-cause : goal.returns-in-Ok-clause-cause
returns-in-Ok-clause-cause g c = c.go_on.ensures.cause

pub returns-in-Ok-clause-never_falls : goal.returns-in-Ok-clause-never_falls
returns-in-Ok-clause-never_falls g c = c.go_on.ensures.never_falls

pub returns-in-Ok-clause-stopped_by : goal.returns-in-Ok-clause-stopped_by
returns-in-Ok-clause-stopped_by g c = c.go_on.ensures.stopped_by

pub returns-in-Ok-clause-stopped_first : goal.returns-in-Ok-clause-stopped_first
returns-in-Ok-clause-stopped_first g c = c.go_on.ensures.stopped_first

pub returns-in-Ok-clause-unstopped : goal.returns-in-Ok-clause-unstopped
returns-in-Ok-clause-unstopped g c = c.go_on.ensures.unstopped

pub returns-in-Ok-clause-gates : goal.returns-in-Ok-clause-gates
returns-in-Ok-clause-gates g c = c.go_on.ensures.gates

pub returns-in-Ok-clause-lanes : goal.returns-in-Ok-clause-lanes
returns-in-Ok-clause-lanes g c = c.go_on.ensures.lanes

pub returns-in-Err-clause-told : goal.returns-in-Err-clause-told
returns-in-Err-clause-told g c = λ nets mode aligned.
    no_work_told (g.B.Behaviour.reaction c.args.plan.behaviour) c.args.names.now c.args.order.now.until
    (record { plan = c.args.plan; nets = nets; mode = mode; lines = c.args.prepared.now.alignment; threshold = c.args.order.now.threshold; budget = c.args.order.now.budget })
    (record { held = g.K.Sink.held c.args.out.now; tally = c.args.tally.now }) (record { held = g.K.Sink.held c.args.out.now; tally = c.args.tally.now })
    (appends_none (g.K.Sink.held c.args.out.now))

pub returns-in-Err-clause-never_falls : goal.returns-in-Err-clause-never_falls
returns-in-Err-clause-never_falls g c = omega arith

pub returns-in-Err-clause-unstopped : goal.returns-in-Err-clause-unstopped
returns-in-Err-clause-unstopped g c = none_move g.G.Gate.stops c.args.lanes.now

pub returns-in-Err-clause-gates : goal.returns-in-Err-clause-gates
returns-in-Err-clause-gates g c = none_falls g.G.Gate.stops c.args.lanes.now

pub returns-in-Err-clause-lanes : goal.returns-in-Err-clause-lanes
returns-in-Err-clause-lanes g c = refl
