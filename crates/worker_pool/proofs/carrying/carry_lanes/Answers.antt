use Rattle.std.proofs.Common.{◌<◌, ◌∙◌, length, refl, subst, arith}
use Rattle.std.proofs.lemmas.Option.{get_or_from_slice_get, slice_get_read}
use denote.Param.{param, copied}
use denote.Param.Send.{IsSend, IsSync, sendable}
use denote.RattleType.{RattleType}
use mir.Syntax.{named}
use Rattle.std.specs.contracts.snapshot.Snapshot as snapshot
use Rattle.sync_core.specs.contracts.core_parts.Core as core
use Rattle.share_turns.specs.contracts.share.Share as share_type
use Rattle.worker_pool.specs.contracts.carrying.Work as work_type
use Rattle.turn_table.specs.Turned.{table_of, key_of}
use Rattle.turn_table.proofs.Sharing.{turns_sync}
use Rattle.core_rules.proofs.Lists.{get_known}
use Rattle.share_rules.specs.Places.{shape_of}
use Rattle.share_turns.proofs.share.Share.TheSendSync as share
use Rattle.worker_pool.proofs.carrying.Work.TheSendSync as work
use Rattle.worker_pool.specs.declared.lane.Lane.{Lane}
use Rattle.worker_pool.specs.Lanes.{IsFreeIn, HasPass, IsCarried}
use Rattle.worker_pool.proofs.carrying.carry_lanes.Goals as goal

-- a part of a run may go to another thread
share_sent : (g : _) (c : goal.After-for_each_mut-arg-2-1 g) → IsSend (share_type.the_row (param 1 g.row.B) (param 3 g.row.B-State) (copied 4 g.row.B-Payload) g.B.Behaviour)
share_sent g c = search (sendable, share.the_field_send) depth 40

work_shared : (l : _) (B S P : RattleType) → IsSync B → IsSync (work_type.the_row l B S P)
work_shared l B S P s = search (sendable, work.the_field_sync) depth 40

pub for_each_mut-requires-sync-F : goal.for_each_mut-requires-sync-F
for_each_mut-requires-sync-F g c κs within = record {
  shared = λ x b o ν. (
    (
      (λ q. tt, c.type_bounds.sync-R.shared x.0.now x.0.ref_ptr.0 x.0.ref_ptr.1 κs.1.1.1.1.1.1.0),
      (
        (λ q. tt, (work_shared (record { mir = named 8; lft = κs.1.1.1.1.1.1.1.1.0 }) (param 1 g.row.B) (param 3 g.row.B-State) (copied 4 g.row.B-Payload) c.type_bounds.sync-B).shared x.1.now x.1.ref_ptr.0 x.1.ref_ptr.1 κs.1.1.1.1.1.1.1.0),
        ((λ q. tt, (turns_sync _ (snapshot.the_row (core.the_row (param 1 g.row.B) (param 3 g.row.B-State) (copied 4 g.row.B-Payload) g.B.Behaviour)) _ (share_sent g c)).shared x.2.now x.2.ref_ptr.0 x.2.ref_ptr.1 κs.1.1.1.1.1.1.1.1.1.0), tt),
      ),
    ),
    λ q. tt,
  );
}

pub for_each_mut-requires-clause-accepts : goal.for_each_mut-requires-clause-accepts
for_each_mut-requires-clause-accepts g c κs within = λ i p known is.
    let lanes = c.args.lanes.now in
    let at = slice_get_read lanes (length lanes) i p.now refl known is in
    let place : i < c.args.work.now.workers = omega (arith, known, c.requires.workers) in
    (c.requires.work, (place, (c.requires.few, (c.requires.passes i p.now at, (c.requires.idle i p.now at, (search sendable depth 20, search sendable depth 20, search sendable depth 20, search sendable depth 20, search sendable depth 20))))))

pub returns-clause-passes : goal.returns-clause-passes
returns-clause-passes g c = λ w lane at.
    let lanes = c.args.lanes.now in
    let new = c.for_each_mut.new.s in
    let here = get_known new w lane at in
    let known : w < length lanes = omega (arith, here, c.for_each_mut.auto.s) in
    let k = (c.for_each_mut.ensures w lane known).1 in
    subst (λ (l : Lane g.row.G.Denot). HasPass (IsFreeIn (table_of c.args.turns.now) (shape_of (key_of c.args.turns.now).value)) l) (k.left ∙ get_or_from_slice_get new w lane lane at) k.call.0

pub returns-clause-lanes : goal.returns-clause-lanes
returns-clause-lanes g c = λ w before after was is.
    let lanes = c.args.lanes.now in
    let new = c.for_each_mut.new.s in
    let known : w < length lanes = get_known lanes w before was in
    let k = (c.for_each_mut.ensures w before known).1 in
    let first = k.argument_is ∙ get_or_from_slice_get lanes w before before was in
    let last = k.left ∙ get_or_from_slice_get new w after before is in
    subst (λ (l : Lane g.row.G.Denot). IsCarried g.G.Gate.stops before l) last (subst (λ (l : Lane g.row.G.Denot). IsCarried g.G.Gate.stops l k.after_call.now) first k.call.1)
