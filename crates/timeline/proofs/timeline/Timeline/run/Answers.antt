use Rattle.std.proofs.Common.{◌≡◌, ◌<◌, length, get_or, refl, sym, ap, ◌∙◌, subst, arith}
use Rattle.ssf_model.specs.Reaction.{Each}
use Rattle.timeline_parts.specs.RouteMap.{route}
use Rattle.timeline_parts.specs.Tables.{numbers_of, AreNumbered}
use Rattle.timeline_parts.specs.Settling.{staying, least_arriving, AreNew}
use Rattle.timeline_parts.proofs.Tables.{numbered_same, numbers_length}
use Rattle.event_order.specs.Pending.{Among, put_all}
use Rattle.timeline.specs.View.{key_of}
use Rattle.timeline.specs.Holding.{IsFilled}
use Rattle.timeline.proofs.Kept.{sent_counts_rise, sent_ends_rise, sent_filled}
use Rattle.timeline.proofs.Running.{IsReady, ready, known, acts, acted_entities, acted_writes, acted_lines, entities_after, processes_at, may_send, written, new_keys, ran, rest_after, room_after, told_as, run_of}
use Rattle.timeline.proofs.timeline.Timeline.run.Goals as goal

pub place_in-place-requires-clause-known : goal.place_in-place-requires-clause-known
place_in-place-requires-clause-known g c =
    let valid = g.B.Behaviour.valid c.args.behaviour.now in
    let r = g.B.Behaviour.reaction c.args.behaviour.now in
    let h = c.args.head.now in
    let rd = subst (λ t. IsReady valid r t h) (sym c.self.view_is) (ready valid r c.args.self.now h c.requires.may c.requires.first c.requires.some) in
    subst (λ xs. Among h.entity (numbers_of xs)) (sym c.as_slice.ensures.value) (known valid r _ h rd)

pub act-requires-clause-may : goal.act-requires-clause-may
act-requires-clause-may g c κs within =
    let valid = g.B.Behaviour.valid c.args.behaviour.now in
    let r = g.B.Behaviour.reaction c.args.behaviour.now in
    let h = c.args.head.now in
    let rd = subst (λ t. IsReady valid r t h) (sym c.self.view_is) (ready valid r c.args.self.now h c.requires.may c.requires.first c.requires.some) in
    let entities = c.self.inside.entities.items in
    let rise = c.self.invariant.order.entities in
    let place = c.place_in-place.result in
    let there : place < length entities = subst (λ xs. place < length xs) c.as_slice.ensures.value c.place_in-place.ensures.within in
    let found : get_or (numbers_of entities) place 0 ≡ h.entity = subst (λ xs. get_or (numbers_of xs) place 0 ≡ h.entity) c.as_slice.ensures.value c.place_in-place.ensures.found in
    acts valid r _ h rd place rise there found

pub invariant_of-self : goal.invariant_of-self
invariant_of-self g c =
    let old = c.self.invariant in
    record {
      order = record {
        until = old.order.until;
        budget = old.order.budget;
        few = old.order.few;
        entities = numbered_same c.act.new.entities.items c.self.inside.entities.items c.act.ensures.numbers old.order.entities;
        counts = old.order.counts;
        in_ends = old.order.in_ends;
        out_ends = old.order.out_ends;
        filled = old.order.filled;
      };
      sends = old.sends;
      bound_is = old.bound_is;
      holder_is = old.holder_is;
    }

pub invariant_of-self-in_err-reserve : goal.invariant_of-self-in_err-reserve
invariant_of-self-in_err-reserve g c =
    let old = c.self.invariant in
    record {
      order = record {
        until = old.order.until;
        budget = old.order.budget;
        few = old.order.few;
        entities = numbered_same c.act.new.entities.items c.self.inside.entities.items c.act.ensures.numbers old.order.entities;
        counts = old.order.counts;
        in_ends = old.order.in_ends;
        out_ends = old.order.out_ends;
        filled = old.order.filled;
      };
      sends = old.sends;
      bound_is = old.bound_is;
      holder_is = old.holder_is;
    }

pub index-requires : goal.index-requires
index-requires g c =
    let entities = c.self.inside.entities.items in
    let place = c.place_in-place.result in
    let there : place < length entities = subst (λ xs. place < length xs) c.as_slice.ensures.value c.place_in-place.ensures.within in
    let size : length c.act.new.entities.items ≡ length entities = sym (numbers_length c.act.new.entities.items) ∙ (ap length c.act.ensures.numbers ∙ numbers_length entities) in
    omega (arith, there, size, c.act.new.entities.ok.0)

pub write_all-requires : goal.write_all-requires
write_all-requires g c =
    let valid = g.B.Behaviour.valid c.args.behaviour.now in
    let r = g.B.Behaviour.reaction c.args.behaviour.now in
    let h = c.args.head.now in
    let rd = subst (λ t. IsReady valid r t h) (sym c.self.view_is) (ready valid r c.args.self.now h c.requires.may c.requires.first c.requires.some) in
    let entities = c.self.inside.entities.items in
    let rise = c.self.invariant.order.entities in
    let place = c.place_in-place.result in
    let there : place < length entities = subst (λ xs. place < length xs) c.as_slice.ensures.value c.place_in-place.ensures.within in
    let found : get_or (numbers_of entities) place 0 ≡ h.entity = subst (λ xs. get_or (numbers_of xs) place 0 ≡ h.entity) c.as_slice.ensures.value c.place_in-place.ensures.found in
    let new = acted_entities valid r _ h rd place rise there found c.act.new.entities.items c.in_ok-lines.ensures.entities in
    let processes = c.as_slice-2.ensures ∙ processes_at valid r _ h rd place rise there found c.act.new.entities.items c.index.result.now new c.index.ensures in
    let writes = c.writes.ensures ∙ acted_writes valid r _ h rd place rise there found c.act.new.out.writes c.in_ok-lines.ensures.writes in
    may_send valid r _ h rd (route c.self.inside.routes.by_out) c.as_slice-2.result.now c.writes.result.now c.self.invariant.sends processes writes

pub invariant_of-self-in_err-write_all : goal.invariant_of-self-in_err-write_all
invariant_of-self-in_err-write_all g c =
    let old = c.self.invariant in
    record {
      order = record {
        until = old.order.until;
        budget = old.order.budget;
        few = old.order.few;
        entities = numbered_same c.act.new.entities.items c.self.inside.entities.items c.act.ensures.numbers old.order.entities;
        counts = subst AreNumbered (sym c.in_err-write_all.ensures.counts) old.order.counts;
        in_ends = old.order.in_ends;
        out_ends = subst AreNumbered (sym c.in_err-write_all.ensures.ends) old.order.out_ends;
        filled = subst (λ os. Each IsFilled os) (sym c.in_err-write_all.ensures.ends) old.order.filled;
      };
      sends = old.sends;
      bound_is = old.bound_is;
      holder_is = old.holder_is;
    }

pub settle-self-inside-requires-clause-ends : goal.settle-self-inside-requires-clause-ends
settle-self-inside-requires-clause-ends g c =
    let q = c.in_ok-write_all.ensures.sent in
    subst AreNumbered (sym c.as_slice-4.ensures.value)
    (sent_ends_rise q c.self.invariant.order.out_ends)

pub settle-self-inside-requires-clause-room : goal.settle-self-inside-requires-clause-room
settle-self-inside-requires-clause-room g c =
    let valid = g.B.Behaviour.valid c.args.behaviour.now in
    let r = g.B.Behaviour.reaction c.args.behaviour.now in
    let h = c.args.head.now in
    let rd = subst (λ t. IsReady valid r t h) (sym c.self.view_is) (ready valid r c.args.self.now h c.requires.may c.requires.first c.requires.some) in
    let is = c.in_ok-write_all.ensures.pending ∙ rd.first in
    let size : length c.as_slice-3.result.now ≡ length c.write_all.new.desk.written.items = ap length c.as_slice-3.ensures.value in
    let room = room_after c.take_least-head.result c.write_all.new.pending.items h rd.rest c.write_all.new.pending.spare c.take_least-head.new.self.spare (length c.write_all.new.desk.written.items)
    c.take_least-head.ensures.none.0 is c.take_least-head.ensures.spare c.in_ok-write_all.ensures.room in
    omega (arith, size, room)

pub settle-self-inside-requires-clause-new : goal.settle-self-inside-requires-clause-new
settle-self-inside-requires-clause-new g c =
    let valid = g.B.Behaviour.valid c.args.behaviour.now in
    let r = g.B.Behaviour.reaction c.args.behaviour.now in
    let h = c.args.head.now in
    let rd = subst (λ t. IsReady valid r t h) (sym c.self.view_is) (ready valid r c.args.self.now h c.requires.may c.requires.first c.requires.some) in
    let entities = c.self.inside.entities.items in
    let rise = c.self.invariant.order.entities in
    let place = c.place_in-place.result in
    let there : place < length entities = subst (λ xs. place < length xs) c.as_slice.ensures.value c.place_in-place.ensures.within in
    let found : get_or (numbers_of entities) place 0 ≡ h.entity = subst (λ xs. get_or (numbers_of xs) place 0 ≡ h.entity) c.as_slice.ensures.value c.place_in-place.ensures.found in
    let new = acted_entities valid r _ h rd place rise there found c.act.new.entities.items c.in_ok-lines.ensures.entities in
    let processes = c.as_slice-2.ensures ∙ processes_at valid r _ h rd place rise there found c.act.new.entities.items c.index.result.now new c.index.ensures in
    let writes = c.writes.ensures ∙ acted_writes valid r _ h rd place rise there found c.act.new.out.writes c.in_ok-lines.ensures.writes in
    let all = written valid r _ h rd (route c.self.inside.routes.by_out) c.as_slice-2.result.now c.writes.result.now c.write_all.new.desk.counts.items c.write_all.new.desk.ends.items c.write_all.new.desk.written.items
    c.self.invariant.sends processes writes c.in_ok-write_all.ensures.sent in
    let is = c.in_ok-write_all.ensures.pending ∙ rd.first in
    let taken = rest_after c.take_least-head.result c.write_all.new.pending.items c.take_least-head.new.self.items h rd.rest c.take_least-head.ensures.none.0 c.take_least-head.ensures.least is in
    subst (λ os. AreNew (staying os c.as_slice-3.result.now) c.take_least-head.new.self.items) (sym c.as_slice-4.ensures.value)
    (subst (λ es. AreNew (staying c.write_all.new.desk.ends.items es) c.take_least-head.new.self.items) (sym c.as_slice-3.ensures.value)
    (new_keys valid r _ h rd c.write_all.new.desk.counts.items c.write_all.new.desk.ends.items c.write_all.new.desk.written.items c.take_least-head.new.self.items all taken))

pub invariant_of-self-2 : goal.invariant_of-self-2
invariant_of-self-2 g c =
    let q = c.in_ok-write_all.ensures.sent in
    let old = c.self.invariant in
    record {
      order = record {
        until = old.order.until;
        budget = old.order.budget;
        few = let b = subst (λ t. t.executed < t.budget) (sym c.self.view_is) c.requires.budget in omega (arith, b);
        entities = numbered_same c.act.new.entities.items c.self.inside.entities.items c.act.ensures.numbers old.order.entities;
        counts = sent_counts_rise q old.order.counts;
        in_ends = old.order.in_ends;
        out_ends = sent_ends_rise q old.order.out_ends;
        filled = sent_filled q old.order.filled;
      };
      sends = old.sends;
      bound_is = old.bound_is;
      holder_is = old.holder_is;
    }

pub returns-clause-ran : goal.returns-clause-ran
returns-clause-ran g c =
    let valid = g.B.Behaviour.valid c.args.behaviour.now in
    let r = g.B.Behaviour.reaction c.args.behaviour.now in
    let h = c.args.head.now in
    let rd = subst (λ t. IsReady valid r t h) (sym c.self.view_is) (ready valid r c.args.self.now h c.requires.may c.requires.first c.requires.some) in
    let entities = c.self.inside.entities.items in
    let rise = c.self.invariant.order.entities in
    let place = c.place_in-place.result in
    let there : place < length entities = subst (λ xs. place < length xs) c.as_slice.ensures.value c.place_in-place.ensures.within in
    let found : get_or (numbers_of entities) place 0 ≡ h.entity = subst (λ xs. get_or (numbers_of xs) place 0 ≡ h.entity) c.as_slice.ensures.value c.place_in-place.ensures.found in
    let new = acted_entities valid r _ h rd place rise there found c.act.new.entities.items c.in_ok-lines.ensures.entities in
    let processes = c.as_slice-2.ensures ∙ processes_at valid r _ h rd place rise there found c.act.new.entities.items c.index.result.now new c.index.ensures in
    let writes = c.writes.ensures ∙ acted_writes valid r _ h rd place rise there found c.act.new.out.writes c.in_ok-lines.ensures.writes in
    let all = written valid r _ h rd (route c.self.inside.routes.by_out) c.as_slice-2.result.now c.writes.result.now c.write_all.new.desk.counts.items c.write_all.new.desk.ends.items c.write_all.new.desk.written.items
    c.self.invariant.sends processes writes c.in_ok-write_all.ensures.sent in
    let is = c.in_ok-write_all.ensures.pending ∙ rd.first in
    let taken = rest_after c.take_least-head.result c.write_all.new.pending.items c.take_least-head.new.self.items h rd.rest c.take_least-head.ensures.none.0 c.take_least-head.ensures.least is in
    let entities_are = entities_after valid r _ h rd place rise there found c.act.new.entities.items new in
    let pending = c.settle-self-inside.ensures.pending
    ∙ (ap (λ os. put_all key_of (staying os c.as_slice-3.result.now) c.take_least-head.new.self.items) c.as_slice-4.ensures.value
    ∙ ap (λ es. put_all key_of (staying c.write_all.new.desk.ends.items es) c.take_least-head.new.self.items) c.as_slice-3.ensures.value) in
    let arrival = c.settle-self-inside.ensures.arrival
    ∙ (ap (λ os. least_arriving os c.self.inside.entered c.as_slice-3.result.now c.self.inside.arrival) c.as_slice-4.ensures.value
    ∙ ap (λ es. least_arriving c.write_all.new.desk.ends.items c.self.inside.entered es c.self.inside.arrival) c.as_slice-3.ensures.value) in
    let history = told_as c.self.inside.history.items c.reserve.new.self.items c.push_reserved.new.self.items h.key h.entity c.from_vec.result _ c.push_reserved.ensures.items c.in_ok-reserve.ensures.items (c.from_vec.ensures ∙ acted_lines valid r _ h rd place rise there found c.in_ok-lines.lines.items c.in_ok-lines.ensures.lines) in
    run_of r h c.self.view_is refl
    (ran valid r _ h rd c.act.new.entities.items c.write_all.new.desk.counts.items c.write_all.new.desk.ends.items c.write_all.new.desk.written.items c.take_least-head.new.self.items
    c.settle-self-inside.new.pending.items c.settle-self-inside.new.pending.spare c.settle-self-inside.result c.push_reserved.new.self.items entities_are all taken pending arrival history)
