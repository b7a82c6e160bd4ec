use Rattle.std.proofs.Common.{◌≡◌, ◌^◌, ◌<◌, ℕ, List, [], ◌++◌, length, take, map, slice_get, subst, sym, ap, ◌∙◌, Some, arith}
use Rattle.event_order.specs.Pending.{Among}
use Rattle.alignment.specs.Alignment.{timeline_count}
use Rattle.plan_shares.specs.Shares.{events_on, timers_on, mapped_on, counted_in}
use Rattle.plan_shares.specs.Lists.{for_each, list_at}
use Rattle.plan_shares.proofs.ForEach.{length_of}
use Rattle.plan_shares.proofs.Drafting.{event_within, timer_within, mapping_within, few_entities, counts_enough, counts_joined}
use Rattle.plan_shares.proofs.drafts.Drafts.fill_rest.Goals as goal

pub put_events-requires : goal.put_events-requires
put_events-requires g c = record {
  empty = c.requires.empty.events;
  known = λ e among. event_within c.args.plan.now c.requires.fits c.args.alignment.now c.requires.aligned e (subst (λ es. Among e es) c.as_slice.ensures among);
}

pub put_timers-requires-clause-aligned : goal.put_timers-requires-clause-aligned
put_timers-requires-clause-aligned g c κs within = c.requires.aligned ∙ ap (λ es. length es) (sym c.as_slice-entities.ensures)

pub put_timers-requires-clause-few : goal.put_timers-requires-clause-few
put_timers-requires-clause-few g c κs within = subst (λ es. length es < 2 ^ 32) (sym c.as_slice-entities.ensures) (few_entities c.args.plan.now c.requires.fits c.args.alignment.now c.requires.aligned)

pub put_timers-requires-clause-known : goal.put_timers-requires-clause-known
put_timers-requires-clause-known g c κs within = λ k channel e at timer.
    subst (λ (cs : List ℕ). channel < length cs) (sym c.as_slice-counts.ensures)
    (timer_within c.args.plan.now c.requires.fits c.args.alignment.now c.requires.aligned k channel e (subst (λ es. slice_get es k ≡ Some e) c.as_slice-entities.ensures at) timer)

pub put_mapped-requires : goal.put_mapped-requires
put_mapped-requires g c = record {
  size = length_of (timeline_count c.args.alignment.now) (λ i. map (counted_in c.as_slice-counts.result.now) (timers_on c.args.alignment.now i c.as_slice-entities.result.now)) c.put_timers.new.lists c.in_ok-put_timers.ensures;
  known = λ m among. (let within = mapping_within c.args.plan.now c.requires.fits c.args.alignment.now c.requires.aligned m (subst (λ ms. Among m ms) c.mappings.ensures among) in
      (within.0, subst (λ (cs : List ℕ). m.channel < length cs) (sym c.as_slice-counts.ensures) within.1));
}

pub put_starts-requires : goal.put_starts-requires
put_starts-requires g c = record {
  empty = c.requires.empty.starts;
  enough = (let enough = counts_enough c.args.plan.now c.requires.fits c.args.alignment.now c.requires.aligned in
      let one = ap (λ es. length es) c.as_slice-entities.ensures in
      let other = ap (λ (cs : List ℕ). length cs) c.as_slice-counts.ensures in
      omega (arith, enough, one, other));
}

pub open-requires : goal.open-requires
open-requires g c = c.requires.empty.entities

pub returns-clause-rest : goal.returns-clause-rest
returns-clause-rest g c =
    let n : ℕ = timeline_count c.args.alignment.now in
    let lines : List ℕ = c.args.alignment.now in
    let count : c.count.result ≡ n = c.count.ensures in
    let again : c.count-2.result ≡ n = c.count-2.ensures in
    record {
      entities = c.in_ok-open.ensures ∙ ap (λ k. for_each k (λ _. [])) count;
      events = c.in_ok-put_events.ensures ∙ ap (λ es. for_each n (λ i. events_on lines i es)) c.as_slice.ensures;
      counts = counts_joined c.args.plan.now lines c.put_timers.new.lists c.put_mapped.new.lists
          (c.in_ok-put_timers.ensures ∙ (ap (λ cs. for_each n (λ i. map (counted_in cs) (timers_on lines i c.as_slice-entities.result.now))) c.as_slice-counts.ensures
          ∙ ap (λ es. for_each n (λ i. map (counted_in c.args.plan.now.counts) (timers_on lines i es))) c.as_slice-entities.ensures))
          (c.in_ok-put_mapped.ensures ∙ (ap (λ cs. for_each n (λ i. list_at c.put_timers.new.lists i ++ map (counted_in cs) (mapped_on lines i c.mappings.result.now))) c.as_slice-counts.ensures
          ∙ ap (λ ms. for_each n (λ i. list_at c.put_timers.new.lists i ++ map (counted_in c.args.plan.now.counts) (mapped_on lines i ms))) c.mappings.ensures));
      starts = c.in_ok-put_starts.ensures ∙ (ap (λ k. take k c.as_slice-counts.result.now) (ap (λ es. length es) c.as_slice-entities.ensures)
          ∙ ap (λ cs. take (length c.args.plan.now.entities) cs) c.as_slice-counts.ensures);
      parts = c.reserve.ensures.items ∙ c.requires.empty.parts;
      room = omega (arith, c.in_ok-reserve.ensures.ok, again);
    }
