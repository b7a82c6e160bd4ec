use Rattle.std.proofs.Common.{◌≡◌, refl, sym, ap, ◌∙◌, subst, arith, inl, inr, slice_get}
use Rattle.std.proofs.lemmas.Bool.{cases_lt}
use Rattle.core_rules.proofs.Lists.{one_of, get_known}
use Rattle.worker_pool.specs.declared.lane.Lane.{Lane}
use Rattle.worker_pool.specs.Lanes.{WasStopped}
use Rattle.worker_pool.proofs.Found.{read_of}
use Rattle.worker_pool.proofs.ending.stopped_in.Goals as goal

pub loop-place-preserved : goal.loop-place-preserved
loop-place-preserved g c = λ k h q.
    let lanes = c.args.lanes.now in
    let n = c.loop-place.place in
    let lane = c.index-lanes-place.result in
    let own = read_of lanes lanes n lane refl c.loop-place-test.true c.index-lanes-place.is in
    elim (cases_lt k n) [
      | inl l ↦ c.loop-place.invariant k l q
      | inr m ↦ let e : k ≡ n = omega arith in
          let same : q.0 ≡ lane = one_of q.0 lane (sym q.1 ∙ (ap (λ i. slice_get lanes i) e ∙ own)) in
          c.was_stopped.ensures.no c.if-was_stopped.false (subst (λ (l : Lane g.row.G.Denot). WasStopped g.G.Gate.stops l) same q.2)
    ]

pub returns-then-was_stopped-clause-some : goal.returns-then-was_stopped-clause-some
returns-then-was_stopped-clause-some g c =
    let lanes = c.args.lanes.now in
    let lane = c.index-lanes-place.result in
    let own = read_of lanes lanes c.loop-place.place lane refl c.loop-place-test.true c.index-lanes-place.is in
    ((lane, own, c.was_stopped.ensures.yes c.if-was_stopped.true), c.loop-place.invariant)

pub returns-clause-none : goal.returns-clause-none
returns-clause-none g c = λ k q. (let here = get_known c.args.lanes.now k q.0 q.1 in c.loop-place.invariant k (omega (arith, here, c.loop-place-test.false)) q)
