use Rattle.std.proofs.Common.{◌≡◌, ◌∷◌, [], ◌∙◌, sym, ap, subst, inl, inr, arith, Some, slice_get, length, length-append}
use Rattle.event_order.specs.Pending.{Among}
use Rattle.event_order.proofs.Pending.{append_among}
use Rattle.worker_turns.specs.Passes.{pass_of}
use Rattle.worker_pool.specs.declared.lane.Lane.{Lane}
use Rattle.worker_pool.specs.Lanes.{IsKept}
use Rattle.worker_pool.proofs.Steps.{up_more, read_at}
use Rattle.worker_pool.proofs.lane.take_all_back.Goals as goal

pub loop-place-preserved : goal.loop-place-preserved
loop-place-preserved g c =
    let place = c.loop-place.place in
    let lane = c.index-lanes-place.result in
    let q = c.take_back.ensures.pass in
    let own : slice_get c.loop-place.lanes place ≡ Some lane = read_at c.loop-place.lanes place lane (omega (arith, c.loop-place-test.true, c.loop-place.auto.lanes)) c.index-lanes-place.is in
    let first : slice_get c.args.lanes.now place ≡ Some lane = sym (c.loop-place.invariant.lanes.rest place (omega arith)) ∙ own in
    let kept = subst (λ x. IsKept x c.take_back.new.self) (sym c.index-lanes-place.is) c.take_back.ensures.kept in
    let here = ap (λ (l : Lane g.row.G.Denot). l.worker) c.index-lanes-place.is ∙ q.1 in
    record {
      lanes = up_more IsKept place c.args.lanes.now c.loop-place.lanes lane c.take_back.new.self c.loop-place.invariant.lanes own kept;
      many = (let sum = ap length q.2 in let parts = length-append c.loop-place.passes.items (pass_of q.0 ∷ []) in omega (arith, sum, parts, c.loop-place.invariant.many, c.loop-place.passes.ok.0, c.take_back.new.passes.ok.0));
      capacity = c.take_back.ensures.capacity ∙ c.loop-place.invariant.capacity;
      among = λ p a. elim (append_among p c.loop-place.passes.items (pass_of q.0 ∷ []) (subst (λ xs. Among p xs) q.2 a)) [
        | inl old ↦ c.loop-place.invariant.among p old
        | inr new ↦ elim new [
          | inl is ↦ (place, lane, first, record { worker = q.0; here = here; met = sym is })
          | inr none ↦ absurd none
        ]
      ];
    }
