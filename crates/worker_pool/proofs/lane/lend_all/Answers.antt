use Rattle.std.proofs.Common.{◌≡◌, ◌∷◌, [], ◌++◌, ◌∙◌, sym, subst, arith}
use Rattle.event_order.specs.Pending.{Among}
use Rattle.worker_pool.specs.Lanes.{IsKept, IsLent}
use Rattle.worker_pool.proofs.Steps.{up_more, up_all, read_at}
use Rattle.worker_pool.proofs.Lent.{among_left, among_last, lent_by}
use Rattle.worker_pool.proofs.lane.lend_all.Goals as goal

pub loop-place-preserved : goal.loop-place-preserved
loop-place-preserved g c =
    let lane = c.index-lanes-place.result in
    let pass = c.in-Some.pass in
    let items : c.loop-place.passes.items ≡ c.pop.new.self.items ++ pass ∷ [] = c.in-Some.ensures.items in
    let own = c.loop-place.invariant.among pass (subst (λ xs. Among pass xs) (sym items) (among_last pass c.pop.new.self.items)) in
    let kept = subst (λ x. IsKept x c.lend.new.self) (sym c.index-lanes-place.is) c.lend.ensures.kept in
    record {
      lanes = up_more (IsLent c.args.passes.now.items) c.loop-place.place c.args.lanes.now c.loop-place.lanes lane c.lend.new.self c.loop-place.invariant.lanes
          (read_at c.loop-place.lanes c.loop-place.place lane (omega (arith, c.loop-place-test.true, c.loop-place.auto.lanes)) c.index-lanes-place.is)
          (lent_by c.args.passes.now.items pass lane c.lend.new.self kept c.lend.ensures.pass own);
      many = omega (arith, c.loop-place.invariant.many, c.in-Some.ensures.len);
      capacity = c.pop.ensures.capacity ∙ c.loop-place.invariant.capacity;
      among = λ p a. c.loop-place.invariant.among p (subst (λ xs. Among p xs) (sym items) (among_left p c.pop.new.self.items (pass ∷ []) a));
    }

pub returns-clause-lent : goal.returns-clause-lent
returns-clause-lent g c = up_all (IsLent c.args.passes.now.items) c.loop-place.place c.args.lanes.now c.loop-place.lanes c.loop-place-test.false c.loop-place.invariant.lanes
