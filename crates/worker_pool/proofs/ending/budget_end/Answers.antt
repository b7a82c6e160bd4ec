use Rattle.std.proofs.Common.{◌≡◌, length, ap, subst, arith, inl, inr}
use Rattle.std.proofs.lemmas.Bool.{cases_lt}
use Rattle.core_rules.specs.Reading.{BudgetEndsIn}
use Rattle.sync_core.proofs.Firsts.{past_all, ends_not_at}
use Rattle.worker_pool.proofs.Found.{read_of}
use Rattle.worker_pool.proofs.ending.budget_end.Goals as goal

pub loop-number-preserved : goal.loop-number-preserved
loop-number-preserved g c = λ i h q.
    let core = c.args.core.now in
    let n = c.loop-number.number in
    let t = c.index-timelines-number.result in
    let own = read_of c.histories-timelines.result.now core.timelines n t c.histories-timelines.ensures c.loop-number-test.true c.index-timelines-number.is in
    elim (cases_lt i n) [
      | inl l ↦ c.loop-number.invariant i l q
      | inr m ↦ let e : i ≡ n = omega arith in
          ends_not_at core n t c.safe_bound-bound.result own c.safe_bound-bound.ensures (c.is_over_at.ensures.no c.if-is_over_at.false) (subst (λ k. BudgetEndsIn core k) e q)
    ]

pub returns-clause-none : goal.returns-clause-none
returns-clause-none g c = λ i q.
    let long : length c.histories-timelines.result.now ≡ length c.args.core.now.timelines = ap length c.histories-timelines.ensures in
    past_all c.args.core.now c.loop-number.number i (omega (arith, c.loop-number-test.false, long)) c.loop-number.invariant q
