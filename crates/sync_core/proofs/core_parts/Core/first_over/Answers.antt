use Rattle.std.proofs.Common.{◌≡◌, subst, arith, inl, inr}
use Rattle.std.proofs.lemmas.Bool.{cases_lt}
use Rattle.core_rules.specs.Reading.{BudgetEndsIn}
use Rattle.sync_core.specs.Cores.{core_of}
use Rattle.sync_core.proofs.Firsts.{past_all, ends_not_at, number_inside, inside_at}
use Rattle.sync_core.proofs.Making.{timeline_at}
use Rattle.sync_core.proofs.core_parts.Core.first_over.Goals as goal

pub loop-number-preserved : goal.loop-number-preserved
loop-number-preserved g c = λ i h q.
    let core = core_of c.self.inside.parts in
    let n = c.loop-number.number in
    let there = number_inside core c.args.self.now n c.self.view_is (omega (arith, c.loop-number-test.true, c.count-number-end.ensures)) in
    let own = inside_at core c.args.self.now n c.index.result.now c.self.view_is (timeline_at core n c.index.result.now there c.index.ensures) in
    elim (cases_lt i n) [
      | inl l ↦ c.loop-number.invariant i l q
      | inr m ↦ let e : i ≡ n = omega arith in
          ends_not_at c.args.self.now n c.index.result.now c.args.bound own c.requires.bound (c.is_over_at.ensures.no c.if-is_over_at.false) (subst (λ k. BudgetEndsIn c.args.self.now k) e q)
    ]

pub returns-clause-none : goal.returns-clause-none
returns-clause-none g c = λ i q. past_all c.args.self.now c.loop-number.number i (omega (arith, c.loop-number-test.false, c.count-number-end.ensures)) c.loop-number.invariant q
