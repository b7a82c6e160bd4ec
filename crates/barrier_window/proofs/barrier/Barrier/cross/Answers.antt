use Rattle.std.proofs.Common.{◌≡◌, ◌∙◌, sym, ap, subst, arith}
use Rattle.ssf_model.specs.Truth.{next_window}
use Rattle.barrier_window.specs.BarrierFields.{BarrierFields}
use Rattle.barrier_window.specs.Inside.{fields_of}
use Rattle.barrier_window.specs.Crossings.{crossing}
use Rattle.barrier_window.specs.declared.barrier.Crossing.TheVariants.{Crossed, Waiting, Ended}
use Rattle.barrier_window.proofs.Rounds.{crossing_ended, crossing_waits, crossing_ends, crossing_crosses}
use Rattle.barrier_window.proofs.barrier.Barrier.cross.Goals as goal

pub returns-then-self-clause-answer : goal.returns-then-self-clause-answer
returns-then-self-clause-answer c = subst (λ (b : BarrierFields). Ended ≡ crossing b) c.self.view_is (crossing_ended (fields_of c.self.inside) c.if-self.true)

pub returns-in-Some-clause-answer : goal.returns-in-Some-clause-answer
returns-in-Some-clause-answer c = subst (λ (b : BarrierFields). Waiting c.in-Some.timeline ≡ crossing b) c.self.view_is
    (crossing_waits (fields_of c.self.inside) c.in-Some.timeline c.if-self.false (sym c.self.invariant.waiting ∙ c.in-Some.is))

pub returns-then-self-2-clause-answer : goal.returns-then-self-2-clause-answer
returns-then-self-2-clause-answer c = subst (λ (b : BarrierFields). Ended ≡ crossing b) c.self.view_is
    (crossing_ends (fields_of c.self.inside) c.if-self.false (sym c.self.invariant.waiting ∙ c.in_default.is) (let least = c.self.invariant.least in omega arith))

pub returns-clause-answer : goal.returns-clause-answer
returns-clause-answer c =
    let least = c.self.invariant.least in
    subst (λ (b : BarrierFields). Crossed c.window_after-window.result ≡ crossing b) c.self.view_is
    (ap Crossed (c.window_after-window.ensures ∙ ap (next_window c.self.inside.lookahead c.self.inside.until) least)
    ∙ crossing_crosses (fields_of c.self.inside) c.if-self.false (sym c.self.invariant.waiting ∙ c.in_default.is) (omega arith))
