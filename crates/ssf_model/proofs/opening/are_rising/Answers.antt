use Rattle.std.proofs.Common.{◌≡◌, ◌+◌, ◌-◌, false, refl, arith}
use Rattle.event_order.specs.Order.{IsBefore, comes_before}
use Rattle.event_order.specs.Pending.{IsRising}
use Rattle.ssf_model.specs.declared.event.Event.{Event}
use Rattle.ssf_model.proofs.Finding.{keys_next, keys_stop, keys_end}
use Rattle.ssf_model.proofs.opening.are_rising.Goals as goal

pub loop-index-preserved : goal.loop-index-preserved
loop-index-preserved g c =
    let x = c.index-events-index.result in
    let y = c.index-events-index-in-loop-index.result in
    let i = c.loop-index.index in
    let less : IsBefore x.key y.key = cc in
    let e : (i + 1) - 1 ≡ i = omega arith in (
      omega arith,
      rw e (keys_next (λ (d : Event _). d.key) (IsRising (λ (d : Event _). d.key) c.args.events.now) c.args.events.now i x y c.loop-index.invariant.0 c.loop-index-test.true
          c.index-events-index.is c.index-events-index-in-loop-index.is less c.loop-index.invariant.1),
    )

pub returns : goal.returns
returns g c = (
  (λ _. keys_end (λ (d : Event _). d.key) (IsRising (λ (d : Event _). d.key) c.args.events.now) c.args.events.now c.loop-index.index c.loop-index-test.false c.loop-index.invariant.1),
  (λ _. refl),
)

pub returns-then-not-is_before : goal.returns-then-not-is_before
returns-then-not-is_before g c =
    let x = c.index-events-index.result in
    let y = c.index-events-index-in-loop-index.result in
    let i = c.loop-index.index in
    let no_less : comes_before x.key y.key ≡ false = cc in (
      (λ h. absurd (cc)),
      (λ all. absurd (keys_stop (λ (d : Event _). d.key) (IsRising (λ (d : Event _). d.key) c.args.events.now) c.args.events.now i x y c.loop-index.invariant.0 c.loop-index-test.true
          c.index-events-index.is c.index-events-index-in-loop-index.is (λ less. cc) c.loop-index.invariant.1 all)),
    )
