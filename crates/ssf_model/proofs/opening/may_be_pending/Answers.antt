use Rattle.std.proofs.Common.{arith}
use Rattle.ssf_model.proofs.Reopened.{length_again}
use Rattle.ssf_model.proofs.opening.may_be_pending.Goals as goal

pub returns-then-event-len : goal.returns-then-event-len
returns-then-event-len g c = (
  (λ h. absurd (cc)),
  (λ is.
      let size = length_again c.args.plan.now.entities c.args.opening.now.entities c.requires.shape.entities in
      let within = is.entity in
      let past = c.if-event-len.true in
      let read = c.len.ensures in absurd (omega arith)),
)

pub returns-then-is_early : goal.returns-then-is_early
returns-then-is_early g c =
    let size = length_again c.args.plan.now.entities c.args.opening.now.entities c.requires.shape.entities in
    let inside = c.if-event-len.false in
    let read = c.len.ensures in
    let early = c.is_early.ensures.0 c.if-is_early.true in (
      (λ h. record {
        entity = omega arith;
        on_channel = c.stands_on_channel.ensures.0 h;
        round = early.0;
        number = rw c.as_slice.ensures at early.2;
        time = early.1;
      }),
      (λ is. c.stands_on_channel.ensures.1 is.on_channel),
    )
