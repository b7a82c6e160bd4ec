use Rattle.std.proofs.Common.{◌∙◌, ◌<◌, ◌≤◌, not, length, sym, ap, arith}
use Rattle.host_roles.proofs.Numbering.{timed_below, timed_past, true_of}
use Rattle.host_roles.proofs.placed.is_timed_as.Goals as goal

pub returns-then-number-len : goal.returns-then-number-len
returns-then-number-len c = λ role at.
    let below : c.args.number < length c.args.rows.now.ports = omega arith in
    let timed = timed_below c.args.rows.now c.args.number role below at in (
      (λ h. c.is_none.ensures ∙ ap not h ∙ sym timed),
      (λ e. true_of c.is_none.result (sym c.is_none.ensures ∙ e ∙ timed)),
    )

pub returns : goal.returns
returns c = λ role at.
    let past : length c.args.rows.now.ports ≤ c.args.number = omega arith in
    let timed = timed_past c.args.rows.now c.args.number role past at in (
      (λ h. sym c.is_some.ensures ∙ h ∙ sym timed),
      (λ e. c.is_some.ensures ∙ e ∙ timed),
    )
