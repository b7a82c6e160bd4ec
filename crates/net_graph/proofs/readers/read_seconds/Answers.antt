use Rattle.std.proofs.Common.{ℕ, ◌+◌, ◌-◌, ◌∙◌, ap, sym, length, take, drop, Option, arith}
use Rattle.std.specs.Option.{unwrap_or}
use Rattle.nhi_address.specs.Number.{digits_of}
use Rattle.net_graph.specs.Readers.{ticks_of_digits}
use Rattle.net_graph.proofs.Seconds.{no_whole, no_decimals, both_fit, ticks_are, small_power, point_or_end, sides, decimals_are}
use Rattle.net_graph.proofs.readers.read_seconds.Goals as goal

pub returns : goal.returns
returns c =
    let text = c.args.bytes.now in let at = c.unwrap_or-point.result in
    let whole = take at text in let decimals = take (length text - c.min.result) (drop c.min.result text) in
    let at_point = c.unwrap_or-point.ensures ∙ (ap (λ (o : Option ℕ). unwrap_or o (length text)) c.find_point.ensures ∙ point_or_end text) in
    let ticks = ticks_are c.args.frequency whole decimals c.in_ok-seconds.seconds c.in_ok-parts.parts (sym c.in_ok-seconds.ensures) (sym c.in_ok-parts.ensures) (omega arith) (omega arith) in
    rw (c.ticks_of.ensures, c.pow-scale.ensures)
    (ticks ∙ (ap (ticks_of_digits c.args.frequency whole) (decimals_are text (at + 1) c.min.result c.min.ensures) ∙ sides c.args.frequency text at at_point))

pub returns-in_err-seconds : goal.returns-in_err-seconds
returns-in_err-seconds c =
    let text = c.args.bytes.now in let at = c.unwrap_or-point.result in
    let at_point = c.unwrap_or-point.ensures ∙ (ap (λ (o : Option ℕ). unwrap_or o (length text)) c.find_point.ensures ∙ point_or_end text) in
    c.from_residual.ensures ∙ sym (sym (sides c.args.frequency text at at_point) ∙ no_whole c.args.frequency (take at text) (drop (at + 1) text) (sym c.in_err-seconds.ensures))

pub returns-in_err-parts : goal.returns-in_err-parts
returns-in_err-parts c =
    let text = c.args.bytes.now in let at = c.unwrap_or-point.result in
    let at_point = c.unwrap_or-point.ensures ∙ (ap (λ (o : Option ℕ). unwrap_or o (length text)) c.find_point.ensures ∙ point_or_end text) in
    let none = sym (ap digits_of (decimals_are text (at + 1) c.min.result c.min.ensures)) ∙ sym c.in_err-parts.ensures in
    c.from_residual-in_err-parts.ensures ∙ sym (sym (sides c.args.frequency text at at_point) ∙ no_decimals c.args.frequency (take at text) (drop (at + 1) text) none)

pub overflow_mul-seconds : goal.overflow_mul-seconds
overflow_mul-seconds c =
    let text = c.args.bytes.now in
    let fit = both_fit (take c.unwrap_or-point.result text) (take (length text - c.min.result) (drop c.min.result text)) c.in_ok-seconds.seconds c.in_ok-parts.parts (sym c.in_ok-seconds.ensures) (sym c.in_ok-parts.ensures) (omega arith) in
    rw c.pow-scale.ensures (omega (arith, fit))

pub overflow_add-seconds : goal.overflow_add-seconds
overflow_add-seconds c =
    let text = c.args.bytes.now in
    let fit = both_fit (take c.unwrap_or-point.result text) (take (length text - c.min.result) (drop c.min.result text)) c.in_ok-seconds.seconds c.in_ok-parts.parts (sym c.in_ok-seconds.ensures) (sym c.in_ok-parts.ensures) (omega arith) in
    rw c.pow-scale.ensures (omega (arith, fit))

pub ticks_of-requires : goal.ticks_of-requires
ticks_of-requires c =
    let text = c.args.bytes.now in
    rw c.pow-scale.ensures (small_power (length (take (length text - c.min.result) (drop c.min.result text))) (omega arith)).1
