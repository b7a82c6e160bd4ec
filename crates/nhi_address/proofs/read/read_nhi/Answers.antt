use Rattle.std.proofs.Common.{ℕ, Option, ◌-◌, ◌∙◌, ap, sym, length, take, drop}
use Rattle.std.specs.Option.{unwrap_or}
use Rattle.std.proofs.lemmas.List.{take_rest}
use Rattle.nhi_address.specs.NhiText.{interface_of}
use Rattle.nhi_address.proofs.Reading.{bracket, ids_are, interface_is, bracket_or_end, nhi_read}
use Rattle.nhi_address.proofs.read.read_nhi.Goals as goal

pub invariant_of-result : goal.invariant_of-result
invariant_of-result c =
    let text = c.args.bytes.now in let front = c.unwrap_or-front.result in
    let ids = ids_are (take front text) c.in_ok-ids.ids.items c.in_ok-ids.ensures.read in
    record { some = ids.1; within = ids.0; interface = interface_is (take (length text - front) (drop front text)) c.in-Some.interface (sym c.in-Some.ensures) }

pub returns-clause-read : goal.returns-clause-read
returns-clause-read c =
    let at_bracket = c.unwrap_or-front.ensures ∙ (ap (λ (o : Option ℕ). unwrap_or o (length c.args.bytes.now)) c.find.ensures ∙ bracket_or_end c.args.bytes.now bracket) in
    nhi_read c.args.bytes.now c.in_ok-ids.ids.items c.in-Some.interface c.unwrap_or-front.result at_bracket
    c.in_ok-ids.ensures.read (c.in-Some.ensures ∙ ap interface_of (take_rest c.args.bytes.now c.unwrap_or-front.result))
