use Rattle.std.proofs.Common.{◌≡◌, ◌-◌, ◌∙◌, sym, ap, Some, slice_get, arith}
use Rattle.ssf_model.proofs.Finding.{find_is, find_none, first_is}
use Rattle.ssf_model.proofs.opening.mapping_on.Goals as goal

pub returns-then-channel-first : goal.returns-then-channel-first
returns-then-channel-first c =
    let at : slice_get c.args.mappings.now 0 ≡ Some c.in_ok-first.field-0.now = sym c.in_ok-first.ensures.value in
    let is = first_is c.requires.0 c.args.mappings.now c.in_ok-first.field-0.now c.requires.1 at in
    sym (find_none c.requires.0 c.args.channel c.args.mappings.now c.requires.1 (omega arith))

pub returns : goal.returns
returns c =
    let at : slice_get c.args.mappings.now 0 ≡ Some c.in_ok-first.field-0.now = sym c.in_ok-first.ensures.value in
    let is = first_is c.requires.0 c.args.mappings.now c.in_ok-first.field-0.now c.requires.1 at in
    c.mapping_at.ensures ∙ (ap (λ k. slice_get c.args.mappings.now (c.args.channel - k)) is ∙ sym (find_is c.requires.0 c.args.channel c.args.mappings.now c.requires.1 (omega arith)))
