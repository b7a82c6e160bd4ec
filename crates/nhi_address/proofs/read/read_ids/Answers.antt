use Rattle.std.proofs.Common.{◌+◌, ◌∙◌, ap}
use Rattle.std.proofs.lemmas.List.{take_rest}
use Rattle.std.proofs.lemmas.Result.{err_from_is_err_and}
use Rattle.nhi_address.proofs.Reading.{before, one_more_id, no_more_ids, last_id, no_last_id}
use Rattle.nhi_address.proofs.read.read_ids.Goals as goal

pub returns-in_err-push_id-clause-bad : goal.returns-in_err-push_id-clause-bad
returns-in_err-push_id-clause-bad c =
    let p = err_from_is_err_and c.from_residual.result c.from_residual.ensures.1 in
    rw (p.1, p.2) (λ e. c.loop-colon.invariant ∙ ap (before c.loop-colon.ids.items) (no_more_ids c.loop-colon.rest.now c.in-Some.colon c.in-Some.ensures (c.in_err-push_id.ensures.bad e)))

pub loop-colon-preserved : goal.loop-colon-preserved
loop-colon-preserved c =
    let h = c.in_ok-push_id.ensures.read in
    c.loop-colon.invariant ∙ (one_more_id c.loop-colon.ids.items c.loop-colon.rest.now c.in-Some.colon h.0 c.in-Some.ensures h.1
    ∙ rw (h.2, take_rest c.loop-colon.rest.now (c.in-Some.colon + 1)))

pub returns-in_err-push_id-2-clause-bad : goal.returns-in_err-push_id-2-clause-bad
returns-in_err-push_id-2-clause-bad c =
    let p = err_from_is_err_and c.from_residual-in_err-push_id-2.result c.from_residual-in_err-push_id-2.ensures.1 in
    rw (p.1, p.2) (λ e. c.loop-colon.invariant ∙ ap (before c.loop-colon.ids.items) (no_last_id c.loop-colon.rest.now c.in_default.ensures (c.in_err-push_id-2.ensures.bad e)))

pub returns-clause-read : goal.returns-clause-read
returns-clause-read c =
    let h = c.in_ok-push_id-2.ensures.read in
    rw h.2 (c.loop-colon.invariant ∙ last_id c.loop-colon.ids.items c.loop-colon.rest.now h.0 c.in_default.ensures h.1)
