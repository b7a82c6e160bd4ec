use Rattle.std.proofs.Common.{◌≡◌, ◌<◌, ◌∙◌, sym, subst, get_or, length, map}
use Rattle.timeline_parts.specs.Tables.{AreRising, numbers_of}
use Rattle.timeline_parts.specs.Parts.{channel_of}
use Rattle.sync_steps.proofs.Taking.{known_cross, no_cross, cross_is, next_new, take_more_mail}
use Rattle.sync_steps.proofs.between.take_all.Goals as goal

pub take_on-requires-clause-end : goal.take_on-requires-clause-end
take_on-requires-clause-end g c κs within =
    let q = c.loop-place.invariant in
    let ins = c.args.timeline.now.ins in
    let read : c.ins.result.now ≡ ins = c.ins.ensures ∙ q.ins in
    let counted : c.ins-place-end.result.now ≡ ins = c.ins-place-end.ensures in
    let h : c.loop-place.place < length c.ins.result.now = subst (λ xs. c.loop-place.place < length xs) (counted ∙ sym read) c.loop-place-test.true in
    known_cross c.ins.result.now ins (numbers_of c.loop-place.timeline.in_ends) c.loop-place.place (q.ends ∙ c.requires.own.ends) read h

pub take_on-requires-clause-new : goal.take_on-requires-clause-new
take_on-requires-clause-new g c κs within =
    let q = c.loop-place.invariant in
    let ins = c.args.timeline.now.ins in
    let read : c.ins.result.now ≡ ins = c.ins.ensures ∙ q.ins in
    let counted : c.ins-place-end.result.now ≡ ins = c.ins-place-end.ensures in
    let h : c.loop-place.place < length ins = subst (λ xs. c.loop-place.place < length xs) counted c.loop-place-test.true in
    let x = get_or c.ins.result.now c.loop-place.place no_cross in
    let is : x ≡ get_or ins c.loop-place.place x =
    subst (λ xs. get_or xs c.loop-place.place no_cross ≡ get_or ins c.loop-place.place (get_or xs c.loop-place.place no_cross)) (sym read) (cross_is ins c.loop-place.place h) in
    next_new ins c.loop-place.place x c.args.mail.now c.loop-place.mail c.args.timeline.now c.loop-place.timeline h is q

pub loop-place-preserved : goal.loop-place-preserved
loop-place-preserved g c =
    let q = c.loop-place.invariant in
    let ins = c.args.timeline.now.ins in
    let read : c.ins.result.now ≡ ins = c.ins.ensures ∙ q.ins in
    let counted : c.ins-place-end.result.now ≡ ins = c.ins-place-end.ensures in
    let h : c.loop-place.place < length ins = subst (λ xs. c.loop-place.place < length xs) counted c.loop-place-test.true in
    let x = get_or c.ins.result.now c.loop-place.place no_cross in
    let is : x ≡ get_or ins c.loop-place.place x =
    subst (λ xs. get_or xs c.loop-place.place no_cross ≡ get_or ins c.loop-place.place (get_or xs c.loop-place.place no_cross)) (sym read) (cross_is ins c.loop-place.place h) in
    let rising : AreRising (map channel_of ins) = subst AreRising c.requires.own.ends c.keeps_order.ensures.in_ends in
    take_more_mail ins c.loop-place.place x c.args.mail.now c.loop-place.mail c.take_on.new.mail c.args.timeline.now c.loop-place.timeline c.take_on.new.timeline rising h is q
    c.take_on.ensures.taken c.take_on.ensures.channels c.take_on.ensures.mail c.take_on.ensures.others
