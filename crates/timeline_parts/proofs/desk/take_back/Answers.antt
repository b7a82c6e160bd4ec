use Rattle.std.proofs.Common.{◌≡◌, ◌<◌, length, get_or, set, sym, ap, ◌∙◌, subst, arith}
use Rattle.event_order.specs.Pending.{Among}
use Rattle.timeline_parts.specs.Tables.{numbers_of}
use Rattle.timeline_parts.specs.Sending.{with_event}
use Rattle.timeline_parts.proofs.Tables.{numbers_set, restored, restored_none}
use Rattle.timeline_parts.proofs.desk.take_back.Goals as goal

pub returns-in-Some-clause-numbers : goal.returns-in-Some-clause-numbers
returns-in-Some-clause-numbers g c = numbers_set c.args.ends.now.items c.in-Some.place c.index_mut.result.now c.take_back.new.self c.index_mut.ensures.value

pub returns-in-Some-clause-before : goal.returns-in-Some-clause-before
returns-in-Some-clause-before g c = λ before event own is.
    let items = c.args.ends.now.items in
    let there : c.in-Some.place < length items = subst (λ xs. c.in-Some.place < length xs) c.as_slice.ensures.value c.in-Some.ensures.within in
    let found : get_or (numbers_of items) c.in-Some.place 0 ≡ c.args.channel = subst (λ xs. get_or (numbers_of xs) c.in-Some.place 0 ≡ c.args.channel) c.as_slice.ensures.value c.in-Some.ensures.found in
    restored items before event.key.channel c.in-Some.place (with_event event) c.index_mut.result.now c.take_back.new.self c.requires there (found ∙ sym own) c.index_mut.ensures.value is
    (λ y e. c.take_back.ensures y event e)

pub returns-in_default-clause-before : goal.returns-in_default-clause-before
returns-in_default-clause-before g c = λ before event own is.
    restored_none c.args.ends.now.items before event.key.channel (with_event event)
    (λ a. c.in_default.ensures.none (subst (λ n. Among n (numbers_of c.as_slice.result.now)) own (subst (λ xs. Among event.key.channel (numbers_of xs)) (sym c.as_slice.ensures.value) a))) is
