use Rattle.std.proofs.Common.{◌≡◌, ◌<◌, length, get_or, set, sym, ap, ◌∙◌, subst, arith}
use Rattle.event_order.specs.Pending.{Among}
use Rattle.timeline_parts.specs.Tables.{numbers_of}
use Rattle.timeline_parts.specs.Sending.{with_event}
use Rattle.timeline_parts.proofs.Tables.{changed_none, changed_here}
use Rattle.timeline_parts.proofs.Sending.{on_ok, written_here}
use Rattle.timeline_parts.proofs.desk.put_out.Goals as goal

pub returns-in_default-clause-put : goal.returns-in_default-clause-put
returns-in_default-clause-put g c =
    sym (changed_none c.args.event.key.channel (with_event c.args.event) c.args.ends.now.items
    (λ a. c.in_default.ensures.none (subst (λ xs. Among c.args.event.key.channel (numbers_of xs)) (sym c.as_slice.ensures.value) a)))

pub put-requires : goal.put-requires
put-requires g c =
    let items = c.args.ends.now.items in
    let there : c.in-Some.place < length items = subst (λ xs. c.in-Some.place < length xs) c.as_slice.ensures.value c.in-Some.ensures.within in
    let found : get_or (numbers_of items) c.in-Some.place 0 ≡ c.args.event.key.channel = subst (λ xs. get_or (numbers_of xs) c.in-Some.place 0 ≡ c.args.event.key.channel) c.as_slice.ensures.value c.in-Some.ensures.found in
    omega (arith, c.requires.room, written_here items c.args.event.key.channel c.in-Some.place c.index_mut.result.now c.requires.rising there found c.index_mut.ensures.value)

pub returns-clause-put : goal.returns-clause-put
returns-clause-put g c =
    let items = c.args.ends.now.items in
    let there : c.in-Some.place < length items = subst (λ xs. c.in-Some.place < length xs) c.as_slice.ensures.value c.in-Some.ensures.within in
    let found : get_or (numbers_of items) c.in-Some.place 0 ≡ c.args.event.key.channel = subst (λ xs. get_or (numbers_of xs) c.in-Some.place 0 ≡ c.args.event.key.channel) c.as_slice.ensures.value c.in-Some.ensures.found in
    on_ok c.put.result
    (λ e. ap (λ o. set items c.in-Some.place (c.index_mut.result.now.0, o)) e
    ∙ changed_here items c.args.event.key.channel c.in-Some.place (with_event c.args.event) c.index_mut.result.now c.requires.rising there found c.index_mut.ensures.value)
    c.put.ensures.put
