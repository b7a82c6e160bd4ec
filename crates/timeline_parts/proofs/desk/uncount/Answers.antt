use Rattle.std.proofs.Common.{◌≡◌, ◌<◌, ◌+◌, length, get_or, set, sym, ap, ◌∙◌, subst, arith}
use Rattle.event_order.specs.Pending.{Among}
use Rattle.timeline_parts.specs.Tables.{numbers_of}
use Rattle.timeline_parts.proofs.Tables.{numbers_set, restored, restored_none}
use Rattle.timeline_parts.proofs.desk.uncount.Goals as goal

pub returns-in-Some-clause-numbers : goal.returns-in-Some-clause-numbers
returns-in-Some-clause-numbers c = numbers_set c.args.counts.now.items c.in-Some.place c.index_mut.result.now c.saturating_sub.result c.index_mut.ensures.value

pub returns-in-Some-clause-before : goal.returns-in-Some-clause-before
returns-in-Some-clause-before c = λ before is.
    let items = c.args.counts.now.items in
    let there : c.in-Some.place < length items = subst (λ xs. c.in-Some.place < length xs) c.as_slice.ensures.value c.in-Some.ensures.within in
    let found : get_or (numbers_of items) c.in-Some.place 0 ≡ c.args.channel = subst (λ xs. get_or (numbers_of xs) c.in-Some.place 0 ≡ c.args.channel) c.as_slice.ensures.value c.in-Some.ensures.found in
    restored items before c.args.channel c.in-Some.place (λ n. n + 1) c.index_mut.result.now c.saturating_sub.result c.requires there found c.index_mut.ensures.value is
    (λ y e. omega (arith, e, c.saturating_sub.ensures))

pub returns-in_default-clause-before : goal.returns-in_default-clause-before
returns-in_default-clause-before c = λ before is.
    restored_none c.args.counts.now.items before c.args.channel (λ n. n + 1)
    (λ a. c.in_default.ensures.none (subst (λ xs. Among c.args.channel (numbers_of xs)) (sym c.as_slice.ensures.value) a)) is
