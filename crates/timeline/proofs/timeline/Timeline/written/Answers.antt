use Rattle.std.proofs.Common.{◌≡◌, ◌<◌, length, get_or, sym, subst}
use Rattle.timeline_parts.specs.Tables.{numbers_of}
use Rattle.timeline_parts.proofs.Sending.{written_here}
use Rattle.timeline.proofs.timeline.Timeline.written.Goals as goal

pub returns-in-Some : goal.returns-in-Some
returns-in-Some g c =
    let items = c.self.inside.desk.ends.items in
    let place = c.in-Some.place in
    let there : place < length items = subst (λ xs. place < length xs) c.as_slice.ensures.value c.in-Some.ensures.within in
    let found : get_or (numbers_of items) place 0 ≡ c.args.channel = subst (λ xs. get_or (numbers_of xs) place 0 ≡ c.args.channel) c.as_slice.ensures.value c.in-Some.ensures.found in
    rw (← c.self.view_is) (sym (written_here items c.args.channel place c.index.result.now c.self.invariant.order.out_ends there found c.index.ensures))
