use Rattle.std.proofs.Common.{◌≡◌, ◌<◌, length, get_or, subst, set, ap, ◌∙◌}
use Rattle.timeline_parts.specs.Tables.{numbers_of}
use Rattle.timeline_parts.proofs.Tables.{changed_here, item_here}
use Rattle.timeline.specs.Holding.{IsFilled}
use Rattle.timeline.specs.Moving.{posted_end}
use Rattle.timeline.proofs.Kept.{each_at}
use Rattle.timeline.proofs.moving.post_from.Goals as goal

pub returns-in-Some-clause-posted : goal.returns-in-Some-clause-posted
returns-in-Some-clause-posted g c =
    let items = c.args.ends.now.items in
    let place = c.in-Some.place in
    let end = c.index_mut.result.now in
    let there : place < length items = subst (λ xs. place < length xs) c.as_slice.ensures.value c.in-Some.ensures.within in
    let found : get_or (numbers_of items) place 0 ≡ c.args.channel = subst (λ xs. get_or (numbers_of xs) place 0 ≡ c.args.channel) c.as_slice.ensures.value c.in-Some.ensures.found in
    record {
      end = end.1;
      at = item_here items c.args.channel place end c.requires.rising there found c.index_mut.ensures.value;
      handed = c.take_out.ensures.parcel;
      left = ap (λ o. set items place (end.0, o)) c.take_out.ensures.left ∙ changed_here items c.args.channel place posted_end end c.requires.rising there found c.index_mut.ensures.value;
    }

pub take_out-requires-clause-filled : goal.take_out-requires-clause-filled
take_out-requires-clause-filled g c =
    let items = c.args.ends.now.items in
    let place = c.in-Some.place in
    let there : place < length items = subst (λ xs. place < length xs) c.as_slice.ensures.value c.in-Some.ensures.within in
    each_at IsFilled items place c.index_mut.result.now there c.index_mut.ensures.value c.requires.filled
