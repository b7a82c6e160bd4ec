use Rattle.std.proofs.Common.{◌<◌, ◌∙◌, ap, set, length, rules}
use Rattle.std.proofs.lemmas.List.Edits.{map_over_more}
use Rattle.timeline.specs.Moving.{without}
use Rattle.sync_core.proofs.Lists.{read_among, rest_read}
use Rattle.sync_core.proofs.core_parts.give_up_below.Goals as goal

pub give_up-requires-after_bounds : goal.give_up-requires-after_bounds
give_up-requires-after_bounds g c κs within =
    let old = c.args.timelines.now.items in
    let there : c.loop-place.place < length old = search rules in
    let read = rest_read (without c.args.below) old c.loop-place.timelines.items c.loop-place.place c.index_mut.result.now c.loop-place.invariant c.index_mut.ensures.value in
    c.requires.bound c.index_mut.result.now (read_among old c.loop-place.place c.index_mut.result.now there read)

pub loop-place-preserved : goal.loop-place-preserved
loop-place-preserved g c =
    let old = c.args.timelines.now.items in
    let there : c.loop-place.place < length old = search rules in
    ap (λ t. set c.loop-place.timelines.items c.loop-place.place t) c.give_up.ensures
    ∙ map_over_more (without c.args.below) old c.loop-place.timelines.items c.loop-place.place c.index_mut.result.now there c.loop-place.invariant c.index_mut.ensures.value
