use Rattle.std.proofs.Common.{◌∙◌, ap, sym, map}
use Rattle.timeline_parts.specs.Parts.{channel_of}
use Rattle.sync_steps.proofs.Allowed.{taken_by_mappings, places_numbers}
use Rattle.sync_steps.proofs.between.has_taken.Goals as goal

pub has_taken_from-requires-after_bounds : goal.has_taken_from-requires-after_bounds
has_taken_from-requires-after_bounds g c κs within =
    places_numbers c.args.timeline.now.in_ends c.args.timeline.now.ins c.requires.ins ∙ ap (map channel_of) (sym c.ins.ensures)

pub returns : goal.returns
returns g c =
    c.has_taken_from.ensures ∙ taken_by_mappings c.args.timeline.now.in_ends c.ins.result.now c.args.timeline.now.ins c.args.counts.now c.keeps_order.ensures.in_ends c.requires.ins c.ins.ensures
