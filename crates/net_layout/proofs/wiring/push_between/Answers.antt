use Rattle.std.proofs.Common.{◌+◌, ◌++◌, map, ap, slice_index, ◌∙◌}
use Rattle.std.proofs.lemmas.List.{take_rest}
use Rattle.net_layout.specs.Wiring.{link_wire, wires_from}
use Rattle.net_layout.proofs.Numbered.{flat_map_next}
use Rattle.net_layout.proofs.Joining.{remove_parts}
use Rattle.net_layout.proofs.wiring.push_between.Goals as goal

pub loop-place-preserved : goal.loop-place-preserved
loop-place-preserved c =
    let from = link_wire c.args.network.now c.args.link (slice_index c.args.attached.now c.loop-place.place) in
    remove_parts from c.loop-place.wires.items c.push_wires.new.wires.items c.push_wires-in-loop-place.new.wires.items c.args.attached.now c.loop-place.place
    c.in_ok-push_wires.ensures
    (c.in_ok-push_wires-2.ensures ∙ ap (λ ys. c.push_wires.new.wires.items ++ map from ys) (take_rest c.args.attached.now (c.loop-place.place + 1)))
    ∙ flat_map_next (wires_from c.args.network.now c.args.link c.args.attached.now) c.args.wires.now.items c.loop-place.wires.items c.loop-place.place c.loop-place.invariant
