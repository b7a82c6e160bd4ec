use Rattle.std.proofs.Common.{◌∷◌, ◌++◌, [], ap, ◌∙◌}
use Rattle.net_layout.specs.declared.wiring.Wire.{Wire}
use Rattle.net_layout.specs.Wiring.{poke_wire}
use Rattle.net_layout.proofs.Numbered.{map_next}
use Rattle.net_layout.proofs.wiring.push_pokes.Goals as goal

pub loop-number-preserved : goal.loop-number-preserved
loop-number-preserved c =
    c.in_ok-push.ensures.items
    ∙ ap (λ (w : Wire). c.loop-number.wires.items ++ w ∷ []) c.own_poke.ensures
    ∙ map_next (poke_wire c.args.network.now) c.args.wires.now.items c.loop-number.wires.items c.loop-number.number c.loop-number.invariant
