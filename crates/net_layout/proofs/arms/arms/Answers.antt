use Rattle.std.proofs.Common.{◌∙◌, []}
use Rattle.net_layout.specs.Arms.{arm_of}
use Rattle.net_layout.proofs.Numbered.{flat_map_next}
use Rattle.net_layout.proofs.arms.arms.Goals as goal

pub loop-interface-preserved : goal.loop-interface-preserved
loop-interface-preserved c =
    c.in_ok-push_arm.ensures
    ∙ flat_map_next (arm_of c.args.network.now c.args.tick) [] c.loop-interface.arms.items c.loop-interface.interface c.loop-interface.invariant
