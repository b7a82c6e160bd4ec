use Rattle.std.proofs.Common.{◌∙◌}
use Rattle.net_layout.proofs.Numbered.{flat_map_next}
use Rattle.net_build.specs.PlanText.{interface_line}
use Rattle.net_build.proofs.text.push_interfaces.Goals as goal

pub loop-interface-preserved : goal.loop-interface-preserved
loop-interface-preserved c =
    c.in_ok-push_interface.ensures ∙ flat_map_next (interface_line c.args.network.now) c.args.out.now.items c.loop-interface.out.items c.loop-interface.interface c.loop-interface.invariant
