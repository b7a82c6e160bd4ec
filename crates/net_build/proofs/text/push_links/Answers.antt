use Rattle.std.proofs.Common.{◌∙◌}
use Rattle.net_layout.proofs.Numbered.{flat_map_next}
use Rattle.net_build.specs.PlanText.{link_lines}
use Rattle.net_build.proofs.text.push_links.Goals as goal

pub loop-link-preserved : goal.loop-link-preserved
loop-link-preserved c =
    c.in_ok-push_link_lines.ensures ∙ flat_map_next (link_lines c.args.network.now) c.args.out.now.items c.loop-link.out.items c.loop-link.link c.loop-link.invariant
