use Rattle.std.proofs.Common.{◌≡◌, ◌∙◌, List, ◌++◌, ◌∷◌, [], ap}
use Rattle.net_build.specs.PlanText.{host_text}
use Rattle.net_layout.proofs.Numbered.{map_next}
use Rattle.net_plan.proofs.naming.host_names.Goals as goal

pub loop-host-preserved : goal.loop-host-preserved
loop-host-preserved c =
    c.in_ok-push.ensures.items
    ∙ ap (λ name. c.loop-host.names.items ++ name ∷ []) (c.from_vec.ensures ∙ c.in_ok-name.ensures)
    ∙ map_next (host_text c.args.network.now) [] c.loop-host.names.items c.loop-host.host c.loop-host.invariant
