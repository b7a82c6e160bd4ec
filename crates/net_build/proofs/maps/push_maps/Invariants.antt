use Rattle.std.proofs.Common.{◌≡◌, ◌++◌, take}
use Rattle.std.specs.List.{flat_map}
use Rattle.ssf_model.specs.declared.plan.Mapping.{Mapping}
use Rattle.net_build.specs.PlanText.{map_line, name_of}
use Rattle.net_build.proofs.maps.push_maps.Given as goal

abbrev pub invariant-loop-mapping : goal.invariant-loop-mapping
invariant-loop-mapping l = l.out.items ≡ l.fn.out.items ++ flat_map (λ (m : Mapping). map_line (name_of l.names m.from) (name_of l.names m.to) m) (take l.mapping-index l.mappings)
