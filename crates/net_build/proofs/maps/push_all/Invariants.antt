use Rattle.std.proofs.Common.{◌≡◌, ◌++◌, take}
use Rattle.std.specs.List.{flat_map}
use Rattle.net_build.specs.PlanText.{mapping_line}
use Rattle.net_build.proofs.maps.push_all.Given as goal

abbrev pub invariant-loop-mapping : goal.invariant-loop-mapping
invariant-loop-mapping l = l.out.items ≡ l.fn.out.items ++ flat_map (mapping_line l.network) (take l.mapping-index l.mappings)
