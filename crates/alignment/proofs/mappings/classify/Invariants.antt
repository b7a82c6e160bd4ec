use Rattle.std.proofs.Common.{◌≡◌, map, take}
use Rattle.alignment.specs.Classes.{class_of, least_windowed}
use Rattle.alignment.proofs.mappings.classify.Given as goal

abbrev pub invariant-loop-mapping : goal.invariant-loop-mapping
invariant-loop-mapping g l = record {
  classes : l.classes.items ≡ map (class_of l.alignment l.threshold) (take l.mapping-index l.plan.mappings);
  least : l.least_windowed ≡ least_windowed l.alignment l.threshold (take l.mapping-index l.plan.mappings);
}
