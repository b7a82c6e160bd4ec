use Rattle.std.proofs.Common.{◌≡◌, ◌≤◌, ◌-◌, [], length, map, drop}
use Rattle.std.specs.Prelude.{slice_range}
use Rattle.dml_resolve.specs.Resolving.{components_from}
use Rattle.dml_resolve.proofs.PathParts.{after}
use Rattle.dml_resolve.proofs.paths.components.Given as goal

abbrev pub invariant-loop-at : goal.invariant-loop-at
invariant-loop-at l = record {
  ordered : l.from ≤ l.at;
  within : l.at ≤ length l.text;
  same : after (map (λ component. component.now) l.found.items) (components_from (slice_range l.text l.from l.at) (drop l.at l.text)) ≡ components_from [] (drop 1 l.text);
}

abbrev pub decreases-loop-at : goal.decreases-loop-at
decreases-loop-at l = length l.text - l.at
