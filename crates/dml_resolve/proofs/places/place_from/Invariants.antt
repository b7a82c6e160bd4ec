use Rattle.std.proofs.Common.{◌≡◌, length, ◌-◌, drop}
use Rattle.std.specs.List.{position_from}
use Rattle.dml_resolve.specs.Places.{has_key}
use Rattle.dml_resolve.proofs.places.place_from.Given as goal

abbrev pub invariant-loop-at : goal.invariant-loop-at
invariant-loop-at l = position_from (has_key l.key) l.at (drop l.at l.attributes) ≡ position_from (has_key l.key) l.initial.at (drop l.initial.at l.attributes)

abbrev pub decreases-loop-at : goal.decreases-loop-at
decreases-loop-at l = length l.attributes - l.at
