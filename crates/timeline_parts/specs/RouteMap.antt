-- Mappings that stand in a map under their out-channels: those of one out-channel.
use Rattle.std.specs.Prelude.{ℕ, List, [], Option, unwrap_or}
use Rattle.std.specs.Ordering.{nat_cmp}
use Rattle.std.specs.BTreeMap.{BTreeMap, get}
use Rattle.ssf_model.specs.declared.plan.Mapping.{Mapping}

abbrev pub route : BTreeMap ℕ (List Mapping) → ℕ → List Mapping
route by_out out = unwrap_or (get nat_cmp by_out out) []
