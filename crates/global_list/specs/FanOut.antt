-- The mappings of each out-channel.
use Rattle.std.specs.Prelude.{◌≡◌, ℕ, nat_eq, List, [], slice_index_or, filter}
use Rattle.ssf_model.specs.declared.plan.Mapping.{Mapping}

-- the mappings of one out-channel, in their order
abbrev pub mappings_on : ℕ → List Mapping → List Mapping
mappings_on out mappings = filter (λ m. nat_eq m.out_channel out) mappings

-- the list has at each place the mappings of that out-channel
abbrev pub IsByOut : List (List Mapping) → List Mapping → Type 0
IsByOut lists mappings = (out : ℕ) → slice_index_or lists out [] ≡ mappings_on out mappings
