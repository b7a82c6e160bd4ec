-- When there is no plan of a ring.
use Rattle.std.specs.Prelude.{ℕ, ◌≡◌, ◌<◌, ◌≤◌, ◌⊎◌, List, length, Some}
use Rattle.std.specs.List.{All}
use Rattle.ssf_model.specs.Deliver.{MostWrites}
use Rattle.ssf_model.specs.declared.builder.BuildFault.TheVariants.{Memory}
use Rattle.ring_model.specs.declared.ring.Hop.{Hop}
use Rattle.ring_model.specs.Rings.{ring_refusal}
use Rattle.list_examples.specs.declared.rings.RingFault.{RingFault}
use Rattle.list_examples.specs.declared.rings.RingFault.TheVariants.{TooManyTokens, UnknownNode, Refused}

-- all tokens and both ends of all hops are among so many nodes
abbrev pub AreKnown : ℕ → List ℕ → List Hop → Type 0
AreKnown nodes tokens hops = All (λ t. t < nodes) tokens × All (λ (h : Hop). (h.from < nodes) × (h.to < nodes)) hops

-- when each fault comes: a fault that is listed later only where those before it do not. For want of memory a ring may
-- be refused that has a plan
abbrev pub IsCause : ℕ → List ℕ → List Hop → RingFault → Type 0
IsCause nodes tokens hops TooManyTokens = MostWrites < length tokens
IsCause nodes tokens hops UnknownNode = (length tokens ≤ MostWrites) × (AreKnown nodes tokens hops → ⊥)
IsCause nodes tokens hops (Refused fault) = (length tokens ≤ MostWrites) × AreKnown nodes tokens hops × ((fault ≡ Memory) ⊎ (ring_refusal (record {}) nodes tokens hops ≡ Some fault))
