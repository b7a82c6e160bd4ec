-- Each entity of a ring's plan has a name.
use Rattle.std.proofs.Common.{ℕ, ◌≡◌, ◌∙◌, sym, ap, List, length, map, decimal}
use Rattle.std.specs.List.{range_with_len}
use Rattle.std.proofs.lemmas.List.{length-map}
use Rattle.std.proofs.lemmas.List.FromFn.{length-range_with_len}
use Rattle.ssf_model.specs.declared.plan.Plan.{Plan}
use Rattle.ssf_model.specs.Drafts.{Draft, planned}
use Rattle.ring_model.specs.declared.ring.Ring.{Ring}
use Rattle.ring_model.specs.declared.ring.RingState.{RingState}
use Rattle.ring_model.specs.declared.ring.RingPayload.{RingPayload}
use Rattle.ring_model.specs.declared.ring.Hop.{Hop}
use Rattle.ring_model.specs.Rings.{ring_draft, with_hops}
use Rattle.ring_model.proofs.Sizes.{ring_entities}

pub ring_named : (ring : Ring) (nodes : ℕ) (tokens : List ℕ) (hops : List Hop) (builder : Draft Ring RingState) (plan : Plan Ring RingState RingPayload) (names : List (List ℕ))
    → builder ≡ with_hops (ring_draft ring nodes tokens) hops → plan ≡ planned builder → names ≡ map decimal (range_with_len 0 nodes)
    → length names ≡ length plan.entities
ring_named ring nodes tokens hops builder plan names made finished named =
    ap length named ∙ (length-map (range_with_len 0 nodes) decimal ∙ (length-range_with_len 0 nodes
    ∙ (sym (ring_entities ring nodes tokens hops)
    ∙ (sym (ap (λ (d : Draft Ring RingState). length (planned {P = RingPayload} d).entities) made)
    ∙ sym (ap (λ (p : Plan Ring RingState RingPayload). length p.entities) finished)))))
