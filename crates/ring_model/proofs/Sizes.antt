-- How many entities the plan of a ring has.
use Rattle.std.proofs.Common.{ℕ, ◌≡◌, ◌∙◌, ap, refl, List, [], ◌∷◌, length}
use Rattle.std.specs.List.{range_with_len}
use Rattle.std.proofs.lemmas.List.{length-map}
use Rattle.std.proofs.lemmas.List.FromFn.{length-range_with_len}
use Rattle.ssf_model.specs.Drafts.{Draft, with_mapping, planned}
use Rattle.ssf_model.proofs.Fitted.{length_entities}
use Rattle.ring_model.specs.declared.ring.Ring.{Ring}
use Rattle.ring_model.specs.declared.ring.RingState.{RingState}
use Rattle.ring_model.specs.declared.ring.RingPayload.{RingPayload}
use Rattle.ring_model.specs.declared.ring.Hop.{Hop}
use Rattle.ring_model.specs.Rings.{ring_draft, with_hops, node_of, tokens_of}

same_entities : (d : Draft Ring RingState) (hops : List Hop) → (with_hops d hops).entities ≡ d.entities
same_entities d [] = refl
same_entities d (hop ∷ hops) = same_entities (with_mapping d hop.from hop.to hop.delay hop.priority) hops

pub ring_entities : (ring : Ring) (nodes : ℕ) (tokens : List ℕ) (hops : List Hop) → length (planned {P = RingPayload} (with_hops (ring_draft ring nodes tokens) hops)).entities ≡ nodes
unfolding planned ring_draft
ring_entities ring nodes tokens hops =
    length_entities Ring RingState RingPayload _ (with_hops (ring_draft ring nodes tokens) hops).entities
    ∙ (ap length (same_entities (ring_draft ring nodes tokens) hops) ∙ (length-map (range_with_len 0 nodes) (λ i. node_of i (tokens_of tokens i)) ∙ length-range_with_len 0 nodes))
