-- Worked rings, computed from the definitions.
use Rattle.std.proofs.Common.{◌≡◌, ℕ, List, [], ◌∷◌, map, refl, Some}
use Rattle.event_order.specs.declared.key.Key.{Key}
use Rattle.event_order.specs.Order.{comes_before}
use Rattle.event_order.specs.Machine.{all_kept}
use Rattle.ssf_model.specs.declared.plan.Plan.{Plan}
use Rattle.ssf_model.specs.declared.event.Event.{Event}
use Rattle.ssf_model.specs.declared.builder.BuildFault.TheVariants.{DelayTooLong}
use Rattle.ssf_model.specs.Drafts.{planned}
use Rattle.ssf_model.specs.Run.{machine_of, run_events}
use Rattle.ring_model.specs.declared.ring.Ring.{Ring}
use Rattle.ring_model.specs.declared.ring.RingState.{RingState}
use Rattle.ring_model.specs.declared.ring.RingPayload.{RingPayload}
use Rattle.ring_model.specs.declared.ring.Hop.{Hop}
use Rattle.ring_model.specs.Reacting.{ring_reaction}
use Rattle.ring_model.specs.Rings.{ring_draft, with_hops, ring_refusal}

hop : ℕ → ℕ → ℕ → ℕ → Hop
hop from to delay priority = record { from = from; to = to; delay = delay; priority = priority }

key : ℕ → ℕ → ℕ → ℕ → ℕ → Key
key time round priority channel number = record { time = time; round = round; priority = priority; channel = channel; number = number }

-- the keys of the first events of a ring's run
keys : ℕ → List ℕ → List Hop → ℕ → ℕ → List Key
keys nodes tokens hops until n = let plan : Plan Ring RingState RingPayload = planned (with_hops (ring_draft (record {}) nodes tokens) hops) in
    map (λ (e : Event RingPayload). e.key) (run_events ring_reaction plan until all_kept n)

one_token_between_two_nodes : keys 2 (0 ∷ []) (hop 0 1 5 0 ∷ hop 1 0 3 0 ∷ []) 10 6 ≡
    key 0 0 0 0 0 ∷ key 0 0 0 1 0 ∷ key 5 0 0 2 0 ∷ key 8 0 0 3 0 ∷ []
unfolding machine_of comes_before planned ring_draft hop key keys
one_token_between_two_nodes = refl

a_shorter_run : keys 2 (0 ∷ []) (hop 0 1 5 0 ∷ hop 1 0 3 0 ∷ []) 7 6 ≡ key 0 0 0 0 0 ∷ key 0 0 0 1 0 ∷ key 5 0 0 2 0 ∷ []
unfolding machine_of comes_before planned ring_draft hop key keys
a_shorter_run = refl

a_hop_without_delay : keys 2 (0 ∷ []) (hop 0 1 0 0 ∷ hop 1 0 7 0 ∷ []) 10 7 ≡
    key 0 0 0 0 0 ∷ key 0 0 0 1 0 ∷ key 0 1 0 2 0 ∷ key 7 0 0 3 0 ∷ key 7 1 0 2 1 ∷ []
unfolding machine_of comes_before planned ring_draft hop key keys
a_hop_without_delay = refl

channels_break_a_tie : keys 3 (0 ∷ 1 ∷ []) (hop 0 2 4 0 ∷ hop 1 2 4 0 ∷ []) 5 7 ≡
    key 0 0 0 0 0 ∷ key 0 0 0 1 0 ∷ key 0 0 0 2 0 ∷ key 4 0 0 3 0 ∷ key 4 0 0 4 0 ∷ []
unfolding machine_of comes_before planned ring_draft hop key keys
channels_break_a_tie = refl

priorities_come_before_channels : keys 3 (0 ∷ 1 ∷ []) (hop 0 2 4 7 ∷ hop 1 2 4 0 ∷ []) 5 7 ≡
    key 0 0 0 0 0 ∷ key 0 0 0 1 0 ∷ key 0 0 0 2 0 ∷ key 4 0 0 4 0 ∷ key 4 0 7 3 0 ∷ []
unfolding machine_of comes_before planned ring_draft hop key keys
priorities_come_before_channels = refl

a_round_without_end : keys 1 (0 ∷ []) (hop 0 0 0 0 ∷ []) 10 5 ≡
    key 0 0 0 0 0 ∷ key 0 1 0 1 0 ∷ key 0 2 0 1 1 ∷ key 0 3 0 1 2 ∷ key 0 4 0 1 3 ∷ []
unfolding machine_of comes_before planned ring_draft hop key keys
a_round_without_end = refl

a_long_hop_is_refused : ring_refusal (record {}) 2 [] (hop 0 1 1000000000000001 0 ∷ []) ≡ Some DelayTooLong
unfolding ring_draft hop
a_long_hop_is_refused = refl
