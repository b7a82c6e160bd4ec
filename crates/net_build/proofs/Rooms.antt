-- A ring whose hops are in range and whose delays are short is refused only where there are too many nodes and hops.
use Rattle.std.proofs.Common.{◌≡◌, ℕ, zero, suc, ◌+◌, ◌<◌, ◌≤◌, Bool, true, false, cond, ◌||◌, nat_lt, nat_le, List, [], ◌∷◌, map, length, Option, Some, None, refl, arith, ap, ◌∙◌, length-append}
use Rattle.std.specs.List.{All, list_any, range_with_len, slice_index_or}
use Rattle.std.proofs.lemmas.Bool.Decides.{nat_tests}
use Rattle.std.proofs.lemmas.List.FromFn.{length-range_with_len}
use Rattle.ssf_model.specs.declared.builder.BuildFault.{BuildFault}
use Rattle.ssf_model.specs.declared.builder.BuildFault.TheVariants.{TooManyChannels}
use Rattle.ssf_model.specs.Reaction.{LongestDelay}
use Rattle.ssf_model.specs.Drafts.{Draft, MostChannels, channels_of, all_timers, out_at, mapping_refusal, with_mapping}
use Rattle.ring_model.specs.declared.ring.Ring.{Ring}
use Rattle.ring_model.specs.declared.ring.RingState.{RingState}
use Rattle.ring_model.specs.declared.ring.Hop.{Hop}
use Rattle.net_build.specs.RingModel.{is_long}
use Rattle.ring_model.specs.Rings.{ring_draft, hops_refusal, ring_refusal, first_of, free_out, node_of, tokens_of}

-- the ends of a hop are nodes
abbrev pub IsWithin : ℕ → Hop → Type 0
IsWithin nodes h = (h.from < nodes) × (h.to < nodes)

-- a draft with one in-channel and one out-channel of delay 0 for each node
record IsFree (d : Draft Ring RingState) (nodes : ℕ) : Type 0 where
  outs : length d.outs ≡ nodes
  ins : length d.in_owners ≡ nodes
  free : (k : ℕ) → (out_at d k).delay ≡ 0

mapping_fits : (d : Draft Ring RingState) (nodes : ℕ) (h : Hop) → IsFree d nodes → IsWithin nodes h → is_long h ≡ false →
    mapping_refusal d h.from h.to h.delay ≡ cond (nat_le MostChannels (channels_of d)) (Some TooManyChannels) None
mapping_fits d nodes h free within short =
    let from : nat_le (length d.outs) h.from ≡ false = grind (arith, nat_tests, free.outs, within.0) in
    let to : nat_le (length d.in_owners) h.to ≡ false = grind (arith, nat_tests, free.ins, within.1) in
    let delay : nat_lt LongestDelay ((out_at d h.from).delay + h.delay) ≡ false = rw (free.free h.from) (grind (arith, nat_tests, short)) in
    rw (from, to, delay) refl

one_more : (d : Draft Ring RingState) (h : Hop) → channels_of (with_mapping d h.from h.to h.delay h.priority) ≡ channels_of d + 1
one_more d h = grind (arith, length-append)

either : (a b : Bool) → a || b ≡ false → (a ≡ false) × (b ≡ false)
either true b e = cc
either false b e = (refl, e)

first_room : (full : Bool) (n m : ℕ) (rest : Option BuildFault) → nat_le MostChannels n ≡ full → n ≤ MostChannels → (n + 1 ≤ MostChannels → rest ≡ cond (nat_lt MostChannels (n + 1 + m)) (Some TooManyChannels) None) →
    first_of (cond full (Some TooManyChannels) None) rest ≡ cond (nat_lt MostChannels (n + suc m)) (Some TooManyChannels) None
first_room true n m rest e le h = grind (arith, nat_tests)
first_room false n m rest e le h = h (grind (arith, nat_tests)) ∙ grind (arith, nat_tests)

hops_room : (hops : List Hop) (d : Draft Ring RingState) (nodes : ℕ) → IsFree d nodes → All (IsWithin nodes) hops → list_any is_long hops ≡ false → channels_of d ≤ MostChannels →
    hops_refusal d hops ≡ cond (nat_lt MostChannels (channels_of d + length hops)) (Some TooManyChannels) None
hops_room [] d nodes free within short room = grind (arith, nat_tests)
hops_room (h ∷ hops) d nodes free within short room =
    let s = either (is_long h) (list_any is_long hops) short in
    ap (λ r. first_of r (hops_refusal (with_mapping d h.from h.to h.delay h.priority) hops)) (mapping_fits d nodes h free (within 0 h (omega arith)) s.0)
    ∙ first_room (nat_le MostChannels (channels_of d)) (channels_of d) (length hops) (hops_refusal (with_mapping d h.from h.to h.delay h.priority) hops) refl room
    (λ le. hops_room hops (with_mapping d h.from h.to h.delay h.priority) nodes (record { outs = free.outs; ins = free.ins; free = free.free }) (λ k e lt. within (suc k) e (omega arith)) s.1 (omega (arith, one_more d h))
    ∙ ap (λ (n : ℕ). cond (nat_lt MostChannels (n + length hops)) (Some TooManyChannels) None) (one_more d h))

length-map : {A B : Type 0} (f : A → B) (xs : List A) → length (map f xs) ≡ length xs
length-map f [] = refl
length-map f (x ∷ xs) = ap suc (length-map f xs)

length-range : (first n : ℕ) → length (range_with_len first n) ≡ n
length-range first n = length-range_with_len first n

no_delay : (xs : List ℕ) (k : ℕ) → (slice_index_or (map free_out xs) k (record { entity = 0; delay = 0 })).delay ≡ 0
no_delay [] k = refl
no_delay (x ∷ xs) zero = refl
no_delay (x ∷ xs) (suc k) = no_delay xs k

no_timers : (tokens : List ℕ) (xs : List ℕ) → all_timers (map (λ n. node_of n (tokens_of tokens n)) xs) ≡ 0
no_timers tokens [] = refl
no_timers tokens (x ∷ xs) = no_timers tokens xs

draft_free : (ring : Ring) (nodes : ℕ) (tokens : List ℕ) → IsFree (ring_draft ring nodes tokens) nodes
unfolding ring_draft
draft_free ring nodes tokens = record {
  outs = length-map free_out (range_with_len 0 nodes) ∙ length-range 0 nodes;
  ins = length-range 0 nodes;
  free = no_delay (range_with_len 0 nodes);
}

draft_channels : (ring : Ring) (nodes : ℕ) (tokens : List ℕ) → channels_of (ring_draft ring nodes tokens) ≡ nodes
unfolding ring_draft
draft_channels ring nodes tokens =
    omega (arith, length-map (λ n. node_of n (tokens_of tokens n)) (range_with_len 0 nodes), length-range 0 nodes, no_timers tokens (range_with_len 0 nodes))

pub ring_room : (ring : Ring) (nodes : ℕ) (tokens : List ℕ) (hops : List Hop) → nodes ≤ MostChannels → All (IsWithin nodes) hops → list_any is_long hops ≡ false →
    ring_refusal ring nodes tokens hops ≡ cond (nat_lt MostChannels (nodes + length hops)) (Some TooManyChannels) None
ring_room ring nodes tokens hops few within short =
    let fits : nat_lt MostChannels nodes ≡ false = grind (arith, nat_tests) in
    rw fits (hops_room hops (ring_draft ring nodes tokens) nodes (draft_free ring nodes tokens) within short (omega (arith, draft_channels ring nodes tokens))
    ∙ ap (λ (n : ℕ). cond (nat_lt MostChannels (n + length hops)) (Some TooManyChannels) None) (draft_channels ring nodes tokens))
