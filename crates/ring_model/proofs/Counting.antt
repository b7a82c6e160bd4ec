-- How the counts of tokens and the draft of a ring grow.
use Rattle.std.proofs.Common.{◌≡◌, ℕ, ◌+◌, ◌<◌, ◌≤◌, ◌^◌, Bool, true, false, cond, nat_eq, List, [], ◌∷◌, ◌++◌, map, length, take, set, get_or, slice_get, Option, Some, None, refl, sym, ap, subst, ◌∙◌, inl, inr, arith, length-take-le, length-set, get_or-set_same, get_or-set_other, add-zero, add-one, zero-add, drop, drop-cons, ltb-true, ltb-false, nat_lt}
use Rattle.std.proofs.lemmas.List.{take_more}
use Rattle.std.proofs.lemmas.List.Sums.{count_by-le-length, sum_by-append}
use Rattle.std.proofs.lemmas.Bool.Decides.{eqb_tells}
use Rattle.std.specs.List.{range_with_len}
use Rattle.std.proofs.lemmas.List.{map-append}
use Rattle.std.proofs.lemmas.List.FromFn.{length-range_with_len, length-map-range_with_len}
use Rattle.std.proofs.lemmas.List.Sums.{sum_by-cons}
use Rattle.ssf_model.specs.declared.builder.BuildFault.{BuildFault}
use Rattle.ssf_model.specs.declared.builder.BuildFault.TheVariants.{TooManyChannels}
use Rattle.ssf_model.specs.declared.builder.DraftEntity.{DraftEntity}
use Rattle.ssf_model.specs.Reaction.{Each}
use Rattle.ssf_model.specs.Deliver.{MostWrites}
use Rattle.ssf_model.proofs.Drafted.{range_suc}
use Rattle.ring_model.specs.Reacting.{IsRing}
use Rattle.ssf_model.specs.Drafts.{Draft, changed_at, changed_to, with_entity, with_in_channel, with_out_channel, with_mapping, mapping_refusal, entity_refusal, IsValidDraft, channels_of, all_timers, timers, MostChannels, add_in, add_out}
use Rattle.ring_model.specs.declared.ring.Ring.{Ring}
use Rattle.ring_model.specs.declared.ring.RingState.{RingState}
use Rattle.ring_model.specs.declared.ring.Hop.{Hop}
use Rattle.ring_model.specs.Rings.{tokens_of, node_of, with_node, free_out, ring_draft, with_hops, hops_refusal, first_of}

tokens_push : (xs : List ℕ) (t n : ℕ) → tokens_of (xs ++ t ∷ []) n ≡ tokens_of xs n + cond (nat_eq t n) 1 0
tokens_push xs t n = sum_by-append (λ (x : ℕ). cond (nat_eq x n) 1 0) xs (t ∷ []) ∙ ap (λ k. tokens_of xs n + k) (zero-add (cond (nat_eq t n) 1 0))

tokens_within : (xs : List ℕ) (i n : ℕ) → i ≤ length xs → tokens_of (take i xs) n ≤ i
tokens_within xs i n h = omega (arith, count_by-le-length (λ (x : ℕ). nat_eq x n) (take i xs), length-take-le i xs h)

-- the counts after one more token
pub counts_next : (nodes i v : ℕ) (xs counts : List ℕ) → i < length xs → get_or xs i 0 < nodes → length counts ≡ nodes →
    ((n : ℕ) → n < nodes → get_or counts n 0 ≡ tokens_of (take i xs) n) → v ≡ get_or counts (get_or xs i 0) 0 →
    (length (set counts (get_or xs i 0) (v + 1)) ≡ nodes) × ((n : ℕ) → n < nodes → get_or (set counts (get_or xs i 0) (v + 1)) n 0 ≡ tokens_of (take (i + 1) xs) n)
counts_next nodes i v xs counts h t l all e =
    let token = get_or xs i 0 in (
      length-set counts token (v + 1) ∙ l,
      λ n within. rw (take_more xs i 0 h, tokens_push (take i xs) token n)
          (elim (eqb_tells token n) [
            | inl same ↦ rw (same.0, ← same.1) (get_or-set_same counts token (v + 1) 0 (omega arith) ∙ ap (λ k. k + 1) (e ∙ all token t))
            | inr other ↦ rw other.0 (get_or-set_other counts token n (v + 1) 0 (λ q. other.1 (sym q)) ∙ (all n within ∙ sym (add-zero (tokens_of (take i xs) n))))
          ]),
    )

-- a count is at most the number of tokens
pub count_fits : (nodes i v : ℕ) (xs counts : List ℕ) → i < length xs → length xs < 2 ^ 32 → get_or xs i 0 < nodes →
    ((n : ℕ) → n < nodes → get_or counts n 0 ≡ tokens_of (take i xs) n) → v ≡ get_or counts (get_or xs i 0) 0 → v + 1 < 2 ^ 32
count_fits nodes i v xs counts h few t all e = omega (arith, all (get_or xs i 0) t, tokens_within xs i (get_or xs i 0) (omega arith))

get_last : {T : Type 0} (xs : List T) (x : T) → slice_get (xs ++ x ∷ []) (length xs) ≡ Some x
get_last [] x = refl
get_last (y ∷ xs) x = get_last xs x

set_last : {T : Type 0} (xs : List T) (x y : T) → set (xs ++ x ∷ []) (length xs) y ≡ xs ++ y ∷ []
set_last [] x y = refl
set_last (z ∷ xs) x y = ap (λ zs. z ∷ zs) (set_last xs x y)

changed_last : {T : Type 0} (f : T → T) (xs : List T) (x : T) → changed_at f (xs ++ x ∷ []) (length xs) ≡ xs ++ f x ∷ []
changed_last f xs x = ap (λ o. changed_to f (xs ++ x ∷ []) (length xs) o) (get_last xs x) ∙ set_last xs x (f x)

pub node_added : (d : Draft Ring RingState) (node tokens : ℕ) → length d.entities ≡ node → length d.in_owners ≡ node → length d.outs ≡ node →
    with_out_channel (with_in_channel (with_entity d (record { node = node; tokens = tokens }) (false ∷ [])) node) node 0 ≡ with_node d (node_of node tokens)
node_added d node tokens e i o =
    let bare : DraftEntity RingState = record { state = record { node = node; tokens = tokens }; timed = false ∷ []; in_channels = []; out_channels = [] } in
    let one : changed_at (add_in (length d.in_owners)) (d.entities ++ bare ∷ []) node ≡ d.entities ++ add_in node bare ∷ [] =
    ap (λ k. changed_at (add_in k) (d.entities ++ bare ∷ []) node) i
    ∙ subst (λ k. changed_at (add_in node) (d.entities ++ bare ∷ []) k ≡ d.entities ++ add_in node bare ∷ []) e (changed_last (add_in node) d.entities bare) in
    let two : changed_at (add_out (length d.outs)) (d.entities ++ add_in node bare ∷ []) node ≡ d.entities ++ node_of node tokens ∷ [] =
    ap (λ k. changed_at (add_out k) (d.entities ++ add_in node bare ∷ []) node) o
    ∙ subst (λ k. changed_at (add_out node) (d.entities ++ add_in node bare ∷ []) k ≡ d.entities ++ node_of node tokens ∷ []) e
    (changed_last (add_out node) d.entities (add_in node bare)) in
    ap (λ (es : List (DraftEntity RingState)). let r : Draft Ring RingState = record d { entities = es; in_owners = d.in_owners ++ node ∷ []; outs = d.outs ++ free_out node ∷ [] } in r)
    (ap (λ es. changed_at (add_out (length d.outs)) es node) one ∙ two)

range_next : (n : ℕ) → range_with_len 0 (n + 1) ≡ range_with_len 0 n ++ n ∷ []
range_next n = rw add-one (range_suc 0 n ∙ ap (λ k. range_with_len 0 n ++ k ∷ []) (zero-add n))

pub ring_next : (ring : Ring) (n : ℕ) (tokens : List ℕ) → with_node (ring_draft ring n tokens) (node_of n (tokens_of tokens n)) ≡ ring_draft ring (n + 1) tokens
unfolding ring_draft
ring_next ring n tokens =
    let f = λ (k : ℕ). node_of k (tokens_of tokens k) in
    rw (range_next n, map-append f (range_with_len 0 n) (n ∷ []), map-append free_out (range_with_len 0 n) (n ∷ [])) refl

pub ring_entities : (ring : Ring) (n : ℕ) (tokens : List ℕ) → length (ring_draft ring n tokens).entities ≡ n
unfolding ring_draft
ring_entities ring n tokens = length-map-range_with_len (λ k. node_of k (tokens_of tokens k)) 0 n

pub ring_ins : (ring : Ring) (n : ℕ) (tokens : List ℕ) → length (ring_draft ring n tokens).in_owners ≡ n
unfolding ring_draft
ring_ins ring n tokens = length-range_with_len 0 n

pub ring_outs : (ring : Ring) (n : ℕ) (tokens : List ℕ) → length (ring_draft ring n tokens).outs ≡ n
unfolding ring_draft
ring_outs ring n tokens = length-map-range_with_len free_out 0 n

pub ring_mappings : (ring : Ring) (n : ℕ) (tokens : List ℕ) → (ring_draft ring n tokens).mappings ≡ []
unfolding ring_draft
ring_mappings ring n tokens = refl

pub ring_empty : (ring : Ring) (tokens : List ℕ) → (let d : Draft Ring RingState = record { behaviour = ring; entities = []; in_owners = []; outs = []; mappings = [] } in d) ≡ ring_draft ring 0 tokens
unfolding ring_draft
ring_empty ring tokens = refl

no_timers : (f : ℕ → ℕ) (ns : List ℕ) → all_timers (map (λ k. node_of k (f k)) ns) ≡ 0
no_timers f [] = refl
no_timers f (n ∷ ns) = sum_by-cons (λ (e : DraftEntity RingState). timers e.timed) (node_of n (f n)) (map (λ k. node_of k (f k)) ns)
    ∙ (zero-add (all_timers (map (λ k. node_of k (f k)) ns)) ∙ no_timers f ns)

ring_channels : (ring : Ring) (n : ℕ) (tokens : List ℕ) → channels_of (ring_draft ring n tokens) ≡ n
unfolding ring_draft
ring_channels ring n tokens = omega (arith, length-map-range_with_len (λ k. node_of k (tokens_of tokens k)) 0 n, no_timers (tokens_of tokens) (range_with_len 0 n))

refused : (t : Bool) (fault : BuildFault) → cond t (Some TooManyChannels) None ≡ Some fault → (fault ≡ TooManyChannels) × (t ≡ true)
refused t fault = elim t as (λ v. cond v (Some TooManyChannels) None ≡ Some fault → (fault ≡ TooManyChannels) × (v ≡ true)) [ true ↦ (λ e. (cc, refl)) | false ↦ (λ e. cc) ]

granted : (t : Bool) → (let o : Option BuildFault = cond t (Some TooManyChannels) None in o) ≡ None → t ≡ false
granted t = elim t as (λ v. (let o : Option BuildFault = cond v (Some TooManyChannels) None in o) ≡ None → v ≡ false) [ true ↦ (λ e. cc) | false ↦ (λ e. refl) ]

-- one more node has no room exactly where the nodes are as many as channels may be
pub no_room : (ring : Ring) (n : ℕ) (tokens : List ℕ) (fault : BuildFault) → entity_refusal (ring_draft ring n tokens) (false ∷ []) ≡ Some fault →
    (fault ≡ TooManyChannels) × (MostChannels < n + 1)
no_room ring n tokens fault e =
    let d = ring_draft ring n tokens in
    let r = refused (nat_lt MostChannels (channels_of d + (1 + timers (false ∷ [])))) fault e in
    (r.0, omega (arith, ltb-true MostChannels (channels_of d + (1 + timers (false ∷ []))) r.1, ring_channels ring n tokens))

pub has_room : (ring : Ring) (n : ℕ) (tokens : List ℕ) → entity_refusal (ring_draft ring n tokens) (false ∷ []) ≡ None → n + 1 ≤ MostChannels
has_room ring n tokens e =
    let d = ring_draft ring n tokens in
    let r = granted (nat_lt MostChannels (channels_of d + (1 + timers (false ∷ [])))) e in
    omega (arith, ltb-false MostChannels (channels_of d + (1 + timers (false ∷ []))) r, ring_channels ring n tokens)

-- the hops from number i on do for the draft so far what all do for the first
pub record HopsLeft (first d : Draft Ring RingState) (hops : List Hop) (i : ℕ) : Type 0 where
  pub refusal : hops_refusal first hops ≡ hops_refusal d (drop i hops)
  pub draft : with_hops first hops ≡ with_hops d (drop i hops)

pub hops_next : (first d next : Draft Ring RingState) (hops : List Hop) (i : ℕ) (z : Hop) → i < length hops → HopsLeft first d hops i →
    mapping_refusal d (get_or hops i z).from (get_or hops i z).to (get_or hops i z).delay ≡ None →
    next ≡ with_mapping d (get_or hops i z).from (get_or hops i z).to (get_or hops i z).delay (get_or hops i z).priority → HopsLeft first next hops (i + 1)
hops_next first d next hops i z h left none is =
    let hop = get_or hops i z in
    let c : drop i hops ≡ hop ∷ drop (i + 1) hops = rw add-one (drop-cons hops i z h) in
    record {
      refusal = left.refusal ∙ (ap (λ hs. hops_refusal d hs) c ∙ (rw (none, is) refl));
      draft = left.draft ∙ (ap (λ hs. with_hops d hs) c ∙ rw is refl);
    }

pub hop_refused : (first d : Draft Ring RingState) (hops : List Hop) (i : ℕ) (z : Hop) (fault : BuildFault) → i < length hops → HopsLeft first d hops i →
    mapping_refusal d (get_or hops i z).from (get_or hops i z).to (get_or hops i z).delay ≡ Some fault → hops_refusal first hops ≡ Some fault
hop_refused first d hops i z fault h left some =
    let hop = get_or hops i z in
    let c : drop i hops ≡ hop ∷ drop (i + 1) hops = rw add-one (drop-cons hops i z h) in
    left.refusal ∙ (ap (λ hs. hops_refusal d hs) c ∙ ap (λ o. first_of o (hops_refusal (with_mapping d hop.from hop.to hop.delay hop.priority) (drop (i + 1) hops))) some)

hops_keep : (d : Draft Ring RingState) (hops : List Hop) → (with_hops d hops).entities ≡ d.entities
hops_keep d [] = refl
hops_keep d (hop ∷ hops) = hops_keep (with_mapping d hop.from hop.to hop.delay hop.priority) hops

valid_nodes : (tokens ns : List ℕ) → length tokens ≤ MostWrites → Each (IsValidDraft IsRing) (map (λ n. node_of n (tokens_of tokens n)) ns)
valid_nodes tokens [] few = tt
valid_nodes tokens (n ∷ ns) few = (
  record { in_channel = refl; out_channel = refl; untimed = refl; patient = refl; few = omega (arith, count_by-le-length (λ (t : ℕ). nat_eq t n) tokens) },
  valid_nodes tokens ns few,
)

pub ring_valid : (ring : Ring) (n : ℕ) (tokens : List ℕ) (hops : List Hop) (d : Draft Ring RingState) → length tokens ≤ MostWrites →
    d ≡ with_hops (ring_draft ring n tokens) hops → Each (IsValidDraft IsRing) d.entities
unfolding ring_draft
ring_valid ring n tokens hops d few e =
    rw (ap (λ (x : Draft Ring RingState). x.entities) e ∙ hops_keep (ring_draft ring n tokens) hops) (valid_nodes tokens (range_with_len 0 n) few)
