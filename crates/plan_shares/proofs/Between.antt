-- The mappings of a share from and to other timelines are the channels between the timelines of the plan, and the lookahead
-- is the least delay of the windowed ones.
use Rattle.std.proofs.Common.{◌≡◌, ℕ, ◌+◌, ◌&&◌, Bool, true, false, nat_eq, nat_lt, List, [], ◌∷◌, map, Option, Some, None, refl, sym, ap, ◌∙◌, inl, inr, arith, eqb-true, eq-eqb}
use Rattle.std.specs.List.{filter, fold, enumerate_from}
use Rattle.event_order.specs.Pending.{Among}
use Rattle.event_order.proofs.Pending.{test_cases, among_filter, filter_among}
use Rattle.ssf_model.specs.declared.plan.Mapping.{Mapping}
use Rattle.ssf_model.specs.declared.plan.Plan.{Plan}
use Rattle.ssf_model.specs.Run.{IsWired}
use Rattle.ssf_model.specs.Truth.{lesser}
use Rattle.ssf_model.proofs.Lists.{different}
use Rattle.run_health.proofs.Writers.{one_mapping}
use Rattle.sync_rules.specs.Bounds.{IsInto, IsOutOf}
use Rattle.sync_facts.specs.Nets.{at_mapping, crosses, net_of, is_appointed, least_windowed as least_by}
use Rattle.alignment.specs.Alignment.{line_of}
use Rattle.alignment.specs.Classes.{is_cross, is_windowed, least_windowed}
use Rattle.timeline_parts.specs.declared.part.Cross.{Cross}
use Rattle.timeline_parts.specs.Parts.{channel_of}
use Rattle.plan_shares.specs.Shares.{is_on, cross_of, crosses_of, into, out_of, share_of}
use Rattle.plan_shares.specs.Laws.{IsOn, IsPartIn}
use Rattle.plan_shares.proofs.Crossing.{cross_is}

-- ---- the mapping on a channel

at_own : {T : Type 0} (ms : List Mapping) (m : Mapping) (none : T) (tell : Mapping → T) → ((k : Mapping) → Among k ms → k.channel ≡ m.channel → k ≡ m) → Among m ms → at_mapping ms m.channel none tell ≡ tell m
at_own [] m none tell one a = absurd a
at_own (k ∷ ms) m none tell one a = elim (test_cases (nat_eq k.channel m.channel)) [
  | inl t ↦ rw t (ap tell (one k (inl refl) (eqb-true k.channel m.channel t)))
  | inr f ↦ rw f (elim (let b : Among m (k ∷ ms) = a in b) [
    | inl same ↦ absurd (different k.channel m.channel f (ap (λ (x : Mapping). x.channel) (sym same)))
    | inr rest ↦ at_own ms m none tell (λ j b. one j (inr b)) rest
  ])
]

at_some : (ms : List Mapping) (c : ℕ) (tell : Mapping → Bool) → at_mapping ms c false tell ≡ true → (m : Mapping) × Among m ms × (m.channel ≡ c)
at_some [] c tell h = absurd (cc)
at_some (m ∷ ms) c tell h = elim (test_cases (nat_eq m.channel c)) [
  | inl t ↦ (m, inl refl, eqb-true m.channel c t)
  | inr f ↦ (let rest = at_some ms c tell (rw f at h) in (rest.0, inr rest.1, rest.2))
]

numbered_among : (threshold n : ℕ) (ms : List Mapping) (m : Mapping) → Among m ms → (place : ℕ) × Among (cross_of threshold (place, m)) (map (cross_of threshold) (enumerate_from n ms))
numbered_among threshold n [] m a = absurd a
numbered_among threshold n (k ∷ ms) m (inl e) = (n, inl (ap (λ x. cross_of threshold (n, x)) e))
numbered_among threshold n (k ∷ ms) m (inr a) = let rest = numbered_among threshold (n + 1) ms m a in (rest.0, inr rest.1)

-- ---- the channels between timelines

module _ {B S P : Type 0} (plan : Plan B S P) (wired : IsWired plan) (lines : List ℕ) (threshold : ℕ) where
  tells : {T : Type 0} (m : Mapping) → Among m plan.mappings → (none : T) (tell : Mapping → T) → at_mapping plan.mappings m.channel none tell ≡ tell m
  tells m a none tell = at_own plan.mappings m none tell (λ k b same. one_mapping plan wired k m b a same) a

  appointed_as : (m : Mapping) → is_cross lines m ≡ true → is_appointed (line_of lines) threshold m ≡ nat_lt m.delay threshold
  appointed_as m cross = ap (λ b. b && nat_lt m.delay threshold) cross

  -- a mapping of the plan that crosses is among all that do
  crossing_of : (m : Mapping) → Among m plan.mappings → is_cross lines m ≡ true → (place : ℕ) × Among (cross_of threshold (place, m)) (crosses_of lines threshold plan.mappings)
  crossing_of m a cross = numbered_among threshold 0 (filter (is_cross lines) plan.mappings) m (among_filter (is_cross lines) m plan.mappings a cross)

  module _ (timelines i : ℕ) where
    comes_in : (x : Cross) → Among x (into lines i (crosses_of lines threshold plan.mappings)) → IsInto (net_of plan (line_of lines) timelines threshold) i (channel_of x)
    comes_in x a =
        let kept = filter_among (λ (y : Cross). is_on lines i y.mapping.to) x (crosses_of lines threshold plan.mappings) a in
        let is = cross_is lines threshold plan.mappings x kept.among in
        record {
          cross = tells x.mapping is.among false (crosses (line_of lines)) ∙ is.cross;
          receiver = tells x.mapping is.among 0 (λ m. line_of lines m.to) ∙ eqb-true (line_of lines x.mapping.to) i kept.passes;
        }

    goes_out : (x : Cross) → Among x (out_of lines i (crosses_of lines threshold plan.mappings)) → IsOutOf (net_of plan (line_of lines) timelines threshold) i (channel_of x)
    goes_out x a =
        let kept = filter_among (λ (y : Cross). is_on lines i y.mapping.from) x (crosses_of lines threshold plan.mappings) a in
        let is = cross_is lines threshold plan.mappings x kept.among in
        record {
          cross = tells x.mapping is.among false (crosses (line_of lines)) ∙ is.cross;
          sender = tells x.mapping is.among 0 (λ m. line_of lines m.from) ∙ eqb-true (line_of lines x.mapping.from) i kept.passes;
        }

    -- the mapping on a channel of the net, as one of these
    on_channel : (c place : ℕ) (m : Mapping) (xs : List Cross) → Among m plan.mappings → is_cross lines m ≡ true → m.channel ≡ c → Among (cross_of threshold (place, m)) xs → IsOn (net_of plan (line_of lines) timelines threshold) c xs
    on_channel c place m xs a cross is among = record {
      cross = cross_of threshold (place, m);
      among = among;
      channel = is;
      appointed = sym (ap (λ d. at_mapping plan.mappings d false (is_appointed (line_of lines) threshold)) (sym is) ∙ (tells m a false (is_appointed (line_of lines) threshold) ∙ appointed_as m cross));
      delay = sym (ap (λ d. at_mapping plan.mappings d 0 (λ (k : Mapping). k.delay)) (sym is) ∙ tells m a 0 (λ k. k.delay));
    }

    crosses_there : (c : ℕ) (m : Mapping) → Among m plan.mappings → m.channel ≡ c → at_mapping plan.mappings c false (crosses (line_of lines)) ≡ true → is_cross lines m ≡ true
    crosses_there c m a is h = sym (tells m a false (crosses (line_of lines))) ∙ (ap (λ d. at_mapping plan.mappings d false (crosses (line_of lines))) is ∙ h)

    has_in : (c : ℕ) → IsInto (net_of plan (line_of lines) timelines threshold) i c → IsOn (net_of plan (line_of lines) timelines threshold) c (into lines i (crosses_of lines threshold plan.mappings))
    has_in c at =
        let found = at_some plan.mappings c (crosses (line_of lines)) at.cross in
        let m = found.0 in
        let cross : is_cross lines m ≡ true = crosses_there c m found.1 found.2 at.cross in
        let place = crossing_of m found.1 cross in
        let to : line_of lines m.to ≡ i = sym (tells m found.1 0 (λ k. line_of lines k.to)) ∙ (ap (λ d. at_mapping plan.mappings d 0 (λ (k : Mapping). line_of lines k.to)) found.2 ∙ at.receiver) in
        on_channel c place.0 m (into lines i (crosses_of lines threshold plan.mappings)) found.1 cross found.2
        (among_filter (λ (y : Cross). is_on lines i y.mapping.to) (cross_of threshold (place.0, m)) (crosses_of lines threshold plan.mappings) place.1 (eq-eqb (line_of lines m.to) i to))

    has_out : (c : ℕ) → IsOutOf (net_of plan (line_of lines) timelines threshold) i c → IsOn (net_of plan (line_of lines) timelines threshold) c (out_of lines i (crosses_of lines threshold plan.mappings))
    has_out c at =
        let found = at_some plan.mappings c (crosses (line_of lines)) at.cross in
        let m = found.0 in
        let cross : is_cross lines m ≡ true = crosses_there c m found.1 found.2 at.cross in
        let place = crossing_of m found.1 cross in
        let from : line_of lines m.from ≡ i = sym (tells m found.1 0 (λ k. line_of lines k.from)) ∙ (ap (λ d. at_mapping plan.mappings d 0 (λ (k : Mapping). line_of lines k.from)) found.2 ∙ at.sender) in
        on_channel c place.0 m (out_of lines i (crosses_of lines threshold plan.mappings)) found.1 cross found.2
        (among_filter (λ (y : Cross). is_on lines i y.mapping.from) (cross_of threshold (place.0, m)) (crosses_of lines threshold plan.mappings) place.1 (eq-eqb (line_of lines m.from) i from))

    pub share_in_net : IsPartIn (net_of plan (line_of lines) timelines threshold) i (share_of plan lines threshold i)
    share_in_net = record { into = comes_in; ins = has_in; out = goes_out; outs = has_out }

-- ---- the lookahead

lesser_turned : (o : Option ℕ) (a b : ℕ) → lesser (lesser o a) b ≡ lesser (lesser o b) a
lesser_turned None a b = ap (λ n. Some n) (omega arith)
lesser_turned (Some m) a b = ap (λ n. Some n) (omega arith)

fold_last : (o : Option ℕ) (d : ℕ) (ds : List ℕ) → fold lesser (lesser o d) ds ≡ lesser (fold lesser o ds) d
fold_last o d [] = refl
fold_last o d (e ∷ es) = ap (λ x. fold lesser x es) (lesser_turned o d e) ∙ fold_last (lesser o e) d es

pub lookahead_same : (lines : List ℕ) (threshold : ℕ) (ms : List Mapping) → least_windowed lines threshold ms ≡ least_by (line_of lines) threshold ms
lookahead_same lines threshold [] = refl
lookahead_same lines threshold (m ∷ ms) = elim (test_cases (is_windowed lines threshold m)) [
  | inl t ↦ rw t (fold_last None m.delay (map (λ (k : Mapping). k.delay) (filter (is_windowed lines threshold) ms))
      ∙ ap (λ o. lesser o m.delay) (lookahead_same lines threshold ms))
  | inr f ↦ rw f (lookahead_same lines threshold ms)
]
