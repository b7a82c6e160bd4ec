-- The channels between the timelines of a plan are those of its mappings that cross.
use Rattle.std.proofs.Common.{◌≡◌, ◌⊎◌, ℕ, ◌<◌, ◌≤◌, Bool, true, false, ◌&&◌, nat_eq, nat_lt, min, List, [], ◌∷◌, length, refl, sym, ap, ◌∙◌, subst, inl, inr, arith, Option, Some, None, eqb-true, eq-eqb}
use Rattle.event_order.specs.Pending.{Among}
use Rattle.event_order.proofs.Pending.{test_cases}
use Rattle.event_order.proofs.Steps.{lt_or_ge}
use Rattle.ssf_model.specs.declared.plan.Mapping.{Mapping}
use Rattle.ssf_model.specs.declared.plan.Plan.{Plan}
use Rattle.ssf_model.specs.Reaction.{Validity, Each}
use Rattle.ssf_model.specs.Run.{Fits}
use Rattle.ssf_model.specs.Truth.{lesser}
use Rattle.ssf_model.proofs.Lists.{different}
use Rattle.run_health.specs.Joined.{IsAligned}
use Rattle.run_health.proofs.Writers.{one_mapping, writer_low}
use Rattle.sync_facts.specs.Aligned.{IsInside, IsMappingIn, IsAlignedNet}
use Rattle.sync_facts.specs.Nets.{crosses, is_appointed, is_windowed, at_mapping, least_windowed, net_of}

each_of_all : (Q : Mapping → Type 0) (ms : List Mapping) → ((m : Mapping) → Among m ms → Q m) → Each Q ms
each_of_all Q [] all = tt
each_of_all Q (m ∷ ms) all = (all m (inl refl), each_of_all Q ms (λ k a. all k (inr a)))

-- ---- the mapping on a channel

at_own : {T : Type 0} (ms : List Mapping) (m : Mapping) (none : T) (tell : Mapping → T) → ((k : Mapping) → Among k ms → k.channel ≡ m.channel → k ≡ m) → Among m ms → at_mapping ms m.channel none tell ≡ tell m
at_own [] m none tell one a = absurd a
at_own (k ∷ ms) m none tell one a = elim (test_cases (nat_eq k.channel m.channel)) [
  | inl t ↦ rw t (ap tell (one k (inl refl) (eqb-true k.channel m.channel t)))
  | inr f ↦ rw f (elim (let b : Among m (k ∷ ms) = a in b) [
    | inl same ↦ absurd (different k.channel m.channel f (ap (λ (x : Mapping). x.channel) (sym same)))
    | inr rest ↦ at_own ms m none tell (λ j b. one j (inr b)) rest
  ])
]

at_some : (ms : List Mapping) (c : ℕ) (tell : Mapping → Bool) → at_mapping ms c false tell ≡ true → (m : Mapping) × Among m ms × (m.channel ≡ c)
at_some [] c tell h = absurd (cc)
at_some (m ∷ ms) c tell h = elim (test_cases (nat_eq m.channel c)) [
  | inl t ↦ (m, inl refl, eqb-true m.channel c t)
  | inr f ↦ (let rest = at_some ms c tell (rw f at h) in (rest.0, inr rest.1, rest.2))
]

-- ---- crossing mappings

module _ (line : ℕ → ℕ) (threshold : ℕ) where
  crosses_not : (m : Mapping) → IsInside line m → crosses line m ≡ false
  crosses_not m same = rw (eq-eqb (line m.from) (line m.to) same) refl

  crosses_cases : (m : Mapping) → IsInside line m ⊎ ((IsInside line m → ⊥) × (crosses line m ≡ true))
  crosses_cases m = elim (test_cases (nat_eq (line m.from) (line m.to))) [
    | inl t ↦ inl (eqb-true (line m.from) (line m.to) t)
    | inr f ↦ inr (different (line m.from) (line m.to) f, rw f refl)
  ]

  is_crossing : (m : Mapping) → crosses line m ≡ true → IsInside line m → ⊥
  is_crossing m cross same = let wrong : true ≡ false = sym cross ∙ crosses_not m same in cc

  windowed_of : (m : Mapping) → crosses line m ≡ true → is_appointed line threshold m ≡ false → is_windowed line threshold m ≡ true
  windowed_of m cross none = let late : nat_lt m.delay threshold ≡ false = rw cross at none in rw (cross, late) refl

  first_part : (a b : Bool) → (a && b) ≡ true → a ≡ true
  first_part true b h = refl
  first_part false b h = absurd (cc)

  -- ---- the least delay

  lesser_low : (o : Option ℕ) (n : ℕ) → (d : ℕ) × (lesser o n ≡ Some d) × (d ≤ n) × ((e : ℕ) → o ≡ Some e → d ≤ e)
  lesser_low None n = (n, refl, omega arith, λ e h. absurd (cc))
  lesser_low (Some k) n = (min k n, refl, omega arith, λ e h. (let same : k ≡ e = cc in omega (arith, same)))

  lesser_is : (o : Option ℕ) (n d : ℕ) → lesser o n ≡ Some d → (n ≡ d) ⊎ (o ≡ Some d)
  lesser_is None n d h = inl cc
  lesser_is (Some k) n d h = (let same : min k n ≡ d = cc in elim (lt_or_ge k n) [
    | inl less ↦ inr (ap (λ x. Some x) (omega (arith, same)))
    | inr more ↦ inl (omega (arith, same))
  ])

  least_most : (ms : List Mapping) (m : Mapping) → Among m ms → is_windowed line threshold m ≡ true → (d : ℕ) × (least_windowed line threshold ms ≡ Some d) × (d ≤ m.delay)
  least_most [] m a h = absurd a
  least_most (k ∷ ms) m (inl same) h =
      let t : is_windowed line threshold k ≡ true = subst (λ x. is_windowed line threshold x ≡ true) same h in
      let low = lesser_low (least_windowed line threshold ms) k.delay in
      let delay : m.delay ≡ k.delay = ap (λ (x : Mapping). x.delay) same in
      (low.0, rw t low.1, omega (arith, low.2, delay))
  least_most (k ∷ ms) m (inr a) h =
      let rest = least_most ms m a h in
      elim (test_cases (is_windowed line threshold k)) [
        | inl t ↦ (let low = lesser_low (least_windowed line threshold ms) k.delay in
            let below = low.3 rest.0 rest.1 in
            (low.0, rw t low.1, omega (arith, below, rest.2)))
        | inr f ↦ (rest.0, rw f rest.1, rest.2)
      ]

  least_of_one : (ms : List Mapping) (d : ℕ) → least_windowed line threshold ms ≡ Some d → (m : Mapping) × Among m ms × (is_windowed line threshold m ≡ true) × (m.delay ≡ d)
  least_of_one [] d h = absurd (cc)
  least_of_one (k ∷ ms) d h = elim (test_cases (is_windowed line threshold k)) [
    | inr f ↦ (let rest = least_of_one ms d (rw f at h) in (rest.0, inr rest.1, rest.2, rest.3))
    | inl t ↦ elim (lesser_is (least_windowed line threshold ms) k.delay d (rw t at h)) [
      | inl here ↦ (k, inl refl, t, here)
      | inr before ↦ (let rest = least_of_one ms d before in (rest.0, inr rest.1, rest.2, rest.3))
    ]
  ]

-- ---- the net of a plan

module _ {B S P : Type 0} (valid : Validity S) (carried : P → Type 0) (plan : Plan B S P) (fits : Fits valid carried plan) (line : ℕ → ℕ) (timelines threshold : ℕ) where
  tells : {T : Type 0} (m : Mapping) → Among m plan.mappings → (none : T) (tell : Mapping → T) → at_mapping plan.mappings m.channel none tell ≡ tell m
  tells m a none tell = at_own plan.mappings m none tell (λ k b same. one_mapping plan fits.wired k m b a same) a

  mapping_in : (m : Mapping) → Among m plan.mappings → IsMappingIn line (net_of plan line timelines threshold) m
  mapping_in m a = elim (crosses_cases line threshold m) [
    | inl same ↦ inl (same, tells m a false (crosses line) ∙ crosses_not line threshold m same)
    | inr (apart, cross) ↦ inr (
      apart,
      record {
        cross = tells m a false (crosses line) ∙ cross;
        sender = tells m a 0 (λ k. line k.from);
        receiver = tells m a 0 (λ k. line k.to);
        delay = tells m a 0 (λ k. k.delay);
        windowed = λ none. least_most line threshold plan.mappings m a
            (windowed_of line threshold m cross (sym (tells m a false (is_appointed line threshold)) ∙ none));
      },
    )
  ]

  channel_in : (m : Mapping) → Among m plan.mappings → m.channel < length plan.counts
  channel_in m a =
      let low = writer_low plan fits.wired m.from m.channel (inl (m, a, record { source = refl; channel_is = refl })) in
      let size = fits.opened.size in
      omega arith

  pub aligned_net : IsAligned plan line → ((e : ℕ) → e < length plan.entities → line e < timelines) → IsAlignedNet plan line (net_of plan line timelines threshold)
  aligned_net aligned within = record {
    aligned = aligned;
    timelines = within;
    mappings = each_of_all (IsMappingIn line (net_of plan line timelines threshold)) plan.mappings mapping_in;
    channels = each_of_all (λ (m : Mapping). m.channel < length plan.counts) plan.mappings channel_in;
    only = λ c cross. at_some plan.mappings c (crosses line) cross;
    lookahead = λ d same. (let (m, a, windowed, delay) = least_of_one line threshold plan.mappings d same in
        (m, a, is_crossing line threshold m (first_part line threshold _ _ windowed), delay));
  }
