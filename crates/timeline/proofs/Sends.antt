-- What an event sends at its timeline, whose mappings stand in an order of their own, is on each channel what it sends in the
-- run of the plan.
use Rattle.std.proofs.Common.{◌≡◌, ℕ, ◌⊎◌, Bool, true, false, nat_eq, List, [], ◌∷◌, ◌++◌, map, refl, sym, ap, ◌∙◌, inl, inr, eq-eqb, eqb-true}
use Rattle.std.specs.List.{filter, flat_map}
use Rattle.std.proofs.lemmas.List.Elements.{filter-append}
use Rattle.event_order.specs.Pending.{Among}
use Rattle.event_order.proofs.Pending.{test_cases, filter_among}
use Rattle.ssf_model.specs.declared.out.Written.{Written}
use Rattle.ssf_model.specs.declared.out.Written.TheVariants.{Channel, Timer as TimerWrite}
use Rattle.ssf_model.specs.declared.process.Process.{Process}
use Rattle.ssf_model.specs.declared.plan.Mapping.{Mapping}
use Rattle.ssf_model.specs.Channels.{Sent, message, sent, is_on}
use Rattle.ssf_model.proofs.Lists.{each_among}
use Rattle.run_health.proofs.Sends.{IsOneChannelEach}
use Rattle.timeline_parts.specs.Sending.{mappings_on, sent_on}
use Rattle.timeline_parts.specs.declared.part.Cross.{Cross}
use Rattle.timeline.specs.View.{routes_by, mapping_of}
use Rattle.timeline.specs.Sound.{is_inside, is_outgoing}

-- ---- lists of which at most one element passes a test

module _ {T : Type 0} where
  abbrev AtMostOne : (T → Bool) → List T → Type 0
  AtMostOne p [] = Unit {0}
  AtMostOne p (x ∷ xs) = (p x ≡ true → (y : T) → Among y xs → p y ≡ false) × AtMostOne p xs

  filter_none : (p : T → Bool) (xs : List T) → ((x : T) → Among x xs → p x ≡ false) → filter p xs ≡ []
  filter_none p [] all = refl
  filter_none p (x ∷ xs) all = rw (all x (inl refl)) (filter_none p xs (λ y a. all y (inr a)))

  filter_twice : (p q : T → Bool) (xs : List T) → filter p (filter q xs) ≡ filter q (filter p xs)
  filter_twice p q [] = refl
  filter_twice p q (x ∷ xs) = elim (test_cases (p x)) [
    | inl t ↦ elim (test_cases (q x)) [
      | inl u ↦ rw (t, u, t) (ap (λ ys. x ∷ ys) (filter_twice p q xs))
      | inr g ↦ rw (t, g) (filter_twice p q xs)
    ]
    | inr f ↦ elim (test_cases (q x)) [
      | inl u ↦ rw (f, u, f) (filter_twice p q xs)
      | inr g ↦ rw (f, g) (filter_twice p q xs)
    ]
  ]

  skipped : (p a : T → Bool) (x : T) (xs : List T) → p x ≡ false → filter p (filter a (x ∷ xs)) ≡ filter p (filter a xs)
  skipped p a x xs f = elim (test_cases (a x)) [
    | inl t ↦ rw t (rw f refl)
    | inr g ↦ rw g refl
  ]

  none_of : (p a : T → Bool) (xs : List T) → ((y : T) → Among y xs → p y ≡ false) → filter p (filter a xs) ≡ []
  none_of p a xs all = filter_none p (filter a xs) (λ y b. all y (filter_among a y xs b).among)

  -- a list that two tests part, of which at most one element passes a third test
  parted : (p a b : T → Bool) (xs : List T) → AtMostOne p xs → ((x : T) → Among x xs → p x ≡ true → ((a x ≡ true) × (b x ≡ false)) ⊎ ((a x ≡ false) × (b x ≡ true)))
      → filter p (filter a xs) ++ filter p (filter b xs) ≡ filter p xs
  parted p a b [] one split = refl
  parted p a b (x ∷ xs) one split = elim (test_cases (p x)) [
    | inr f ↦
        ap (λ ys. ys ++ filter p (filter b (x ∷ xs))) (skipped p a x xs f)
        ∙ (ap (λ ys. filter p (filter a xs) ++ ys) (skipped p b x xs f) ∙ (parted p a b xs one.1 (λ y c. split y (inr c)) ∙ rw f refl))
    | inl t ↦
        let rest = one.0 t in
        let none_a = none_of p a xs rest in
        let none_b = none_of p b xs rest in
        let none = filter_none p xs rest in
        elim (split x (inl refl) t) [
          | inl (u, g) ↦ rw (u, g) (rw t (rw (none_a, none_b, none) refl))
          | inr (g, u) ↦ rw (g, u) (rw t (rw (none_a, none_b, none) refl))
        ]
  ]

-- ---- mappings

abbrev pub has : ℕ → Mapping → Bool
has c m = nat_eq m.channel c

one_at_most : (c : ℕ) (q : Mapping → Bool) (ms : List Mapping) → IsOneChannelEach ms → AtMostOne (has c) (filter q ms)
one_at_most c q [] one = tt
one_at_most c q (m ∷ ms) one = elim (test_cases (q m)) [
  | inr f ↦ rw f (one_at_most c q ms one.1)
  | inl t ↦ rw t (
    (λ here k a.
        let among = (filter_among q k ms a).among in
        let apart = each_among (λ (n : Mapping). n.channel ≡ m.channel → ⊥) ms k one.0 among in
        elim (test_cases (has c k)) [
          | inr f ↦ f
          | inl there ↦ absurd (apart (eqb-true k.channel c there ∙ sym (eqb-true m.channel c here)))
        ]),
    one_at_most c q ms one.1,
  )
]

-- the mappings of an out-channel of timeline i, inside ones first
module _ (line : ℕ → ℕ) (i : ℕ) (ms inside : List Mapping) (outs : List Cross) (inside_is : inside ≡ filter (is_inside line i) ms) (outs_are : map mapping_of outs ≡ filter (is_outgoing line i) ms) (one : IsOneChannelEach ms) where
  sides : (m : Mapping) → line m.from ≡ i → ((is_inside line i m ≡ true) × (is_outgoing line i m ≡ false)) ⊎ ((is_inside line i m ≡ false) × (is_outgoing line i m ≡ true))
  sides m from =
      let t : nat_eq (line m.from) i ≡ true = eq-eqb (line m.from) i from in
      elim (test_cases (nat_eq (line m.to) i)) [
        | inl u ↦ inl (rw (t, u) refl, rw (t, u) refl)
        | inr f ↦ inr (rw (t, f) refl, rw (t, f) refl)
      ]

  pub routes_same : (out : ℕ) → ((m : Mapping) → Among m ms → m.out_channel ≡ out → line m.from ≡ i) → (c : ℕ) → filter (has c) (mappings_on out ms) ≡ filter (has c) (routes_by inside outs out)
  routes_same out own c =
      let of_out : Mapping → Bool = λ m. nat_eq m.out_channel out in
      let all = mappings_on out ms in
      let first : mappings_on out inside ≡ filter (is_inside line i) all = ap (mappings_on out) inside_is ∙ filter_twice of_out (is_inside line i) ms in
      let second : mappings_on out (map mapping_of outs) ≡ filter (is_outgoing line i) all = ap (mappings_on out) outs_are ∙ filter_twice of_out (is_outgoing line i) ms in
      let parts = parted (has c) (is_inside line i) (is_outgoing line i) all (one_at_most c of_out ms one)
      (λ m a h. let q = filter_among of_out m ms a in sides m (own m q.among (eqb-true m.out_channel out q.passes))) in
      sym parts
      ∙ (ap (λ xs. filter (has c) xs ++ filter (has c) (filter (is_outgoing line i) all)) (sym first)
      ∙ (ap (λ xs. filter (has c) (mappings_on out inside) ++ filter (has c) xs) (sym second)
      ∙ sym (filter-append (has c) (mappings_on out inside) (mappings_on out (map mapping_of outs)))))

-- ---- what is sent

module _ {P : Type 0} where
  messages_on : (c delay : ℕ) (payload : P) (ms : List Mapping) → filter (is_on c) (map (message delay payload) ms) ≡ map (message delay payload) (filter (has c) ms)
  messages_on c delay payload [] = refl
  messages_on c delay payload (m ∷ ms) = elim (test_cases (nat_eq m.channel c)) [
    | inl t ↦ rw t (ap (λ ss. message delay payload m ∷ ss) (messages_on c delay payload ms))
    | inr f ↦ rw f (messages_on c delay payload ms)
  ]

  module _ (ms : List Mapping) (routes : ℕ → List Mapping) (entity : ℕ) (ps : List Process) where
    RoutesAlike : Written P → Type 0
    RoutesAlike (Channel out delay payload) = (c : ℕ) → filter (has c) (mappings_on out ms) ≡ filter (has c) (routes out)
    RoutesAlike (TimerWrite process delay ticket) = Unit {0}

    write_same : (w : Written P) → RoutesAlike w → (c : ℕ) → filter (is_on c) (sent ms entity ps w) ≡ filter (is_on c) (sent_on routes entity ps w)
    unfolding RoutesAlike
    write_same (Channel out delay payload) alike c =
        messages_on c delay payload (mappings_on out ms) ∙ (ap (map (message delay payload)) (alike c) ∙ sym (messages_on c delay payload (routes out)))
    write_same (TimerWrite process delay ticket) alike c = refl

    sends_alike : (ws : List (Written P)) → ((w : Written P) → Among w ws → RoutesAlike w) → (c : ℕ) → filter (is_on c) (flat_map (sent ms entity ps) ws) ≡ filter (is_on c) (flat_map (sent_on routes entity ps) ws)
    sends_alike [] alike c = refl
    sends_alike (w ∷ ws) alike c =
        filter-append (is_on c) (sent ms entity ps w) (flat_map (sent ms entity ps) ws)
        ∙ (ap (λ (ss : List (Sent P)). ss ++ filter (is_on c) (flat_map (sent ms entity ps) ws)) (write_same w (alike w (inl refl)) c)
        ∙ (ap (λ (ss : List (Sent P)). filter (is_on c) (sent_on routes entity ps w) ++ ss) (sends_alike ws (λ v a. alike v (inr a)) c)
        ∙ sym (filter-append (is_on c) (sent_on routes entity ps w) (flat_map (sent_on routes entity ps) ws))))

    each_alike : (ws : List (Written P)) → ((out delay : ℕ) (payload : P) → Among (Channel out delay payload) ws → (c : ℕ) → filter (has c) (mappings_on out ms) ≡ filter (has c) (routes out))
        → (w : Written P) → Among w ws → RoutesAlike w
    unfolding RoutesAlike
    each_alike ws alike (Channel out delay payload) a = alike out delay payload a
    each_alike ws alike (TimerWrite process delay ticket) a = tt

    -- where the mappings of the out-channels that are written on are alike on each channel, so is what is sent
    pub sends_same : (ws : List (Written P)) → ((out delay : ℕ) (payload : P) → Among (Channel out delay payload) ws → (c : ℕ) → filter (has c) (mappings_on out ms) ≡ filter (has c) (routes out))
        → (c : ℕ) → filter (is_on c) (flat_map (sent ms entity ps) ws) ≡ filter (is_on c) (flat_map (sent_on routes entity ps) ws)
    sends_same ws alike = sends_alike ws (each_alike ws alike)
