-- Two lists of events that have the same events on each channel, in the same order there.
use Rattle.std.proofs.Common.{◌≡◌, ℕ, suc, ◌+◌, ◌≤◌, Bool, true, false, cond, nat_eq, min, List, [], ◌∷◌, ◌++◌, length, count_by, append-nil, refl, sym, ap, ◌∙◌, subst, inl, inr, arith, eq-eqb, eqb-true, Option, Some, None, option_map}
use Rattle.std.specs.List.{filter}
use Rattle.event_order.specs.declared.key.Key.{Key}
use Rattle.event_order.specs.Order.{child_of}
use Rattle.event_order.specs.Pending.{Among, IsApart, IsRising, put_all}
use Rattle.event_order.proofs.Pending.{test_cases, among_filter, filter_among, put_all_rises, put_all_among, among_put_all_self, among_put_all_other, rising_same}
use Rattle.ssf_model.specs.declared.event.Event.{Event}
use Rattle.ssf_model.specs.Channels.{Sent, raised, numbered, is_on}
use Rattle.ssf_model.proofs.Lists.{different, count_yes, count_no}
use Rattle.ssf_model.proofs.Counts.{raised_same, numbered_is}
use Rattle.timeline_parts.specs.declared.ends.OutEnd.{OutEnd}
use Rattle.timeline_parts.specs.Tables.{item_at}
use Rattle.timeline_parts.specs.Sending.{count_on, all_counted, with_event, put_one, all_put}
use Rattle.timeline_parts.proofs.Tables.{item_changed}
use Rattle.timeline.specs.View.{key_of}

append_same : {T : Type 0} (xs ys zs : List T) → (xs ++ ys) ++ zs ≡ xs ++ (ys ++ zs)
append_same [] ys zs = refl
append_same (x ∷ xs) ys zs = ap (λ ws. x ∷ ws) (append_same xs ys zs)

other_test : (a b : ℕ) → (a ≡ b → ⊥) → nat_eq a b ≡ false
other_test a b apart = elim (test_cases (nat_eq a b)) [ inl t ↦ absurd (apart (eqb-true a b t)) | inr f ↦ f ]

raised_else : (c : ℕ) (counts : ℕ → ℕ) (channel : ℕ) → nat_eq channel c ≡ false → raised counts channel c ≡ counts c
raised_else c counts channel f = rw (other_test c channel (λ e. different channel c f (sym e))) refl

test_back : (a b : ℕ) (v : Bool) → nat_eq a b ≡ v → nat_eq b a ≡ v
test_back a b true t = eq-eqb b a (sym (eqb-true a b t))
test_back a b false f = other_test b a (λ e. different a b f (sym e))

add_none : (o : Option ℕ) → o ≡ option_map (λ n. n + 0) o
add_none None = refl
add_none (Some n) = ap (λ k. Some k) (omega arith)

add_more : (k : ℕ) (o : Option ℕ) → option_map (λ n. n + k) (option_map (λ n. n + 1) o) ≡ option_map (λ n. n + suc k) o
add_more k None = refl
add_more k (Some n) = ap (λ j. Some j) (omega arith)

module _ {P : Type 0} where
  -- the event is on channel c
  abbrev pub on : ℕ → Event P → Bool
  on c e = nat_eq e.key.channel c

  pub AreSameOn : List (Event P) → List (Event P) → Type 0
  AreSameOn xs ys = (c : ℕ) → filter (on c) xs ≡ filter (on c) ys

  pub same_among : (xs ys : List (Event P)) → AreSameOn xs ys → (e : Event P) → Among e xs → Among e ys
  unfolding AreSameOn
  same_among xs ys same e a =
      let here : Among e (filter (on e.key.channel) xs) = among_filter (on e.key.channel) e xs a (eq-eqb e.key.channel e.key.channel refl) in
      (filter_among (on e.key.channel) e ys (subst (λ ds. Among e ds) (same e.key.channel) here)).among

  pub same_back : (xs ys : List (Event P)) → AreSameOn xs ys → AreSameOn ys xs
  unfolding AreSameOn
  same_back xs ys same c = sym (same c)

  pub same_on : (xs ys : List (Event P)) → AreSameOn xs ys → (c : ℕ) → filter (on c) xs ≡ filter (on c) ys
  unfolding AreSameOn
  same_on xs ys same = same

  -- ---- numbers

  -- what is sent has the same numbers where its channels have the same counts
  pub numbered_alike : (key : Key) (f g : ℕ → ℕ) (ss : List (Sent P)) → ((s : Sent P) → Among s ss → f s.channel ≡ g s.channel) → numbered key f ss ≡ numbered key g ss
  numbered_alike key f g [] h = refl
  numbered_alike key f g (s ∷ ss) h =
      ap (λ n. let e : Event P = record { key = child_of key s.delay s.priority s.channel n; entity = s.entity; kind = s.kind } in e ∷ numbered key (raised f s.channel) ss) (h s (inl refl))
      ∙ ap (λ (es : List (Event P)). record { key = child_of key s.delay s.priority s.channel (g s.channel); entity = s.entity; kind = s.kind } ∷ es)
      (numbered_alike key (raised f s.channel) (raised g s.channel) ss (λ t a. ap (λ n. cond (nat_eq t.channel s.channel) (n + 1) n) (h t (inr a))))

  -- of what is sent the events on a channel are those that are sent on it
  pub numbered_on : (key : Key) (counts : ℕ → ℕ) (ss : List (Sent P)) (c : ℕ) → filter (on c) (numbered key counts ss) ≡ numbered key counts (filter (is_on c) ss)
  numbered_on key counts [] c = refl
  numbered_on key counts (s ∷ ss) c = elim (test_cases (nat_eq s.channel c)) [
    | inl t ↦ rw t (ap (λ (es : List (Event P)). record { key = child_of key s.delay s.priority s.channel (counts s.channel); entity = s.entity; kind = s.kind } ∷ es)
        (numbered_on key (raised counts s.channel) ss c))
    | inr f ↦ rw f (numbered_on key (raised counts s.channel) ss c
        ∙ numbered_alike key (raised counts s.channel) counts (filter (is_on c) ss) (λ x a.
        let on_c : x.channel ≡ c = eqb-true x.channel c (filter_among (is_on c) x ss a).passes in
        subst (λ k. raised counts s.channel k ≡ counts k) (sym on_c) (raised_else c counts s.channel f)))
  ]

  pub numbered_same : (key : Key) (f g : ℕ → ℕ) (ss ts : List (Sent P)) → ((c : ℕ) → filter (is_on c) ss ≡ filter (is_on c) ts) → ((s : Sent P) → Among s ss → f s.channel ≡ g s.channel)
      → AreSameOn (numbered key f ss) (numbered key g ts)
  unfolding AreSameOn
  numbered_same key f g ss ts same counts c =
      numbered_on key f ss c
      ∙ (numbered_alike key f g (filter (is_on c) ss) (λ s a. counts s (filter_among (is_on c) s ss a).among)
      ∙ (ap (λ (us : List (Sent P)). numbered key g us) (same c) ∙ sym (numbered_on key g ts c)))

  pub numbered_length : (key : Key) (counts : ℕ → ℕ) (ss : List (Sent P)) → length (numbered key counts ss) ≡ length ss
  numbered_length key counts [] = refl
  numbered_length key counts (s ∷ ss) = ap suc (numbered_length key (raised counts s.channel) ss)

  filter_count : (p : Sent P → Bool) (ss : List (Sent P)) → length (filter p ss) ≡ count_by p ss
  filter_count p [] = refl
  filter_count p (s ∷ ss) = elim (test_cases (p s)) [
    | inl t ↦ (let here : length (filter p (s ∷ ss)) ≡ suc (length (filter p ss)) = rw t refl in omega (arith, here, filter_count p ss, count_yes p s ss t))
    | inr f ↦ (let here : length (filter p (s ∷ ss)) ≡ length (filter p ss) = rw f refl in omega (arith, here, filter_count p ss, count_no p s ss f))
  ]

  pub numbered_count : (key : Key) (counts : ℕ → ℕ) (ss : List (Sent P)) (c : ℕ) → length (filter (on c) (numbered key counts ss)) ≡ count_by (is_on c) ss
  numbered_count key counts ss c = ap length (numbered_on key counts ss c) ∙ numbered_length key counts (filter (is_on c) ss) ∙ filter_count (is_on c) ss

  -- no two events that are sent have one key
  pub numbered_apart : (key : Key) (counts : ℕ → ℕ) (ss : List (Sent P)) → IsApart key_of (numbered key counts ss)
  numbered_apart key counts [] = tt
  numbered_apart key counts (s ∷ ss) = (
    (λ y a e.
        let n = numbered_is key (raised counts s.channel) ss y a in
        let q = e ∙ n.key_is in
        let c : s.channel ≡ n.sent.channel = ap (λ (k : Key). k.channel) q in
        let m : counts s.channel ≡ n.number = ap (λ (k : Key). k.number) q in
        let l : raised counts s.channel s.channel ≤ n.number = subst (λ j. raised counts s.channel j ≤ n.number) (sym c) n.low in
        omega (arith, raised_same s.channel counts, l, m)),
    numbered_apart key (raised counts s.channel) ss,
  )

  -- ---- counts and outboxes

  -- the count of a channel goes up by the events on it
  pub count_after : (es : List (Event P)) (counts : List (ℕ × ℕ)) (c : ℕ) → item_at c (all_counted es counts) ≡ option_map (λ n. n + length (filter (on c) es)) (item_at c counts)
  count_after [] counts c = add_none (item_at c counts)
  count_after (e ∷ es) counts c =
      let rest = count_after es (count_on e.key.channel counts) c in
      let one = item_changed c e.key.channel (λ n. n + 1) counts in
      elim (test_cases (nat_eq e.key.channel c)) [
        | inl t ↦
            let back = test_back e.key.channel c true t in
            let here : item_at c (count_on e.key.channel counts) ≡ option_map (λ n. n + 1) (item_at c counts) = one ∙ rw back refl in
            rest ∙ (ap (λ (o : Option ℕ). option_map (λ n. n + length (filter (on c) es)) o) here ∙ (add_more (length (filter (on c) es)) (item_at c counts) ∙ rw t refl))
        | inr f ↦
            let back = test_back e.key.channel c false f in
            let here : item_at c (count_on e.key.channel counts) ≡ item_at c counts = one ∙ rw back refl in
            rest ∙ (ap (λ (o : Option ℕ). option_map (λ n. n + length (filter (on c) es)) o) here ∙ rw f refl)
      ]

  -- the end of a channel with more events in its outbox
  abbrev pub with_all : List (Event P) → OutEnd P → OutEnd P
  with_all es o = record { appointed = o.appointed; delay = o.delay; posted = o.posted; written = o.written + length es; outbox = o.outbox ++ es }

  put_none : (o : Option (OutEnd P)) → o ≡ option_map (with_all []) o
  put_none None = refl
  put_none (Some o) =
      let written : o.written ≡ o.written + 0 = omega arith in
      let outbox : o.outbox ≡ o.outbox ++ [] = sym (append-nil o.outbox) in
      ap (λ w. Some (record o { written = w })) written ∙ ap (λ (b : List (Event P)). Some (record o { written = o.written + 0; outbox = b })) outbox

  put_more : (e : Event P) (es : List (Event P)) (o : Option (OutEnd P)) → option_map (with_all es) (option_map (with_event e) o) ≡ option_map (with_all (e ∷ es)) o
  put_more e es None = refl
  put_more e es (Some o) =
      let written : (o.written + 1) + length es ≡ o.written + suc (length es) = omega arith in
      let outbox : (o.outbox ++ e ∷ []) ++ es ≡ o.outbox ++ e ∷ es = append_same o.outbox (e ∷ []) es in
      ap (λ w. Some (record o { written = w; outbox = (o.outbox ++ e ∷ []) ++ es })) written
      ∙ ap (λ (b : List (Event P)). Some (record o { written = o.written + suc (length es); outbox = b })) outbox

  -- the outbox of a channel gets the events on it
  pub end_after : (es : List (Event P)) (ends : List (ℕ × OutEnd P)) (c : ℕ) → item_at c (all_put es ends) ≡ option_map (with_all (filter (on c) es)) (item_at c ends)
  end_after [] ends c = put_none (item_at c ends)
  end_after (e ∷ es) ends c =
      let rest = end_after es (put_one e ends) c in
      let one = item_changed c e.key.channel (with_event e) ends in
      elim (test_cases (nat_eq e.key.channel c)) [
        | inl t ↦
            let back = test_back e.key.channel c true t in
            let here : item_at c (put_one e ends) ≡ option_map (with_event e) (item_at c ends) = one ∙ rw back refl in
            rest ∙ (ap (λ (o : Option (OutEnd P)). option_map (with_all (filter (on c) es)) o) here ∙ (put_more e (filter (on c) es) (item_at c ends) ∙ rw t refl))
        | inr f ↦
            let back = test_back e.key.channel c false f in
            let here : item_at c (put_one e ends) ≡ item_at c ends = one ∙ rw back refl in
            rest ∙ (ap (λ (o : Option (OutEnd P)). option_map (with_all (filter (on c) es)) o) here ∙ rw f refl)
      ]

-- ---- the least of some times

module _ {E : Type 0} (time : E → ℕ) where
  abbrev pub least_where : (E → Bool) → List E → ℕ → ℕ
  least_where p [] found = found
  least_where p (d ∷ ds) found = least_where p ds (cond (p d) (min (time d) found) found)

  least_top : (p : E → Bool) (ds : List E) (found : ℕ) → least_where p ds found ≤ found
  least_top p [] found = omega arith
  least_top p (d ∷ ds) found = elim (test_cases (p d)) [
    | inl t ↦ rw t (let rest = least_top p ds (min (time d) found) in omega arith)
    | inr f ↦ rw f (least_top p ds found)
  ]

  least_each : (p : E → Bool) (ds : List E) (found : ℕ) (d : E) → Among d ds → p d ≡ true → least_where p ds found ≤ time d
  least_each p [] found d a q = absurd a
  least_each p (e ∷ ds) found d (inl same) q =
      let t : p e ≡ true = ap p (sym same) ∙ q in
      let one = ap time same in
      rw t (let rest = least_top p ds (min (time e) found) in omega arith)
  least_each p (e ∷ ds) found d (inr a) q = least_each p ds (cond (p e) (min (time e) found) found) d a q

  least_above : (p : E → Bool) (ds : List E) (found n : ℕ) → n ≤ found → ((d : E) → Among d ds → p d ≡ true → n ≤ time d) → n ≤ least_where p ds found
  least_above p [] found n l all = l
  least_above p (d ∷ ds) found n l all = elim (test_cases (p d)) [
    | inl t ↦ rw t (least_above p ds (min (time d) found) n (let here = all d (inl refl) t in omega arith) (λ e a. all e (inr a)))
    | inr f ↦ rw f (least_above p ds found n l (λ e a. all e (inr a)))
  ]

  least_less : (p q : E → Bool) (ds es : List E) (found : ℕ) → ((e : E) → Among e es → q e ≡ true → Among e ds × (p e ≡ true)) → least_where p ds found ≤ least_where q es found
  least_less p q ds es found all = least_above q es found (least_where p ds found) (least_top p ds found) (λ e a t. let there = all e a t in least_each p ds found e there.0 there.1)

  pub least_same : (p q : E → Bool) (ds es : List E) (found : ℕ) → ((e : E) → Among e es → Among e ds) → ((e : E) → Among e ds → Among e es) → ((e : E) → Among e ds → p e ≡ q e) → least_where p ds found ≡ least_where q es found
  least_same p q ds es found back on same =
      let low = least_less p q ds es found (λ e a t. (back e a, same e (back e a) ∙ t)) in
      let high = least_less q p es ds found (λ e a t. (on e a, sym (same e a) ∙ t)) in
      omega arith

-- ---- what becomes pending

module _ {E : Type 0} (key : E → Key) where
  -- the same events become pending, in whatever order they are put
  pub put_same : (xs ys zs : List E) → IsRising key zs → IsApart key xs → IsApart key ys → ((x z : E) → Among x xs → Among z zs → key x ≡ key z → ⊥)
      → ((e : E) → Among e xs → Among e ys) → ((e : E) → Among e ys → Among e xs) → put_all key xs zs ≡ put_all key ys zs
  put_same xs ys zs rising one two new on back =
      rising_same key (put_all key xs zs) (put_all key ys zs) (put_all_rises key xs zs rising one new) (put_all_rises key ys zs rising two (λ y z a b. new y z (back y a) b))
      (λ e a. elim (put_all_among key e xs zs a) [ inl b ↦ among_put_all_self key e ys zs (on e b) | inr b ↦ among_put_all_other key e ys zs b ])
      (λ e a. elim (put_all_among key e ys zs a) [ inl b ↦ among_put_all_self key e xs zs (back e b) | inr b ↦ among_put_all_other key e xs zs b ])
