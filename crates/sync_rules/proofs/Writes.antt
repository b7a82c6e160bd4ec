-- The writes of a run by their places on channels.
use Rattle.std.proofs.Common.{ℕ, zero, suc, ◌≡◌, ◌⊎◌, ◌+◌, ◌<◌, ◌≤◌, ◌∙◌, sym, ap, subst, refl, inl, inr, Bool, true, false, List, [], ◌∷◌, ◌++◌, length, Some, None, slice_get, arith, zero-add, suc-add, append-nil, length-append, eqb-true, eq-eqb}
use Rattle.std.specs.List.{filter, flat_map}
use Rattle.std.proofs.lemmas.List.Elements.{filter-append}
use Rattle.event_order.specs.declared.key.Key.{Key}
use Rattle.event_order.specs.Pending.{Among, IsApart}
use Rattle.event_order.specs.Machine.{option_list}
use Rattle.event_order.proofs.Pending.{test_cases, among_filter, filter_among, filter_apart}
use Rattle.event_order.proofs.Steps.{lt_or_ge, lt_or_same, difference}
use Rattle.ssf_model.specs.Scene.{Scene, world_at, event_at, channel_of}
use Rattle.ssf_model.specs.Truth.{is_on_line, writes_within, writes_on, has_channel, IsWrite, IsStretch, IsKeptWrite}
use Rattle.ssf_model.proofs.Lists.{place_of, place_among, among_place, within_of}
use Rattle.ssf_model.proofs.Places.{one_write, stretch_length, stretch_at, stretch_of}
use Rattle.sync_rules.specs.Shared.{IsShared, IsWrittenBy}
use Rattle.sync_rules.specs.Sound.{made}
use Rattle.sync_rules.proofs.Runs.{some_or_none, given, given_from, next_state, one_event}

-- ---- lists

place_after : {T : Type 0} (xs ys : List T) (j : ℕ) → slice_get (xs ++ ys) (length xs + j) ≡ slice_get ys j
place_after [] ys j = rw zero-add refl
place_after (x ∷ xs) ys j = let same : suc (length xs) + j ≡ suc (length xs + j) = omega arith in rw same (place_after xs ys j)

place_split : {T : Type 0} (xs ys : List T) (k : ℕ) (d : T) → slice_get (xs ++ ys) k ≡ Some d
    → (slice_get xs k ≡ Some d) ⊎ ((j : ℕ) × (k ≡ length xs + j) × (slice_get ys j ≡ Some d))
place_split [] ys k d h = inr (k, omega arith, h)
place_split (x ∷ xs) ys zero d h = inl h
place_split (x ∷ xs) ys (suc k) d h = elim (place_split xs ys k d h) [ inl a ↦ inl a | inr b ↦ inr (b.0, omega (arith, b.1), b.2) ]

-- in a list whose keys are apart an item has one place
apart_place : {T : Type 0} (key : T → Key) (xs : List T) (d : T) → IsApart key xs → (i j : ℕ) → slice_get xs i ≡ Some d → slice_get xs j ≡ Some d → i ≡ j
apart_place key [] d a i j h g = absurd (cc)
apart_place key (x ∷ xs) d a zero zero h g = refl
apart_place key (x ∷ xs) d a zero (suc j) h g = let same : x ≡ d = cc in absurd (a.0 d (place_among xs j d g) (ap key same))
apart_place key (x ∷ xs) d a (suc i) zero h g = let same : x ≡ d = cc in absurd (a.0 d (place_among xs i d h) (ap key same))
apart_place key (x ∷ xs) d a (suc i) (suc j) h g = ap (λ n. suc n) (apart_place key xs d a.1 i j h g)

-- where no item passes, none is left
filter_none : {T : Type 0} (p : T → Bool) (xs : List T) → ((x : T) → Among x xs → p x ≡ false) → filter p xs ≡ []
filter_none p [] none = refl
filter_none p (x ∷ xs) none = rw (none x (inl refl)) (filter_none p xs (λ y a. none y (inr a)))

-- ---- writes of any run

module _ {X E : Type 0} (s : Scene X E) where
  pub on_event : (c n : ℕ) (e : E) → event_at s n ≡ Some e → writes_on s c (suc n) ≡ writes_on s c n ++ filter (has_channel s c) (s.machine.writes (world_at s n).state e)
  on_event c n e is = filter-append (has_channel s c) (writes_within s n) _ ∙ rw (is, append-nil) refl

  pub on_none : (c n : ℕ) → event_at s n ≡ None → writes_on s c (suc n) ≡ writes_on s c n
  on_none c n is = filter-append (has_channel s c) (writes_within s n) _ ∙ rw (is, append-nil) refl

  made_more : (c n k : ℕ) → made s c n ≤ made s c (k + n)
  made_more c n zero = rw zero-add (omega arith)
  made_more c n (suc k) =
      let joined = filter-append (has_channel s c) (writes_within s (k + n)) (flat_map (s.machine.writes (world_at s (k + n)).state) (option_list (event_at s (k + n)))) in
      let before = made_more c n k in
      rw (suc-add, joined, length-append) (omega arith)

  pub made_up : (c n k : ℕ) → n ≤ k → made s c n ≤ made s c k
  made_up c n k l = let d = difference n k l in subst (λ j. made s c n ≤ made s c j) (sym d.1) (made_more c n d.0)

  pub made_event : (c n : ℕ) (e : E) → event_at s n ≡ Some e → made s c (suc n) ≡ made s c n + length (filter (has_channel s c) (s.machine.writes (world_at s n).state e))
  made_event c n e is = ap length (on_event c n e is) ∙ length-append (writes_on s c n) _

  -- ---- which event makes the write at a place

  pub record IsPlaced (c p k : ℕ) (by d : E) : Type 0 where
    pub written : IsWrittenBy s k by d
    pub channel : channel_of s d ≡ c
    pub index : ℕ
    pub sum : p ≡ made s c k + index
    pub is : slice_get (filter (has_channel s c) (s.machine.writes (world_at s k).state by)) index ≡ Some d
    pub below : p < made s c (suc k)

  pub at_event : (c p k : ℕ) (by d : E) (index : ℕ) → event_at s k ≡ Some by → p ≡ made s c k + index
      → slice_get (filter (has_channel s c) (s.machine.writes (world_at s k).state by)) index ≡ Some d → IsPlaced c p k by d
  at_event c p k by d index is sum at =
      let q = filter_among (has_channel s c) d (s.machine.writes (world_at s k).state by) (place_among _ index d at) in
      record {
        written = record { is = is; among = q.among };
        channel = eqb-true (channel_of s d) c q.passes;
        index = index;
        sum = sum;
        is = at;
        below = omega (arith, sum, made_event c k by is, within_of _ index d at);
      }

  origin_in : (n c p : ℕ) (d : E) → slice_get (writes_on s c n) p ≡ Some d → (k : ℕ) × (by : E) × IsPlaced c p k by d
  origin_in zero c p d h = absurd (cc)
  origin_in (suc n) c p d h = elim (some_or_none (event_at s n)) [
    | inl some ↦ elim (place_split (writes_on s c n) _ p d (subst (λ ds. slice_get ds p ≡ Some d) (on_event c n some.0 some.1) h)) [
      | inl before ↦ origin_in n c p d before
      | inr now ↦ (n, some.0, at_event c p n some.0 d now.0 some.1 now.1 now.2)
    ]
    | inr none ↦ origin_in n c p d (subst (λ ds. slice_get ds p ≡ Some d) (on_none c n none) h)
  ]

  pub origin : (c p : ℕ) (d : E) → IsWrite s c p d → (k : ℕ) × (by : E) × IsPlaced c p k by d
  origin c p d is = origin_in is.within c p d is.is

  pub index_write : (c k index : ℕ) (by d : E) → event_at s k ≡ Some by
      → slice_get (filter (has_channel s c) (s.machine.writes (world_at s k).state by)) index ≡ Some d → IsWrite s c (made s c k + index) d
  index_write c k index by d is at = record { within = suc k; is = rw (on_event c k by is) (place_after (writes_on s c k) _ index ∙ at) }

  -- each write has a place
  pub placed : (k : ℕ) (by d : E) → IsWrittenBy s k by d → (p : ℕ) × IsWrite s (channel_of s d) p d × IsPlaced (channel_of s d) p k by d
  placed k by d w =
      let c = channel_of s d in
      let found = among_place d _ (among_filter (has_channel s c) d (s.machine.writes (world_at s k).state by) w.among (eq-eqb c c refl)) in
      (made s c k + found.0, index_write c k found.0 by d w.is found.1, at_event c (made s c k + found.0) k by d found.0 w.is refl found.1)

  pub kept_by : (k : ℕ) (d : E) → (w : IsKeptWrite s k d) → IsWrittenBy s k w.by d
  kept_by k d w = record { is = w.is; among = w.among }

  -- ---- stretches

  -- the writes of one event on a channel
  pub row : (c k : ℕ) (e : E) → event_at s k ≡ Some e → IsStretch s c (made s c k) (filter (has_channel s c) (s.machine.writes (world_at s k).state e)) (made s c (suc k))
  row c k e is = stretch_of s c (made s c k) _ (made s c (suc k)) (made_event c k e is) (λ j d at. index_write c k j e d is at)

  -- what is among a stretch has a place in it
  pub stretch_among : (c first end : ℕ) (ds : List E) (d : E) → IsStretch s c first ds end → Among d ds → (p : ℕ) × IsWrite s c p d × (first ≤ p) × (p < end)
  stretch_among c first end ds d is a =
      let found = among_place d ds a in
      (first + found.0, stretch_at s c first end ds is found.0 d found.1, omega arith, omega (arith, stretch_length s c first end ds is, within_of ds found.0 d found.1))

  -- and each place in it is among the stretch
  pub among_stretch : (c first end : ℕ) (ds : List E) (p : ℕ) (d : E) → IsStretch s c first ds end → IsWrite s c p d → first ≤ p → p < end → Among d ds
  among_stretch c first end ds p d is write from below =
      let rest = difference first p from in
      let there = place_of ds rest.0 (omega (arith, rest.1, stretch_length s c first end ds is)) in
      let sum : first + rest.0 ≡ p = omega (arith, rest.1) in
      let held : IsWrite s c p there.0 = subst (λ k. IsWrite s c k there.0) sum (stretch_at s c first end ds is rest.0 there.0 there.1) in
      place_among ds rest.0 d (there.1 ∙ ap (λ z. Some z) (one_write s c p there.0 d held write))

  -- ---- a run that is shared out

  module _ (sh : IsShared s) where
    pub by_earlier : (j k : ℕ) (a b d : E) → j < k → IsWrittenBy s j a d → IsWrittenBy s k b d → ⊥
    by_earlier j k a b d l first second =
        let told = sh.lawful.learns (world_at s j).state a d first.among in
        let here : given s sh (world_at s (suc j)).state (s.machine.key d) = subst (λ x. given s sh x (s.machine.key d)) (sym (next_state s sh j a first.is)) told in
        sh.lawful.fresh (world_at s k).state b d second.among (given_from s sh (suc j) k (s.machine.key d) l here)

    -- one event makes a write
    pub one_writer : (j k : ℕ) (a b d : E) → IsWrittenBy s j a d → IsWrittenBy s k b d → j ≡ k
    one_writer j k a b d first second = elim (lt_or_ge j k) [
      | inl l ↦ absurd (by_earlier j k a b d l first second)
      | inr g ↦ elim (lt_or_same k j g) [ inl l ↦ absurd (by_earlier k j b a d l second first) | inr same ↦ sym same ]
    ]

    same_event : (c j p k q : ℕ) (a b d : E) → j ≡ k → IsPlaced c p j a d → IsPlaced c q k b d → p ≡ q
    same_event c j p k q a b d same first second =
        let one : a ≡ b = one_event s sh k a b (subst (λ n. event_at s n ≡ Some a) same first.written.is) second.written.is in
        let there : slice_get (filter (has_channel s c) (s.machine.writes (world_at s k).state b)) first.index ≡ Some d =
        subst (λ e. slice_get (filter (has_channel s c) (s.machine.writes (world_at s k).state e)) first.index ≡ Some d) one
        (subst (λ n. slice_get (filter (has_channel s c) (s.machine.writes (world_at s n).state a)) first.index ≡ Some d) same first.is) in
        let index = apart_place s.machine.key _ d (filter_apart s.machine.key (has_channel s c) _ (sh.lawful.apart (world_at s k).state b)) first.index second.index there second.is in
        let counts : made s c j ≡ made s c k = ap (made s c) same in
        omega (arith, first.sum, second.sum, counts, index)

    -- a write has one place
    pub one_place : (c p q : ℕ) (d : E) → IsWrite s c p d → IsWrite s c q d → p ≡ q
    one_place c p q d first second =
        let one = origin c p d first in
        let two = origin c q d second in
        same_event c one.0 p two.0 q one.1 two.1 d (one_writer one.0 two.0 one.1 two.1 d one.2.written two.2.written) one.2 two.2

    -- a write by event number k has a place among those of this event
    pub place_of_write : (c p k : ℕ) (by d : E) → IsWrite s c p d → IsWrittenBy s k by d → (made s c k ≤ p) × (p < made s c (suc k))
    place_of_write c p k by d is w =
        let one = origin c p d is in
        let same = one_writer one.0 k one.1 by d one.2.written w in
        let low : made s c one.0 ≡ made s c k = ap (made s c) same in
        let high : made s c (suc one.0) ≡ made s c (suc k) = ap (λ n. made s c (suc n)) same in
        (omega (arith, one.2.sum, low), omega (arith, one.2.below, high))

    pub placed_before : (c p k n : ℕ) (by d : E) → IsWrite s c p d → IsWrittenBy s k by d → k < n → p < made s c n
    placed_before c p k n by d is w l = omega (arith, (place_of_write c p k by d is w).1, made_up c (suc k) n l)

    pub placed_after : (c p k n : ℕ) (by d : E) → IsWrite s c p d → IsWrittenBy s k by d → n ≤ k → made s c n ≤ p
    placed_after c p k n by d is w l = omega (arith, (place_of_write c p k by d is w).0, made_up c n k l)

    pub kept_cross : (k : ℕ) (by d : E) → IsWrittenBy s k by d → s.net.cross (channel_of s d) ≡ true → (w : IsKeptWrite s k d) × (w.by ≡ by)
    kept_cross k by d w cross = (record { by = by; is = w.is; among = w.among; passes = (sh.routed k by d w).uncut cross }, refl)

    -- where the sender's events before number k are before number n, it wrote nothing between
    pub made_le : (c k n : ℕ) → s.net.cross c ≡ true → ((j : ℕ) (e : E) → j < k → event_at s j ≡ Some e → is_on_line s (s.net.sender c) e ≡ true → j < n) → made s c k ≤ made s c n
    made_le c zero n cross early = made_up c 0 n (omega arith)
    made_le c (suc k) n cross early =
        let before = made_le c k n cross (λ j e l. early j e (omega arith)) in
        elim (some_or_none (event_at s k)) [
          | inr none ↦ omega (arith, before, ap length (on_none c k none))
          | inl some ↦ elim (test_cases (is_on_line s (s.net.sender c) some.0)) [
            | inl own ↦ made_up c (suc k) n (early k some.0 (omega arith) some.1 own)
            | inr other ↦
                let none : filter (has_channel s c) (s.machine.writes (world_at s k).state some.0) ≡ [] =
                filter_none (has_channel s c) _ (λ d a. elim (test_cases (has_channel s c d)) [
                  | inr f ↦ f
                  | inl t ↦
                      let channel : channel_of s d ≡ c = eqb-true (channel_of s d) c t in
                      let there : s.line some.0 ≡ s.net.sender (channel_of s d) =
                      (sh.routed k some.0 d (record { is = some.1; among = a })).sent (ap s.net.cross channel ∙ cross) in
                      let own : is_on_line s (s.net.sender c) some.0 ≡ true = eq-eqb (s.line some.0) (s.net.sender c) (there ∙ ap s.net.sender channel) in
                      absurd (let wrong : true ≡ false = sym own ∙ other in cc)
                ]) in
                omega (arith, before, made_event c k some.0 some.1, ap length none)
          ]
        ]
