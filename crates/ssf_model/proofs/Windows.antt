-- The windows of a run that ends are those that one computes.
use Rattle.std.proofs.Common.{◌≡◌, ℕ, zero, suc, ◌<◌, ◌≤◌, nat_le, min, refl, sym, ap, ◌∙◌, subst, inl, inr, arith, Option, Some, None, option_map}
use Rattle.event_order.proofs.Pending.{test_cases}
use Rattle.event_order.proofs.Steps.{le_true, le_false, lt_or_ge, lt_or_same, before_end}
use Rattle.event_order.specs.Machine.{option_list}
use Rattle.ssf_model.specs.Scene.{Scene, event_at, time_of}
use Rattle.ssf_model.specs.Truth.{lesser, least_of, least_time, next_window, window_from, window_at, IsLeastFrom, IsWindow}

module _ {X E : Type 0} (s : Scene X E) where
  -- one of the first n events has the time m, which is at least v
  record HasTime (v n m : ℕ) : Type 0 where
    number : ℕ
    event : E
    below : number < n
    is : event_at s number ≡ Some event
    at : time_of s event ≡ m
    from : v ≤ m

  -- the least time from v on of the first n events, if one of them has such a time
  abbrev IsLeastOf : ℕ → ℕ → Option ℕ → Type 0
  IsLeastOf v n None = (j : ℕ) (e : E) → j < n → event_at s j ≡ Some e → time_of s e < v
  IsLeastOf v n (Some m) = HasTime v n m × ((j : ℕ) (e : E) → j < n → event_at s j ≡ Some e → v ≤ time_of s e → m ≤ time_of s e)

  more_time : (v n m : ℕ) → HasTime v n m → HasTime v (suc n) m
  more_time v n m h = record { number = h.number; event = h.event; below = omega (arith, h.below); is = h.is; at = h.at; from = h.from }

  -- event number n has no time from v on, or there is none
  same_least : (v n : ℕ) (found : Option ℕ) → ((e : E) → event_at s n ≡ Some e → time_of s e < v) → IsLeastOf v n found → IsLeastOf v (suc n) found
  same_least v n None low h = λ j e l is. elim (lt_or_same j n (omega arith)) [
    | inl before ↦ h j e before is
    | inr same ↦ low e (subst (λ k. event_at s k ≡ Some e) same is)
  ]
  same_least v n (Some m) low h = (
    more_time v n m h.0,
    λ j e l is late. elim (lt_or_same j n (omega arith)) [
      | inl before ↦ h.1 j e before is late
      | inr same ↦ let early = low e (subst (λ k. event_at s k ≡ Some e) same is) in absurd (omega arith)
    ],
  )

  -- event number n has a time from v on
  new_least : (v n : ℕ) (found : Option ℕ) (d : E) → event_at s n ≡ Some d → v ≤ time_of s d → IsLeastOf v n found → IsLeastOf v (suc n) (lesser found (time_of s d))
  new_least v n None d at late h = (
    record { number = n; event = d; below = omega arith; is = at; at = refl; from = late },
    λ j e l is from. elim (lt_or_same j n (omega arith)) [
      | inl before ↦ let early = h j e before is in absurd (omega arith)
      | inr same ↦ let both : Some d ≡ Some e = sym at ∙ subst (λ k. event_at s k ≡ Some e) same is in let one : d ≡ e = cc in omega (arith, ap (λ x. time_of s x) one)
    ],
  )
  new_least v n (Some m) d at late h = (
    elim (lt_or_ge m (time_of s d)) [
      | inl less ↦ let least : m ≡ min m (time_of s d) = omega arith in subst (HasTime v (suc n)) least (more_time v n m h.0)
      | inr more ↦ let least : time_of s d ≡ min m (time_of s d) = omega arith in record { number = n; event = d; below = omega arith; is = at; at = least; from = omega arith }
    ],
    λ j e l is from. elim (lt_or_same j n (omega arith)) [
      | inl before ↦ let low = h.1 j e before is from in omega arith
      | inr same ↦ let both : Some d ≡ Some e = sym at ∙ subst (λ k. event_at s k ≡ Some e) same is in let one : d ≡ e = cc in omega (arith, ap (λ x. time_of s x) one)
    ],
  )

  next_least : (v n : ℕ) (found : Option ℕ) (o : Option E) → event_at s n ≡ o → IsLeastOf v n found → IsLeastOf v (suc n) (least_of s v (option_list o) found)
  next_least v n found None at h = same_least v n found (λ e is. let both : None ≡ Some e = sym at ∙ is in absurd (cc)) h
  next_least v n found (Some d) at h = elim (test_cases (nat_le v (time_of s d))) [
    | inl t ↦ rw t (new_least v n found d at (le_true v (time_of s d) t) h)
    | inr f ↦ rw f (same_least v n found (λ e is. let both : Some d ≡ Some e = sym at ∙ is in let one : d ≡ e = cc in let early = le_false v (time_of s d) f in omega (arith, ap (λ x. time_of s x) one)) h)
  ]

  least_is : (v n : ℕ) → IsLeastOf v n (least_time s v n)
  least_is v zero = λ j e l is. absurd (omega arith)
  least_is v (suc n) = next_least v n (least_time s v n) (event_at s n) refl (least_is v n)

  module _ (end : ℕ) (over : event_at s end ≡ None) where
    before_over : (j : ℕ) (e : E) → event_at s j ≡ Some e → j < end
    before_over j e is = before_end s.machine s.until s.kept s.opening end j e over is

    -- a least time is the one that is computed
    found_least : (v m : ℕ) (found : Option ℕ) → IsLeastOf v end found → IsLeastFrom s v m → found ≡ Some m
    found_least v m None h l = let early = h l.number l.event (before_over l.number l.event l.is) l.is in let at = l.at in let from = l.from in absurd (omega arith)
    found_least v m (Some k) h l =
        let one = h.1 l.number l.event (before_over l.number l.event l.is) l.is (let at = l.at in let from = l.from in omega arith) in
        let two = l.least h.0.number h.0.event h.0.is (let at = h.0.at in let from = h.0.from in omega arith) in
        let here = l.at in
        let there = h.0.at in
        ap (λ n. Some n) (omega arith)

    least_found : (v m : ℕ) (found : Option ℕ) → IsLeastOf v end found → found ≡ Some m → IsLeastFrom s v m
    least_found v m None h is = absurd (cc)
    least_found v m (Some k) h is =
        let same : k ≡ m = cc in
        subst (IsLeastFrom s v) same (record {
          number = h.0.number;
          event = h.0.event;
          is = h.0.is;
          at = h.0.at;
          from = h.0.from;
          least = λ j e at late. h.1 j e (before_over j e at) at late;
        })

    pub window_computed : (k v x : ℕ) → IsWindow s k v x → window_at s end k ≡ Some x
    window_computed zero v x w = ap (λ n. Some n) (sym w.1)
    window_computed (suc k) v x (u, m, before, least, is) =
        ap (window_from s end) (window_computed k u v before)
        ∙ (ap (option_map (next_window s.net.lookahead s.until)) (found_least v m (least_time s v end) (least_is v end) least) ∙ ap (λ n. Some n) (sym is))

    next_of : (k v u x : ℕ) (found : Option ℕ) → least_time s v end ≡ found → option_map (next_window s.net.lookahead s.until) found ≡ Some x → IsWindow s k u v → IsWindow s (suc k) v x
    next_of k v u x None e h before = absurd (cc)
    next_of k v u x (Some m) e h before =
        let same : next_window s.net.lookahead s.until m ≡ x = cc in
        (u, m, before, least_found v m (least_time s v end) (least_is v end) e, sym same)

    next_from : (k x : ℕ) (o : Option ℕ) → ((v : ℕ) → o ≡ Some v → (u : ℕ) × IsWindow s k u v) → window_from s end o ≡ Some x → (v : ℕ) × IsWindow s (suc k) v x
    next_from k x None before h = absurd (cc)
    next_from k x (Some v) before h = let w = before v refl in (v, next_of k v w.0 x (least_time s v end) refl h w.1)

    pub computed_window : (k x : ℕ) → window_at s end k ≡ Some x → (v : ℕ) × IsWindow s k v x
    computed_window zero x h = let same : 0 ≡ x = cc in (0, (refl, sym same))
    computed_window (suc k) x h = next_from k x (window_at s end k) (λ v is. computed_window k v is) h
