-- Keys rise strictly along a run, and each event is written once.
use Rattle.std.proofs.Common.{◌≡◌, ℕ, zero, suc, ◌+◌, ◌<◌, ◌≤◌, ◌⊎◌, Bool, List, [], ◌∷◌, filter, Some, None, refl, sym, ap, ◌∙◌, subst, inl, inr, arith, zero-add}
use native.Mathlib.Nat.{suc-add}
use Rattle.event_order.specs.declared.key.Key.{Key}
use Rattle.event_order.specs.Order.{IsBefore}
use Rattle.event_order.specs.Pending.{Among, IsRising}
use Rattle.event_order.proofs.Order.{before_trans, before_irrefl, before_time}
use Rattle.event_order.proofs.Pending.{put_all_among, filter_among, put_all_rises, filter_apart, rising_apart, one_of_key}
use Rattle.event_order.specs.Machine.{Machine, World, due, after, event}
use Rattle.event_order.specs.Run.{WrittenAt, ExecutedWithin, Arises}
use Rattle.event_order.specs.Laws.{IsLawful, IsOpening}
use Rattle.event_order.proofs.Steps.{lt_or_ge, lt_or_same, difference, step_cases, pending_from, event_pending, after_event, late_head, completeness, written_to, before_end}

module _ {X E : Type 0} (m : Machine X E) (until : ℕ) (kept : Key → Bool) (w : World X E) (known : X → Key → Type 0) (lawful : IsLawful m known) (opening : IsOpening m known w) where
  -- ---- known keys

  known_next : (n : ℕ) (k : Key) → known (after m until kept w n).state k → known (after m until kept w (suc n)).state k
  known_next n k a = elim (step_cases m until kept (after m until kept w n).state (after m until kept w n).pending) [
    | inl t ↦ subst (λ (v : World X E). known v.state k) (sym t.next_is) (lawful.keeps (after m until kept w n).state t.head k a)
    | inr r ↦ subst (λ (v : World X E). known v.state k) (sym r.next_is) a
  ]

  -- a key that was given out stays so
  pub known_later : (j n : ℕ) (k : Key) → known (after m until kept w n).state k → known (after m until kept w (j + n)).state k
  known_later zero n k a = rw zero-add a
  known_later (suc j) n k a = rw suc-add (known_next (j + n) k (known_later j n k a))

  pub known_from : (n k : ℕ) (d : Key) → n ≤ k → known (after m until kept w n).state d → known (after m until kept w k).state d
  known_from n k d h a = let there = difference n k h in subst (λ j. known (after m until kept w j).state d) (sym there.1) (known_later there.0 n d a)

  pub written_known : (n : ℕ) (x : E) → WrittenAt m until kept w n x → known (after m until kept w (suc n)).state (m.key x)
  written_known n x a = elim (step_cases m until kept (after m until kept w n).state (after m until kept w n).pending) [
    | inl t ↦ let same : Some a.by ≡ Some t.head = sym a.is ∙ t.due_is in let by : a.by ≡ t.head = cc in
        subst (λ (v : World X E). known v.state (m.key x)) (sym t.next_is)
        (lawful.learns (after m until kept w n).state t.head x (subst (λ e. Among x (m.writes (after m until kept w n).state e)) by a.among))
    | inr r ↦ let same : Some a.by ≡ None = sym a.is ∙ r.none in absurd (cc)
  ]

  -- the keys of pending events were given out
  pub pending_known : (n : ℕ) (x : E) → Among x (after m until kept w n).pending → known (after m until kept w n).state (m.key x)
  pending_known zero x a = opening.told x a
  pending_known (suc n) x a = elim (pending_from m until kept w n x a) [
    | inl b ↦ known_next n (m.key x) (pending_known n x b)
    | inr s ↦ written_known n x s
  ]

  -- ---- pending events stand in key order

  pub pending_rises : (n : ℕ) → IsRising m.key (after m until kept w n).pending
  pending_rises zero = opening.risen
  pending_rises (suc n) = elim (step_cases m until kept (after m until kept w n).state (after m until kept w n).pending) [
    | inl t ↦ let rising : IsRising m.key (t.head ∷ t.rest) = subst (λ ds. IsRising m.key ds) t.is (pending_rises n) in
        subst (λ (v : World X E). IsRising m.key v.pending) (sym t.next_is)
        (put_all_rises m.key (filter (λ d. kept (m.key d)) (m.writes (after m until kept w n).state t.head)) t.rest rising.1
        (filter_apart m.key (λ d. kept (m.key d)) _ (lawful.apart (after m until kept w n).state t.head))
        (λ x y a b e. lawful.fresh (after m until kept w n).state t.head x (filter_among (λ d. kept (m.key d)) x _ a).among
        (subst (λ k. known (after m until kept w n).state k) (sym e) (pending_known n y (subst (λ ds. Among y ds) (sym t.is) (inr b))))))
    | inr r ↦ subst (λ (v : World X E). IsRising m.key v.pending) (sym r.next_is) (pending_rises n)
  ]

  -- ---- keys rise

  -- what is pending after an event comes after it
  pub after_comes : (n : ℕ) (e d : E) → event m until kept w n ≡ Some e → Among d (after m until kept w (suc n)).pending → IsBefore (m.key e) (m.key d)
  after_comes n e d h a = let step = after_event m until kept w n e h in
      elim (put_all_among m.key d (filter (λ b. kept (m.key b)) (m.writes (after m until kept w n).state e)) step.0 (subst (λ (v : World X E). Among d v.pending) step.2 a)) [
        | inl b ↦ lawful.rises (after m until kept w n).state e d (filter_among (λ b. kept (m.key b)) d _ b).among
        | inr b ↦ let rising : IsRising m.key (e ∷ step.0) = subst (λ ds. IsRising m.key ds) step.1 (pending_rises n) in rising.0 d b
      ]

  pub long_after_comes : (k n : ℕ) (e d : E) → event m until kept w n ≡ Some e → Among d (after m until kept w (k + suc n)).pending → IsBefore (m.key e) (m.key d)
  long_after_comes zero n e d h a = after_comes n e d h (rw zero-add at a)
  long_after_comes (suc k) n e d h a = elim (pending_from m until kept w (k + suc n) d (rw suc-add at a)) [
    | inl b ↦ long_after_comes k n e d h b
    | inr s ↦ before_trans (m.key e) (m.key s.by) (m.key d) (long_after_comes k n e s.by h (event_pending m until kept w (k + suc n) s.by s.is))
        (lawful.rises (after m until kept w (k + suc n)).state s.by d s.among)
  ]

  -- what is pending later than an event comes after it
  pub later_comes : (n k : ℕ) (e d : E) → n < k → event m until kept w n ≡ Some e → Among d (after m until kept w k).pending → IsBefore (m.key e) (m.key d)
  later_comes n k e d l h a = let there = difference (suc n) k (omega arith) in
      long_after_comes there.0 n e d h (subst (λ j. Among d (after m until kept w j).pending) there.1 a)

  pub keys_rise : (n k : ℕ) (e d : E) → n < k → event m until kept w n ≡ Some e → event m until kept w k ≡ Some d → IsBefore (m.key e) (m.key d)
  keys_rise n k e d l h g = later_comes n k e d l h (event_pending m until kept w k d g)

  -- the events of a run have different keys
  pub key_once : (n k : ℕ) (e d : E) → event m until kept w n ≡ Some e → event m until kept w k ≡ Some d → m.key e ≡ m.key d → n ≡ k
  key_once n k e d h g same = elim (lt_or_ge n k) [
    | inl l ↦ absurd (before_irrefl (m.key d) (subst (λ b. IsBefore b (m.key d)) same (keys_rise n k e d l h g)))
    | inr ge ↦ elim (lt_or_same k n ge) [
      | inl l ↦ absurd (before_irrefl (m.key d) (subst (λ b. IsBefore (m.key d) b) same (keys_rise k n d e l g h)))
      | inr s ↦ sym s
    ]
  ]

  pub done_once : (n k : ℕ) (e : E) → event m until kept w n ≡ Some e → event m until kept w k ≡ Some e → n ≡ k
  done_once n k e h g = key_once n k e e h g refl

  -- an event that comes before another is executed earlier
  pub before_earlier : (n k : ℕ) (e d : E) → event m until kept w n ≡ Some e → event m until kept w k ≡ Some d → IsBefore (m.key e) (m.key d) → n < k
  before_earlier n k e d h g b = elim (lt_or_ge n k) [
    | inl l ↦ l
    | inr ge ↦ elim (lt_or_same k n ge) [
      | inl l ↦ absurd (before_irrefl (m.key e) (before_trans (m.key e) (m.key d) (m.key e) b (keys_rise k n d e l g h)))
      | inr s ↦ let same : Some e ≡ Some d = sym h ∙ ap (λ j. event m until kept w j) (sym s) ∙ g in let one : e ≡ d = cc in
          absurd (before_irrefl (m.key d) (subst (λ x. IsBefore (m.key x) (m.key d)) one b))
    ]
  ]

  -- ---- each event arises once

  pub opened_not_written : (k : ℕ) (x y : E) → Among x w.pending → WrittenAt m until kept w k y → m.key x ≡ m.key y → ⊥
  opened_not_written k x y a s e = lawful.fresh (after m until kept w k).state s.by y s.among
      (subst (λ d. known (after m until kept w k).state d) e (known_from 0 k (m.key x) (omega arith) (opening.told x a)))

  not_written_later : (n k : ℕ) (x y : E) → n < k → WrittenAt m until kept w n x → WrittenAt m until kept w k y → m.key x ≡ m.key y → ⊥
  not_written_later n k x y l s t e = lawful.fresh (after m until kept w k).state t.by y t.among
      (subst (λ d. known (after m until kept w k).state d) e (known_from (suc n) k (m.key x) (omega arith) (written_known n x s)))

  pub written_once : (n k : ℕ) (x y : E) → WrittenAt m until kept w n x → WrittenAt m until kept w k y → m.key x ≡ m.key y → n ≡ k
  written_once n k x y s t e = elim (lt_or_ge n k) [
    | inl l ↦ absurd (not_written_later n k x y l s t e)
    | inr ge ↦ elim (lt_or_same k n ge) [ inl l ↦ absurd (not_written_later k n y x l t s (sym e)) | inr same ↦ sym same ]
  ]

  written_alike : (n : ℕ) (x y : E) → WrittenAt m until kept w n x → WrittenAt m until kept w n y → m.key x ≡ m.key y → x ≡ y
  written_alike n x y s t e = let same : Some t.by ≡ Some s.by = sym t.is ∙ s.is in let by : t.by ≡ s.by = cc in
      one_of_key m.key (m.writes (after m until kept w n).state s.by) x y (lawful.apart (after m until kept w n).state s.by) s.among
      (subst (λ b. Among y (m.writes (after m until kept w n).state b)) by t.among) e

  -- of all that arises in a run, no two have one key
  pub one_key : (x y : E) → Arises m until kept w x → Arises m until kept w y → m.key x ≡ m.key y → x ≡ y
  one_key x y (inl a) (inl b) e = one_of_key m.key w.pending x y (rising_apart m.key w.pending opening.risen) a b e
  one_key x y (inl a) (inr t) e = absurd (opened_not_written t.0 x y a t.1 e)
  one_key x y (inr s) (inl b) e = absurd (opened_not_written s.0 y x b s.1 (sym e))
  one_key x y (inr s) (inr t) e = let same = written_once s.0 t.0 x y s.1 t.1 e in
      written_alike t.0 x y (subst (λ j. WrittenAt m until kept w j x) same s.1) t.1 e

  -- ---- all that is in time is executed before the end

  rising_first : (h : E) (hs : List E) (x : E) → IsRising m.key (h ∷ hs) → Among x (h ∷ hs) → (x ≡ h) ⊎ IsBefore (m.key h) (m.key x)
  rising_first h hs x r (inl e) = inl e
  rising_first h hs x r (inr a) = inr (r.0 x a)

  none_in_time : (ps : List E) (x : E) → IsRising m.key ps → due m.key until ps ≡ None → Among x ps → (m.key x).time ≤ until → ⊥
  none_in_time [] x r h a l = a
  none_in_time (e ∷ es) x r h a l = let late = late_head m until kept e es h in elim (rising_first e es x r a) [
    | inl s ↦ let here : (m.key e).time ≤ until = subst (λ b. (m.key b).time ≤ until) s l in omega arith
    | inr b ↦ let later : (m.key e).time ≤ (m.key x).time = before_time (m.key e) (m.key x) b in omega arith
  ]

  pub all_executed : (k n : ℕ) (x : E) → event m until kept w (k + n) ≡ None → Among x (after m until kept w n).pending → (m.key x).time ≤ until → ExecutedWithin m until kept w n (k + n) x
  all_executed k n x h a l = elim (completeness m until kept w k n x a) [
    | inl b ↦ absurd (none_in_time (after m until kept w (k + n)).pending x (pending_rises (k + n)) h b l)
    | inr d ↦ d
  ]

  pub pending_executed : (end n : ℕ) (x : E) → event m until kept w end ≡ None → n ≤ end → Among x (after m until kept w n).pending → (m.key x).time ≤ until → ExecutedWithin m until kept w n end x
  pending_executed end n x h g a l = let there = difference n end g in
      subst (λ j. ExecutedWithin m until kept w n j x) (sym there.1) (all_executed there.0 n x (subst (λ j. event m until kept w j ≡ None) there.1 h) a l)

  pub arisen_executed : (end : ℕ) (x : E) → event m until kept w end ≡ None → Arises m until kept w x → (m.key x).time ≤ until → ExecutedWithin m until kept w 0 end x
  arisen_executed end x h (inl a) l = pending_executed end 0 x h (omega arith) a l
  arisen_executed end x h (inr s) l = let there = before_end m until kept w end s.0 s.1.by h s.1.is in
      let d = pending_executed end (suc s.0) x h (omega arith) (written_to m until kept w s.0 x s.1) l in
      record { at = d.at; from = omega arith; below = d.below; is = d.is }
