-- A run with a cut ends.
use Rattle.std.proofs.Common.{◌≡◌, ℕ, zero, suc, ◌+◌, ◌*◌, ◌<◌, ◌≤◌, Bool, true, false, cond, nat_le, List, [], ◌∷◌, filter, Some, None, refl, sym, ap, ◌∙◌, subst, inl, inr, arith}
use Rattle.std.proofs.Math.Nat.{mul-le-mul_right}
use Rattle.std.proofs.lemmas.Grind.{common_steps}
use Rattle.event_order.specs.declared.key.Key.{Key}
use Rattle.event_order.specs.Order.{comes_before, IsBefore}
use Rattle.event_order.specs.Pending.{put, put_all, Among, IsRising}
use Rattle.event_order.proofs.Order.{before_time, before_round}
use Rattle.event_order.proofs.Pending.{test_cases, filter_among}
use Rattle.event_order.specs.Machine.{Machine, World, due, after, event, within}
use Rattle.event_order.specs.Run.{IsOver}
use Rattle.event_order.specs.Laws.{IsLawful, IsOpening, HasRounds}
use Rattle.event_order.proofs.Steps.{Takes, lt_or_ge, lt_or_same, step_cases, late_head, pending_from, event_pending, provenance}
use Rattle.event_order.proofs.Keys.{pending_rises}

-- ---- how many of a list pass a test

count : {E : Type 0} → (E → Bool) → List E → ℕ
count p [] = 0
count p (x ∷ xs) = cond (p x) (suc (count p xs)) (count p xs)

module _ {E : Type 0} (p : E → Bool) where
  none_passes : (xs : List E) → count p xs ≡ 0 → (x : E) → Among x xs → p x ≡ false
  unfolding count
  none_passes [] h x a = absurd a
  none_passes (y ∷ ys) h x a = elim (test_cases (p y)) [
    | inl t ↦ absurd (let g : suc (count p ys) ≡ 0 = rw t at h in omega arith)
    | inr f ↦ elim a [ inl e ↦ ap p e ∙ f | inr b ↦ none_passes ys (let g : count p ys ≡ 0 = rw f at h in g) x b ]
  ]

  passes_none : (xs : List E) → ((x : E) → Among x xs → p x ≡ false) → count p xs ≡ 0
  unfolding count
  passes_none [] h = refl
  passes_none (y ∷ ys) h = rw (h y (inl refl)) (passes_none ys (λ x a. h x (inr a)))

  count_put : (key : E → Key) (x : E) (ys : List E) → count p (put key x ys) ≡ count p (x ∷ ys)
  unfolding count
  count_put key x [] = refl
  count_put key x (y ∷ ys) = elim (test_cases (comes_before (key x) (key y))) [
    | inl t ↦ rw t refl
    | inr f ↦ rw (f, count_put key x ys) (swap (p x) (p y) (count p ys))
  ]
    where
      swap : (a b : Bool) (n : ℕ) → cond b (suc (cond a (suc n) n)) (cond a (suc n) n) ≡ cond a (suc (cond b (suc n) n)) (cond b (suc n) n)
      swap true true n = refl
      swap true false n = refl
      swap false true n = refl
      swap false false n = refl

  plus : (b : Bool) (n k : ℕ) → n + cond b (suc k) k ≡ cond b (suc n) n + k
  plus true n k = omega arith
  plus false n k = refl

  count_put_all : (key : E → Key) (xs ys : List E) → count p (put_all key xs ys) ≡ count p xs + count p ys
  unfolding count
  count_put_all key [] ys = omega arith
  count_put_all key (x ∷ xs) ys = count_put_all key xs (put key x ys) ∙ ap (λ n. count p xs + n) (count_put key x ys) ∙ plus (p x) (count p xs) (count p ys)

-- ---- levels: a number for the time and the round of a key

level : ℕ → Key → ℕ
level R k = k.time * suc R + k.round

module _ (R : ℕ) where
  sooner : (s t r q : ℕ) → s < t → r ≤ R → s * suc R + r < t * suc R + q
  sooner s t r q l h = let e : suc s * suc R ≤ t * suc R = mul-le-mul_right (suc R) (let g : suc s ≤ t = omega arith in g) in omega arith

  level_later : (a b : Key) → a.time < b.time → a.round ≤ R → level R a < level R b
  unfolding level
  level_later a b l h = sooner a.time b.time a.round b.round l h

  level_next : (a b : Key) → a.time ≡ b.time → a.round < b.round → level R a < level R b
  unfolding level
  level_next a b e l = rw e (omega arith)

  level_along : (a b : Key) → IsBefore a b → a.round ≤ R → level R a ≤ level R b
  unfolding level
  level_along a b h l = let t = before_time a b h in elim (lt_or_same a.time b.time t) [
    | inl s ↦ let g = level_later a b s l in omega arith
    | inr e ↦ let r = before_round a b h e in rw e (omega arith)
  ]

  level_low : (until : ℕ) (a : Key) → a.time ≤ until → a.round ≤ R → level R a < suc until * suc R
  unfolding level
  level_low until a t r = let g = sooner a.time (suc until) a.round 0 (omega arith) r in omega arith

  level_high : (until : ℕ) (a : Key) → until < a.time → suc until * suc R ≤ level R a
  unfolding level
  level_high until a l = let e : suc until * suc R ≤ a.time * suc R = mul-le-mul_right (suc R) (let g : suc until ≤ a.time = omega arith in g) in omega arith

module _ {X E : Type 0} (m : Machine X E) (until R : ℕ) (w : World X E) (known : X → Key → Type 0) (fine : X → E → Type 0) (joined : E → E → Type 0)
    (lawful : IsLawful m known) (opening : IsOpening m known w) (rounded : HasRounds m fine joined)
    (all_fine : (n : ℕ) (e : E) → event m until (within R) w n ≡ Some e → fine (after m until (within R) w n).state e)
    (first : (d : E) → Among d w.pending → (m.key d).round ≡ 0) where
  pending_round : (n : ℕ) (x : E) → Among x (after m until (within R) w n).pending → (m.key x).round ≤ R
  pending_round n x a = elim (provenance m until (within R) w n x a) [
    | inl o ↦ omega (arith, first x o)
    | inr s ↦ within_is (m.key x).round R s.written.passes
  ]
    where
      within_is : (a b : ℕ) → nat_le a b ≡ true → a ≤ b
      within_is a b h = grind (arith, common_steps)

  -- what is pending has at least this level
  Above : ℕ → ℕ → Type 0
  Above l n = (x : E) → Among x (after m until (within R) w n).pending → l ≤ level R (m.key x)

  low : ℕ → E → Bool
  low l x = nat_le (level R (m.key x)) l

  above_of : (a l : ℕ) → nat_le a l ≡ false → suc l ≤ a
  above_of a l h = grind (arith, common_steps)

  below_of : (a l : ℕ) → suc l ≤ a → nat_le a l ≡ false
  below_of a l h = grind (arith, common_steps)

  low_is : (a l : ℕ) → a ≤ l → nat_le a l ≡ true
  low_is a l h = grind (arith, common_steps)

  -- the first of a list in key order has the least level
  head_least : (h : E) (hs : List E) → IsRising m.key (h ∷ hs) → (m.key h).round ≤ R → (x : E) → Among x (h ∷ hs) → level R (m.key h) ≤ level R (m.key x)
  head_least h hs r l x (inl e) = rw e (omega arith)
  head_least h hs r l x (inr a) = level_along R (m.key h) (m.key x) (r.0 x a) l

  head_late : (ps : List E) → IsRising m.key ps → due m.key until ps ≡ None → (x : E) → Among x ps → until < (m.key x).time
  head_late [] r h x a = absurd a
  head_late (e ∷ es) r h x (inl s) = rw s (late_head m until (within R) e es h)
  head_late (e ∷ es) r h x (inr a) = let late = late_head m until (within R) e es h in let later = before_time (m.key e) (m.key x) (r.0 x a) in omega arith

  written_above : (n : ℕ) (e b : E) → event m until (within R) w n ≡ Some e → Among b (m.writes (after m until (within R) w n).state e) → (m.key e).round ≤ R → level R (m.key e) < level R (m.key b)
  written_above n e b h a l = elim (rounded.parented (after m until (within R) w n).state e b (all_fine n e h) a) [
    | inl later ↦ level_later R (m.key e) (m.key b) later.1 l
    | inr next ↦ level_next R (m.key e) (m.key b) (sym next.1) (omega (arith, next.0))
  ]

  abbrev Taken : ℕ → Type 0
  Taken n = Takes m until (within R) (after m until (within R) w n).state (after m until (within R) w n).pending

  -- where the first is above the level, all are
  above_taken : (n l : ℕ) (t : Taken n) → l < level R (m.key t.head) → Above (suc l) n
  unfolding Above
  above_taken n l t g x a =
      let rising : IsRising m.key (t.head ∷ t.rest) = subst (λ ds. IsRising m.key ds) t.is (pending_rises m until (within R) w known lawful opening n) in
      let round : (m.key t.head).round ≤ R = pending_round n t.head (subst (λ ds. Among t.head ds) (sym t.is) (inl refl)) in
      let least = head_least t.head t.rest rising round x (subst (λ ds. Among x ds) t.is a) in omega arith

  head_round : (n : ℕ) (t : Taken n) → (m.key t.head).round ≤ R
  head_round n t = pending_round n t.head (subst (λ ds. Among t.head ds) (sym t.is) (inl refl))

  -- after the first was executed all is still at the level or above
  taken_above : (n l : ℕ) (t : Taken n) → Above l n → Above l (suc n)
  unfolding Above
  taken_above n l t above x a = elim (pending_from m until (within R) w n x a) [
    | inl b ↦ above x b
    | inr s ↦ let by = above s.by (event_pending m until (within R) w n s.by s.is) in
        let more = written_above n s.by x s.is s.among (pending_round n s.by (event_pending m until (within R) w n s.by s.is)) in omega arith
  ]

  -- and one less is at it
  taken_count : (n l c : ℕ) (t : Taken n) → Above l n → level R (m.key t.head) ≤ l → count (low l) (after m until (within R) w n).pending ≡ suc c →
      count (low l) (after m until (within R) w (suc n)).pending ≡ c
  unfolding Above low count
  taken_count n l c t above g some =
      let ws : List E = filter (λ d. within R (m.key d)) (m.writes (after m until (within R) w n).state t.head) in
      let at : l ≤ level R (m.key t.head) = above t.head (subst (λ ds. Among t.head ds) (sym t.is) (inl refl)) in
      let none : count (low l) ws ≡ 0 = passes_none (low l) ws (λ b a. below_of (level R (m.key b)) l
      (let more = written_above n t.head b t.due_is (filter_among (λ d. within R (m.key d)) b _ a).among (head_round n t) in omega arith)) in
      let all : count (low l) (t.head ∷ t.rest) ≡ suc c = subst (λ ds. count (low l) ds ≡ suc c) t.is some in
      let one : suc (count (low l) t.rest) ≡ suc c = rw (low_is (level R (m.key t.head)) l g) at all in
      ap (λ (v : World X E). count (low l) v.pending) t.next_is ∙ count_put_all (low l) m.key ws t.rest ∙ (let rest : count (low l) t.rest ≡ c = omega arith in rw (none, rest) (omega arith))

  -- from a moment at which all is at level l or above, the run comes to one at which all is above it
  settle : (c n l : ℕ) → l < suc until * suc R → Above l n → count (low l) (after m until (within R) w n).pending ≡ c → (k : ℕ) × Above (suc l) k
  unfolding Above low
  settle zero n l top above none = (n, λ x a. above_of (level R (m.key x)) l (none_passes (low l) (after m until (within R) w n).pending none x a))
  settle (suc c) n l top above some = elim (step_cases m until (within R) (after m until (within R) w n).state (after m until (within R) w n).pending) [
    | inl t ↦ elim (lt_or_ge l (level R (m.key t.head))) [
      | inl g ↦ (n, above_taken n l t g)
      | inr g ↦ settle c (suc n) l top (taken_above n l t above) (taken_count n l c t above g some)
    ]
    | inr r ↦ (
      n,
      λ x a. let late = head_late (after m until (within R) w n).pending (pending_rises m until (within R) w known lawful opening n) r.none x a in
          let high = level_high R until (m.key x) late in omega arith,
    )
  ]

  risen_to : (l : ℕ) → l ≤ suc until * suc R → (n : ℕ) × Above l n
  unfolding Above
  risen_to zero h = (0, λ x a. omega arith)
  risen_to (suc l) h = let before = risen_to l (omega arith) in settle (count (low l) (after m until (within R) w before.0).pending) before.0 l (omega arith) before.1 refl

  -- a run with a cut ends
  pub finite : (n : ℕ) × IsOver m until (within R) w n
  unfolding Above
  finite = let end = risen_to (suc until * suc R) (omega arith) in (
    end.0,
    elim (step_cases m until (within R) (after m until (within R) w end.0).state (after m until (within R) w end.0).pending) [
      | inl t ↦ let there : Among t.head (after m until (within R) w end.0).pending = subst (λ ds. Among t.head ds) (sym t.is) (inl refl) in
          let high = end.1 t.head there in let less = level_low R until (m.key t.head) t.in_time (pending_round end.0 t.head there) in absurd (omega arith)
      | inr r ↦ r.none
    ],
  )
