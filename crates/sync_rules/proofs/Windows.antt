-- Moments of times and windows: they rise, and each has one before it.
use Rattle.std.proofs.Common.{◌≡◌, ℕ, zero, suc, ◌+◌, ◌<◌, ◌≤◌, ◌⊎◌, true, false, Option, Some, None, refl, sym, ap, ◌∙◌, subst, inl, inr, arith}
use Rattle.event_order.proofs.Steps.{lt_or_ge, lt_or_same}
use Rattle.ssf_model.specs.Scene.{Scene, event_at, time_of, channel_of}
use Rattle.ssf_model.specs.Truth.{IsCut, IsLeastFrom, next_window, IsWindow}
use Rattle.sync_rules.specs.Shared.{IsShared, IsWrittenBy}
use Rattle.sync_rules.specs.Sound.{made}
use Rattle.sync_rules.proofs.Runs.{some_or_none, times, in_time, before_over}
use Rattle.sync_rules.proofs.Writes.{made_le}

-- ---- the window after another

pub next_later : (lookahead : Option ℕ) (until m : ℕ) → ((d : ℕ) → lookahead ≡ Some d → 1 ≤ d) → m ≤ until → m < next_window lookahead until m
next_later None until m long l = omega arith
next_later (Some d) until m long l = let one = long d refl in omega arith

pub next_most : (lookahead : Option ℕ) (until m : ℕ) → next_window lookahead until m ≤ until + 1
next_most None until m = omega arith
next_most (Some d) until m = omega arith

next_near : (lookahead : Option ℕ) (until m d : ℕ) → lookahead ≡ Some d → next_window lookahead until m ≤ m + d
next_near None until m d is = absurd (cc)
next_near (Some e) until m d is = let same : e ≡ d = cc in omega (arith, same)

module _ {X E : Type 0} (s : Scene X E) (sh : IsShared s) where
  -- ---- moments

  more_early : (v k : ℕ) → ((j : ℕ) (e : E) → event_at s j ≡ Some e → j < k → time_of s e < v) → ((e : E) → event_at s k ≡ Some e → time_of s e < v)
      → (j : ℕ) (e : E) → event_at s j ≡ Some e → j < suc k → time_of s e < v
  more_early v k all here j e is l = elim (lt_or_same j k (omega arith)) [
    | inl less ↦ all j e is less
    | inr same ↦ here e (subst (λ n. event_at s n ≡ Some e) same is)
  ]

  cut_upto : (v k : ℕ) → ((n : ℕ) × IsCut s v n) ⊎ ((j : ℕ) (e : E) → event_at s j ≡ Some e → j < k → time_of s e < v)
  cut_upto v zero = inr (λ j e is l. absurd (omega arith))
  cut_upto v (suc k) = elim (cut_upto v k) [
    | inl found ↦ inl found
    | inr all ↦ elim (some_or_none (event_at s k)) [
      | inr none ↦ inr (more_early v k all (λ e is. absurd (let wrong : None ≡ Some e = sym none ∙ is in cc)))
      | inl some ↦ elim (lt_or_ge (time_of s some.0) v) [
        | inl less ↦ inr (more_early v k all (λ e is. let same : Some some.0 ≡ Some e = sym some.1 ∙ is in let one : some.0 ≡ e = cc in subst (λ x. time_of s x < v) one less))
        | inr late ↦ inl (
          k,
          record {
            early = λ j e is l. all j e is l;
            late = λ j e is l. let order = times s sh k j some.0 e l some.1 is in omega arith;
          },
        )
      ]
    ]
  ]

  -- each time has a moment
  pub cut_at : (v : ℕ) → (n : ℕ) × IsCut s v n
  cut_at v = elim (cut_upto v sh.end) [
    | inl found ↦ found
    | inr all ↦ (
      sh.end,
      record {
        early = λ j e is l. all j e is l;
        late = λ j e is l. let below = before_over s sh j e is in absurd (omega arith);
      },
    )
  ]

  -- up to the moment of a later time at least as much is written
  pub made_cut : (c v a u b : ℕ) → s.net.cross c ≡ true → v ≤ u → IsCut s v a → IsCut s u b → made s c a ≤ made s c b
  made_cut c v a u b cross l first second = made_le s sh c a b cross (λ j e less is own. elim (lt_or_ge j b) [
    | inl early ↦ early
    | inr late ↦ let one = first.early j e is less in let two = second.late j e is late in absurd (omega arith)
  ])

  -- ---- least times

  pub least_one : (v m k : ℕ) → IsLeastFrom s v m → IsLeastFrom s v k → m ≡ k
  least_one v m k a b =
      let one = a.least b.number b.event b.is (omega (arith, b.from, b.at)) in
      let two = b.least a.number a.event a.is (omega (arith, a.from, a.at)) in
      omega (arith, one, two, a.at, b.at)

  pub least_early : (v m : ℕ) → IsLeastFrom s v m → m ≤ s.until
  least_early v m a = omega (arith, in_time s sh a.number a.event a.is, a.at)

  -- ---- windows

  -- a window is later than the one before it
  pub window_later : (k v x : ℕ) → IsWindow s (suc k) v x → v < x
  window_later k v x (u, m, before, least, is) =
      let next = next_later s.net.lookahead s.until m sh.joining.long (least_early v m least) in omega (arith, next, least.from, is)

  pub window_rises : (k v x : ℕ) → 0 < k → IsWindow s k v x → v < x
  window_rises zero v x l w = absurd (omega arith)
  window_rises (suc k) v x l w = window_later k v x w

  pub window_not_before : (k v x : ℕ) → IsWindow s k v x → v ≤ x
  window_not_before zero v x w = omega (arith, w.0)
  window_not_before (suc k) v x w = omega (arith, window_later k v x w)

  pub window_most : (k v x : ℕ) → IsWindow s k v x → x ≤ s.until + 1
  window_most zero v x w = omega (arith, w.1)
  window_most (suc k) v x (u, m, before, least, is) = omega (arith, next_most s.net.lookahead s.until m, is)

  -- a number has one window, and that one window before it
  pub window_one : (k v x u y : ℕ) → IsWindow s k v x → IsWindow s k u y → (v ≡ u) × (x ≡ y)
  window_one zero v x u y a b = (omega (arith, a.0, b.0), omega (arith, a.1, b.1))
  window_one (suc k) v x u y (u1, m1, before1, least1, is1) (u2, m2, before2, least2, is2) =
      let before : v ≡ u = (window_one k u1 v u2 u before1 before2).1 in
      let least : m1 ≡ m2 = least_one u m1 m2 (subst (λ n. IsLeastFrom s n m1) before least1) least2 in
      (before, is1 ∙ ap (next_window s.net.lookahead s.until) least ∙ sym is2)

  pub window_order : (k j v x u y : ℕ) → j < k → IsWindow s k v x → IsWindow s j u y → y ≤ v
  window_order zero j v x u y l a b = absurd (omega arith)
  window_order (suc k) j v x u y l (w, m, before, least, is) b = elim (lt_or_same j k (omega arith)) [
    | inl less ↦ omega (arith, window_order k j w v u y less before b, window_not_before k w v before)
    | inr same ↦ let one = window_one k w v u y before (subst (λ n. IsWindow s n u y) same b) in omega (arith, one.1)
  ]

  -- an earlier window is at or before the one before
  pub window_below : (k v x j u y : ℕ) → IsWindow s k v x → IsWindow s j u y → y < x → y ≤ v
  window_below k v x j u y a b l = elim (lt_or_ge j k) [
    | inl less ↦ window_order k j v x u y less a b
    | inr more ↦ elim (lt_or_same k j more) [
      | inl later ↦ let order = window_order j k u y v x later b a in let rise = window_not_before j u y b in absurd (omega arith)
      | inr same ↦ let one = window_one j v x u y (subst (λ n. IsWindow s n v x) same a) b in let equal = one.1 in absurd (omega arith)
    ]
  ]

  -- a window tells the one before it
  pub window_before : (k v x j u y : ℕ) → IsWindow s k v x → IsWindow s j u y → x ≡ y → v ≡ u
  window_before k v x j u y a b same = elim (lt_or_ge j k) [
    | inl less ↦ let order = window_order k j v x u y less a b in let rise = window_rises k v x (omega arith) a in absurd (omega arith)
    | inr more ↦ elim (lt_or_same k j more) [
      | inl later ↦ let order = window_order j k u y v x later b a in let rise = window_rises j u y (omega arith) b in absurd (omega arith)
      | inr one ↦ (window_one j v x u y (subst (λ n. IsWindow s n v x) one a) b).0
    ]
  ]

  -- what comes before a window on a windowed channel was written before the window before it
  pub written_before : (k v x j : ℕ) (by d : E) → IsWindow s k v x → IsWrittenBy s j by d → s.net.cross (channel_of s d) ≡ true → s.net.appointed (channel_of s d) ≡ false
      → time_of s d < x → time_of s by < v
  written_before zero v x j by d w write cross windowed early = let none = w.1 in absurd (omega arith)
  written_before (suc k) v x j by d (u, m, before, least, is) write cross windowed early = elim (lt_or_ge (time_of s by) v) [
    | inl less ↦ less
    | inr late ↦
        let from = least.least j by write.is late in
        let long = sh.joining.windowed (channel_of s d) cross windowed in
        let near = next_near s.net.lookahead s.until m long.0 long.1 in
        let delay = (sh.routed j by d write).delayed cross in
        let short = long.2 in
        absurd (omega (arith, from, near, delay, short, early, is))
  ]
