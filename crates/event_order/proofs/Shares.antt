-- Shares of a run, and cuts that drop nothing: where an event of round k has k earlier events of its share, and no share
-- has many events, rounds stay low.
use Rattle.std.proofs.Common.{◌≡◌, ℕ, zero, suc, ◌+◌, ◌<◌, ◌≤◌, Bool, true, List, [], ◌∷◌, ◌++◌, filter, length, refl, sym, ap, ◌∙◌, subst, inl, inr, arith, zero-add, Option, Some, None}
use native.Mathlib.Nat.{suc-add}
use Rattle.event_order.specs.declared.key.Key.{Key}
use Rattle.event_order.specs.Pending.{Among}
use Rattle.event_order.proofs.Pending.{test_cases}
use Rattle.event_order.specs.Machine.{Machine, World, due, after, event, option_list, first_events}
use Rattle.event_order.specs.Run.{Run, Chain, share}
use Rattle.event_order.specs.Laws.{HasRounds}
use Rattle.event_order.proofs.Local.{share_own}
use Rattle.event_order.proofs.Rounds.{rounds, same_cut}
use Rattle.event_order.proofs.Steps.{difference}

longer_filter : {E : Type 0} (p : E → Bool) (xs ys : List E) → length (filter p xs) ≤ length (filter p (xs ++ ys))
longer_filter p [] ys = omega arith
longer_filter p (x ∷ xs) ys = elim (test_cases (p x)) [
  | inl t ↦ let h = longer_filter p xs ys in rw (t) (omega arith)
  | inr f ↦ let h = longer_filter p xs ys in rw (f) h
]

pub one_more : {E : Type 0} (xs : List E) (x : E) → length (xs ++ x ∷ []) ≡ suc (length xs)
one_more [] x = refl
one_more (y ∷ ys) x = ap (λ n. suc n) (one_more ys x)

filter_one : {E : Type 0} (p : E → Bool) (xs : List E) (o : Option E) → length (filter p (xs ++ option_list o)) ≤ suc (length (filter p xs))
filter_one p [] None = omega arith
filter_one p [] (Some e) = elim (test_cases (p e)) [ inl t ↦ rw t (omega arith) | inr f ↦ rw f (omega arith) ]
filter_one p (x ∷ xs) o = let h = filter_one p xs o in elim (test_cases (p x)) [ inl t ↦ rw t (omega arith) | inr f ↦ rw f h ]

module _ {X E : Type 0} (m : Machine X E) (until : ℕ) (kept : Key → Bool) (w : World X E) where
  share_grows : (mine : E → Bool) (k n : ℕ) → length (share m until kept w mine n) ≤ length (share m until kept w mine (k + n))
  share_grows mine zero n = rw zero-add (omega arith)
  share_grows mine (suc k) n = rw suc-add (omega (
    arith,
    share_grows mine k n,
    longer_filter mine (first_events m until kept w (k + n)) (option_list (event m until kept w (k + n))),
  ))

  grows_to : (mine : E → Bool) (n k : ℕ) → n ≤ k → length (share m until kept w mine n) ≤ length (share m until kept w mine k)
  grows_to mine n k l = let d = difference n k l in
      subst (λ j. length (share m until kept w mine n) ≤ length (share m until kept w mine j)) (sym d.1) (share_grows mine d.0 n)

  pub share_length : (mine : E → Bool) (n : ℕ) → length (share m until kept w mine n) ≤ n
  share_length mine zero = omega arith
  share_length mine (suc n) = omega (arith, filter_one mine (first_events m until kept w n) (event m until kept w n), share_length mine n)

  abbrev run : Run X E
  run = record { machine = m; until = until; kept = kept; opening = w }

  -- a chain within one share, and the share's length
  pub chain_share : (joined : E → E → Type 0) (mine : E → Bool) → ((p d : E) → joined p d → (m.key p).time ≡ (m.key d).time → mine d ≡ true → mine p ≡ true) →
      (r n : ℕ) (e : E) → event m until kept w n ≡ Some e → mine e ≡ true → Chain run joined (record { number = n; event = e }) r → r < length (share m until kept w mine (suc n))
  chain_share joined mine stays zero n e h own c = omega (
    arith,
    ap (λ (es : List E). length es) (share_own m until kept w mine n e h own),
    one_more (share m until kept w mine n) e,
  )
  chain_share joined mine stays (suc r) n e h own c =
      let cause = c.0 in
      let link = c.1 in
      let before = chain_share joined mine stays r cause.number cause.event link.is (stays cause.event e link.link link.time own) c.2 in
      let early : suc cause.number ≤ n = omega (arith, link.earlier) in
      omega (
        arith,
        before,
        grows_to mine (suc cause.number) n early,
        ap (λ (es : List E). length es) (share_own m until kept w mine n e h own),
        one_more (share m until kept w mine n) e,
      )

  module _ (fine : X → E → Type 0) (joined : E → E → Type 0) (rounded : HasRounds m fine joined)
      (all_fine : (n : ℕ) (e : E) → event m until kept w n ≡ Some e → fine (after m until kept w n).state e)
      (first : (d : E) → Among d w.pending → (m.key d).round ≡ 0)
      (on : ℕ → E → Bool) (place : E → ℕ) (is_on : (e : E) → on (place e) e ≡ true)
      (stays : (i : ℕ) (p d : E) → joined p d → on i d ≡ true → on i p ≡ true)
      (most : ℕ) (few : (i n : ℕ) → length (share m until kept w (on i) n) ≤ most) where
    -- every write is of a low round
    written_low : (n : ℕ) (e b : E) → event m until kept w n ≡ Some e → Among b (m.writes (after m until kept w n).state e) → (m.key b).round ≤ most
    written_low n e b h a =
        let long = chain_share joined (on (place e)) (λ p d j t. stays (place e) p d j) (m.key e).round n e h (is_on e) (rounds m until kept w fine joined rounded all_fine first n e h) in
        let below = few (place e) (suc n) in
        elim (rounded.parented (after m until kept w n).state e b (all_fine n e h) a) [
          | inl later ↦ omega (arith, later.0)
          | inr next ↦ omega (arith, next.0)
        ]

    module _ (other : Key → Bool) (both : (k : Key) → k.round ≤ most → kept k ≡ other k) where
      pub same_after : (n : ℕ) → after m until kept w n ≡ after m until other w n
      same_after n = same_cut m until w kept other n (λ k e b l h a. both (m.key b) (written_low k e b h a))

      -- two cuts that keep the low rounds make no difference
      pub same_events : (n : ℕ) → first_events m until kept w n ≡ first_events m until other w n
      same_events zero = refl
      same_events (suc n) =
          ap (λ (es : List E). es ++ option_list (event m until kept w n)) (same_events n)
          ∙ ap (λ (v : World X E). first_events m until other w n ++ option_list (due m.key until v.pending)) (same_after n)
