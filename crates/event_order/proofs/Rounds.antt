-- Rounds: an event of round k has k earlier events at its time. So early in a run rounds are low, and a cut drops nothing.
use Rattle.std.proofs.Common.{◌≡◌, ℕ, zero, suc, ◌<◌, ◌≤◌, Bool, nat_le, List, [], ◌∷◌, filter, Some, refl, sym, ap, ◌∙◌, inl, inr, arith}
use Rattle.event_order.specs.declared.key.Key.{Key}
use Rattle.event_order.specs.Pending.{put_all, Among}
use Rattle.event_order.proofs.Pending.{test_cases}
use Rattle.event_order.specs.Machine.{Machine, World, due, stepped, after, event, first_events, within, all_kept}
use Rattle.event_order.specs.Run.{Run, Numbered, Chain}
use Rattle.event_order.specs.Laws.{HasRounds}
use Rattle.event_order.proofs.Steps.{le_test, provenance, event_arises}

-- ---- two cuts that agree on all that is written

pub filter_same : {E : Type 0} (p q : E → Bool) (xs : List E) → ((x : E) → Among x xs → p x ≡ q x) → filter p xs ≡ filter q xs
filter_same p q [] h = refl
filter_same p q (x ∷ xs) h = rw (h x (inl refl), filter_same p q xs (λ y a. h y (inr a))) refl

module _ {X E : Type 0} (m : Machine X E) (until : ℕ) (w : World X E) where
  stepped_same : (kept kept' : Key → Bool) (x : X) (ps : List E) →
      ((e b : E) → due m.key until ps ≡ Some e → Among b (m.writes x e) → kept (m.key b) ≡ kept' (m.key b)) →
      stepped m until kept x ps ≡ stepped m until kept' x ps
  stepped_same kept kept' x [] h = refl
  stepped_same kept kept' x (e ∷ es) h = elim (test_cases (nat_le (m.key e).time until)) [
    | inl t ↦ rw t (ap (λ ds. let v : World X E = record { state = m.acts x e; pending = put_all m.key ds es } in v)
        (filter_same (λ d. kept (m.key d)) (λ d. kept' (m.key d)) (m.writes x e) (λ b a. h e b (rw t refl) a)))
    | inr f ↦ rw f refl
  ]

  -- where two cuts agree on all that is written by the first n events, these events are the same
  pub same_cut : (kept kept' : Key → Bool) (n : ℕ) →
      ((k : ℕ) (e b : E) → k < n → event m until kept w k ≡ Some e → Among b (m.writes (after m until kept w k).state e) → kept (m.key b) ≡ kept' (m.key b)) →
      after m until kept w n ≡ after m until kept' w n
  same_cut kept kept' zero h = refl
  same_cut kept kept' (suc n) h =
      stepped_same kept kept' (after m until kept w n).state (after m until kept w n).pending (λ e b d a. h n e b (omega arith) d a)
      ∙ ap (λ (v : World X E). stepped m until kept' v.state v.pending) (same_cut kept kept' n (λ k e b l d a. h k e b (omega arith) d a))

-- ---- rounds

module _ {X E : Type 0} (m : Machine X E) (until : ℕ) (kept : Key → Bool) (w : World X E) (fine : X → E → Type 0) (joined : E → E → Type 0) (rounded : HasRounds m fine joined)
    (all_fine : (n : ℕ) (e : E) → event m until kept w n ≡ Some e → fine (after m until kept w n).state e)
    (first : (d : E) → Among d w.pending → (m.key d).round ≡ 0) where
  abbrev run : Run X E
  run = record { machine = m; until = until; kept = kept; opening = w }

  rounds_by : (r n : ℕ) (e : E) → event m until kept w n ≡ Some e → (m.key e).round ≡ r → Chain run joined (record { number = n; event = e }) r
  rounds_by zero n e h same = tt
  rounds_by (suc r) n e h same = elim (event_arises m until kept w n e h) [
    | inl a ↦ absurd (let none : (m.key e).round ≡ 0 = first e a in omega arith)
    | inr s ↦ let by = s.written in elim (rounded.parented (after m until kept w s.at).state by.by e (all_fine s.at by.by by.is) by.among) [
      | inl later ↦ absurd (omega (arith, later.0))
      | inr next ↦ let below : (m.key by.by).round ≡ r = omega (arith, next.0) in
          (record { number = s.at; event = by.by }, record { is = by.is; earlier = s.before; written = by.among; time = sym next.1; round = sym next.0; link = next.2 }, rounds_by r s.at by.by by.is below)
    ]
  ]

  -- before an event of round k stand k events at its time, each of which wrote the next
  pub rounds : (n : ℕ) (e : E) → event m until kept w n ≡ Some e → Chain run joined (record { number = n; event = e }) (m.key e).round
  rounds n e h = rounds_by (m.key e).round n e h refl

  chain_below : (r : ℕ) (e : Numbered E) → Chain run joined e r → r ≤ e.number
  chain_below zero e c = omega arith
  chain_below (suc r) e c = let less = c.1.earlier in omega (arith, chain_below r c.0 c.2)

  pub event_round : (n : ℕ) (e : E) → event m until kept w n ≡ Some e → (m.key e).round ≤ n
  event_round n e h = chain_below (m.key e).round (record { number = n; event = e }) (rounds n e h)

  -- what event number n writes has a round of at most n + 1
  pub written_round : (n : ℕ) (e b : E) → event m until kept w n ≡ Some e → Among b (m.writes (after m until kept w n).state e) → (m.key b).round ≤ suc n
  written_round n e b h a = let own = event_round n e h in elim (rounded.parented (after m until kept w n).state e b (all_fine n e h) a) [
    | inl later ↦ omega (arith, later.0)
    | inr next ↦ omega (arith, next.0)
  ]

  pub round_below : (n : ℕ) (x : E) → Among x (after m until kept w n).pending → (m.key x).round ≤ n
  round_below n x a = elim (provenance m until kept w n x a) [
    | inl o ↦ omega (arith, first x o)
    | inr s ↦ let most = written_round s.at s.written.by x s.written.is s.written.among in let l = s.before in omega arith
  ]

-- ---- the cut

module _ {X E : Type 0} (m : Machine X E) (until : ℕ) (w : World X E) (fine : X → E → Type 0) (joined : E → E → Type 0) (rounded : HasRounds m fine joined)
    (all_fine : (n : ℕ) (e : E) → event m until all_kept w n ≡ Some e → fine (after m until all_kept w n).state e)
    (first : (d : E) → Among d w.pending → (m.key d).round ≡ 0) where
  -- a cut at round R changes nothing up to event number R
  pub cut_same : (R n : ℕ) → n ≤ R → after m until (within R) w n ≡ after m until all_kept w n
  cut_same R n l = sym (same_cut m until w all_kept (within R) n (λ k e b h g a.
      let most = written_round m until all_kept w fine joined rounded all_fine first k e b g a in sym (le_test (m.key b).round R (omega arith))))

  pub event_same : (R n : ℕ) → n ≤ R → event m until (within R) w n ≡ event m until all_kept w n
  event_same R n l = ap (λ (v : World X E). due m.key until v.pending) (cut_same R n l)

  pub first_events_same : (R n : ℕ) → n ≤ suc R → first_events m until (within R) w n ≡ first_events m until all_kept w n
  first_events_same R zero l = refl
  first_events_same R (suc n) l = rw (first_events_same R n (omega arith), event_same R n (omega arith)) refl
