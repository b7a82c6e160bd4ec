-- Where the bound stays as it is when an end of a channel holds a later appointment.
use Rattle.std.proofs.Common.{◌≡◌, ℕ, zero, suc, ◌<◌, ◌≤◌, true, false, cond, nat_eq, nat_lt, ◌&&◌, min, max, List, [], ◌∷◌, length, get_or, set, refl, sym, ap, ◌∙◌, subst, inl, inr, arith, eq-eqb, eqb-true}
use Rattle.std.proofs.lemmas.Grind.{common_steps}
use Rattle.event_order.proofs.Pending.{test_cases}
use Rattle.timeline_parts.specs.declared.ends.InEnd.{InEnd}
use Rattle.timeline.specs.Holding.{least_held, holder_of}
use Rattle.timeline.specs.Moving.{taken_end}

-- this end does not hold the bound, or does not come to hold more
abbrev pub IsQuiet : ℕ → ℕ → InEnd → Type 0
IsQuiet bound a e = e.appointed ≡ true → e.held ≡ bound → a ≤ bound

pub quiet_by : (bound a : ℕ) (e : InEnd) → (e.appointed && (nat_eq e.held bound && nat_lt bound a)) ≡ false → IsQuiet bound a e
quiet_by bound a e h appointed held =
    let t : nat_eq e.held bound ≡ true = eq-eqb e.held bound held in
    let f : nat_lt bound a ≡ false = rw (appointed, t) at h in
    grind (arith, common_steps)

apart : (top n : ℕ) (xs : List (ℕ × InEnd)) → least_held (min top n) xs ≡ min n (least_held top xs)
apart top n [] = omega arith
apart top n (x ∷ xs) = elim (test_cases x.1.appointed) [
  | inl t ↦ rw t (
      let turned : min (min top n) x.1.held ≡ min (min top x.1.held) n = omega arith in
      ap (λ m. least_held m xs) turned ∙ apart (min top x.1.held) n xs)
  | inr f ↦ rw f (apart top n xs)
]

first_appointed : (top : ℕ) (x : ℕ × InEnd) (xs : List (ℕ × InEnd)) → x.1.appointed ≡ true → least_held top (x ∷ xs) ≡ min x.1.held (least_held top xs)
first_appointed top x xs t = rw t (apart top x.1.held xs)

first_windowed : (top : ℕ) (x : ℕ × InEnd) (xs : List (ℕ × InEnd)) → x.1.appointed ≡ false → least_held top (x ∷ xs) ≡ least_held top xs
first_windowed top x xs f = rw f refl

least_first : (bound h a l : ℕ) → (h ≡ bound → a ≤ bound) → bound ≡ min h l → bound ≡ min (max h a) l
least_first bound h a l quiet is = grind arith

module _ (bound taken a : ℕ) where
  here : (top : ℕ) (x : ℕ × InEnd) (xs : List (ℕ × InEnd)) → IsQuiet bound a x.1 → bound ≡ least_held top (x ∷ xs) → bound ≡ least_held top ((x.0, taken_end taken a x.1) ∷ xs)
  here top x xs quiet is = elim (test_cases x.1.appointed) [
    | inl t ↦ least_first bound x.1.held a (least_held top xs) (quiet t) (is ∙ first_appointed top x xs t) ∙ sym (first_appointed top (x.0, taken_end taken a x.1) xs t)
    | inr f ↦ is ∙ (first_windowed top x xs f ∙ sym (first_windowed top (x.0, taken_end taken a x.1) xs f))
  ]

  pub bound_stays : (top : ℕ) (xs : List (ℕ × InEnd)) (i : ℕ) (x : ℕ × InEnd) → i < length xs → x ≡ get_or xs i x → IsQuiet bound a x.1 → bound ≡ least_held top xs →
      bound ≡ least_held top (set xs i (x.0, taken_end taken a x.1))
  bound_stays top [] i x h e quiet is = absurd (omega arith)
  bound_stays top (y ∷ ys) zero x h e quiet is = here top x ys quiet (subst (λ (z : ℕ × InEnd). bound ≡ least_held top (z ∷ ys)) (sym e) is)
  bound_stays top (y ∷ ys) (suc i) x h e quiet is = bound_stays (cond y.1.appointed (min top y.1.held) top) ys i x (omega arith) e quiet is

  not_held : (h l : ℕ) → (h ≡ bound → a ≤ bound) → bound ≡ min h l → nat_eq (max h a) bound ≡ nat_eq h bound
  not_held h l quiet is = elim (test_cases (nat_eq h bound)) [
    | inl t ↦ let same : h ≡ bound = eqb-true h bound t in let below = quiet same in let most : max h a ≡ bound = omega arith in eq-eqb (max h a) bound most ∙ sym t
    | inr f ↦ grind (arith, common_steps)
  ]

  test_here : (top : ℕ) (x : ℕ × InEnd) (xs : List (ℕ × InEnd)) → IsQuiet bound a x.1 → bound ≡ least_held top (x ∷ xs) →
      (x.1.appointed && nat_eq (max x.1.held a) bound) ≡ (x.1.appointed && nat_eq x.1.held bound)
  test_here top x xs quiet is = elim (test_cases x.1.appointed) [
    | inl t ↦ rw t (not_held x.1.held (least_held top xs) (quiet t) (is ∙ first_appointed top x xs t))
    | inr f ↦ rw f refl
  ]

  pub holder_stays : (top : ℕ) (xs : List (ℕ × InEnd)) (i : ℕ) (x : ℕ × InEnd) → i < length xs → x ≡ get_or xs i x → IsQuiet bound a x.1 → bound ≡ least_held top xs →
      holder_of bound (set xs i (x.0, taken_end taken a x.1)) ≡ holder_of bound xs
  holder_stays top [] i x h e quiet is = absurd (omega arith)
  holder_stays top (y ∷ ys) zero x h e quiet is =
      let at : bound ≡ least_held top (x ∷ ys) = subst (λ (z : ℕ × InEnd). bound ≡ least_held top (z ∷ ys)) (sym e) is in
      rw (test_here top x ys quiet at) (ap (λ (z : ℕ × InEnd). holder_of bound (z ∷ ys)) e)
  holder_stays top (y ∷ ys) (suc i) x h e quiet is =
      rw (holder_stays (cond y.1.appointed (min top y.1.held) top) ys i x (omega arith) e quiet is) refl
