-- Functions as lists of changes, and lists after one item was set.
use Rattle.std.proofs.Common.{◌≡◌, ◌≢◌, ℕ, zero, suc, ◌<◌, ◌≤◌, ◌==◌, ◌⊎◌, ◌||◌, Bool, true, false, cond, List, [], ◌∷◌, length, set, refl, sym, ap, ◌∙◌, inl, inr, eq-eqb, ne_eqb, arith}
use mathlib.Core.Option.{some, some-ne-none}
use mathlib.Core.Logic.{dite}
use native.Mathlib.Decide.{ℕ_discrete}
use lib.ListN.{get_elem?}
use Rattle.turn_table.specs.Changes.{at, forget, put_first}

-- the two cases of an equation between numbers
pub alike : {X : Type 0} (a b : ℕ) → (a ≡ b → X) → (a ≢ b → X) → X
alike a b same other = dite (ℕ_discrete a b) same other

-- a choice by an equation between numbers
pub cond_here : {A : Type 0} (q p : ℕ) (x y : A) → q ≡ p → cond (q == p) x y ≡ x
cond_here q p x y e = ap (λ b. cond b x y) (eq-eqb q p e)

pub cond_else : {A : Type 0} (q p : ℕ) (x y : A) → q ≢ p → cond (q == p) x y ≡ y
cond_else q p x y ne = ap (λ b. cond b x y) (ne_eqb q p ne)

pub at_here : (l : List (ℕ × ℕ)) (p n : ℕ) → at ((p, n) ∷ l) p ≡ n
at_here l p n = cond_here p p n (at l p) refl

pub at_else : (l : List (ℕ × ℕ)) (p n q : ℕ) → q ≢ p → at ((p, n) ∷ l) q ≡ at l q
at_else l p n q ne = cond_else q p n (at l q) ne

-- numbers that were put at the first places, and the others
pub first_put : (f : ℕ → ℕ) (n : ℕ) (l : List (ℕ × ℕ)) (c : ℕ) → c < n → at (put_first f n l) c ≡ suc (f c)
first_put f zero l c h = absurd (omega arith)
first_put f (suc n) l c h = alike c n
    (λ same. cond_here c n (suc (f n)) (at (put_first f n l) c) same ∙ ap (λ k. suc (f k)) (sym same))
    (λ ne. cond_else c n (suc (f n)) (at (put_first f n l) c) ne ∙ first_put f n l c (omega arith))

pub first_left : (f : ℕ → ℕ) (n : ℕ) (l : List (ℕ × ℕ)) (c : ℕ) → n ≤ c → at (put_first f n l) c ≡ at l c
first_left f zero l c h = refl
first_left f (suc n) l c h = cond_else c n (suc (f n)) (at (put_first f n l) c) (λ same. omega arith) ∙ first_left f n l c (omega arith)

forget_one : (f : ℕ → Bool) (x : ℕ × ℕ) (l : List (ℕ × ℕ)) (c : ℕ) (b : Bool) → f x.0 ≡ b → at (forget f l) c ≡ cond (f c) 0 (at l c) → at (cond b (forget f l) (x ∷ forget f l)) c ≡ cond (f c) 0 (cond (c == x.0) x.1 (at l c))
forget_one f x l c true e h = alike c x.0
    (λ same. h ∙ ap (λ k. cond k 0 (at l c)) (ap f same ∙ e) ∙ sym (ap (λ k. cond k 0 (cond (c == x.0) x.1 (at l c))) (ap f same ∙ e)))
    (λ ne. h ∙ ap (λ (k : ℕ). cond (f c) 0 k) (sym (cond_else c x.0 x.1 (at l c) ne)))
forget_one f x l c false e h = alike c x.0
    (λ same. cond_here c x.0 x.1 (at (forget f l) c) same ∙ sym (ap (λ k. cond k 0 (cond (c == x.0) x.1 (at l c))) (ap f same ∙ e) ∙ cond_here c x.0 x.1 (at l c) same))
    (λ ne. cond_else c x.0 x.1 (at (forget f l) c) ne ∙ h ∙ ap (λ (k : ℕ). cond (f c) 0 k) (sym (cond_else c x.0 x.1 (at l c) ne)))

nothing : (b : Bool) → at [] 0 ≡ cond b 0 0
nothing true = refl
nothing false = refl

-- what is left after forgetting
pub at_forget : (f : ℕ → Bool) (l : List (ℕ × ℕ)) (c : ℕ) → at (forget f l) c ≡ cond (f c) 0 (at l c)
at_forget f [] c = nothing (f c)
at_forget f (x ∷ l) c = forget_one f x l c (f x.0) refl (at_forget f l c)

-- what was forgotten is 0, and the rest is as before
pub forgotten : (f : ℕ → Bool) (l : List (ℕ × ℕ)) (c : ℕ) → f c ≡ true → at (forget f l) c ≡ 0
forgotten f l c e = at_forget f l c ∙ ap (λ b. cond b 0 (at l c)) e

pub remembered : (f : ℕ → Bool) (l : List (ℕ × ℕ)) (c : ℕ) → f c ≡ false → at (forget f l) c ≡ at l c
remembered f l c e = at_forget f l c ∙ ap (λ b. cond b 0 (at l c)) e

pub either_way : {X : Type 0} (b : Bool) → (b ≡ true → X) → (b ≡ false → X) → X
either_way {X} b y n = (elim b as (λ k. (k ≡ true → X) → (k ≡ false → X) → X) [ true ↦ λ a c. a refl | false ↦ λ a c. c refl ]) y n

pub forget_or : (f : ℕ → Bool) (l : List (ℕ × ℕ)) (c : ℕ) → (at (forget f l) c ≡ 0) ⊎ (at (forget f l) c ≡ at l c)
forget_or f l c = either_way (f c) (λ e. inl (forgotten f l c e)) (λ e. inr (remembered f l c e))

pub forget_left : (f : ℕ → Bool) (l : List (ℕ × ℕ)) (c : ℕ) → 0 < at (forget f l) c → (f c ≡ false) × (at (forget f l) c ≡ at l c)
forget_left f l c h = either_way (f c) (λ e. let z = forgotten f l c e in absurd (omega arith)) (λ e. (e, remembered f l c e))

-- one of two is true
pub one_of : (a b : Bool) → (a || b) ≡ true → (a ≡ true) ⊎ (b ≡ true)
one_of true b e = inl refl
one_of false b e = inr e

pub first_one : (a b : Bool) → a ≡ true → (a || b) ≡ true
first_one a b e = ap (λ k. k || b) e

pub second_one : (a b : Bool) → b ≡ true → (a || b) ≡ true
second_one true b e = refl
second_one false b e = e

module _ {A : Type 0} where
  pub set_there : (l : List A) (i : ℕ) (a b : A) → get_elem? l i ≡ some a → get_elem? (set l i b) i ≡ some b
  set_there [] i a b e = absurd (some-ne-none a (sym e))
  set_there (x ∷ xs) zero a b e = refl
  set_there (x ∷ xs) (suc i) a b e = set_there xs i a b e

  pub below : (l : List A) (i : ℕ) (a : A) → get_elem? l i ≡ some a → i < length l
  below [] i a e = absurd (some-ne-none a (sym e))
  below (x ∷ xs) zero a e = omega arith
  below (x ∷ xs) (suc i) a e = let h = below xs i a e in omega arith
