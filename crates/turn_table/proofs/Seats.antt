-- The lines of the rule that speak of views alone, after one seat's view was changed.
use Rattle.std.proofs.Common.{◌≡◌, ◌≢◌, ℕ, zero, suc, ◌+◌, ◌<◌, ◌≤◌, ◌==◌, true, cond, List, [], ◌∷◌, length, set, refl, sym, ap, subst, ◌∙◌, inl, inr, ⊎_elim, arith}
use mathlib.Core.Option.{some, some-injective, some-ne-none}
use lib.ListN.{get_elem?}
use Rattle.atomic_table.proofs.Lists.{at_set}
use Rattle.turn_table.specs.declared.view.Shape.{Shape}
use Rattle.turn_table.specs.declared.view.View.{View}
use Rattle.turn_table.specs.Rule.{Each, IsInUse, live, living}

-- P of each seat but this one, and of this one's new view
pub each_else : (vs : List View) (id : ℕ) (w : View) (P : View → Type 0) → ((j : ℕ) (u : View) → j ≢ id → get_elem? vs j ≡ some u → P u) → P w → Each (set vs id w) P
each_else vs id w P others here j u e = ⊎_elim (λ t. subst P t.1 here) (λ t. others j u t.0 t.1) (at_set vs id j w u e)

pub each : (vs : List View) (id : ℕ) (w : View) (P : View → Type 0) → Each vs P → P w → Each (set vs id w) P
each vs id w P all here = each_else vs id w P (λ j u ne e. all j u e) here

-- the seat is the same one, whatever else its view says
pub record IsSelf (v w : View) : Type 0 where
  pub root : w.is_root ≡ v.is_root
  pub number : w.number ≡ v.number
  pub made : w.made ≡ v.made
  pub back : w.back ≡ v.back
  pub shape : w.shape ≡ v.shape

pub itself : (v : View) → IsSelf v v
itself v = record { root = refl; number = refl; made = refl; back = refl; shape = refl }

-- what stood in a seat before
pub behind : (vs : List View) (id : ℕ) (v w : View) → get_elem? vs id ≡ some v → IsSelf v w → (j : ℕ) (u : View) → get_elem? (set vs id w) j ≡ some u → (u' : View) × (get_elem? vs j ≡ some u') × IsSelf u' u
behind vs id v w e self j u at = ⊎_elim (λ t. (v, ap (λ k. get_elem? vs k) t.0 ∙ e, subst (IsSelf v) t.1 self)) (λ t. (u, t.1, itself u)) (at_set vs id j w u at)

pub living_set : (vs : List View) (id : ℕ) (v w : View) → get_elem? vs id ≡ some v → living (set vs id w) + live v ≡ living vs + live w
living_set [] id v w e = absurd (some-ne-none v (sym e))
living_set (x ∷ xs) zero v w e = let s : live x ≡ live v = ap live (some-injective x v e) in omega arith
living_set (x ∷ xs) (suc id) v w e = let h = living_set xs id v w e in omega arith

pub record Seats (shape : Shape) (vs : List View) : Type 0 where
  pub shaped : Each vs (λ v. IsInUse v → v.shape ≡ shape)
  pub apart : (i j : ℕ) (v w : View) → get_elem? vs i ≡ some v → get_elem? vs j ≡ some w → 0 < v.number → v.number ≡ w.number → i ≡ j
  pub numbered : (i j : ℕ) (v w : View) → get_elem? vs i ≡ some v → get_elem? vs j ≡ some w → v.is_root ≡ true → (w.number ≤ v.made) × (w.is_root ≡ true → j ≡ i)
  pub counted : Each vs (λ v. v.is_root ≡ true → (v.number ≡ 0) × (living vs + length v.back ≡ v.made))

in_use : (u' u : View) → IsSelf u' u → IsInUse u → IsInUse u'
in_use u' u s = ⊎_elim (λ r. inl (sym s.root ∙ r)) (λ n. inr (let e = s.number in omega arith))

pub seats_same : (sh : Shape) (vs : List View) (id : ℕ) (v w : View) → get_elem? vs id ≡ some v → IsSelf v w → Seats sh vs → Seats sh (set vs id w)
seats_same sh vs id v w e self r = record {
  shaped = λ j u at used. let b = behind vs id v w e self j u at in b.2.shape ∙ r.shaped j b.0 b.1 (in_use b.0 u b.2 used);
  apart = λ i j u x ati atj pos same. let a = behind vs id v w e self i u ati in let b = behind vs id v w e self j x atj in
      r.apart i j a.0 b.0 a.1 b.1 (let n = a.2.number in omega arith) (sym a.2.number ∙ same ∙ b.2.number);
  numbered = λ i j u x ati atj root. let a = behind vs id v w e self i u ati in let b = behind vs id v w e self j x atj in
      let n = r.numbered i j a.0 b.0 a.1 b.1 (sym a.2.root ∙ root) in
      ((let m = a.2.made in let k = b.2.number in let h = n.0 in omega arith), λ rx. n.1 (sym b.2.root ∙ rx));
  counted = λ j u at root. let a = behind vs id v w e self j u at in let c = r.counted j a.0 a.1 (sym a.2.root ∙ root) in (
    a.2.number ∙ c.0,
    (let l = living_set vs id v w e in let lv : live w ≡ live v = ap (λ (n : ℕ). cond (n == 0) 0 1) self.number in
        let lb : length u.back ≡ length a.0.back = ap length a.2.back in let m = a.2.made in let h = c.1 in omega arith),
  );
}
