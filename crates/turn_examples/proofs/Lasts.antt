-- What holds of each item of a list holds of the last one and of the others.
use Rattle.std.proofs.Common.{zero, suc, List, [], ◌∷◌, ◌++◌, All, arith}

module _ {A : Type 0} where
  all_cons : (P : A → Type 0) (y : A) (ys : List A) → P y → All P ys → All P (y ∷ ys)
  all_cons P y ys a h zero d b = a
  all_cons P y ys a h (suc k) d b = h k d (omega arith)

  pub all_snoc : (P : A → Type 0) (xs : List A) (x : A) → All P (xs ++ x ∷ []) → P x × All P xs
  all_snoc P [] x h = (h 0 x (omega arith), λ k d b. absurd (omega arith))
  all_snoc P (y ∷ ys) x h = let t = all_snoc P ys x (λ k d b. h (suc k) d (omega arith)) in (t.0, all_cons P y ys (h 0 y (omega arith)) t.1)
