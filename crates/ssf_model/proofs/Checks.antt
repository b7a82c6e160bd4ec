-- Loops that test each of a list, or of two lists: what is left to test decides all.
use Rattle.std.proofs.Common.{ℕ, ◌≡◌, ◌+◌, ◌<◌, ◌↔◌, List, [], ◌∷◌, length, drop, get_or, sym, subst, refl, drop-cons, add-one}
use Rattle.std.specs.List.{AllZip}
use Rattle.std.proofs.Math.Seq.{drop-length}
use Rattle.ssf_model.specs.Reaction.{Each}

pub ahead : {T : Type 0} (xs : List T) (i : ℕ) (x : T) → i < length xs → x ≡ get_or xs i x → drop i xs ≡ x ∷ drop (i + 1) xs
ahead xs i x h e = let d = drop-cons xs i x h in rw (add-one, d, ← e) refl

module _ {T : Type 0} (Q : T → Type 0) (xs : List T) where
  pub each_next : (i : ℕ) (x : T) → i < length xs → x ≡ get_or xs i x → Q x → (Each Q xs ↔ Each Q (drop i xs)) → (Each Q xs ↔ Each Q (drop (i + 1) xs))
  each_next i x h e q left =
      let d = ahead xs i x h e in (
        (λ all. (subst (λ (ys : List T). Each Q ys) d (left.0 all)).1),
        (λ rest. left.1 (subst (λ (ys : List T). Each Q ys) (sym d) (q, rest))),
      )

  pub each_stops : (i : ℕ) (x : T) → i < length xs → x ≡ get_or xs i x → (Q x → ⊥) → (Each Q xs ↔ Each Q (drop i xs)) → Each Q xs → ⊥
  each_stops i x h e never left all = never ((subst (λ (ys : List T). Each Q ys) (ahead xs i x h e) (left.0 all)).0)

  pub each_ends : (i : ℕ) → i ≡ length xs → (Each Q xs ↔ Each Q (drop i xs)) → Each Q xs
  each_ends i e left =
      let d : drop i xs ≡ [] = rw e (drop-length xs) in
      left.1 (subst (λ (ys : List T). Each Q ys) (sym d) tt)

module _ {T U : Type 0} (R : T → U → Type 0) (xs : List T) (ys : List U) where
  pub zip_next : (i : ℕ) (x : T) (y : U) → i < length xs → i < length ys → x ≡ get_or xs i x → y ≡ get_or ys i y → R x y
      → (AllZip R xs ys ↔ AllZip R (drop i xs) (drop i ys)) → (AllZip R xs ys ↔ AllZip R (drop (i + 1) xs) (drop (i + 1) ys))
  zip_next i x y h k e f r left =
      let d = ahead xs i x h e in
      let g = ahead ys i y k f in (
        (λ all. (subst (λ (vs : List U). AllZip R (x ∷ drop (i + 1) xs) vs) g (subst (λ (us : List T). AllZip R us (drop i ys)) d (left.0 all))).1),
        (λ rest. left.1 (subst (λ (us : List T). AllZip R us (drop i ys)) (sym d) (subst (λ (vs : List U). AllZip R (x ∷ drop (i + 1) xs) vs) (sym g) (r, rest)))),
      )

  pub zip_stops : (i : ℕ) (x : T) (y : U) → i < length xs → i < length ys → x ≡ get_or xs i x → y ≡ get_or ys i y → (R x y → ⊥)
      → (AllZip R xs ys ↔ AllZip R (drop i xs) (drop i ys)) → AllZip R xs ys → ⊥
  zip_stops i x y h k e f never left all =
      never ((subst (λ (vs : List U). AllZip R (x ∷ drop (i + 1) xs) vs) (ahead ys i y k f) (subst (λ (us : List T). AllZip R us (drop i ys)) (ahead xs i x h e) (left.0 all))).0)

  pub zip_ends : (i : ℕ) → i ≡ length xs → i ≡ length ys → (AllZip R xs ys ↔ AllZip R (drop i xs) (drop i ys)) → AllZip R xs ys
  zip_ends i e f left =
      let d : drop i xs ≡ [] = rw e (drop-length xs) in
      let g : drop i ys ≡ [] = rw f (drop-length ys) in
      left.1 (subst (λ (us : List T). AllZip R us (drop i ys)) (sym d) (subst (λ (vs : List U). AllZip R [] vs) (sym g) tt))
