-- Items that are read from a list, and lists that are made of them.
use Rattle.std.proofs.Common.{◌≡◌, ℕ, zero, suc, ◌+◌, ◌<◌, List, [], ◌∷◌, ◌++◌, length, map, take, get_or, refl, sym, ap, ◌∙◌, subst, arith, Some, slice_get, append_assoc}
use Rattle.std.proofs.lemmas.Option.{slice_get-get_or, slice_get_read}
use Rattle.core_rules.proofs.Lists.{one_of, none_some}

module _ {T : Type 0} where
  -- an item of a list that is another list
  pub item_of : (xs ys : List T) (i : ℕ) (d : T) → xs ≡ ys → i < length xs → slice_get ys i ≡ Some (get_or xs i d)
  item_of xs ys i d same known = subst (λ zs. slice_get zs i ≡ Some (get_or xs i d)) same (slice_get-get_or xs i d known)

  pub read_of : (xs ys : List T) (i : ℕ) (x : T) → xs ≡ ys → i < length xs → x ≡ get_or xs i x → slice_get ys i ≡ Some x
  read_of xs ys i x same known is = subst (λ zs. slice_get zs i ≡ Some x) same (slice_get_read xs (length xs) i x refl known is)

  take_next : (xs : List T) (i : ℕ) (x : T) → slice_get xs i ≡ Some x → take (suc i) xs ≡ take i xs ++ x ∷ []
  take_next [] i x at = absurd (none_some x at)
  take_next (y ∷ ys) zero x at = ap (λ z. z ∷ []) (one_of y x at)
  take_next (y ∷ ys) (suc i) x at = ap (λ zs. y ∷ zs) (take_next ys i x at)

module _ {T V : Type 0} (f : T → V) where
  map_both : (xs ys : List T) → map f (xs ++ ys) ≡ map f xs ++ map f ys
  map_both [] ys = refl
  map_both (x ∷ xs) ys = ap (λ zs. f x ∷ zs) (map_both xs ys)

  -- one more value of the items of a list
  pub one_more : (first values next : List V) (xs : List T) (i : ℕ) (x : T) (v : V) → values ≡ first ++ map f (take i xs) → next ≡ values ++ v ∷ [] → slice_get xs i ≡ Some x → v ≡ f x
      → next ≡ first ++ map f (take (i + 1) xs)
  one_more first values next xs i x v before after at is =
      let more : i + 1 ≡ suc i = omega arith in
      let items : take (i + 1) xs ≡ take i xs ++ x ∷ [] = ap (λ n. take n xs) more ∙ take_next xs i x at in
      after ∙ (ap (λ vs. vs ++ v ∷ []) before ∙ (append_assoc first (map f (take i xs)) (v ∷ [])
      ∙ ap (λ vs. first ++ vs) (ap (λ u. map f (take i xs) ++ u ∷ []) is ∙ (sym (map_both (take i xs) (x ∷ [])) ∙ ap (map f) (sym items)))))
