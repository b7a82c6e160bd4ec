-- Lists that are filled side by side.
use Rattle.std.proofs.Common.{◌≡◌, ℕ, ◌+◌, ◌<◌, ◌≤◌, List, [], ◌∷◌, ◌++◌, length, map, get_or, set, take, replicate, Option, Some, None, sym, ap, ◌∙◌, inl, inr, zero-add, arith}
use Rattle.std.specs.List.{range_with_len}
use Rattle.std.specs.Option.{option_to_list}
use Rattle.std.proofs.lemmas.List.{get_or-replicate, length-replicate, length-set, get_or-set_same, get_or-set_other, take_more, take_all, append-nil, ext_get_or}
use Rattle.std.proofs.lemmas.List.FromFn.{length-map-range_with_len, get_or-map-range_with_len}
use Rattle.std.proofs.lemmas.Bool.{cases_eq}
use Rattle.net_layout.specs.Gathered.{appended_at, AreGathered}

module _ {X T : Type 0} (list_of : ℕ → List X → List T) (n : ℕ) where
  pub gathered_none : (lists : List (List T)) → ((h : ℕ) → list_of h [] ≡ []) → lists ≡ replicate n [] → AreGathered list_of n [] lists
  gathered_none lists empty e = record {
    as_many = ap length e ∙ length-replicate n [];
    each = λ h lt. ap (λ (ls : List (List T)). get_or ls h []) e ∙ get_or-replicate n h [] [] lt ∙ sym (empty h);
  }

  pub gathered_all : (xs : List X) (lists : List (List T)) (i : ℕ) → length xs ≤ i → AreGathered list_of n (take i xs) lists → AreGathered list_of n xs lists
  gathered_all xs lists i end is = rw (take_all i xs end) at is

  pub lists_are : (xs : List X) (lists : List (List T)) → AreGathered list_of n xs lists → lists ≡ map (λ h. list_of h xs) (range_with_len 0 n)
  lists_are xs lists is =
      ext_get_or [] lists (map (λ h. list_of h xs) (range_with_len 0 n)) (is.as_many ∙ sym (length-map-range_with_len (λ h. list_of h xs) 0 n))
      (λ h lt. let low : h < n = omega (arith, is.as_many) in is.each h low ∙ sym (get_or-map-range_with_len (λ h. list_of h xs) 0 n h h [] low (zero-add h)))

  module _ (joins : (h : ℕ) (xs ys : List X) → list_of h (xs ++ ys) ≡ list_of h xs ++ list_of h ys) (xs : List X) (lists : List (List T)) (i : ℕ) (d : X) (lt : i < length xs) (is : AreGathered list_of n (take i xs) lists) where
    list_more : (h : ℕ) → list_of h (take (i + 1) xs) ≡ list_of h (take i xs) ++ list_of h (get_or xs i d ∷ [])
    list_more h = ap (list_of h) (take_more xs i d lt) ∙ joins h (take i xs) (get_or xs i d ∷ [])

    list_same : (h : ℕ) → list_of h (get_or xs i d ∷ []) ≡ [] → list_of h (take i xs) ≡ list_of h (take (i + 1) xs)
    list_same h none = sym (append-nil (list_of h (take i xs))) ∙ ap (λ (ys : List T). list_of h (take i xs) ++ ys) (sym none) ∙ sym (list_more h)

    -- one more of which no list has anything
    pub gathered_skip : ((h : ℕ) → h < n → list_of h (get_or xs i d ∷ []) ≡ []) → AreGathered list_of n (take (i + 1) xs) lists
    gathered_skip none = record {
      as_many = is.as_many;
      each = λ h low. is.each h low ∙ list_same h (none h low);
    }

    gathered_set : (k : ℕ) (item : T) → k < n → list_of k (get_or xs i d ∷ []) ≡ item ∷ [] → ((h : ℕ) → (h ≡ k → ⊥) → list_of h (get_or xs i d ∷ []) ≡ []) → AreGathered list_of n (take (i + 1) xs) (set lists k (get_or lists k [] ++ item ∷ []))
    gathered_set k item there own others = record {
      as_many = length-set lists k (get_or lists k [] ++ item ∷ []) ∙ is.as_many;
      each = λ h low. elim (cases_eq h k) [
        | inl same ↦
            ap (λ m. get_or (set lists k (get_or lists k [] ++ item ∷ [])) m []) same
            ∙ get_or-set_same lists k (get_or lists k [] ++ item ∷ []) [] (omega (arith, is.as_many))
            ∙ ap (λ (ys : List T). ys ++ item ∷ []) (is.each k there)
            ∙ ap (λ (ys : List T). list_of k (take i xs) ++ ys) (sym own)
            ∙ sym (list_more k)
            ∙ ap (λ m. list_of m (take (i + 1) xs)) (sym same)
        | inr other ↦ get_or-set_other lists k h (get_or lists k [] ++ item ∷ []) [] other ∙ is.each h low ∙ list_same h (others h other)
      ];
    }

    -- one more, of which one list has something, or nothing, and the others have nothing
    pub gathered_more : (k : ℕ) (o : Option T) → k < n → list_of k (get_or xs i d ∷ []) ≡ option_to_list o → ((h : ℕ) → (h ≡ k → ⊥) → list_of h (get_or xs i d ∷ []) ≡ []) → AreGathered list_of n (take (i + 1) xs) (appended_at lists k o)
    gathered_more k None there own others = gathered_skip (λ h low. elim (cases_eq h k) [
      | inl same ↦ ap (λ m. list_of m (get_or xs i d ∷ [])) same ∙ own
      | inr other ↦ others h other
    ])
    gathered_more k (Some item) there own others = gathered_set k item there own others
