-- Lists of the same items, put in the order of their keys.
use Rattle.std.proofs.Common.{◌≡◌, ◌⊎◌, ℕ, zero, suc, ◌+◌, ◌<◌, ◌≤◌, Bool, true, false, cond, List, [], ◌∷◌, length, Contains, refl, sym, ap, ◌∙◌, subst, inl, inr, arith}
use Rattle.std.specs.List.{sum_by, slice_index_or}
use Rattle.std.specs.List.Sorted.{IsPermutation}
use Rattle.std.proofs.lemmas.List.Sorted.{Contains-permutation, IsPermutation-sym, sum_by-IsPermutation}
use Rattle.std.proofs.lemmas.List.Sums.{sum_by-cons}
use Rattle.event_order.specs.declared.key.Key.{Key}
use Rattle.event_order.specs.Order.{comes_before, IsBefore}
use Rattle.event_order.specs.Pending.{put, put_all, Among, IsRising, IsApart}
use Rattle.event_order.proofs.Order.{before_cases, before_irrefl, before_asym}
use Rattle.event_order.proofs.Pending.{test_cases, among_put_self, among_put_other, put_among, among_put_all_self, put_all_among, put_rises, put_all_rises}
use Rattle.pending_queue.specs.Queue.{sorted}
use Rattle.pending_queue.proofs.KeyLemmas.{before_other}

module _ {T : Type 0} where
  -- ---- what is among a list and its permutation

  pub among_held : (x : T) (xs : List T) → Among x xs → Contains xs x
  among_held x [] a = absurd a
  among_held x (y ∷ ys) (inl e) = (0, omega arith, sym e)
  among_held x (y ∷ ys) (inr a) = let h = among_held x ys a in (suc h.0, omega (arith, h.1), h.2)

  among_read : (xs : List T) (i : ℕ) (d : T) → i < length xs → Among (slice_index_or xs i d) xs
  among_read [] i d l = absurd (omega arith)
  among_read (x ∷ xs) zero d l = inl refl
  among_read (x ∷ xs) (suc i) d l = inr (among_read xs i d (omega arith))

  held_among : (x : T) (xs : List T) → Contains xs x → Among x xs
  held_among x xs h = subst (λ y. Among y xs) h.2 (among_read xs h.0 x h.1)

  pub among_permuted : (xs ys : List T) → IsPermutation xs ys → (z : T) → Among z xs → Among z ys
  among_permuted xs ys p z a = held_among z ys (Contains-permutation xs ys z p (among_held z xs a))

  module _ (key : T → Key) where
    -- ---- how many items have a key

    same : Key → Key → Bool
    same a b = cond (comes_before a b) false (cond (comes_before b a) false true)

    same_is : (a b : Key) → same a b ≡ true → a ≡ b
    unfolding same
    same_is a b h = elim (before_cases a b) [
      | inl t ↦ absurd (let g : false ≡ true = rw t at h in cc)
      | inr s ↦ elim s [
        | inl e ↦ e
        | inr t ↦ absurd (elim (test_cases (comes_before a b)) [ inl u ↦ before_asym a b u t | inr f ↦ let g : false ≡ true = rw (f, t) at h in cc ])
      ]
    ]

    itself_same : (a : Key) → same a a ≡ true
    unfolding same
    itself_same a = elim (test_cases (comes_before a a)) [ inl t ↦ absurd (before_irrefl a t) | inr f ↦ rw f refl ]

    hit : Key → T → ℕ
    hit k x = cond (same (key x) k) 1 0

    hit_one : (k : Key) (x : T) → key x ≡ k → hit k x ≡ 1
    unfolding hit
    hit_one k x e = let t : same (key x) k ≡ true = subst (λ j. same (key x) j ≡ true) e (itself_same (key x)) in rw t refl

    hit_cases : (k : Key) (x : T) → (key x ≡ k) ⊎ (hit k x ≡ 0)
    unfolding hit
    hit_cases k x = elim (test_cases (same (key x) k)) [ inl t ↦ inl (same_is (key x) k t) | inr f ↦ inr (rw f refl) ]

    hits_some : (k : Key) (y : T) (xs : List T) → Among y xs → key y ≡ k → 1 ≤ sum_by (hit k) xs
    hits_some k y [] a e = absurd a
    hits_some k y (x ∷ xs) (inl s) e = let h = hit_one k x (ap key (sym s) ∙ e) in omega (arith, h, sum_by-cons (hit k) x xs)
    hits_some k y (x ∷ xs) (inr a) e = omega (arith, hits_some k y xs a e, sum_by-cons (hit k) x xs)

    hits_none : (k : Key) (xs : List T) → ((y : T) → Among y xs → key y ≡ k → ⊥) → sum_by (hit k) xs ≡ 0
    hits_none k [] h = refl
    hits_none k (x ∷ xs) h = elim (hit_cases k x) [
      | inl e ↦ absurd (h x (inl refl) e)
      | inr z ↦ omega (arith, z, hits_none k xs (λ y a. h y (inr a)), sum_by-cons (hit k) x xs)
    ]

    apart_hits : (xs : List T) → IsApart key xs → (k : Key) → sum_by (hit k) xs ≤ 1
    apart_hits [] p k = omega arith
    apart_hits (x ∷ xs) p k = elim (hit_cases k x) [
      | inl e ↦ omega (arith, hit_one k x e, hits_none k xs (λ y a f. p.0 y a (e ∙ sym f)), sum_by-cons (hit k) x xs)
      | inr z ↦ omega (arith, z, apart_hits xs p.1 k, sum_by-cons (hit k) x xs)
    ]

    hits_apart : (xs : List T) → ((k : Key) → sum_by (hit k) xs ≤ 1) → IsApart key xs
    hits_apart [] h = tt
    hits_apart (x ∷ xs) h = (
      λ y a e. let most = h (key x) in let more = hits_some (key x) y xs a (sym e) in let one = hit_one (key x) x refl in omega (arith, most, more, one, sum_by-cons (hit (key x)) x xs),
      hits_apart xs (λ k. let most = h k in omega (arith, most, sum_by-cons (hit k) x xs)),
    )

    pub apart_permuted : (xs ys : List T) → IsPermutation xs ys → IsApart key xs → IsApart key ys
    apart_permuted xs ys p apart = hits_apart ys (λ k. let most = apart_hits xs apart k in omega (arith, most, sum_by-IsPermutation (hit k) xs ys p))

    -- ---- a list in order is known by what is among it

    pub rising_same : (xs ys : List T) → IsRising key xs → IsRising key ys → ((z : T) → Among z xs → Among z ys) → ((z : T) → Among z ys → Among z xs) → xs ≡ ys
    rising_same [] [] r s f g = refl
    rising_same [] (y ∷ ys) r s f g = absurd (g y (inl refl))
    rising_same (x ∷ xs) [] r s f g = absurd (f x (inl refl))
    rising_same (x ∷ xs) (y ∷ ys) r s f g =
        let head : x ≡ y = elim (f x (inl refl)) [
          | inl e ↦ e
          | inr a ↦ elim (g y (inl refl)) [ inl e ↦ sym e | inr b ↦ absurd (before_asym (key y) (key x) (s.0 x a) (r.0 y b)) ]
        ] in
        let rest : xs ≡ ys = rising_same xs ys r.1 s.1
        (λ z a. elim (f z (inr a)) [ inl e ↦ absurd (before_irrefl (key x) (subst (λ w. IsBefore (key x) (key w)) (e ∙ sym head) (r.0 z a))) | inr b ↦ b ])
        (λ z a. elim (g z (inr a)) [ inl e ↦ absurd (before_irrefl (key y) (subst (λ w. IsBefore (key y) (key w)) (e ∙ head) (s.0 z a))) | inr b ↦ b ]) in
        λ i. head i ∷ rest i

    pub sorted_rises : (xs : List T) → IsApart key xs → IsRising key (sorted key xs)
    sorted_rises xs apart = put_all_rises key xs [] tt apart (λ x y a b e. b)

    pub in_sorted : (z : T) (xs : List T) → Among z xs → Among z (sorted key xs)
    in_sorted z xs a = among_put_all_self key z xs [] a

    of_sorted : (z : T) (xs : List T) → Among z (sorted key xs) → Among z xs
    of_sorted z xs a = elim (put_all_among key z xs [] a) [ inl b ↦ b | inr c ↦ absurd c ]

    -- an item came
    pub sorted_more : (x : T) (xs ys : List T) → IsPermutation (x ∷ xs) ys → IsApart key (x ∷ xs) → sorted key ys ≡ put key x (sorted key xs)
    sorted_more x xs ys p apart = rising_same (sorted key ys) (put key x (sorted key xs))
        (sorted_rises ys (apart_permuted (x ∷ xs) ys p apart))
        (put_rises key x (sorted key xs) (sorted_rises xs apart.1) (λ y a. apart.0 y (of_sorted y xs a)))
        (λ z a. elim (among_permuted ys (x ∷ xs) (IsPermutation-sym (x ∷ xs) ys p) z (of_sorted z ys a)) [
          | inl e ↦ subst (λ w. Among w (put key x (sorted key xs))) (sym e) (among_put_self key x (sorted key xs))
          | inr b ↦ among_put_other key z x (sorted key xs) (in_sorted z xs b)
        ])
        (λ z a. in_sorted z ys (among_permuted (x ∷ xs) ys p z (elim (put_among key z x (sorted key xs) a) [ inl e ↦ inl e | inr b ↦ inr (of_sorted z xs b) ])))

    -- the least item went
    pub sorted_less : (x : T) (xs ys : List T) → IsPermutation xs (x ∷ ys) → IsApart key xs → ((y : T) → Among y xs → comes_before (key y) (key x) ≡ false) → sorted key xs ≡ x ∷ sorted key ys
    sorted_less x xs ys p apart least =
        let parted = apart_permuted xs (x ∷ ys) p apart in
        let back = among_permuted (x ∷ ys) xs (IsPermutation-sym xs (x ∷ ys) p) in
        rising_same (sorted key xs) (x ∷ sorted key ys)
        (sorted_rises xs apart)
        ((λ y a. let b = of_sorted y ys a in before_other (key x) (key y) (parted.0 y b) (least y (back y (inr b)))), sorted_rises ys parted.1)
        (λ z a. elim (among_permuted xs (x ∷ ys) p z (of_sorted z xs a)) [ inl e ↦ inl e | inr b ↦ inr (in_sorted z ys b) ])
        (λ z a. in_sorted z xs (back z (elim a [ inl e ↦ inl e | inr b ↦ inr (of_sorted z ys b) ])))

    -- ---- lengths

    length_put : (x : T) (ys : List T) → length (put key x ys) ≡ length ys + 1
    length_put x [] = refl
    length_put x (y ∷ ys) = elim (test_cases (comes_before (key x) (key y))) [ inl t ↦ rw t (omega arith) | inr f ↦ rw f (omega (arith, length_put x ys)) ]

    length_put_all : (xs ys : List T) → length (put_all key xs ys) ≡ length xs + length ys
    length_put_all [] ys = omega arith
    length_put_all (x ∷ xs) ys = omega (arith, length_put_all xs (put key x ys), length_put x ys)

    pub length_sorted : (xs : List T) → length (sorted key xs) ≡ length xs
    length_sorted xs = omega (arith, length_put_all xs [])
