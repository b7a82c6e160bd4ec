-- The laws of lists in key order. All is said by what is among a list.
use Rattle.std.proofs.Common.{◌≡◌, ◌⊎◌, Bool, true, false, List, [], ◌∷◌, ◌++◌, filter, refl, sym, ap, ◌∙◌, subst, inl, inr}
use Rattle.event_order.specs.declared.key.Key.{Key}
use Rattle.event_order.specs.Order.{comes_before, IsBefore}
use Rattle.event_order.specs.Pending.{put, put_all, Among, IsRising, IsApart}
use Rattle.event_order.proofs.Order.{before_trans, before_cases, before_irrefl, before_asym}

-- a test is true or false
pub test_cases : (b : Bool) → (b ≡ true) ⊎ (b ≡ false)
test_cases true = inl refl
test_cases false = inr refl

module _ {T : Type 0} where
  -- ---- parts and filters

  pub among_append_left : (x : T) (xs ys : List T) → Among x xs → Among x (xs ++ ys)
  among_append_left x [] ys a = absurd a
  among_append_left x (y ∷ xs) ys (inl e) = inl e
  among_append_left x (y ∷ xs) ys (inr a) = inr (among_append_left x xs ys a)

  pub among_append_right : (x : T) (xs ys : List T) → Among x ys → Among x (xs ++ ys)
  among_append_right x [] ys a = a
  among_append_right x (y ∷ xs) ys a = inr (among_append_right x xs ys a)

  pub append_among : (x : T) (xs ys : List T) → Among x (xs ++ ys) → Among x xs ⊎ Among x ys
  append_among x [] ys a = inr a
  append_among x (y ∷ xs) ys (inl e) = inl (inl e)
  append_among x (y ∷ xs) ys (inr a) = elim (append_among x xs ys a) [ inl l ↦ inl (inr l) | inr r ↦ inr r ]

  -- what passes the test and is among a list is among those of it that pass
  pub among_filter : (p : T → Bool) (x : T) (xs : List T) → Among x xs → p x ≡ true → Among x (filter p xs)
  among_filter p x [] a h = a
  among_filter p x (y ∷ ys) (inl e) h = rw (sym (ap p e) ∙ h) (inl e)
  among_filter p x (y ∷ ys) (inr a) h = elim (test_cases (p y)) [
    | inl t ↦ rw t (inr (among_filter p x ys a h))
    | inr f ↦ rw f (among_filter p x ys a h)
  ]

  pub record Passed (p : T → Bool) (x : T) (xs : List T) : Type 0 where
    pub among : Among x xs
    pub passes : p x ≡ true

  pub filter_among : (p : T → Bool) (x : T) (xs : List T) → Among x (filter p xs) → Passed p x xs
  filter_among p x [] a = absurd a
  filter_among p x (y ∷ ys) a = elim (test_cases (p y)) [
    | inl t ↦ elim (let h : Among x (y ∷ filter p ys) = rw t at a in h) [
      | inl e ↦ record { among = inl e; passes = ap p e ∙ t }
      | inr b ↦ let q = filter_among p x ys b in record { among = inr q.among; passes = q.passes }
    ]
    | inr f ↦ let b : Among x (filter p ys) = rw f at a in let q = filter_among p x ys b in record { among = inr q.among; passes = q.passes }
  ]

  module _ (key : T → Key) where
    -- ---- what is among a list with more items

    pub among_put_self : (x : T) (ys : List T) → Among x (put key x ys)
    among_put_self x [] = inl refl
    among_put_self x (y ∷ ys) = elim (test_cases (comes_before (key x) (key y))) [ inl t ↦ rw t (inl refl) | inr f ↦ rw f (inr (among_put_self x ys)) ]

    pub among_put_other : (z x : T) (ys : List T) → Among z ys → Among z (put key x ys)
    among_put_other z x [] a = absurd a
    among_put_other z x (y ∷ ys) a = elim (test_cases (comes_before (key x) (key y))) [
      | inl t ↦ rw t (inr a)
      | inr f ↦ rw f (elim a [ inl e ↦ inl e | inr b ↦ inr (among_put_other z x ys b) ])
    ]

    pub put_among : (z x : T) (ys : List T) → Among z (put key x ys) → (z ≡ x) ⊎ Among z ys
    put_among z x [] a = elim a [ inl e ↦ inl e | inr b ↦ absurd b ]
    put_among z x (y ∷ ys) a = elim (test_cases (comes_before (key x) (key y))) [
      | inl t ↦ let b : Among z (x ∷ y ∷ ys) = rw t at a in b
      | inr f ↦ elim (let b : Among z (y ∷ put key x ys) = rw f at a in b) [
        | inl e ↦ inr (inl e)
        | inr b ↦ elim (put_among z x ys b) [ inl e ↦ inl e | inr c ↦ inr (inr c) ]
      ]
    ]

    pub among_put_all_other : (z : T) (xs ys : List T) → Among z ys → Among z (put_all key xs ys)
    among_put_all_other z [] ys a = a
    among_put_all_other z (x ∷ xs) ys a = among_put_all_other z xs (put key x ys) (among_put_other z x ys a)

    pub among_put_all_self : (z : T) (xs ys : List T) → Among z xs → Among z (put_all key xs ys)
    among_put_all_self z [] ys a = absurd a
    among_put_all_self z (x ∷ xs) ys (inl e) = among_put_all_other z xs (put key x ys) (subst (λ w. Among w (put key x ys)) (sym e) (among_put_self x ys))
    among_put_all_self z (x ∷ xs) ys (inr a) = among_put_all_self z xs (put key x ys) a

    pub put_all_among : (z : T) (xs ys : List T) → Among z (put_all key xs ys) → Among z xs ⊎ Among z ys
    put_all_among z [] ys a = inr a
    put_all_among z (x ∷ xs) ys a = elim (put_all_among z xs (put key x ys) a) [
      | inl b ↦ inl (inr b)
      | inr b ↦ elim (put_among z x ys b) [ inl e ↦ inl (inl e) | inr c ↦ inr c ]
    ]

    -- ---- order

    -- what is put before a key stays before it
    pub rising_head : (x : T) (ys : List T) → IsRising key (x ∷ ys) → (y : T) → Among y ys → IsBefore (key x) (key y)
    rising_head x ys r = r.0

    pub put_rises : (x : T) (ys : List T) → IsRising key ys → ((y : T) → Among y ys → key x ≡ key y → ⊥) → IsRising key (put key x ys)
    put_rises x [] r apart = ((λ y a. absurd a), tt)
    put_rises x (y ∷ ys) r apart = elim (test_cases (comes_before (key x) (key y))) [
      | inl t ↦ rw t ((λ z a. elim a [ inl e ↦ subst (λ w. IsBefore (key x) (key w)) (sym e) t | inr b ↦ before_trans (key x) (key y) (key z) t (r.0 z b) ]), r)
      | inr f ↦ rw f (
        (λ z a. elim (put_among z x ys a) [
          | inl e ↦ elim (before_cases (key x) (key y)) [
            | inl t ↦ absurd (let g : true ≡ false = sym t ∙ f in cc)
            | inr s ↦ elim s [ inl same ↦ absurd (apart y (inl refl) same) | inr later ↦ subst (λ w. IsBefore (key y) (key w)) (sym e) later ]
          ]
          | inr b ↦ r.0 z b
        ]),
        put_rises x ys r.1 (λ z a. apart z (inr a)),
      )
    ]

    pub put_all_rises : (xs ys : List T) → IsRising key ys → IsApart key xs → ((x y : T) → Among x xs → Among y ys → key x ≡ key y → ⊥) → IsRising key (put_all key xs ys)
    put_all_rises [] ys r p new = r
    put_all_rises (x ∷ xs) ys r p new = put_all_rises xs (put key x ys) (put_rises x ys r (λ y a. new x y (inl refl) a)) p.1
        (λ z y a b e. elim (put_among y x ys b) [
          | inl same ↦ p.0 z a (sym (e ∙ ap key same))
          | inr c ↦ new z y (inr a) c e
        ])

    pub filter_apart : (p : T → Bool) (xs : List T) → IsApart key xs → IsApart key (filter p xs)
    filter_apart p [] a = a
    filter_apart p (x ∷ xs) a = elim (test_cases (p x)) [
      | inl t ↦ rw t ((λ y b. a.0 y (filter_among p y xs b).among), filter_apart p xs a.1)
      | inr f ↦ rw f (filter_apart p xs a.1)
    ]

    pub rising_apart : (xs : List T) → IsRising key xs → IsApart key xs
    rising_apart [] r = r
    rising_apart (x ∷ xs) r = ((λ y a e. before_irrefl (key y) (subst (λ k. IsBefore k (key y)) e (r.0 y a))), rising_apart xs r.1)

    -- in a list in key order one key belongs to one item
    pub one_of_key : (xs : List T) (x y : T) → IsApart key xs → Among x xs → Among y xs → key x ≡ key y → x ≡ y
    one_of_key [] x y p a b e = absurd a
    one_of_key (z ∷ xs) x y p (inl d) (inl f) e = d ∙ sym f
    one_of_key (z ∷ xs) x y p (inl d) (inr b) e = absurd (p.0 y b (sym (ap key d) ∙ e))
    one_of_key (z ∷ xs) x y p (inr a) (inl f) e = absurd (p.0 x a (sym (ap key f) ∙ sym e))
    one_of_key (z ∷ xs) x y p (inr a) (inr b) e = one_of_key xs x y p.1 a b e

    -- one more item, later than all that stand before it
    pub rising_append : (xs : List T) (y : T) → IsRising key xs → ((x : T) → Among x xs → IsBefore (key x) (key y)) → IsRising key (xs ++ y ∷ [])
    rising_append [] y r later = ((λ z a. absurd a), tt)
    rising_append (x ∷ xs) y r later = (
      (λ z a. elim (append_among z xs (y ∷ []) a) [
        | inl b ↦ r.0 z b
        | inr b ↦ elim b [ inl e ↦ subst (λ w. IsBefore (key x) (key w)) (sym e) (later x (inl refl)) | inr none ↦ absurd none ]
      ]),
      rising_append xs y r.1 (λ z a. later z (inr a)),
    )

    pub rising_filter : (p : T → Bool) (xs : List T) → IsRising key xs → IsRising key (filter p xs)
    rising_filter p [] r = tt
    rising_filter p (x ∷ xs) r = elim (test_cases (p x)) [
      | inl t ↦ rw t ((λ z a. r.0 z (filter_among p z xs a).among), rising_filter p xs r.1)
      | inr f ↦ rw f (rising_filter p xs r.1)
    ]

    -- a list in key order is known by what is among it
    pub rising_same : (xs ys : List T) → IsRising key xs → IsRising key ys → ((z : T) → Among z xs → Among z ys) → ((z : T) → Among z ys → Among z xs) → xs ≡ ys
    rising_same [] [] r s f g = refl
    rising_same [] (y ∷ ys) r s f g = absurd (g y (inl refl))
    rising_same (x ∷ xs) [] r s f g = absurd (f x (inl refl))
    rising_same (x ∷ xs) (y ∷ ys) r s f g =
        let head : x ≡ y = elim (f x (inl refl)) [
          | inl e ↦ e
          | inr a ↦ elim (g y (inl refl)) [ inl e ↦ sym e | inr b ↦ absurd (before_asym (key y) (key x) (s.0 x a) (r.0 y b)) ]
        ] in
        let rest : xs ≡ ys = rising_same xs ys r.1 s.1
        (λ z a. elim (f z (inr a)) [ inl e ↦ absurd (before_irrefl (key x) (subst (λ w. IsBefore (key x) (key w)) (e ∙ sym head) (r.0 z a))) | inr b ↦ b ])
        (λ z a. elim (g z (inr a)) [ inl e ↦ absurd (before_irrefl (key y) (subst (λ w. IsBefore (key y) (key w)) (e ∙ head) (s.0 z a))) | inr b ↦ b ]) in
        λ i. head i ∷ rest i
