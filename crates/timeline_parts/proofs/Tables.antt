-- Tables: finding by halving, and changing one item.
use Rattle.std.proofs.Common.{◌≡◌, ℕ, zero, suc, ◌+◌, ◌<◌, ◌≤◌, Bool, true, false, cond, nat_eq, eqb, List, [], ◌∷◌, length, get_or, refl, sym, ap, ◌∙◌, subst, inl, inr, arith, eqb-true, eq-eqb, Option, Some, None, option_map, set}
use Rattle.std.proofs.lemmas.List.{get_or_default}
use Rattle.std.proofs.lemmas.Grind.{common_steps}
use Rattle.event_order.specs.Pending.{Among}
use Rattle.event_order.proofs.Pending.{test_cases}
use Rattle.event_order.proofs.Steps.{lt_or_same, lt_or_ge}
use Rattle.timeline_parts.specs.Tables.{numbers_of, AreRising, AreNumbered, item_at, change, changed}

-- all numbers before `low` are below n, and those from `high` on are not
pub record IsHalved (ns : List ℕ) (n low high : ℕ) : Type 0 where
  pub before : (k : ℕ) → k < low → get_or ns k 0 < n
  pub from : (k : ℕ) → high ≤ k → k < length ns → n ≤ get_or ns k 0

among_at : (ns : List ℕ) (k : ℕ) → k < length ns → Among (get_or ns k 0) ns
among_at [] k h = absurd (omega arith)
among_at (n ∷ ns) zero h = inl refl
among_at (n ∷ ns) (suc k) h = inr (among_at ns k (omega arith))

pub among_place : (ns : List ℕ) (k n : ℕ) → k < length ns → get_or ns k 0 ≡ n → Among n ns
among_place ns k n h e = subst (λ m. Among m ns) e (among_at ns k h)

pub place_among : (ns : List ℕ) (n : ℕ) → Among n ns → (k : ℕ) × (k < length ns) × (get_or ns k 0 ≡ n)
place_among [] n a = absurd a
place_among (m ∷ ns) n (inl e) = (0, omega arith, sym e)
place_among (m ∷ ns) n (inr a) = let found = place_among ns n a in (suc found.0, omega (arith, found.1), found.2)

-- the numbers rise by place
pub rising_places : (ns : List ℕ) (i j : ℕ) → AreRising ns → i < j → j < length ns → get_or ns i 0 < get_or ns j 0
rising_places [] i j r l h = absurd (omega arith)
rising_places (n ∷ ns) i zero r l h = absurd (omega arith)
rising_places (n ∷ ns) zero (suc j) r l h = r.0 (get_or ns j 0) (among_at ns j (omega arith))
rising_places (n ∷ ns) (suc i) (suc j) r l h = rising_places ns i j r.1 (omega arith) (omega arith)

pub rising_upto : (ns : List ℕ) (i j : ℕ) → AreRising ns → i ≤ j → j < length ns → get_or ns i 0 ≤ get_or ns j 0
rising_upto ns i j r l h = elim (lt_or_same i j l) [
  | inl s ↦ let q = rising_places ns i j r s h in omega arith
  | inr e ↦ rw e (omega arith)
]

-- ---- halving

pub halved_more : (ns : List ℕ) (n low high middle : ℕ) → AreRising ns → IsHalved ns n low high → middle < length ns → get_or ns middle 0 < n → IsHalved ns n (middle + 1) high
halved_more ns n low high middle r h m l = record {
  before = λ k b. let q = rising_upto ns k middle r (omega arith) m in omega arith;
  from = h.from;
}

pub halved_less : (ns : List ℕ) (n low high middle : ℕ) → AreRising ns → IsHalved ns n low high → n ≤ get_or ns middle 0 → IsHalved ns n low middle
halved_less ns n low high middle r h l = record {
  before = h.before;
  from = λ k b m. let q = rising_upto ns middle k r b m in omega arith;
}

pub halved_none : (ns : List ℕ) (n low : ℕ) → IsHalved ns n low low → (low < length ns → get_or ns low 0 ≡ n → ⊥) → AreRising ns → Among n ns → ⊥
halved_none ns n low h other r a =
    let found = place_among ns n a in
    elim (lt_or_ge found.0 low) [
      | inl b ↦ let q = h.before found.0 b in omega (arith, q, found.2)
      | inr f ↦ elim (lt_or_same low found.0 f) [
        | inl s ↦ let q = h.from low (omega arith) (omega (arith, found.1)) in let up = rising_places ns low found.0 r s found.1 in omega (arith, q, up, found.2)
        | inr e ↦ other (rw e found.1) (rw e found.2)
      ]
    ]

-- ---- the item with a number

same_test : (n : ℕ) → nat_eq n n ≡ true
same_test n = eq-eqb n n refl

other_test : (n k : ℕ) → (n ≡ k → ⊥) → nat_eq n k ≡ false
other_test n k h = elim (test_cases (nat_eq n k)) [ inl t ↦ absurd (h (eqb-true n k t)) | inr f ↦ f ]

module _ {T : Type 0} where
  pub number_at : (xs : List (ℕ × T)) (i : ℕ) (x : ℕ × T) → i < length xs → x ≡ get_or xs i x → get_or (numbers_of xs) i 0 ≡ x.0
  number_at [] i x h e = absurd (omega arith)
  number_at (y ∷ ys) zero x h e = ap (λ (z : ℕ × T). z.0) (sym e)
  number_at (y ∷ ys) (suc i) x h e = number_at ys i x (omega arith) e

  -- the same by what stands at the place, whatever the default
  pub number_here : (xs : List (ℕ × T)) (i : ℕ) (d : ℕ × T) → i < length xs → get_or (numbers_of xs) i 0 ≡ (get_or xs i d).0
  number_here [] i d h = absurd (omega arith)
  number_here (y ∷ ys) zero d h = refl
  number_here (y ∷ ys) (suc i) d h = number_here ys i d (omega arith)

  pub reads_same : (xs : List (ℕ × T)) (i : ℕ) (x y : ℕ × T) → i < length xs → x ≡ get_or xs i x → y ≡ get_or xs i y → x ≡ y
  reads_same xs i x y h a b = a ∙ (get_or_default xs i x y h ∙ sym b)

  pub numbers_set : (xs : List (ℕ × T)) (i : ℕ) (x : ℕ × T) (v : T) → x ≡ get_or xs i x → numbers_of (set xs i (x.0, v)) ≡ numbers_of xs
  numbers_set [] i x v e = refl
  numbers_set (y ∷ ys) zero x v e = ap (λ (z : ℕ × T). z.0 ∷ numbers_of ys) e
  numbers_set (y ∷ ys) (suc i) x v e = ap (λ ns. y.0 ∷ ns) (numbers_set ys i x v e)

  pub numbers_length : (xs : List (ℕ × T)) → length (numbers_of xs) ≡ length xs
  numbers_length [] = refl
  numbers_length (x ∷ xs) = ap suc (numbers_length xs)

  -- the item at a place is the one with its number
  pub item_here : (xs : List (ℕ × T)) (n i : ℕ) (x : ℕ × T) → AreNumbered xs → i < length xs → get_or (numbers_of xs) i 0 ≡ n → x ≡ get_or xs i x → item_at n xs ≡ Some x.1
  item_here [] n i x r h p e = absurd (omega arith)
  item_here (y ∷ ys) n zero x r h p e = let t : nat_eq n y.0 ≡ true = eq-eqb n y.0 (sym p) in rw t (ap (λ (z : ℕ × T). Some z.1) (sym e))
  item_here (y ∷ ys) n (suc i) x r h p e =
      let up : y.0 < get_or (numbers_of ys) i 0 = r.0 (get_or (numbers_of ys) i 0) (among_at (numbers_of ys) i (omega (arith, numbers_length ys))) in
      let other : nat_eq n y.0 ≡ false = other_test n y.0 (λ q. omega (arith, up, p, q)) in
      rw other (item_here ys n i x r.1 (omega arith) p e)

  pub item_none : (n : ℕ) (xs : List (ℕ × T)) → (Among n (numbers_of xs) → ⊥) → item_at n xs ≡ None
  item_none n [] h = refl
  item_none n (x ∷ xs) h = rw (other_test n x.0 (λ e. h (inl e))) (item_none n xs (λ a. h (inr a)))

  pub changed_none : (n : ℕ) (f : T → T) (xs : List (ℕ × T)) → (Among n (numbers_of xs) → ⊥) → changed n f xs ≡ xs
  changed_none n f [] h = refl
  changed_none n f (x ∷ xs) h = rw (other_test n x.0 (λ e. h (inl e))) (ap (λ ys. x ∷ ys) (changed_none n f xs (λ a. h (inr a))))

  pub numbers_changed : (n : ℕ) (f : T → T) (xs : List (ℕ × T)) → numbers_of (changed n f xs) ≡ numbers_of xs
  numbers_changed n f [] = refl
  numbers_changed n f (x ∷ xs) = elim (test_cases (nat_eq n x.0)) [
    | inl t ↦ rw t (ap (λ ns. x.0 ∷ ns) (numbers_changed n f xs))
    | inr o ↦ rw o (ap (λ ns. x.0 ∷ ns) (numbers_changed n f xs))
  ]

  -- the item at a place, changed
  pub changed_here : (xs : List (ℕ × T)) (n i : ℕ) (f : T → T) (x : ℕ × T) → AreNumbered xs → i < length xs → get_or (numbers_of xs) i 0 ≡ n → x ≡ get_or xs i x →
      set xs i (x.0, f x.1) ≡ changed n f xs
  changed_here [] n i f x r h p e = absurd (omega arith)
  changed_here (y ∷ ys) n zero f x r h p e =
      let t : nat_eq n y.0 ≡ true = eq-eqb n y.0 (sym p) in
      let tail : changed n f ys ≡ ys = changed_none n f ys (λ a. let up = r.0 n a in omega (arith, up, p)) in
      rw (t, tail) (ap (λ (z : ℕ × T). (z.0, f z.1) ∷ ys) e)
  changed_here (y ∷ ys) n (suc i) f x r h p e =
      let up : y.0 < get_or (numbers_of ys) i 0 = r.0 (get_or (numbers_of ys) i 0) (among_at (numbers_of ys) i (omega (arith, numbers_length ys))) in
      let other : nat_eq n y.0 ≡ false = other_test n y.0 (λ q. omega (arith, up, p, q)) in
      rw other (ap (λ zs. y ∷ zs) (changed_here ys n i f x r.1 (omega arith) p e))

  -- the item with a number, after a change
  pub item_changed : (k n : ℕ) (f : T → T) (xs : List (ℕ × T)) → item_at k (changed n f xs) ≡ cond (nat_eq k n) (option_map f (item_at k xs)) (item_at k xs)
  item_changed k n f [] = elim (test_cases (nat_eq k n)) [ inl t ↦ rw t refl | inr o ↦ rw o refl ]
  item_changed k n f (x ∷ xs) = elim (test_cases (nat_eq n x.0)) [
    | inl t ↦ let same : n ≡ x.0 = eqb-true n x.0 t in elim (test_cases (nat_eq k n)) [
      | inl u ↦ let v : nat_eq k x.0 ≡ true = subst (λ m. nat_eq k m ≡ true) same u in rw (t, v, u) refl
      | inr u ↦ let v : nat_eq k x.0 ≡ false = subst (λ m. nat_eq k m ≡ false) same u in rw (t, v, u) (item_changed k n f xs ∙ rw u refl)
    ]
    | inr o ↦ elim (test_cases (nat_eq k x.0)) [
      | inl v ↦ let apart : nat_eq k n ≡ false = other_test k n (λ q. let w : nat_eq n x.0 ≡ true = subst (λ m. nat_eq m x.0 ≡ true) q v in cc) in rw (o, v, apart) refl
      | inr v ↦ rw (o, v) (item_changed k n f xs)
    ]
  ]

  pub known_item : (n : ℕ) (xs : List (ℕ × T)) → Among n (numbers_of xs) → (x : T) × (item_at n xs ≡ Some x)
  known_item n [] a = absurd a
  known_item n (x ∷ xs) a = elim (test_cases (nat_eq n x.0)) [
    | inl t ↦ (x.1, rw t refl)
    | inr o ↦ elim a [
      | inl e ↦ absurd (let t : nat_eq n x.0 ≡ true = eq-eqb n x.0 e in cc)
      | inr b ↦ let found = known_item n xs b in (found.0, rw o found.1)
    ]
  ]

  -- a change that is taken back
  restored_on : (ys : List (ℕ × T)) (n i : ℕ) (f : T → T) (x : ℕ × T) (v : T) → AreNumbered ys → i < length ys → get_or (numbers_of ys) i 0 ≡ n →
      x ≡ get_or (changed n f ys) i x → ((y : T) → x.1 ≡ f y → v ≡ y) → set (changed n f ys) i (x.0, v) ≡ ys
  restored_on [] n i f x v r h p e back = absurd (omega arith)
  restored_on (y ∷ ys) n zero f x v r h p e back =
      let t : nat_eq n y.0 ≡ true = eq-eqb n y.0 (sym p) in
      let tail : changed n f ys ≡ ys = changed_none n f ys (λ a. let up = r.0 n a in omega (arith, up, p)) in
      let first : x ≡ change n f y = e in
      let made : x ≡ (y.0, f y.1) = first ∙ rw t refl in
      let value : v ≡ y.1 = back y.1 (ap (λ (z : ℕ × T). z.1) made) in
      ap (λ zs. (x.0, v) ∷ zs) tail ∙ (ap (λ k. (k, v) ∷ ys) (ap (λ (z : ℕ × T). z.0) made) ∙ ap (λ w. (y.0, w) ∷ ys) value)
  restored_on (y ∷ ys) n (suc i) f x v r h p e back =
      let up : y.0 < get_or (numbers_of ys) i 0 = r.0 (get_or (numbers_of ys) i 0) (among_at (numbers_of ys) i (omega (arith, numbers_length ys))) in
      let other : nat_eq n y.0 ≡ false = other_test n y.0 (λ q. omega (arith, up, p, q)) in
      let same : change n f y ≡ y = rw other refl in
      ap (λ (z : ℕ × T). z ∷ set (changed n f ys) i (x.0, v)) same ∙ ap (λ zs. y ∷ zs) (restored_on ys n i f x v r.1 (omega arith) p e back)

  pub numbered_same : (xs ys : List (ℕ × T)) → numbers_of xs ≡ numbers_of ys → AreNumbered ys → AreNumbered xs
  numbered_same xs ys e r = subst AreRising (sym e) r

  pub restored : (xs ys : List (ℕ × T)) (n i : ℕ) (f : T → T) (x : ℕ × T) (v : T) → AreNumbered xs → i < length xs → get_or (numbers_of xs) i 0 ≡ n →
      x ≡ get_or xs i x → xs ≡ changed n f ys → ((y : T) → x.1 ≡ f y → v ≡ y) → set xs i (x.0, v) ≡ ys
  restored xs ys n i f x v r h p e is back =
      let same : numbers_of xs ≡ numbers_of ys = ap numbers_of is ∙ numbers_changed n f ys in
      let size : length xs ≡ length ys = sym (numbers_length xs) ∙ (ap length same ∙ numbers_length ys) in
      let there : i < length ys = omega (arith, h, size) in
      ap (λ zs. set zs i (x.0, v)) is
      ∙ restored_on ys n i f x v (subst AreRising same r) there (subst (λ ns. get_or ns i 0 ≡ n) same p) (e ∙ ap (λ zs. get_or zs i x) is) back

  pub restored_none : (xs ys : List (ℕ × T)) (n : ℕ) (f : T → T) → (Among n (numbers_of xs) → ⊥) → xs ≡ changed n f ys → xs ≡ ys
  restored_none xs ys n f none is =
      is ∙ changed_none n f ys (λ a. none (subst (λ ns. Among n ns) (sym (ap numbers_of is ∙ numbers_changed n f ys)) a))
