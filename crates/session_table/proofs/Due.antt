-- The numbers of the sessions whose deadline has passed: those of the first deadlines, sorted.
use Rattle.std.proofs.Common.{ℕ, suc, ◌≡◌, ◌≤◌, ◌∙◌, sym, ap, subst, refl, inl, inr, Bool, true, false, cond, ◌||◌, eqb, leb, List, [], ◌∷◌, map, Option, Some, None, IsPermutation, IsSorted, arith}
use Rattle.std.specs.declared.cmp.Ordering.TheVariants.{Less}
use Rattle.std.specs.List.{list_any, take_while, IsDistinct, AllByRecursion}
use Rattle.std.specs.List.Sorted.{IsStrictlySortedBy}
use Rattle.std.specs.Cmp.{both_ways}
use Rattle.std.specs.Map.{values_of}
use Rattle.std.specs.BTreeMap.{is_at}
use Rattle.std.specs.Ordering.{nat_cmp}
use Rattle.std.specs.Option.{option_eq}
use Rattle.std.proofs.lemmas.Bool.{cases_Bool, cases_eq, cases_order, or_cases, eq-eqb, ne_eqb, eqb-true, lt-ltb, le-ltb, le-leb, leb-true, and_parts, and_from, or_left, or_right, or_parts}
use Rattle.std.proofs.lemmas.List.Sums.{take_while-cons}
use Rattle.std.proofs.lemmas.List.Sorted.{list_any-IsPermutation, IsNonDecreasingBy-from_sort}
use Rattle.std.proofs.lemmas.Map.Keys.{IsDistinct-IsPermutation, IsStrictlyIncreasing-from_distinct, sorted_from_strictly_increasing}
use Rattle.session_table.specs.declared.entry.Entry.{Entry}
use Rattle.session_table.specs.declared.table.Deadline.{Deadline}
use Rattle.session_table.specs.Entries.{has_passed, due}
use Rattle.session_table.specs.Indexes.{deadline_cmp, kept_at, passes, is_due_at, passed_numbers, AreAbove, AreKept}
use Rattle.session_table.proofs.Lists.{kept_here, kept_behind, kept_number, none_above}

-- Deadlines in their order.
same_deadline : (p q : Deadline) → is_at (deadline_cmp p) q ≡ true → (p.at ≡ q.at) × (p.number ≡ q.number)
same_deadline p q at =
    elim (cases_order p.at q.at) [
      | inl same ↦ elim (cases_order p.number q.number) [
        | inl equal ↦ (same, equal)
        | inr differ ↦ elim differ [
          | inl less ↦ let a = le-ltb p.at q.at (omega arith) in let b = eq-eqb p.at q.at same in let c = lt-ltb p.number q.number less in let no = rw (a, b, c) at at in absurd (cc)
          | inr more ↦
              let a = le-ltb p.at q.at (omega arith) in
              let b = eq-eqb p.at q.at same in
              let c = le-ltb p.number q.number (omega arith) in
              let d = ne_eqb p.number q.number (λ is. omega arith) in
              let no = rw (a, b, c, d) at at in
              absurd (cc)
        ]
      ]
      | inr differ ↦ elim differ [
        | inl less ↦ let a = lt-ltb p.at q.at less in let no = rw a at at in absurd (cc)
        | inr more ↦ let a = le-ltb p.at q.at (omega arith) in let b = ne_eqb p.at q.at (λ is. omega arith) in let no = rw (a, b) at at in absurd (cc)
      ]
    ]

itself : (p : Deadline) → is_at (deadline_cmp p) p ≡ true
itself p =
    let a = le-ltb p.at p.at (omega arith) in
    let b = eq-eqb p.at p.at refl in
    let c = le-ltb p.number p.number (omega arith) in
    let d = eq-eqb p.number p.number refl in
    rw (a, b, c, d) refl

-- an earlier one is not later, and differs
before : (p q : Deadline) → deadline_cmp p q ≡ Less → (p.at ≤ q.at) × (p.number ≡ q.number → p.at ≡ q.at → ⊥)
before p q less =
    elim (cases_order p.at q.at) [
      | inl same ↦ (
        omega arith,
        λ number time.
            let a = le-ltb p.at q.at (omega arith) in
            let b = eq-eqb p.at q.at same in
            let c = le-ltb p.number q.number (omega arith) in
            let d = eq-eqb p.number q.number number in
            let no = rw (a, b, c, d) at less in
            cc,
      )
      | inr differ ↦ elim differ [
        | inl earlier ↦ (omega arith, λ number time. omega arith)
        | inr later ↦ let a = le-ltb p.at q.at (omega arith) in let b = ne_eqb p.at q.at (λ is. omega arith) in let no = rw (a, b) at less in absurd (cc)
      ]
    ]

-- a deadline is among these
abbrev among : Deadline → List Deadline → Bool
among q ks = list_any (is_at (deadline_cmp q)) ks

abbrev AreAfter : Deadline → List Deadline → Type 0
AreAfter k ks = AllByRecursion (λ (y : Deadline). deadline_cmp k y ≡ Less) ks

-- what comes after a deadline is not before it, and differs
after : (k q : Deadline) (ks : List Deadline) → AreAfter k ks → among q ks ≡ true → (k.at ≤ q.at) × (k.number ≡ q.number → k.at ≡ q.at → ⊥)
after k q [] all has = absurd (cc)
after k q (y ∷ ys) all has =
    elim (or_cases (is_at (deadline_cmp q) y) (among q ys) has) [
      | inl here ↦
          let same = same_deadline q y here in
          let time = same.0 in
          let number = same.1 in
          let first = before k y all.0 in
          let early = first.0 in
          (omega arith, λ n t. first.1 (n ∙ number) (t ∙ time))
      | inr behind ↦ after k q ys all.1 behind
    ]

-- The first deadlines.
more_passed : (b : Bool) (k : Deadline) (ks : List Deadline) → map (λ (d : Deadline). d.number) (cond b (k ∷ ks) []) ≡ cond b (k.number ∷ map (λ (d : Deadline). d.number) ks) []
more_passed true k ks = refl
more_passed false k ks = refl

passed_more : (now : ℕ) (k : Deadline) (ks : List Deadline) → passed_numbers now (k ∷ ks) ≡ cond (leb k.at now) (k.number ∷ passed_numbers now ks) []
passed_more now k ks =
    ap (map (λ (d : Deadline). d.number)) (take_while-cons (λ (d : Deadline). leb d.at now) k ks)
    ∙ more_passed (leb k.at now) k (take_while (λ (d : Deadline). leb d.at now) ks)

passed_in : (now : ℕ) (k : Deadline) (ks : List Deadline) → k.at ≤ now → passed_numbers now (k ∷ ks) ≡ k.number ∷ passed_numbers now ks
passed_in now k ks early = passed_more now k ks ∙ ap (λ (b : Bool). cond b (k.number ∷ passed_numbers now ks) []) (le-leb k.at now early)

passed_out : (now : ℕ) (k : Deadline) (ks : List Deadline) → leb k.at now ≡ false → passed_numbers now (k ∷ ks) ≡ []
passed_out now k ks late = passed_more now k ks ∙ ap (λ (b : Bool). cond b (k.number ∷ passed_numbers now ks) []) late

abbrev has : ℕ → List ℕ → Bool
has n ns = list_any (eqb n) ns

-- each number is that of a deadline that has passed
abbrev IsPassed : (now n : ℕ) → List Deadline → Type 0
IsPassed now n ks = (d : Deadline) × (d.number ≡ n) × (d.at ≤ now) × (among d ks ≡ true)

from_passed : (now n : ℕ) (ks : List Deadline) → has n (passed_numbers now ks) ≡ true → IsPassed now n ks
from_passed now n [] is = absurd (cc)
from_passed now n (k ∷ ks) is =
    elim (cases_Bool (leb k.at now)) [
      | inl early ↦
          let time = leb-true k.at now early in
          let all : has n (k.number ∷ passed_numbers now ks) ≡ true = sym (ap (has n) (passed_in now k ks time)) ∙ is in
          elim (or_cases (eqb n k.number) (has n (passed_numbers now ks)) all) [
            | inl here ↦ (k, sym (eqb-true n k.number here), time, or_left (is_at (deadline_cmp k) k) (among k ks) (itself k))
            | inr behind ↦ let rest = from_passed now n ks behind in (rest.0, rest.1, rest.2, or_right (is_at (deadline_cmp rest.0) k) (among rest.0 ks) rest.3)
          ]
      | inr late ↦ let none : has n [] ≡ true = sym (ap (has n) (passed_out now k ks late)) ∙ is in absurd (cc)
    ]

-- and each such number is there
to_passed : (now : ℕ) (q : Deadline) (ks : List Deadline) → IsStrictlySortedBy deadline_cmp ks → q.at ≤ now → among q ks ≡ true → has q.number (passed_numbers now ks) ≡ true
unfolding IsStrictlySortedBy
to_passed now q [] sorted early is = absurd (cc)
to_passed now q (k ∷ ks) sorted early is =
    elim (or_cases (is_at (deadline_cmp q) k) (among q ks) is) [
      | inl here ↦
          let same = same_deadline q k here in
          let time = same.0 in
          ap (has q.number) (passed_in now k ks (omega arith)) ∙ or_left (eqb q.number k.number) (has q.number (passed_numbers now ks)) (eq-eqb q.number k.number same.1)
      | inr behind ↦
          let not_later = (after k q ks sorted.0 behind).0 in
          ap (has q.number) (passed_in now k ks (omega arith)) ∙ or_right (eqb q.number k.number) (has q.number (passed_numbers now ks)) (to_passed now q ks sorted.1 early behind)
    ]

none_same : (n : ℕ) (ns : List ℕ) → has n ns ≡ false → AllByRecursion (λ (m : ℕ). eqb n m ≡ false) ns
none_same n [] none = tt
none_same n (m ∷ ns) none = let both = or_parts (eqb n m) (has n ns) none in (both.0, none_same n ns both.1)

-- where a number has one deadline, the numbers differ
abbrev IsOneEach : List Deadline → Type 0
IsOneEach ks = (p q : Deadline) → among p ks ≡ true → among q ks ≡ true → p.number ≡ q.number → p.at ≡ q.at

rest_one : (k : Deadline) (ks : List Deadline) → IsOneEach (k ∷ ks) → IsOneEach ks
rest_one k ks one p q at_p at_q same = one p q (or_right (is_at (deadline_cmp p) k) (among p ks) at_p) (or_right (is_at (deadline_cmp q) k) (among q ks) at_q) same

head_apart : (now : ℕ) (k : Deadline) (ks : List Deadline) → AreAfter k ks → IsOneEach (k ∷ ks) → has k.number (passed_numbers now ks) ≡ false
head_apart now k ks later one =
    elim (cases_Bool (has k.number (passed_numbers now ks))) [
      | inl is ↦
          let found = from_passed now k.number ks is in
          let d = found.0 in
          let time = one k d (or_left (is_at (deadline_cmp k) k) (among k ks) (itself k)) (or_right (is_at (deadline_cmp d) k) (among d ks) found.3) (sym found.1) in
          absurd ((after k d ks later found.3).1 (sym found.1) time)
      | inr none ↦ none
    ]

distinct_passed : (now : ℕ) (ks : List Deadline) → IsStrictlySortedBy deadline_cmp ks → IsOneEach ks → IsDistinct eqb (passed_numbers now ks)
unfolding IsStrictlySortedBy IsDistinct
distinct_passed now [] sorted one = tt
distinct_passed now (k ∷ ks) sorted one =
    elim (cases_Bool (leb k.at now)) [
      | inl early ↦
          subst (IsDistinct eqb) (sym (passed_in now k ks (leb-true k.at now early)))
          (none_same k.number (passed_numbers now ks) (head_apart now k ks sorted.0 one), distinct_passed now ks sorted.1 (rest_one k ks one))
      | inr late ↦ subst (IsDistinct eqb) (sym (passed_out now k ks late)) tt
    ]

-- Rising numbers.
less_cmp : (m n : ℕ) → nat_cmp m n ≡ Less → suc m ≤ n
less_cmp m n less =
    elim (cases_order m n) [
      | inl same ↦ let a = le-ltb m n (omega arith) in let b = eq-eqb m n same in let no = rw (a, b) at less in absurd (cc)
      | inr differ ↦ elim differ [
        | inl is ↦ is
        | inr more ↦ let a = le-ltb m n (omega arith) in let b = ne_eqb m n (λ is. omega arith) in let no = rw (a, b) at less in absurd (cc)
      ]
    ]

cmp_less : (m n : ℕ) → suc m ≤ n → nat_cmp m n ≡ Less
cmp_less m n less = let a = lt-ltb m n less in rw a refl

abbrev AreMore : ℕ → List ℕ → Type 0
AreMore m ns = AllByRecursion (λ (n : ℕ). nat_cmp m n ≡ Less) ns

not_more : (m q : ℕ) (ns : List ℕ) → AreMore m ns → has q ns ≡ true → suc m ≤ q
not_more m q [] all is = absurd (cc)
not_more m q (n ∷ ns) all is =
    elim (or_cases (eqb q n) (has q ns) is) [
      | inl here ↦ let same = eqb-true q n here in let less = less_cmp m n all.0 in omega arith
      | inr behind ↦ not_more m q ns all.1 behind
    ]

-- two lists of rising numbers that have the same numbers are the same
same_rising : (xs ys : List ℕ) → IsStrictlySortedBy nat_cmp xs → IsStrictlySortedBy nat_cmp ys → ((q : ℕ) → has q xs ≡ has q ys) → xs ≡ ys
unfolding IsStrictlySortedBy
same_rising [] [] first second same = refl
same_rising [] (y ∷ ys) first second same = let here = same y ∙ or_left (eqb y y) (has y ys) (eq-eqb y y refl) in absurd (cc)
same_rising (x ∷ xs) [] first second same = let here = sym (same x) ∙ or_left (eqb x x) (has x xs) (eq-eqb x x refl) in absurd (cc)
same_rising (x ∷ xs) (y ∷ ys) first second same =
    let x_there : has x (y ∷ ys) ≡ true = sym (same x) ∙ or_left (eqb x x) (has x xs) (eq-eqb x x refl) in
    let y_there : has y (x ∷ xs) ≡ true = same y ∙ or_left (eqb y y) (has y ys) (eq-eqb y y refl) in
    let heads : x ≡ y =
    elim (or_cases (eqb x y) (has x ys) x_there) [
      | inl is ↦ eqb-true x y is
      | inr behind ↦ elim (or_cases (eqb y x) (has y xs) y_there) [
        | inl is ↦ sym (eqb-true y x is)
        | inr other ↦ let a = not_more y x ys second.0 behind in let b = not_more x y xs first.0 other in omega arith
      ]
    ] in
    let rest : (q : ℕ) → has q xs ≡ has q ys = λ q.
    both_ways (has q xs) (has q ys)
    (λ is.
    let more = not_more x q xs first.0 is in
    let all : has q (y ∷ ys) ≡ true = sym (same q) ∙ or_right (eqb q x) (has q xs) is in
    elim (or_cases (eqb q y) (has q ys) all) [ inl here ↦ let at = eqb-true q y here in absurd (omega arith) | inr behind ↦ behind ])
    (λ is.
    let more = not_more y q ys second.0 is in
    let all : has q (x ∷ xs) ≡ true = same q ∙ or_right (eqb q y) (has q ys) is in
    elim (or_cases (eqb q x) (has q xs) all) [ inl here ↦ let at = eqb-true q x here in absurd (omega arith) | inr behind ↦ behind ]) in
    ap (λ (n : ℕ). n ∷ xs) heads ∙ ap (λ (ns : List ℕ). y ∷ ns) (same_rising xs ys first.1 second.1 rest)

module _ {S : Type 0} where
  -- The sessions whose deadline has passed, by the list.
  abbrev is_passed : ℕ → Entry S → Bool
  is_passed now x = has_passed now x.deadline

  due_in : (now : ℕ) (x : Entry S) (xs : List (Entry S)) → is_passed now x ≡ true → due now (x ∷ xs) ≡ x.number ∷ due now xs
  due_in now x xs is = rw is refl

  due_out : (now : ℕ) (x : Entry S) (xs : List (Entry S)) → is_passed now x ≡ false → due now (x ∷ xs) ≡ due now xs
  due_out now x xs is = rw is refl

  due_above : (now m : ℕ) (es : List (ℕ × Entry S)) → AreAbove m es → AreKept es → AreMore m (due now (values_of es))
  due_above now m [] above kept = tt
  due_above now m (e ∷ es) above kept =
      let first = above.0 in
      let number = kept.0 in
      elim (cases_Bool (is_passed now e.1)) [
        | inl is ↦ subst (AreMore m) (sym (due_in now e.1 (values_of es) is)) (cmp_less m e.1.number (omega arith), due_above now m es above.1 kept.2)
        | inr other ↦ subst (AreMore m) (sym (due_out now e.1 (values_of es) other)) (due_above now m es above.1 kept.2)
      ]

  due_rises : (now : ℕ) (es : List (ℕ × Entry S)) → AreKept es → IsStrictlySortedBy nat_cmp (due now (values_of es))
  unfolding IsStrictlySortedBy
  due_rises now [] kept = tt
  due_rises now (e ∷ es) kept =
      elim (cases_Bool (is_passed now e.1)) [
        | inl is ↦
            subst (IsStrictlySortedBy nat_cmp) (sym (due_in now e.1 (values_of es) is))
            (subst (λ (n : ℕ). AreMore n (due now (values_of es))) (sym kept.0) (due_above now e.0 es kept.1 kept.2), due_rises now es kept.2)
        | inr other ↦ subst (IsStrictlySortedBy nat_cmp) (sym (due_out now e.1 (values_of es) other)) (due_rises now es kept.2)
      ]

  due_head : (now n : ℕ) (e : ℕ × Entry S) (es : List (ℕ × Entry S)) → e.1.number ≡ e.0 → has n (due now (e.1 ∷ values_of es)) ≡ cond (is_passed now e.1) (eqb n e.0 || has n (due now (values_of es))) (has n (due now (values_of es)))
  due_head now n e es number =
      elim (cases_Bool (is_passed now e.1)) [
        | inl is ↦ rw is (ap (λ (m : ℕ). eqb n m || has n (due now (values_of es))) number)
        | inr other ↦ rw other refl
      ]

  due_has : (now n : ℕ) (es : List (ℕ × Entry S)) → AreKept es → has n (due now (values_of es)) ≡ passes (is_passed now) (kept_at es n)
  due_has now n [] kept = refl
  due_has now n (e ∷ es) kept =
      elim (cases_eq n e.0) [
        | inl same ↦
            let here : kept_at (e ∷ es) n ≡ Some e.1 = ap (kept_at (e ∷ es)) same ∙ kept_here e es in
            let gone : has n (due now (values_of es)) ≡ false = due_has now n es kept.2 ∙ ap (passes (is_passed now)) (ap (kept_at es) same ∙ none_above e.0 es kept.1) in
            let t = eq-eqb n e.0 same in
            due_head now n e es kept.0 ∙ rw (t, gone) (at_head (is_passed now e.1)) ∙ sym (ap (passes (is_passed now)) here)
        | inr differ ↦
            let behind : kept_at (e ∷ es) n ≡ kept_at es n = kept_behind e es n differ in
            let t = ne_eqb n e.0 differ in
            due_head now n e es kept.0 ∙ rw t (either (is_passed now e.1) (has n (due now (values_of es)))) ∙ due_has now n es kept.2 ∙ sym (ap (passes (is_passed now)) behind)
      ]
    where
      at_head : (b : Bool) → cond b true false ≡ b
      at_head true = refl
      at_head false = refl

      either : (b c : Bool) → cond b c c ≡ c
      either true c = refl
      either false c = refl

  -- By the deadlines.
  passed_if : (now : ℕ) (d : Deadline) (x : Entry S) (o : Option ℕ) → x.deadline ≡ o → d.at ≤ now → is_due_at d x ≡ true → has_passed now o ≡ true
  passed_if now d x None none early is = let both = and_parts (eqb x.number d.number) (option_eq eqb x.deadline (Some d.at)) is in let off = both.1 in let no_time = rw none at off in absurd (cc)
  passed_if now d x (Some t) some early is =
      let both = and_parts (eqb x.number d.number) (option_eq eqb x.deadline (Some d.at)) is in
      let off = both.1 in
      let same = rw some at off in
      let time = eqb-true t d.at same in
      le-leb t now (omega arith)

  then_passed : (now : ℕ) (d : Deadline) (o : Option (Entry S)) → d.at ≤ now → passes (is_due_at d) o ≡ true → passes (is_passed now) o ≡ true
  then_passed now d None early is = absurd (cc)
  then_passed now d (Some x) early is = passed_if now d x x.deadline refl early is

  abbrev IsDueBy : (now n : ℕ) → Option (Entry S) → Type 0
  IsDueBy now n o = (t : ℕ) × (t ≤ now) × (passes (is_due_at (record { at = t; number = n })) o ≡ true)

  due_if : (now n : ℕ) (x : Entry S) (o : Option ℕ) → x.deadline ≡ o → x.number ≡ n → has_passed now o ≡ true → IsDueBy now n (Some x)
  due_if now n x None none number is = absurd (cc)
  due_if now n x (Some t) some number is =
      (t, leb-true t now is, and_from (eqb x.number n) (option_eq eqb x.deadline (Some t)) (eq-eqb x.number n number) (ap (λ (o : Option ℕ). option_eq eqb o (Some t)) some ∙ eq-eqb t t refl))

  then_due : (now n : ℕ) (es : List (ℕ × Entry S)) (o : Option (Entry S)) → AreKept es → kept_at es n ≡ o → passes (is_passed now) o ≡ true → IsDueBy now n o
  then_due now n es None kept at is = absurd (cc)
  then_due now n es (Some x) kept at is = due_if now n x x.deadline refl (kept_number es n x kept at) is

  module _ (ks : List Deadline) (es : List (ℕ × Entry S)) (kept : AreKept es) (sorted : IsStrictlySortedBy deadline_cmp ks) (dues : (q : Deadline) → among q ks ≡ passes (is_due_at q) (kept_at es q.number)) where
    one_time : (p q : Deadline) (o : Option (Entry S)) → passes (is_due_at p) o ≡ true → passes (is_due_at q) o ≡ true → p.at ≡ q.at
    one_time p q None at_p at_q = absurd (cc)
    one_time p q (Some x) at_p at_q = times x.deadline (and_parts (eqb x.number p.number) (option_eq eqb x.deadline (Some p.at)) at_p).1 (and_parts (eqb x.number q.number) (option_eq eqb x.deadline (Some q.at)) at_q).1
      where
        times : (o : Option ℕ) → option_eq eqb o (Some p.at) ≡ true → option_eq eqb o (Some q.at) ≡ true → p.at ≡ q.at
        times None a b = absurd (cc)
        times (Some t) a b = sym (eqb-true t p.at a) ∙ eqb-true t q.at b

    one_each : IsOneEach ks
    one_each p q at_p at_q same =
        one_time p q (kept_at es q.number) (ap (λ (n : ℕ). passes (is_due_at p) (kept_at es n)) (sym same) ∙ sym (dues p) ∙ at_p) (sym (dues q) ∙ at_q)

    passed_has : (now n : ℕ) → has n (passed_numbers now ks) ≡ passes (is_passed now) (kept_at es n)
    passed_has now n =
        both_ways (has n (passed_numbers now ks)) (passes (is_passed now) (kept_at es n))
        (λ is.
        let found = from_passed now n ks is in
        let d = found.0 in
        then_passed now d (kept_at es n) found.2 (ap (λ (m : ℕ). passes (is_due_at d) (kept_at es m)) (sym found.1) ∙ sym (dues d) ∙ found.3))
        (λ is.
        let time = then_due now n es (kept_at es n) kept refl is in
        let d : Deadline = record { at = time.0; number = n } in
        to_passed now d ks sorted time.1 (dues d ∙ time.2))

    flip : (m n : ℕ) → eqb m n ≡ eqb n m
    flip m n = both_ways (eqb m n) (eqb n m) (λ is. eq-eqb n m (sym (eqb-true m n is))) (λ is. eq-eqb m n (sym (eqb-true n m is)))

    -- the numbers of the first deadlines, sorted, are those of the sessions whose deadline has passed
    pub due_is : (now : ℕ) (ns : List ℕ) → IsPermutation (passed_numbers now ks) ns → IsSorted nat_cmp ns → ns ≡ due now (values_of es)
    due_is now ns permutation in_order =
        let apart = IsDistinct-IsPermutation eqb flip (passed_numbers now ks) ns permutation (distinct_passed now ks sorted one_each) in
        let rises = sorted_from_strictly_increasing ns (IsStrictlyIncreasing-from_distinct ns (IsNonDecreasingBy-from_sort (λ (n : ℕ). n) ns in_order) apart) in
        same_rising ns (due now (values_of es)) rises (due_rises now es kept)
        (λ q. sym (list_any-IsPermutation (eqb q) (passed_numbers now ks) ns permutation) ∙ passed_has now q ∙ sym (due_has now q es kept))
