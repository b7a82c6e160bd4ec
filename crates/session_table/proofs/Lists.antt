-- The sessions of a table as a list, and as the map keeps them.
use Rattle.std.proofs.Common.{ℕ, ◌≡◌, ◌<◌, ◌∙◌, sym, ap, subst, refl, inl, inr, Bool, true, false, cond, eqb, List, [], ◌∷◌, Option, Some, None, Result, Ok, Err, OnOk, OnErr, is_err, IsSome, MatchOption, Bor, arith}
use Rattle.std.specs.declared.cmp.Ordering.TheVariants.{Less, Equal, Greater}
use Rattle.std.specs.List.{find}
use Rattle.std.specs.Option.{option_or, option_copied}
use Rattle.std.specs.Ordering.{nat_cmp, is_eq, match_ordering}
use Rattle.std.specs.Map.{values_of, remove_entry}
use Rattle.std.specs.BTreeMap.{is_at, insert_entry}
use Rattle.std.proofs.lemmas.Bool.{cases_Bool, cases_order, eq-eqb, ne_eqb, eqb-true, lt-ltb, le-ltb}
use Rattle.session_table.specs.declared.entry.Entry.{Entry}
use Rattle.session_table.specs.Entries.{numbered, number_at, placed, without}
use Rattle.session_table.specs.Indexes.{is_number, kept_at, passes, AreAbove, AreKept}

pub same_cmp : (n m : ℕ) → is_eq (nat_cmp n m) ≡ eqb n m
same_cmp n m =
    elim (cases_order n m) [
      | inl e ↦ let low = le-ltb n m (omega arith) in let t = eq-eqb n m e in rw (low, t) refl
      | inr differ ↦ elim differ [
        | inl less ↦ let low = lt-ltb n m less in let t = ne_eqb n m (λ e. omega arith) in rw (low, t) refl
        | inr more ↦ let low = le-ltb n m (omega arith) in let t = ne_eqb n m (λ e. omega arith) in rw (low, t) refl
      ]
    ]

-- what a look-up answers
pub copied_is : {T : Type 0} (o : Option (Bor T)) (p : Option T) → option_copied o ≡ p → MatchOption o (p ≡ None) (λ r. p ≡ Some r.now)
copied_is None p same = sym same
copied_is (Some r) p same = sym same

pub both_are : {T : Type 0} {a b c d : Option T} → a ≡ c → b ≡ d → option_or a b ≡ option_or c d
both_are {T} {a} {b} {c} {d} first second = ap (λ (o : Option T). option_or o b) first ∙ ap (λ (o : Option T). option_or c o) second

pub not_none : {T : Type 0} (o : Option T) → IsSome o → o ≡ None → ⊥
not_none None some none = absurd (cc)
not_none (Some x) some none = cc

pub on_ok : {T E : Type 0} (P : Type 0) (r : Result T E) → is_err r ≡ false → OnOk r P → P
on_ok P (Ok x) fine holds = holds
on_ok P (Err e) fine holds = absurd (cc)

pub on_err : {T E : Type 0} (P : Type 0) (r : Result T E) → is_err r ≡ true → OnErr r P → P
on_err P (Ok x) fails holds = absurd (cc)
on_err P (Err e) fails holds = holds

module _ {S : Type 0} where
  -- the map after one session more, and after one less
  pub gone_map : (es after : List (ℕ × Entry S)) (n : ℕ) → ((q : ℕ) → kept_at after q ≡ cond (is_at (nat_cmp n) q) None (kept_at es q)) → (m : ℕ) → kept_at after m ≡ cond (eqb n m) None (kept_at es m)
  gone_map es after n is m = is m ∙ ap (λ b. cond b None (kept_at es m)) (same_cmp n m)

  pub come_map : (es after : List (ℕ × Entry S)) (n : ℕ) (x : Entry S) → ((q : ℕ) → kept_at after q ≡ cond (is_at (nat_cmp n) q) (Some x) (kept_at es q)) → (m : ℕ) → kept_at after m ≡ cond (eqb n m) (Some x) (kept_at es m)
  come_map es after n x is m = is m ∙ ap (λ b. cond b (Some x) (kept_at es m)) (same_cmp n m)

  pub here_now : (n : ℕ) (x : Entry S) (o : Option (Entry S)) → cond (eqb n n) (Some x) o ≡ Some x
  here_now n x o = let t = eq-eqb n n refl in rw t refl

  -- the session at the head of what is kept, and those behind it
  pub kept_here : (e : ℕ × Entry S) (es : List (ℕ × Entry S)) → kept_at (e ∷ es) e.0 ≡ Some e.1
  kept_here e es = let t = same_cmp e.0 e.0 ∙ eq-eqb e.0 e.0 refl in rw t refl

  pub kept_behind : (e : ℕ × Entry S) (es : List (ℕ × Entry S)) (n : ℕ) → (n ≡ e.0 → ⊥) → kept_at (e ∷ es) n ≡ kept_at es n
  kept_behind e es n differ = let t = same_cmp n e.0 ∙ ne_eqb n e.0 differ in rw t refl

  pub none_above : (n : ℕ) (es : List (ℕ × Entry S)) → AreAbove n es → kept_at es n ≡ None
  none_above n [] above = refl
  none_above n (e ∷ es) above = let first = above.0 in kept_behind e es n (λ same. omega arith) ∙ none_above n es above.1

  above_more : (n m : ℕ) (es : List (ℕ × Entry S)) → n < m → AreAbove m es → AreAbove n es
  above_more n m [] less above = tt
  above_more n m (e ∷ es) less above = let first = above.0 in (omega arith, above_more n m es less above.1)

  -- what is kept under a number has it
  pub kept_number : (es : List (ℕ × Entry S)) (n : ℕ) (x : Entry S) → AreKept es → kept_at es n ≡ Some x → x.number ≡ n
  kept_number [] n x kept at = absurd (cc)
  kept_number (e ∷ es) n x kept at =
      elim (cases_Bool (eqb n e.0)) [
        | inl same ↦ let t = same_cmp n e.0 ∙ same in let is : e.1 ≡ x = let all = rw t at at in cc in
            ap (λ (y : Entry S). y.number) (sym is) ∙ kept.0 ∙ sym (eqb-true n e.0 same)
        | inr other ↦ let t = same_cmp n e.0 ∙ other in kept_number es n x kept.2 (rw t at at)
      ]

  -- the session of a number is the one that is kept under it
  pub numbered_is : (es : List (ℕ × Entry S)) (n : ℕ) → AreKept es → numbered n (values_of es) ≡ kept_at es n
  numbered_is [] n kept = refl
  numbered_is (e ∷ es) n kept =
      elim (cases_order n e.0) [
        | inl same ↦ let number = kept.0 in let here = eq-eqb e.1.number n (omega arith) in let t = same_cmp n e.0 ∙ eq-eqb n e.0 same in rw (here, t) refl
        | inr differ ↦
            let number = kept.0 in
            let apart : n ≡ e.0 → ⊥ = λ is. elim differ [ inl less ↦ omega arith | inr more ↦ omega arith ] in
            let here = ne_eqb e.1.number n (λ is. apart (sym is ∙ number)) in
            let t = same_cmp n e.0 ∙ ne_eqb n e.0 apart in
            rw (here, t) (numbered_is es n kept.2)
      ]

  -- one session less
  without_above : (n : ℕ) (es : List (ℕ × Entry S)) → AreAbove n es → AreKept es → without n (values_of es) ≡ values_of es
  without_above n [] above kept = refl
  without_above n (e ∷ es) above kept =
      let first = above.0 in
      let number = kept.0 in
      let here = ne_eqb e.1.number n (λ is. omega arith) in
      rw here (ap (λ (l : List (Entry S)). e.1 ∷ l) (without_above n es above.1 kept.2))

  pub without_is : (n : ℕ) (es : List (ℕ × Entry S)) → AreKept es → values_of (remove_entry (is_at (nat_cmp n)) es) ≡ without n (values_of es)
  without_is n [] kept = refl
  without_is n (e ∷ es) kept =
      elim (cases_order n e.0) [
        | inl same ↦
            let number = kept.0 in
            let here = eq-eqb e.1.number n (omega arith) in
            let t = same_cmp n e.0 ∙ eq-eqb n e.0 same in
            rw (here, t) (sym (without_above n es (subst (λ k. AreAbove k es) (sym same) kept.1) kept.2))
        | inr differ ↦
            let number = kept.0 in
            let apart : n ≡ e.0 → ⊥ = λ is. elim differ [ inl less ↦ omega arith | inr more ↦ omega arith ] in
            let here = ne_eqb e.1.number n (λ is. apart (sym is ∙ number)) in
            let t = same_cmp n e.0 ∙ ne_eqb n e.0 apart in
            rw (here, t) (ap (λ (l : List (Entry S)). e.1 ∷ l) (without_is n es kept.2))
      ]

  above_removed : (k n : ℕ) (es : List (ℕ × Entry S)) → AreAbove k es → AreAbove k (remove_entry (is_at (nat_cmp n)) es)
  above_removed k n [] above = tt
  above_removed k n (e ∷ es) above =
      elim (is_eq (nat_cmp n e.0)) as (λ b. AreAbove k (cond b es (e ∷ remove_entry (is_at (nat_cmp n)) es))) [
        | true ↦ above.1
        | false ↦ (above.0, above_removed k n es above.1)
      ]

  pub kept_removed : (n : ℕ) (es : List (ℕ × Entry S)) → AreKept es → AreKept (remove_entry (is_at (nat_cmp n)) es)
  kept_removed n [] kept = tt
  kept_removed n (e ∷ es) kept =
      elim (is_eq (nat_cmp n e.0)) as (λ b. AreKept (cond b es (e ∷ remove_entry (is_at (nat_cmp n)) es))) [
        | true ↦ kept.2
        | false ↦ (kept.0, above_removed e.0 n es kept.1, kept_removed n es kept.2)
      ]

  -- one session more
  above_put : (k : ℕ) (x : Entry S) (n : ℕ) (es : List (ℕ × Entry S)) → k < n → AreAbove k es → AreAbove k (insert_entry nat_cmp es n x)
  above_put k x n [] less above = (less, tt)
  above_put k x n (e ∷ es) less above =
      elim (nat_cmp n e.0) as (λ o. AreAbove k (match_ordering o ((n, x) ∷ e ∷ es) ((e.0, x) ∷ es) (e ∷ insert_entry nat_cmp es n x))) [
        | Less ↦ (less, (above.0, above.1))
        | Equal ↦ (above.0, above.1)
        | Greater ↦ (above.0, above_put k x n es less above.1)
      ]

  pub kept_put : (x : Entry S) (es : List (ℕ × Entry S)) → AreKept es → kept_at es x.number ≡ None → AreKept (insert_entry nat_cmp es x.number x)
  kept_put x [] kept new = (refl, tt, tt)
  kept_put x (e ∷ es) kept new =
      elim (cases_order x.number e.0) [
        | inl same ↦ let t = same_cmp x.number e.0 ∙ eq-eqb x.number e.0 same in let here = rw t at new in absurd (cc)
        | inr differ ↦ elim differ [
          | inl less ↦
              let low = lt-ltb x.number e.0 less in
              rw low (refl, (less, above_more x.number e.0 es less kept.1), kept)
          | inr more ↦
              let low = le-ltb x.number e.0 (omega arith) in
              let other = ne_eqb x.number e.0 (λ is. omega arith) in
              let t = same_cmp x.number e.0 ∙ other in
              let behind = rw t at new in
              rw (low, other) (kept.0, above_put e.0 x x.number es more kept.1, kept_put x es kept.2 behind)
        ]
      ]

  pub placed_is : (x : Entry S) (es : List (ℕ × Entry S)) → AreKept es → kept_at es x.number ≡ None → values_of (insert_entry nat_cmp es x.number x) ≡ placed x (values_of es)
  placed_is x [] kept new = refl
  placed_is x (e ∷ es) kept new =
      let number = kept.0 in
      elim (cases_order x.number e.0) [
        | inl same ↦ let t = same_cmp x.number e.0 ∙ eq-eqb x.number e.0 same in let here = rw t at new in absurd (cc)
        | inr differ ↦ elim differ [
          | inl less ↦
              let low = lt-ltb x.number e.0 less in
              let before = lt-ltb x.number e.1.number (omega arith) in
              rw (low, before) refl
          | inr more ↦
              let low = le-ltb x.number e.0 (omega arith) in
              let before = le-ltb x.number e.1.number (omega arith) in
              let other = ne_eqb x.number e.0 (λ is. omega arith) in
              let t = same_cmp x.number e.0 ∙ other in
              let behind = rw t at new in
              rw (low, other, before) (ap (λ (l : List (Entry S)). e.1 ∷ l) (placed_is x es kept.2 behind))
        ]
      ]

  -- ---- by a test that one session passes

  under_is : (under : Option ℕ) (e : ℕ × Entry S) → is_number e.0 under ≡ true → e.1.number ≡ e.0 → Some e.1.number ≡ under
  under_is None e is number = absurd (cc)
  under_is (Some n) e is number = let same = eqb-true n e.0 is in ap Some (number ∙ sym same)

  -- what a test finds is what stands under it
  pub found_is : (test : Entry S → Bool) (es : List (ℕ × Entry S)) (under : Option ℕ) → AreKept es → ((n : ℕ) → is_number n under ≡ passes test (kept_at es n)) → number_at test (values_of es) ≡ under
  found_is test [] None kept is = refl
  found_is test [] (Some n) kept is = let t = sym (is n) ∙ eq-eqb n n refl in absurd (cc)
  found_is test (e ∷ es) under kept is =
      let here : is_number e.0 under ≡ test e.1 = is e.0 ∙ ap (passes test) (kept_here e es) in
      elim (cases_Bool (test e.1)) [
        | inl holds ↦ rw holds (under_is under e (here ∙ holds) kept.0)
        | inr no_one ↦ rw no_one (found_is test es under kept.2 (λ n. elim (cases_order n e.0) [
          | inl same ↦ rw same (here ∙ no_one ∙ sym (ap (passes test) (none_above e.0 es kept.1)))
          | inr differ ↦ is n ∙ ap (passes test) (kept_behind e es n (λ at. elim differ [ inl less ↦ omega arith | inr more ↦ omega arith ]))
        ]))
      ]

  -- a test that finds nothing fails for each that is kept
  pub none_passes : (test : Entry S → Bool) (es : List (ℕ × Entry S)) (n : ℕ) → find test (values_of es) ≡ None → passes test (kept_at es n) ≡ false
  none_passes test [] n none = refl
  none_passes test (e ∷ es) n none =
      elim (cases_Bool (test e.1)) [
        | inl holds ↦ let all = rw holds at none in absurd (cc)
        | inr fails ↦
            let rest = rw fails at none in
            elim (is_eq (nat_cmp n e.0)) as (λ b. passes test (cond b (Some e.1) (kept_at es n)) ≡ false) [
              | true ↦ fails
              | false ↦ none_passes test es n rest
            ]
      ]
