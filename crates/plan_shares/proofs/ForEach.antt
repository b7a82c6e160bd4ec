-- Lists for each timeline: one by one, with more items in one of them, and while they are taken out.
use Rattle.std.proofs.Common.{◌≡◌, ℕ, zero, suc, ◌+◌, ◌<◌, ◌≤◌, ◌&&◌, Bool, true, false, cond, nat_eq, List, [], ◌∷◌, ◌++◌, length, get_or, set, take, map, refl, sym, ap, ◌∙◌, subst, inl, inr, arith, eqb-true, eq-eqb, ⊎_elim}
use Rattle.std.specs.List.{range_with_len, filter, flat_map}
use Rattle.std.proofs.lemmas.Bool.{cases_eq}
use Rattle.std.proofs.lemmas.List.{append-nil, get_or_default, get_or-set_same, get_or-set_other, length-set, take_all}
use Rattle.std.proofs.lemmas.List.Elements.{filter_more}
use Rattle.std.proofs.lemmas.List.FromFn.{get_or-map-range_with_len, length-map-range_with_len, map-range_with_len_more, fill_by_all}
use Rattle.event_order.specs.Pending.{Among}
use Rattle.event_order.proofs.Pending.{test_cases, among_append_left, among_append_right}
use Rattle.plan_shares.specs.Lists.{for_each, list_at}

pub same_test : (n : ℕ) → nat_eq n n ≡ true
same_test n = eq-eqb n n refl

pub other_test : (n k : ℕ) → (n ≡ k → ⊥) → nat_eq n k ≡ false
other_test n k h = elim (test_cases (nat_eq n k)) [ inl t ↦ absurd (h (eqb-true n k t)) | inr f ↦ f ]

-- functions that agree on a range make the same list
pub map_range_same : {T : Type 0} (f g : ℕ → T) (first n : ℕ) → ((i : ℕ) → first ≤ i → i < first + n → f i ≡ g i) → map f (range_with_len first n) ≡ map g (range_with_len first n)
map_range_same f g first zero same = refl
map_range_same f g first (suc n) same =
    let here = same first (omega arith) (omega arith) in
    let rest = map_range_same f g (first + 1) n (λ i low high. same i (omega arith) (omega arith)) in
    cc

module _ {T : Type 0} where
  pub among_here : (xs : List T) (k : ℕ) (x : T) → k < length xs → x ≡ get_or xs k x → Among x xs
  among_here [] k x h e = absurd (omega arith)
  among_here (y ∷ ys) zero x h e = inl e
  among_here (y ∷ ys) (suc k) x h e = inr (among_here ys k x (omega arith) e)

  pub here_is : (xs : List T) (k : ℕ) (d : T) → k < length xs → get_or xs k d ≡ get_or xs k (get_or xs k d)
  here_is xs k d h = get_or_default xs k d (get_or xs k d) h

  -- ---- lists, one by one

  pub each_length : (n : ℕ) (f : ℕ → List T) → length (for_each n f) ≡ n
  each_length n f = length-map-range_with_len f 0 n

  pub each_at : (n i : ℕ) (f : ℕ → List T) → i < n → list_at (for_each n f) i ≡ f i
  each_at n i f h = get_or-map-range_with_len f 0 n i i [] h (omega arith)

  pub each_of : (n : ℕ) (f : ℕ → List T) (xs : List (List T)) → length xs ≡ n → ((i : ℕ) → i < n → list_at xs i ≡ f i) → xs ≡ for_each n f
  each_of n f xs size all = fill_by_all f xs n [] size all

  pub length_of : (n : ℕ) (f : ℕ → List T) (xs : List (List T)) → xs ≡ for_each n f → length xs ≡ n
  length_of n f xs is = ap (λ ys. length ys) is ∙ each_length n f

  pub same_each : (n : ℕ) (f g : ℕ → List T) (xs : List (List T)) → xs ≡ for_each n f → ((i : ℕ) → i < n → f i ≡ g i) → xs ≡ for_each n g
  same_each n f g xs is same = is ∙ map_range_same f g 0 n (λ i low high. same i (omega arith))

  pub open_more : (n : ℕ) (old new : List (List T)) (x : List T) → old ≡ for_each n (λ _. []) → x ≡ [] → new ≡ old ++ x ∷ [] → new ≡ for_each (n + 1) (λ _. [])
  open_more n old new x was none is =
      let none_of : ℕ → List T = λ _. [] in
      is ∙ (ap (λ xs. xs ++ x ∷ []) was ∙ (ap (λ y. for_each n none_of ++ y ∷ []) none ∙ sym (map-range_with_len_more none_of 0 n n (omega arith))))

  -- ---- more items in the list of timeline j

  at_own : (n j : ℕ) (f g : ℕ → List T) (more : List T) (old : List (List T)) → old ≡ for_each n f → j < n → g j ≡ f j ++ cond (nat_eq j j) more [] → list_at (set old j (list_at old j ++ more)) j ≡ g j
  at_own n j f g more old was h is =
      let within : j < length old = omega (arith, length_of n f old was) in
      let own : list_at old j ≡ f j = ap (λ xs. list_at xs j) was ∙ each_at n j f h in
      let here : g j ≡ f j ++ more = is ∙ rw (same_test j) refl in
      get_or-set_same old j (list_at old j ++ more) [] within ∙ (ap (λ xs. xs ++ more) own ∙ sym here)

  at_other : (n j i : ℕ) (f g : ℕ → List T) (more : List T) (old : List (List T)) → old ≡ for_each n f → i < n → (i ≡ j → ⊥) → g i ≡ f i ++ cond (nat_eq j i) more [] → list_at (set old j (list_at old j ++ more)) i ≡ g i
  at_other n j i f g more old was h other is =
      let there : list_at old i ≡ f i = ap (λ xs. list_at xs i) was ∙ each_at n i f h in
      let none : nat_eq j i ≡ false = other_test j i (λ e. other (sym e)) in
      let same : g i ≡ f i = is ∙ (rw none (append-nil (f i))) in
      get_or-set_other old j i (list_at old j ++ more) [] other ∙ (there ∙ sym same)

  pub put_more : (n j : ℕ) (f g : ℕ → List T) (more : List T) (old new : List (List T)) → old ≡ for_each n f → j < n
      → ((i : ℕ) → i < n → g i ≡ f i ++ cond (nat_eq j i) more []) → new ≡ set old j (list_at old j ++ more) → new ≡ for_each n g
  put_more n j f g more old new was h all is =
      is ∙ each_of n g (set old j (list_at old j ++ more)) (length-set old j (list_at old j ++ more) ∙ length_of n f old was)
      (λ i below. ⊎_elim
      (λ (same : i ≡ j). subst (λ k. list_at (set old j (list_at old j ++ more)) k ≡ g k) (sym same) (at_own n j f g more old was h (all j h)))
      (λ (other : i ≡ j → ⊥). at_other n j i f g more old was below other (all i below))
      (cases_eq i j))

  -- ---- filters

  pub kept_more : (p : T → Bool) (xs : List T) (k : ℕ) (x : T) → k < length xs → x ≡ get_or xs k x → filter p (take (k + 1) xs) ≡ filter p (take k xs) ++ cond (p x) (x ∷ []) []
  kept_more p xs k x h is = subst (λ y. filter p (take (k + 1) xs) ≡ filter p (take k xs) ++ cond (p y) (y ∷ []) []) (sym is) (filter_more p xs k x h)

  -- each list has what passes the test of its timeline: after one more item, which passes that of timeline j alone
  pub put_kept : (n j : ℕ) (p : ℕ → T → Bool) (xs : List T) (k : ℕ) (x : T) (old new : List (List T)) → k < length xs → x ≡ get_or xs k x → ((i : ℕ) → p i x ≡ nat_eq j i)
      → old ≡ for_each n (λ i. filter (p i) (take k xs)) → j < n → new ≡ set old j (list_at old j ++ x ∷ []) → new ≡ for_each n (λ i. filter (p i) (take (k + 1) xs))
  put_kept n j p xs k x old new h at own was below is =
      put_more n j (λ i. filter (p i) (take k xs)) (λ i. filter (p i) (take (k + 1) xs)) (x ∷ []) old new was below
      (λ i low. kept_more (p i) xs k x h at ∙ ap (λ b. filter (p i) (take k xs) ++ cond b (x ∷ []) []) (own i)) is

  -- and after one that passes none
  pub skip_kept : (n : ℕ) (p : ℕ → T → Bool) (xs : List T) (k : ℕ) (x : T) (old : List (List T)) → k < length xs → x ≡ get_or xs k x → ((i : ℕ) → p i x ≡ false)
      → old ≡ for_each n (λ i. filter (p i) (take k xs)) → old ≡ for_each n (λ i. filter (p i) (take (k + 1) xs))
  skip_kept n p xs k x old h at none was =
      same_each n (λ i. filter (p i) (take k xs)) (λ i. filter (p i) (take (k + 1) xs)) old was
      (λ i low. sym (kept_more (p i) xs k x h at ∙ (ap (λ b. filter (p i) (take k xs) ++ cond b (x ∷ []) []) (none i) ∙ append-nil (filter (p i) (take k xs)))))

  pub all_kept : (n : ℕ) (p : ℕ → T → Bool) (xs : List T) (k : ℕ) (old : List (List T)) → length xs ≤ k → old ≡ for_each n (λ i. filter (p i) (take k xs)) → old ≡ for_each n (λ i. filter (p i) xs)
  all_kept n p xs k old h was = was ∙ ap (λ ys. for_each n (λ i. filter (p i) ys)) (take_all k xs h)

  -- ---- lists that are taken out

  -- the lists before number k are taken out
  pub record IsLeft (k : ℕ) (first now : List (List T)) : Type 0 where
    pub size : length now ≡ length first
    pub same : (i : ℕ) → k ≤ i → list_at now i ≡ list_at first i

  pub left_all : (xs : List (List T)) → IsLeft 0 xs xs
  left_all xs = record { size = refl; same = λ i h. refl }

  pub left_more : (k : ℕ) (first now after : List (List T)) → IsLeft k first now → after ≡ set now k [] → IsLeft (k + 1) first after
  left_more k first now after l is = record {
    size = ap (λ xs. length xs) is ∙ (length-set now k [] ∙ l.size);
    same = λ i h. (let ne : i ≡ k → ⊥ = λ e. absurd (omega arith) in
        ap (λ xs. list_at xs i) is ∙ (get_or-set_other now k i [] [] ne ∙ l.same i (omega arith)));
  }

pub flat_of : {T : Type 0} (f : T → List ℕ) (c : ℕ) (xs : List T) (x : T) → Among x xs → Among c (f x) → Among c (flat_map f xs)
flat_of f c [] x a b = absurd a
flat_of f c (y ∷ ys) x (inl e) b = among_append_left c (f y) (flat_map f ys) (subst (λ z. Among c (f z)) e b)
flat_of f c (y ∷ ys) x (inr a) b = among_append_right c (f y) (flat_map f ys) (flat_of f c ys x a b)

-- both of two tests hold, or not, together
pub both_on : (a b i : ℕ) → a ≡ b → (nat_eq a i && nat_eq b i) ≡ nat_eq a i
both_on a b i e = subst (λ c. (nat_eq a i && nat_eq c i) ≡ nat_eq a i) e (twice (nat_eq a i))
  where
    twice : (t : Bool) → (t && t) ≡ t
    twice true = refl
    twice false = refl

pub never_both : (a b i : ℕ) → (b ≡ a → ⊥) → (nat_eq a i && nat_eq b i) ≡ false
never_both a b i other = elim (test_cases (nat_eq a i)) [
  | inr f ↦ rw f refl
  | inl t ↦ (let none : nat_eq b i ≡ false = other_test b i (λ e. other (e ∙ sym (eqb-true a i t))) in rw (t, none) refl)
]
