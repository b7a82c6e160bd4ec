-- Facts about each element of a list.
use Rattle.std.proofs.Common.{◌≡◌, ℕ, zero, suc, ◌+◌, ◌≤◌, Bool, true, false, cond, Option, Some, None, List, [], ◌∷◌, ◌++◌, length, map, refl, ap, subst, sym, inl, inr, arith, if◌then◌else◌}
use Rattle.std.specs.Prelude.{slice_get}
use Rattle.std.specs.List.{filter, find, count_by}
use Rattle.std.proofs.lemmas.List.Sums.{sum_by-append}
use Rattle.event_order.specs.Pending.{Among}
use Rattle.ssf_model.specs.Reaction.{Each}
use Rattle.host_rules.specs.Limits.{EachPair}

pub if_case : {A : Type 0} (P : A → Type 0) (b : Bool) {x y : A} → (b ≡ true → P x) → (b ≡ false → P y) → P (if b then x else y)
if_case P true h k = h refl
if_case P false h k = k refl

pub each_append : {A : Type 0} (P : A → Type 0) (xs ys : List A) → Each P xs → Each P ys → Each P (xs ++ ys)
each_append P [] ys h k = k
each_append P (x ∷ xs) ys h k = (h.0, each_append P xs ys h.1 k)

pub each_more : {A : Type 0} (P Q : A → Type 0) (xs : List A) → ((x : A) → P x → Q x) → Each P xs → Each Q xs
each_more P Q [] f h = tt
each_more P Q (x ∷ xs) f h = (f x h.0, each_more P Q xs f h.1)

pub each_map : {A B : Type 0} (P : A → Type 0) (Q : B → Type 0) (f : A → B) (xs : List A) → ((x : A) → P x → Q (f x)) → Each P xs → Each Q (map f xs)
each_map P Q f [] g h = tt
each_map P Q f (x ∷ xs) g h = (g x h.0, each_map P Q f xs g h.1)

pub each_filter : {A : Type 0} (P : A → Type 0) (test : A → Bool) (xs : List A) → Each P xs → Each P (filter test xs)
each_filter P test [] h = tt
each_filter P test (x ∷ xs) h = filter_head P (test x) x (filter test xs) h.0 (each_filter P test xs h.1)
  where
    filter_head : {A : Type 0} (P : A → Type 0) (b : Bool) (x : A) (ys : List A) → P x → Each P ys → Each P (cond b (x ∷ ys) ys)
    filter_head P true x ys h k = (h, k)
    filter_head P false x ys h k = k

pub each_at : {A : Type 0} (P : A → Type 0) (xs : List A) (k : ℕ) (x : A) → Each P xs → slice_get xs k ≡ Some x → P x
each_at P [] k x h e = absurd (cc)
each_at P (y ∷ ys) zero x h e = let same : y ≡ x = cc in subst P same h.0
each_at P (y ∷ ys) (suc k) x h e = each_at P ys k x h.1 e

pub each_among : {A : Type 0} (P : A → Type 0) (xs : List A) (x : A) → Each P xs → Among x xs → P x
each_among P [] x h m = absurd m
each_among P (y ∷ ys) x h (inl e) = subst P (sym e) h.0
each_among P (y ∷ ys) x h (inr m) = each_among P ys x h.1 m

pub found_among : {A : Type 0} (test : A → Bool) (xs : List A) (x : A) → find test xs ≡ Some x → Among x xs
found_among test [] x e = absurd (cc)
found_among test (y ∷ ys) x e = found_head (test y) y ys x (find test ys) (found_among test ys x) e
  where
    found_head : {A : Type 0} (b : Bool) (y : A) (ys : List A) (x : A) (rest : Option A) → (rest ≡ Some x → Among x ys) → cond b (Some y) rest ≡ Some x → Among x (y ∷ ys)
    found_head true y ys x rest f e = let same : y ≡ x = cc in inl (sym same)
    found_head false y ys x rest f e = inr (f e)

pub pairs_append : {A : Type 0} (R : A → A → Type 0) (xs : List A) (y : A) → EachPair R xs → Each (λ x. R x y) xs → EachPair R (xs ++ y ∷ [])
pairs_append R [] y h k = (tt, tt)
pairs_append R (x ∷ xs) y h k = (each_append (R x) xs (y ∷ []) h.0 (k.0, tt), pairs_append R xs y h.1 k.1)

pub pairs_more : {A : Type 0} (R Q : A → A → Type 0) (xs : List A) → ((x y : A) → R x y → Q x y) → EachPair R xs → EachPair Q xs
pairs_more R Q [] f h = tt
pairs_more R Q (x ∷ xs) f h = (each_more (R x) (Q x) xs (f x) h.0, pairs_more R Q xs f h.1)

pub pairs_map : {A : Type 0} (R : A → A → Type 0) (f : A → A) (xs : List A) → ((x y : A) → R x y → R (f x) (f y)) → EachPair R xs → EachPair R (map f xs)
pairs_map R f [] g h = tt
pairs_map R f (x ∷ xs) g h = (each_map (R x) (R (f x)) f xs (λ y. g x y) h.0, pairs_map R f xs g h.1)

pub pairs_filter : {A : Type 0} (R : A → A → Type 0) (test : A → Bool) (xs : List A) → EachPair R xs → EachPair R (filter test xs)
pairs_filter R test [] h = tt
pairs_filter R test (x ∷ xs) h = pairs_head R (test x) x (filter test xs) (each_filter (R x) test xs h.0) (pairs_filter R test xs h.1)
  where
    pairs_head : {A : Type 0} (R : A → A → Type 0) (b : Bool) (x : A) (ys : List A) → Each (R x) ys → EachPair R ys → EachPair R (cond b (x ∷ ys) ys)
    pairs_head R true x ys h k = (h, k)
    pairs_head R false x ys h k = k

-- Counts.
abbrev bit : Bool → ℕ
bit b = cond b 1 0

pub count_cons : {A : Type 0} (test : A → Bool) (x : A) (xs : List A) → count_by test (x ∷ xs) ≡ cond (test x) 1 0 + count_by test xs
count_cons test x xs = omega (arith, sum_by-append (λ y. cond (test y) 1 0) (x ∷ []) xs)

pub count_map : {A : Type 0} (test : A → Bool) (f : A → A) (xs : List A) → ((x : A) → test (f x) ≡ test x) → count_by test (map f xs) ≡ count_by test xs
count_map test f [] same = refl
count_map test f (x ∷ xs) same =
    let e = ap bit (same x) in
    omega (arith, e, count_cons test (f x) (map f xs), count_cons test x xs, count_map test f xs same)

-- what passes a test: it holds no more of a kind, and loses no more of that kind than it loses
pub count_filter : {A : Type 0} (kind test : A → Bool) (xs : List A) → count_by kind (filter test xs) ≤ count_by kind xs
count_filter kind test [] = omega arith
count_filter kind test (x ∷ xs) = count_head (test x) (count_filter kind test xs)
  where
    count_head : (b : Bool) → count_by kind (filter test xs) ≤ count_by kind xs → count_by kind (cond b (x ∷ filter test xs) (filter test xs)) ≤ count_by kind (x ∷ xs)
    count_head true h = omega (arith, h, count_cons kind x (filter test xs), count_cons kind x xs)
    count_head false h = omega (arith, h, count_cons kind x xs)

bit_most : (b : Bool) → bit b ≤ 1
bit_most true = omega arith
bit_most false = omega arith

pub lost_filter : {A : Type 0} (kind test : A → Bool) (xs : List A) → length (filter test xs) + count_by kind xs ≤ length xs + count_by kind (filter test xs)
lost_filter kind test [] = omega arith
lost_filter kind test (x ∷ xs) = lost_head (test x) (lost_filter kind test xs)
  where
    lost_head : (b : Bool) → length (filter test xs) + count_by kind xs ≤ length xs + count_by kind (filter test xs)
        → length (cond b (x ∷ filter test xs) (filter test xs)) + count_by kind (x ∷ xs) ≤ length (x ∷ xs) + count_by kind (cond b (x ∷ filter test xs) (filter test xs))
    lost_head true h = omega (arith, h, count_cons kind x (filter test xs), count_cons kind x xs)
    lost_head false h = omega (arith, h, count_cons kind x xs, bit_most (kind x))

pub length_filter : {A : Type 0} (test : A → Bool) (xs : List A) → length (filter test xs) ≤ length xs
length_filter test [] = omega arith
length_filter test (x ∷ xs) = length_head (test x) (length_filter test xs)
  where
    length_head : (b : Bool) → length (filter test xs) ≤ length xs → length (cond b (x ∷ filter test xs) (filter test xs)) ≤ length (x ∷ xs)
    length_head true h = omega (arith, h)
    length_head false h = omega (arith, h)

pub each_both : {A : Type 0} (P Q : A → Type 0) (xs : List A) → Each P xs → Each Q xs → Each (λ x. P x × Q x) xs
each_both P Q [] h k = tt
each_both P Q (x ∷ xs) h k = ((h.0, k.0), each_both P Q xs h.1 k.1)

-- where none passes the test, each fails it
pub none_found : {A : Type 0} (test : A → Bool) (xs : List A) → find test xs ≡ None → Each (λ x. test x ≡ false) xs
none_found test [] e = tt
none_found test (x ∷ xs) e = none_head (test x) refl (none_found test xs) e
  where
    none_head : (b : Bool) → test x ≡ b → (find test xs ≡ None → Each (λ y. test y ≡ false) xs) → cond b (Some x) (find test xs) ≡ None
        → (test x ≡ false) × Each (λ y. test y ≡ false) xs
    none_head true t rest e = absurd (cc)
    none_head false t rest e = (t, rest e)
