-- Names in lists of names, and the numbers that they have there.
use Rattle.std.proofs.Common.{◌≡◌, ◌≢◌, ℕ, ◌+◌, ◌<◌, Bool, true, false, ◌||◌, eqb, ltb, List, [], ◌∷◌, ◌++◌, length, get_or, Option, Some, None, refl, ap, sym, ◌∙◌, arith, append_assoc, append-nil, length-append, ⊎_elim}
use Rattle.std.specs.Prelude.{All, position}
use Rattle.std.specs.List.{AllPairs, list_any, position_or_len}
use Rattle.std.specs.Option.{unwrap_or}
use Rattle.std.specs.Cmp.Lexicographic.{same_text}
use Rattle.std.proofs.lemmas.Bool.{cases_lt, eq-eqb}
use Rattle.std.proofs.lemmas.Bool.Decides.{nat_tests}
use Rattle.std.proofs.lemmas.List.{get_or_append_left}
use Rattle.std.proofs.Math.Seq.{get_or-append_seam}
use Rattle.std.proofs.lemmas.List.Elements.{All-nil, All-cons}
use Rattle.std.proofs.lemmas.List.Quantifiers.{position-Some, all_pairs_push}
use Rattle.std.proofs.lemmas.List.Folds.{position_or_len_push}
use Rattle.std.proofs.lemmas.List.Sums.{position_or_len_is}
use Rattle.net_graph.specs.Names.{same}
use Rattle.net_graph.specs.SeenRows.{number_in}

pub same_is : (a b : List ℕ) → same a b ≡ true → a ≡ b
same_is a b e = same_text a b (sym e)

same_refl : (a : List ℕ) → same a a ≡ true
same_refl [] = refl
same_refl (x ∷ xs) = rw (eq-eqb x x refl) (same_refl xs)

-- the place of a name, or how many names there are
abbrev pub place_of : List ℕ → List (List ℕ) → ℕ
place_of ids names = position_or_len (same ids) names

-- the name stands at this place
pub record IsAt (ids : List ℕ) (place : ℕ) (names : List (List ℕ)) : Type 0 where
  pub place_is : place_of ids names ≡ place
  pub within : place < length names

pub position_there : {X : Type 0} (p : X → Bool) (xs : List X) → position_or_len p xs < length xs → position p xs ≡ Some (position_or_len p xs)
position_there p xs lt = let passed : ltb (position_or_len p xs) (length xs) ≡ true = grind (arith, nat_tests) in rw passed refl

pub number_is : (ids : List ℕ) (place : ℕ) (names : List (List ℕ)) → IsAt ids place names → number_in names ids ≡ place
number_is ids place names at =
    let within : place_of ids names < length names = (let e = at.place_is in let lt = at.within in omega arith) in
    ap (λ (o : Option ℕ). unwrap_or o 0) (position_there (same ids) names within) ∙ at.place_is

-- whatever is looked for, the number is one of the names
within_by : (names : List (List ℕ)) (ids : List ℕ) (o : Option ℕ) → position (same ids) names ≡ o → 0 < length names → unwrap_or o 0 < length names
within_by names ids None e some = some
within_by names ids (Some n) e some = (position-Some (same ids) names n [] e).0

pub number_within : (names : List (List ℕ)) (ids : List ℕ) → 0 < length names → number_in names ids < length names
number_within names ids some = within_by names ids (position (same ids) names) refl some

-- what is found
pub found : (ids : List ℕ) (names : List (List ℕ)) (n : ℕ) → position (same ids) names ≡ Some n → (n < length names) × ((d : List ℕ) → ids ≡ get_or names n d)
found ids names n e = ((position-Some (same ids) names n [] e).0, λ d. same_is ids (get_or names n d) (position-Some (same ids) names n d e).1)

-- a name keeps its place where names are added
pub at_push : (ids : List ℕ) (place : ℕ) (names : List (List ℕ)) (new : List ℕ) → IsAt ids place names → IsAt ids place (names ++ new ∷ [])
at_push ids place names new at =
    let e = at.place_is in
    let lt = at.within in
    let longer : length (names ++ new ∷ []) ≡ length names + 1 = length-append names (new ∷ []) in
    let other : eqb (place_of ids names) (length names) ≡ false = grind (arith, nat_tests) in
    let pushed : place_of ids (names ++ new ∷ []) ≡ place_of ids names = position_or_len_push (same ids) names new ∙ rw other refl in
    record { place_is = pushed ∙ e; within = omega arith }

pub at_append : (ids : List ℕ) (place : ℕ) (names more : List (List ℕ)) → IsAt ids place names → IsAt ids place (names ++ more)
at_append ids place names [] at = rw (append-nil names) at
at_append ids place names (new ∷ more) at = rw append_assoc at (at_append ids place (names ++ new ∷ []) more (at_push ids place names new at))

-- names that are not there

none_by : (b c : Bool) → b || c ≡ false → (b ≡ false) × (c ≡ false)
none_by true c e = cc
none_by false c e = (refl, e)

pub none_passes : {X : Type 0} (p : X → Bool) (xs : List X) → list_any p xs ≡ false → All (λ x. p x ≡ false) xs
none_passes p [] e = All-nil (λ x. p x ≡ false)
none_passes p (x ∷ xs) e = let both = none_by (p x) (list_any p xs) e in All-cons (λ y. p y ≡ false) x xs both.0 (none_passes p xs both.1)

pub at_new : (ids : List ℕ) (names : List (List ℕ)) → list_any (same ids) names ≡ false → IsAt ids (length names) (names ++ ids ∷ [])
at_new ids names e =
    let longer : length (names ++ ids ∷ []) ≡ length names + 1 = length-append names (ids ∷ []) in
    record {
      place_is = position_or_len_is (same ids) (names ++ ids ∷ []) (length names) [] (omega arith)
          (λ k lt. rw (get_or_append_left names (ids ∷ []) [] k lt) (none_passes (same ids) names e k [] lt))
          (λ lt. rw (get_or-append_seam names ids [] []) (same_refl ids));
      within = omega arith;
    }

not_same : (a b : List ℕ) → same a b ≡ false → b ≢ a
not_same a b e is = let yes : same a b ≡ true = rw is (same_refl a) in cc

-- names differ
pub apart_push : (names : List (List ℕ)) (ids : List ℕ) → AllPairs (λ a b. a ≢ b) names → list_any (same ids) names ≡ false → AllPairs (λ a b. a ≢ b) (names ++ ids ∷ [])
apart_push names ids apart e = all_pairs_push (λ (a b : List ℕ). a ≢ b) names ids apart (λ k d lt. not_same ids (get_or names k d) (none_passes (same ids) names e k d lt))

pub same_place : (names : List (List ℕ)) (i j : ℕ) → AllPairs (λ a b. a ≢ b) names → i < length names → j < length names → get_or names i [] ≡ get_or names j [] → i ≡ j
same_place names i j apart lt less e =
    ⊎_elim (λ h. absurd (apart i j [] h less e)) (λ h. ⊎_elim (λ g. absurd (apart j i [] g lt (sym e))) (λ g. omega arith) (cases_lt j i)) (cases_lt i j)
