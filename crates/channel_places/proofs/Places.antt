-- The place of a number in a list of numbers that rise.
use Rattle.std.proofs.Common.{ℕ, ◌≡◌, ◌<◌, ◌≤◌, ◌∙◌, ap, inl, inr, List, length, get_or, Some, slice_get, Ok, Err, arith}
use Rattle.std.specs.List.{Contains}
use Rattle.std.specs.List.Sorted.{IsStrictlyIncreasing, IsBinarySearchResult}
use Rattle.std.specs.Ordering.{nat_cmp}
use Rattle.std.proofs.lemmas.List.Sorted.{searched}
use Rattle.std.proofs.lemmas.List.Kept.{AllPairs-from_increasing}
use Rattle.std.proofs.lemmas.Bool.{cases_lt, cases_order}
use Rattle.std.proofs.lemmas.Option.{slice_get-get_or, slice_get_within, get_or_from_slice_get}

rises : (xs : List ℕ) → IsStrictlyIncreasing xs → (i j : ℕ) → i < j → j < length xs → get_or xs i 0 < get_or xs j 0
rises xs rising i j less within = AllPairs-from_increasing xs rising i j 0 less within

rises_weakly : (xs : List ℕ) → IsStrictlyIncreasing xs → (i j : ℕ) → i ≤ j → j < length xs → get_or xs i 0 ≤ get_or xs j 0
rises_weakly xs rising i j le within =
    elim (cases_lt i j) [
      | inl less ↦ let more = rises xs rising i j less within in omega arith
      | inr not_less ↦ let e : i ≡ j = omega arith in rw e (omega arith)
    ]

-- what a search finds
pub place_is : (xs : List ℕ) (x i : ℕ) → IsStrictlyIncreasing xs → IsBinarySearchResult (λ y. nat_cmp y x) xs (Ok i) → slice_get xs i ≡ Some x
place_is xs x i rising position =
    let s = searched xs x (Ok i) position (rises_weakly xs rising) in
    slice_get-get_or xs i 0 s.0 ∙ ap Some s.1

-- it finds whatever is there
pub place_found : (xs : List ℕ) (x i : ℕ) → IsStrictlyIncreasing xs → IsBinarySearchResult (λ y. nat_cmp y x) xs (Err i) → Contains xs x → ⊥
place_found xs x i rising position (k, within, at) =
    let s = searched xs x (Err i) position (rises_weakly xs rising) in
    let is : get_or xs k 0 ≡ x = get_or_from_slice_get xs k x 0 (slice_get-get_or xs k x within ∙ ap Some at) in
    elim (cases_lt k i) [ inl low ↦ let less = s.1 k low in omega arith | inr high ↦ let more = s.2 k high within in omega arith ]

-- each number has one place
pub one_place : (xs : List ℕ) (x i j : ℕ) → IsStrictlyIncreasing xs → slice_get xs i ≡ Some x → slice_get xs j ≡ Some x → i ≡ j
one_place xs x i j rising at_i at_j =
    let in_i = slice_get_within xs i x at_i in
    let in_j = slice_get_within xs j x at_j in
    let is_i = get_or_from_slice_get xs i x 0 at_i in
    let is_j = get_or_from_slice_get xs j x 0 at_j in
    elim (cases_order i j) [
      | inl e ↦ e
      | inr differ ↦ elim differ [
        | inl low ↦ let more = rises xs rising i j (omega arith) in_j in absurd (omega arith)
        | inr high ↦ let more = rises xs rising j i (omega arith) in_i in absurd (omega arith)
      ]
    ]
