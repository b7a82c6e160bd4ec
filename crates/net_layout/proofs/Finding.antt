-- A search for the first that passes, and lists without one place.
use Rattle.std.proofs.Common.{◌≡◌, ℕ, ◌+◌, ◌<◌, ◌≤◌, suc, Bool, true, false, List, [], ◌∷◌, length, get_or, take, drop, Some, None, refl, sym, ap, ◌∙◌, zero-add}
use Rattle.std.specs.List.{find, remove, list_any, range_with_len, All}
use Rattle.std.proofs.lemmas.List.{at_drop_more, at_drop_all}
use Rattle.std.proofs.lemmas.List.Elements.{All-append, All-take, All-drop}
use Rattle.std.proofs.lemmas.List.Folds.{list_any-append, list_any_at}
use Rattle.std.proofs.lemmas.List.FromFn.{get_or-range_with_len, length-range_with_len}
use Rattle.std.proofs.lemmas.Bool.{cond-true, cond-false, or_from}
use Rattle.net_layout.proofs.Numbered.{range_next}

module _ {X : Type 0} (p : X → Bool) (xs : List X) (i : ℕ) (d : X) (lt : i < length xs) (h : find p (drop i xs) ≡ find p xs) where
  pub find_here : p (get_or xs i d) ≡ true → Some (get_or xs i d) ≡ find p xs
  find_here passes = sym (cond-true (p (get_or xs i d)) (Some (get_or xs i d)) (find p (drop (i + 1) xs)) passes) ∙ sym (at_drop_more (find p) xs i d lt) ∙ h

  pub find_on : p (get_or xs i d) ≡ false → find p (drop (i + 1) xs) ≡ find p xs
  find_on fails = sym (cond-false (p (get_or xs i d)) (Some (get_or xs i d)) (find p (drop (i + 1) xs)) fails) ∙ sym (at_drop_more (find p) xs i d lt) ∙ h

pub find_end : {X : Type 0} (p : X → Bool) (xs : List X) (i : ℕ) → length xs ≤ i → find p (drop i xs) ≡ find p xs → None ≡ find p xs
find_end p xs i end h = sym (at_drop_all (find p) xs i end) ∙ h

pub All_remove : {X : Type 0} (P : X → Type 0) (xs : List X) (place : ℕ) → All P xs → All P (remove xs place)
All_remove P xs place h = All-append P (take place xs) (drop (suc place) xs) (All-take P place xs h) (All-drop P (suc place) xs h)

pub none_next : (p : ℕ → Bool) (n : ℕ) → list_any p (range_with_len 0 n) ≡ false → p n ≡ false → list_any p (range_with_len 0 (n + 1)) ≡ false
none_next p n before here =
    ap (list_any p) (range_next n) ∙ list_any-append p (range_with_len 0 n) (n ∷ []) ∙ or_from (list_any p (range_with_len 0 n)) (list_any p (n ∷ [])) before (or_from (p n) false here refl)

pub some_at : (p : ℕ → Bool) (n k : ℕ) → k < n → p k ≡ true → list_any p (range_with_len 0 n) ≡ true
some_at p n k lt here =
    list_any_at p (range_with_len 0 n) k 0 (rw (length-range_with_len 0 n) lt) (ap p (get_or-range_with_len 0 n k 0 lt ∙ zero-add k) ∙ here)
