-- One number more in a list that is made of numbers.
use Rattle.std.proofs.Common.{◌≡◌, ℕ, ◌+◌, List, [], ◌∷◌, ◌++◌, map, sym, ap, ◌∙◌, append_assoc, arith}
use Rattle.std.specs.List.{flat_map, range_with_len}
use Rattle.std.proofs.lemmas.List.{map-id, flat_map_more, append-nil}
use Rattle.std.proofs.lemmas.List.FromFn.{map-range_with_len_more}

pub range_next : (n : ℕ) → range_with_len 0 (n + 1) ≡ range_with_len 0 n ++ n ∷ []
range_next n =
    sym (map-id (range_with_len 0 (n + 1))) ∙ map-range_with_len_more (λ (x : ℕ). x) 0 n n (omega arith) ∙ ap (λ xs. xs ++ n ∷ []) (map-id (range_with_len 0 n))

pub flat_map_none : {A : Type 0} (f : ℕ → List A) (old : List A) → old ≡ old ++ flat_map f (range_with_len 0 0)
flat_map_none f old = sym (append-nil old)

pub flat_map_next : {A : Type 0} (f : ℕ → List A) (old now : List A) (n : ℕ) → now ≡ old ++ flat_map f (range_with_len 0 n) → now ++ f n ≡ old ++ flat_map f (range_with_len 0 (n + 1))
flat_map_next f old now n e = ap (λ xs. xs ++ f n) e ∙ flat_map_more f old (range_with_len 0 n) n ∙ ap (λ xs. old ++ flat_map f xs) (sym (range_next n))

pub map_none : {A : Type 0} (f : ℕ → A) (old : List A) → old ≡ old ++ map f (range_with_len 0 0)
map_none f old = sym (append-nil old)

pub map_next : {A : Type 0} (f : ℕ → A) (old now : List A) (n : ℕ) → now ≡ old ++ map f (range_with_len 0 n) → now ++ f n ∷ [] ≡ old ++ map f (range_with_len 0 (n + 1))
map_next f old now n e =
    ap (λ xs. xs ++ f n ∷ []) e ∙ append_assoc old (map f (range_with_len 0 n)) (f n ∷ []) ∙ ap (λ xs. old ++ xs) (sym (map-range_with_len_more f 0 n n (omega arith)))
