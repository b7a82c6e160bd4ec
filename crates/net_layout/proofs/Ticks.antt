-- A tick in a rising list.
use Rattle.std.proofs.Common.{◌≡◌, ℕ, ◌+◌, ◌<◌, ◌≤◌, List, [], ◌∷◌, ◌++◌, length, get_or, take, drop, sym, ap, ◌∙◌, append_assoc, arith}
use Rattle.std.proofs.lemmas.List.{drop_more, take_more, take_all, drop_all, take-append-drop}
use Rattle.std.proofs.lemmas.Bool.{lt-ltb, le-ltb, eq-eqb, ne_eqb}
use Rattle.net_layout.specs.Periods.{with_tick}

pub before_head : (t : ℕ) (ts : List ℕ) (tick : ℕ) → tick < t → with_tick (t ∷ ts) tick ≡ tick ∷ t ∷ ts
before_head t ts tick h = rw (lt-ltb tick t h)

pub at_head : (t : ℕ) (ts : List ℕ) (tick : ℕ) → tick ≡ t → with_tick (t ∷ ts) tick ≡ t ∷ ts
at_head t ts tick h = let le : t ≤ tick = omega arith in rw (le-ltb tick t le, eq-eqb tick t h)

pub behind_head : (t : ℕ) (ts : List ℕ) (tick : ℕ) → t < tick → with_tick (t ∷ ts) tick ≡ t ∷ with_tick ts tick
behind_head t ts tick h = let le : t ≤ tick = omega arith in let ne : tick ≡ t → ⊥ = λ e. omega arith in rw (le-ltb tick t le, ne_eqb tick t ne)

-- the list up to a place and the rest with the tick are the whole list with the tick
abbrev pub IsSought : List ℕ → ℕ → ℕ → Type 0
IsSought ts place tick = take place ts ++ with_tick (drop place ts) tick ≡ with_tick ts tick

module _ (ts : List ℕ) (place tick : ℕ) (lt : place < length ts) (h : IsSought ts place tick) where
  rest_is : drop place ts ≡ get_or ts place 0 ∷ drop (place + 1) ts
  rest_is = drop_more ts place 0 lt

  pub sought_before : tick < get_or ts place 0 → take place ts ++ tick ∷ drop place ts ≡ with_tick ts tick
  sought_before less =
      ap (λ xs. take place ts ++ tick ∷ xs) rest_is
      ∙ ap (λ xs. take place ts ++ xs) (sym (before_head (get_or ts place 0) (drop (place + 1) ts) tick less))
      ∙ ap (λ xs. take place ts ++ with_tick xs tick) (sym rest_is)
      ∙ h

  pub sought_at : tick ≡ get_or ts place 0 → ts ≡ with_tick ts tick
  sought_at same =
      sym (take-append-drop place ts)
      ∙ ap (λ xs. take place ts ++ xs) rest_is
      ∙ ap (λ xs. take place ts ++ xs) (sym (at_head (get_or ts place 0) (drop (place + 1) ts) tick same))
      ∙ ap (λ xs. take place ts ++ with_tick xs tick) (sym rest_is)
      ∙ h

  pub sought_more : get_or ts place 0 < tick → IsSought ts (place + 1) tick
  sought_more less =
      ap (λ xs. xs ++ with_tick (drop (place + 1) ts) tick) (take_more ts place 0 lt)
      ∙ append_assoc (take place ts) (get_or ts place 0 ∷ []) (with_tick (drop (place + 1) ts) tick)
      ∙ ap (λ xs. take place ts ++ xs) (sym (behind_head (get_or ts place 0) (drop (place + 1) ts) tick less))
      ∙ ap (λ xs. take place ts ++ with_tick xs tick) (sym rest_is)
      ∙ h

pub sought_end : (ts : List ℕ) (place tick : ℕ) → length ts ≤ place → IsSought ts place tick → ts ++ tick ∷ [] ≡ with_tick ts tick
sought_end ts place tick end h =
    ap (λ xs. xs ++ tick ∷ []) (sym (take_all place ts end))
    ∙ ap (λ xs. take place ts ++ with_tick xs tick) (sym (drop_all place ts end))
    ∙ h
