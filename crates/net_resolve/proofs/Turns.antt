-- Turns of loops over lists, and what was read before what is still to be read.
use Rattle.std.proofs.Common.{◌≡◌, ℕ, ◌+◌, ◌<◌, ◌⊎◌, inl, inr, List, [], ◌∷◌, ◌++◌, length, get_or, drop, Result, Ok, Err, IfErr, refl, ap, sym, ◌∙◌, append-nil, append_assoc, subst}
use Rattle.std.specs.Result.{IsErrAnd}
use Rattle.std.proofs.lemmas.List.{drop_more}
use Rattle.net_graph.specs.declared.fault.ShapeFault.{ShapeFault}
use Rattle.net_graph.specs.declared.fault.ShapeFault.TheVariants.{Memory}
use Rattle.net_graph.specs.Reads.{Read, then_read}

-- the item at a place, and what follows it
pub drop_item : {A : Type 0} (xs : List A) (i : ℕ) (x : A) → i < length xs → x ≡ get_or xs i x → drop i xs ≡ x ∷ drop (i + 1) xs
drop_item xs i x lt is = drop_more xs i x lt ∙ ap (λ y. y ∷ drop (i + 1) xs) (sym is)

-- what was read before what is still to be read
abbrev pub onto : {A : Type 0} → List A → Read (List A) → Read (List A)
onto xs (Ok ys) = Ok (xs ++ ys)
onto xs (Err fault) = Err fault

pub onto_nil : {A : Type 0} (r : Read (List A)) → r ≡ onto [] r
onto_nil (Ok ys) = refl
onto_nil (Err fault) = refl

pub onto_cons : {A : Type 0} (xs : List A) (y : A) (r : Read (List A)) → onto xs (then_read r (λ ys. Ok (y ∷ ys))) ≡ onto (xs ++ y ∷ []) r
onto_cons xs y (Ok ys) = ap Ok (sym (append_assoc xs (y ∷ []) ys))
onto_cons xs y (Err fault) = refl

pub onto_end : {A : Type 0} (xs : List A) → onto xs (Ok []) ≡ Ok xs
onto_end xs = ap Ok (append-nil xs)

-- the exit of a `?`
pub later : {A B C : Type 0} → (B → C) → A ⊎ B → A ⊎ C
later f (inl a) = inl a
later f (inr b) = inr (f b)

pub exit : {T S : Type 0} (whole : Read S) (r : Result T ShapeFault) (fault : ShapeFault) → IsErrAnd r (λ e. e ≡ fault) → (fault ≡ Memory) ⊎ (whole ≡ Err fault) →
    IfErr r (λ e. (e ≡ Memory) ⊎ (whole ≡ Err e))
exit whole (Ok x) fault is h = tt
exit whole (Err e) fault is h = subst (λ (y : ShapeFault). (y ≡ Memory) ⊎ (whole ≡ Err y)) (sym is) h
