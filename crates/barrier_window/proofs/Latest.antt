-- The numbers that pairs of channels and numbers give to channels.
use Rattle.std.proofs.Common.{ℕ, zero, suc, ◌≡◌, sym, ap, refl, if◌then◌else◌, ◌==◌, List, [], ◌∷◌, ◌++◌, length, set, Some, slice_get, arith}
use Rattle.std.specs.List.Sorted.{IsStrictlyIncreasing}
use Rattle.std.proofs.lemmas.Bool.{eq-eqb, ne_eqb}
use Rattle.barrier_window.specs.Crossings.{latest, latest_of}
use Rattle.channel_places.proofs.Places.{one_place}

latest_same : (ps : List (ℕ × ℕ)) (p : ℕ × ℕ) (n : ℕ) → latest (ps ++ p ∷ []) p.0 n ≡ p.1
latest_same [] p n = let t = eq-eqb p.0 p.0 refl in rw t refl
latest_same (q ∷ ps) p n = latest_same ps p (if q.0 == p.0 then q.1 else n)

latest_other : (ps : List (ℕ × ℕ)) (p : ℕ × ℕ) (c n : ℕ) → (p.0 ≡ c → ⊥) → latest (ps ++ p ∷ []) c n ≡ latest ps c n
latest_other [] p c n differ = let t = ne_eqb p.0 c differ in rw t refl
latest_other (q ∷ ps) p c n differ = latest_other ps p c (if q.0 == c then q.1 else n) differ

-- a pair of none of the channels gives nothing
latest_of_others : (ps : List (ℕ × ℕ)) (p : ℕ × ℕ) (cs ns : List ℕ) → ((j : ℕ) → slice_get cs j ≡ Some p.0 → ⊥) → latest_of (ps ++ p ∷ []) cs ns ≡ latest_of ps cs ns
latest_of_others ps p [] ns none = refl
latest_of_others ps p (c ∷ cs) [] none = refl
latest_of_others ps p (c ∷ cs) (n ∷ ns) none =
    let head = latest_other ps p c n (λ e. none zero (ap Some (sym e))) in
    let rest = latest_of_others ps p cs ns (λ j at. none (suc j) at) in
    cc

latest_of_put : (ps : List (ℕ × ℕ)) (p : ℕ × ℕ) (cs ns : List ℕ) (k : ℕ) → length ns ≡ length cs → slice_get cs k ≡ Some p.0 → ((j : ℕ) → slice_get cs j ≡ Some p.0 → j ≡ k)
    → set (latest_of ps cs ns) k p.1 ≡ latest_of (ps ++ p ∷ []) cs ns
latest_of_put ps p [] ns k each at one = absurd (cc)
latest_of_put ps p (c ∷ cs) [] k each at one = absurd (omega arith)
latest_of_put ps p (c ∷ cs) (n ∷ ns) zero each at one =
    let is : c ≡ p.0 = cc in
    let head : latest (ps ++ p ∷ []) c n ≡ p.1 = rw is (latest_same ps p n) in
    let rest = latest_of_others ps p cs ns (λ j there. let e = one (suc j) there in absurd (omega arith)) in
    cc
latest_of_put ps p (c ∷ cs) (n ∷ ns) (suc k) each at one =
    let head = latest_other ps p c n (λ e. let f = one zero (ap Some (sym e)) in absurd (omega arith)) in
    let rest = latest_of_put ps p cs ns k (omega arith) at (λ j there. let e = one (suc j) there in omega arith) in
    cc

-- the number of one more pair is put in the place of its channel
pub put_next : (ps : List (ℕ × ℕ)) (p : ℕ × ℕ) (cs ns : List ℕ) (k : ℕ) → IsStrictlyIncreasing cs → length ns ≡ length cs → slice_get cs k ≡ Some p.0 → set (latest_of ps cs ns) k p.1 ≡ latest_of (ps ++ p ∷ []) cs ns
put_next ps p cs ns k rising each at = latest_of_put ps p cs ns k each at (λ j there. one_place cs p.0 j k rising there at)

pub length-latest_of : (ps : List (ℕ × ℕ)) (cs ns : List ℕ) → length ns ≡ length cs → length (latest_of ps cs ns) ≡ length cs
length-latest_of ps [] ns each = refl
length-latest_of ps (c ∷ cs) [] each = absurd (omega arith)
length-latest_of ps (c ∷ cs) (n ∷ ns) each = let rest = length-latest_of ps cs ns (omega arith) in omega arith

-- no pair gives nothing
pub latest_of_none : (cs ns : List ℕ) → length ns ≡ length cs → latest_of [] cs ns ≡ ns
latest_of_none [] [] each = refl
latest_of_none [] (n ∷ ns) each = absurd (omega arith)
latest_of_none (c ∷ cs) [] each = absurd (omega arith)
latest_of_none (c ∷ cs) (n ∷ ns) each = ap (λ l. n ∷ l) (latest_of_none cs ns (omega arith))
