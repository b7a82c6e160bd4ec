-- Adding up what the Nets need, a part at a time.
use Rattle.std.proofs.Common.{◌≡◌, ◌≢◌, ℕ, nat_eq, ◌+◌, ◌^◌, ◌<◌, ◌≤◌, false, List, [], ◌∷◌, ◌++◌, length, set, slice_index, take, drop, All, Some, None, inl, inr, refl, sym, ap, ◌∙◌, arith, get_or-set_same, get_or-set_other, length-set}
use Rattle.std.specs.Option.{option_map_or}
use Rattle.std.proofs.lemmas.List.Sums.{sum_by_push, sum_by-take-drop}
use Rattle.std.proofs.lemmas.Bool.{cases_eq, cond-false, ne_eqb}
use Rattle.ip_blocks.specs.declared.layout.LinkSize.{LinkSize}
use Rattle.ip_blocks.specs.declared.layout.NetParent.{NetParent}
use Rattle.ip_blocks.specs.Blocks.{Part, size_of, lies_in, sum_in, parts_of, parts_from, exponent_of, top_size, IsLayout}
use Rattle.ip_blocks.specs.Tree.{IsTree, at}
use Rattle.ip_blocks.specs.Sums.{AreSums, AreTooMany, AllFit}
use Rattle.ip_blocks.proofs.Sums.{weight, sum_in_is, sum_in-cons}
use Rattle.ip_blocks.proofs.Bases.{weight_at}
use Rattle.ip_blocks.proofs.Nested.{exponent_most}
use Rattle.ip_blocks.proofs.Layouts.{is_tree, length-parts_from}
use Rattle.ip_blocks.proofs.Exponents.{exponent-room, exponent-least, pow_up}

pub sum_in-nil : (n : ℕ) → sum_in n [] ≡ 0
unfolding sum_in
sum_in-nil n = refl

pub weight_elsewhere : (n m : ℕ) (part : Part) → part.net ≡ Some m → n ≢ m → weight n part ≡ 0
weight_elsewhere n m part h ne = cond-false (lies_in n part) (size_of part) 0 (ap (λ o. option_map_or (λ k. nat_eq k n) o false) h ∙ ne_eqb m n (λ e. ne (sym e)))

pub weight_top : (n : ℕ) (part : Part) → part.net ≡ None → weight n part ≡ 0
weight_top n part h = cond-false (lies_in n part) (size_of part) 0 (ap (λ o. option_map_or (λ k. nat_eq k n) o false) h)

pub sums_zero : (sums : List ℕ) → All (λ sum. sum ≡ 0) sums → AreSums sums []
sums_zero sums h n lt = (h n 0 lt ∙ sym (sum_in-nil n), omega (arith, sum_in-nil n))

pub sums_add : (sums : List ℕ) (part : Part) (parts : List Part) (m : ℕ) → AreSums sums parts → part.net ≡ Some m → m < length sums → slice_index sums m + size_of part ≤ 2 ^ 24 → AreSums (set sums m (slice_index sums m + size_of part)) (part ∷ parts)
sums_add sums part parts m h in_net there fits n lt =
    let low : n < length sums = omega (arith, length-set sums m (slice_index sums m + size_of part)) in
    let old = h n low in
    elim (cases_eq n m) [
      | inl same ↦
          let w : weight n part ≡ size_of part = weight_at n part (in_net ∙ ap Some (sym same)) in
          let total : sum_in n (part ∷ parts) ≡ slice_index sums n + size_of part = omega (arith, sum_in-cons n part parts) in
          let moved : slice_index sums n ≡ slice_index sums m = ap (slice_index sums) same in
          (ap (λ k. slice_index (set sums m (slice_index sums m + size_of part)) k) same ∙ get_or-set_same sums m (slice_index sums m + size_of part) 0 there ∙ omega arith, omega arith)
      | inr other ↦
          let w : weight n part ≡ 0 = weight_elsewhere n m part in_net other in
          let total : sum_in n (part ∷ parts) ≡ sum_in n parts = omega (arith, sum_in-cons n part parts) in
          (get_or-set_other sums m n (slice_index sums m + size_of part) 0 other ∙ old.0 ∙ sym total, omega arith)
    ]

pub sums_pass : (sums : List ℕ) (part : Part) (parts : List Part) → AreSums sums parts → part.net ≡ None → AreSums sums (part ∷ parts)
sums_pass sums part parts h top n lt =
    let old = h n lt in
    let total : sum_in n (part ∷ parts) ≡ sum_in n parts = omega (arith, sum_in-cons n part parts, weight_top n part top) in
    (old.0 ∙ sym total, omega arith)

pub sum_in_push : (n : ℕ) (part : Part) (parts : List Part) → sum_in n (parts ++ part ∷ []) ≡ sum_in n (part ∷ parts)
sum_in_push n part parts = omega (arith, sum_in-cons n part parts, sum_in_is n (parts ++ part ∷ []), sum_in_is n parts, sum_by_push (weight n) parts part)

pub sums_turn : (sums : List ℕ) (part : Part) (parts : List Part) → AreSums sums (part ∷ parts) → AreSums sums (parts ++ part ∷ [])
sums_turn sums part parts h n lt =
    let old = h n lt in
    (old.0 ∙ sym (sum_in_push n part parts), omega (arith, sum_in_push n part parts))

pub sum_in-take-le : (n i : ℕ) (parts : List Part) → sum_in n (take i parts) ≤ sum_in n parts
sum_in-take-le n i parts = omega (arith, sum_in_is n (take i parts), sum_in_is n parts, sum_by-take-drop (weight n) parts i)

pub sum_in-drop-le : (n i : ℕ) (parts : List Part) → sum_in n (drop i parts) ≤ sum_in n parts
sum_in-drop-le n i parts = omega (arith, sum_in_is n (drop i parts), sum_in_is n parts, sum_by-take-drop (weight n) parts i)

-- the sum that a part would make too large
pub sum_with : (sums : List ℕ) (part : Part) (parts : List Part) (m : ℕ) → AreSums sums parts → part.net ≡ Some m → m < length sums → sum_in m (part ∷ parts) ≡ slice_index sums m + size_of part
sum_with sums part parts m h in_net there = omega (arith, sum_in-cons m part parts, weight_at m part in_net, (h m there).0)

-- ---- the top Net has no space exactly where some Net has not
pub top_too_large : (links : List LinkSize) (nets : List NetParent) → IsLayout links nets → AreTooMany (length nets) (parts_of links nets) → 2 ^ 24 < top_size links nets
unfolding top_size
top_too_large links nets layout too_many =
    let parts : List Part = parts_of links nets in
    let n : ℕ = too_many.0 in
    let t : IsTree parts (length nets) = is_tree links nets layout in
    let there : n < length parts = omega (arith, length-parts_from links 0 nets) in
    let low : (at parts n).exponent ≤ (at parts 0).exponent = exponent_most parts (length nets) t n there in
    let here : (at parts n).exponent ≡ exponent_of (sum_in n parts) = t.filled n too_many.1 in
    let top : (at parts 0).exponent ≡ exponent_of (sum_in 0 parts) = t.filled 0 (omega arith) in
    let grows : 2 ^ exponent_of (sum_in n parts) ≤ 2 ^ exponent_of (sum_in 0 parts) = pow_up (exponent_of (sum_in n parts)) (exponent_of (sum_in 0 parts)) (omega arith) in
    omega (arith, exponent-room (sum_in n parts), too_many.2)

sum_fits : (links : List LinkSize) (nets : List NetParent) → IsLayout links nets → AllFit (length nets) (parts_of links nets) → sum_in 0 (parts_of links nets) ≤ 2 ^ 24
unfolding parts_from
sum_fits links (net ∷ nets) layout fits = fits 0 (omega arith)
sum_fits [] [] layout fits = omega (arith, sum_in-nil 0)
sum_fits (link ∷ links) [] layout fits = absurd (let there : link.net < 0 = layout.nets_there 0 link (omega arith) in omega arith)

pub top_exponent : (links : List LinkSize) (nets : List NetParent) → IsLayout links nets → AllFit (length nets) (parts_of links nets) → (at (parts_of links nets) 0).exponent ≤ 24
unfolding parts_from
top_exponent links (net ∷ nets) layout fits =
    let top = (is_tree links (net ∷ nets) layout).filled 0 (omega arith) in
    omega (arith, exponent-least (sum_in 0 (parts_of links (net ∷ nets))) 24 (sum_fits links (net ∷ nets) layout fits))
top_exponent [] [] layout fits = omega arith
top_exponent (link ∷ links) [] layout fits = absurd (let there : link.net < 0 = layout.nets_there 0 link (omega arith) in omega arith)

pub top_fits : (links : List LinkSize) (nets : List NetParent) → IsLayout links nets → AllFit (length nets) (parts_of links nets) → top_size links nets ≤ 2 ^ 24
unfolding top_size
top_fits links nets layout fits = pow_up (exponent_of (sum_in 0 (parts_of links nets))) 24 (exponent-least (sum_in 0 (parts_of links nets)) 24 (sum_fits links nets layout fits))
