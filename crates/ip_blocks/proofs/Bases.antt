-- Siblings stand one behind another in their Net, and a part's base is its Net's base and the sizes
-- of the siblings before it.
use Rattle.std.proofs.Common.{◌≡◌, ◌≢◌, ℕ, nat_eq, zero, suc, ◌+◌, ◌<◌, ◌≤◌, Bool, true, false, cond, ◌&&◌, List, length, slice_index_or, Option, Some, None, ◌⊎◌, inl, inr, refl, sym, ap, ◌∙◌, arith}
use Rattle.std.specs.Option.{option_map_or}
use Rattle.std.proofs.lemmas.List.{get_or_default}
use Rattle.std.proofs.lemmas.Bool.{cond-true, cond-false, and_right, and_from, eq-eqb}
use Rattle.std.proofs.lemmas.Bool.Decides.{nat_tests}
use Rattle.ip_blocks.specs.Blocks.{Part, size_of, lies_in, sum_in, goes_before, offset_in, base_within, top_base}
use Rattle.ip_blocks.specs.Tree.{no_part, at, IsTree}
use Rattle.ip_blocks.proofs.Sums.{weight, weight_before, sum_in_is, offset_in_is, sum_by_gap}

-- ---- the order of siblings
pub before_itself : (a : Part) → goes_before a a ≡ false
before_itself a = grind (arith, nat_tests)

pub before_trans : (a b c : Part) → goes_before a b ≡ true → goes_before b c ≡ true → goes_before a c ≡ true
before_trans a b c h k = grind (arith, nat_tests)

pub before_cases : (a b : Part) → a.order ≢ b.order → (goes_before a b ≡ true) ⊎ (goes_before b a ≡ true)
before_cases a b h = grind (arith, nat_tests)

pub lies_in_at : (n : ℕ) (part : Part) → part.net ≡ Some n → lies_in n part ≡ true
lies_in_at n part h = ap (λ o. option_map_or (λ m. nat_eq m n) o false) h ∙ eq-eqb n n refl

cond_le : (p q : Bool) (v : ℕ) → (p ≡ true → q ≡ true) → cond p v 0 ≤ cond q v 0
cond_le true q v h = omega (arith, cond-true q v 0 (h refl))
cond_le false q v h = omega arith

cond_first : (p q : Bool) (v : ℕ) → cond (p && q) v 0 ≤ cond p v 0
cond_first true true v = omega arith
cond_first true false v = omega arith
cond_first false q v = omega arith

cond_both_le : (p q r : Bool) (v : ℕ) → (q ≡ true → r ≡ true) → cond (p && q) v 0 ≤ cond (p && r) v 0
cond_both_le true q r v h = cond_le q r v h
cond_both_le false q r v h = omega arith

pub weight_at : (n : ℕ) (part : Part) → part.net ≡ Some n → weight n part ≡ size_of part
weight_at n part h = cond-true (lies_in n part) (size_of part) 0 (lies_in_at n part h)

weight_before_itself : (n : ℕ) (part : Part) → weight_before n part part ≡ 0
weight_before_itself n part = cond-false (lies_in n part && goes_before part part) (size_of part) 0 (and_right (lies_in n part) (goes_before part part) (before_itself part))

-- a part's place and size are within what its Net's parts have together
pub offset_within : (parts : List Part) (n x : ℕ) → x < length parts → (at parts x).net ≡ Some n → offset_in n parts (at parts x) + size_of (at parts x) ≤ sum_in n parts
offset_within parts n x lt h =
    let part : Part = at parts x in
    let gap = sum_by_gap (weight n) (weight_before n part) (λ s. cond_first (lies_in n s) (goes_before s part) (size_of s)) parts x (size_of part) no_part lt (omega (arith, weight_at n part h, weight_before_itself n part)) in
    omega (arith, offset_in_is n parts part, sum_in_is n parts, gap)

-- of two siblings the one that goes before ends where the other begins, or before that
pub offset_behind : (parts : List Part) (n x y : ℕ) → x < length parts → (at parts x).net ≡ Some n → goes_before (at parts x) (at parts y) ≡ true → offset_in n parts (at parts x) + size_of (at parts x) ≤ offset_in n parts (at parts y)
offset_behind parts n x y lt h first =
    let a : Part = at parts x in
    let b : Part = at parts y in
    let here : weight_before n b a ≡ size_of a = cond-true (lies_in n a && goes_before a b) (size_of a) 0 (and_from (lies_in n a) (goes_before a b) (lies_in_at n a h) first) in
    let gap = sum_by_gap (weight_before n b) (weight_before n a) (λ s. cond_both_le (lies_in n s) (goes_before s a) (goes_before s b) (size_of s) (λ before. before_trans s a b before first)) parts x (size_of a) no_part lt (omega (arith, here, weight_before_itself n a)) in
    omega (arith, offset_in_is n parts a, offset_in_is n parts b, gap)

-- ---- bases
abbrev pub base_of : List Part → ℕ → ℕ
base_of parts x = base_within parts (length parts) (at parts x)

pub base_within-top : (parts : List Part) (depth : ℕ) (part : Part) → part.net ≡ None → base_within parts depth part ≡ top_base
unfolding base_within
base_within-top parts zero part h = refl
base_within-top parts (suc depth) part h = ap (λ o. option_map_or (λ n. base_within parts depth (slice_index_or parts n part) + offset_in n parts part) o top_base) h

pub base_within-net : (parts : List Part) (depth : ℕ) (part : Part) (n : ℕ) → part.net ≡ Some n → n < length parts → base_within parts (suc depth) part ≡ base_within parts depth (at parts n) + offset_in n parts part
unfolding base_within
base_within-net parts depth part n h lt =
    ap (λ o. option_map_or (λ m. base_within parts depth (slice_index_or parts m part) + offset_in m parts part) o top_base) h
    ∙ ap (λ p. base_within parts depth p + offset_in n parts part) (get_or_default parts n part no_part lt)

module _ (parts : List Part) (count : ℕ) (t : IsTree parts count) where
  -- the parent of a part, where it lies in a Net
  pub parent_at : (x n : ℕ) → x < length parts → (at parts x).net ≡ Some n → (n < x) × (n < count)
  parent_at x n lt h = let m = t.parents x lt in rw h at m

  top_at : (x : ℕ) → x < length parts → (at parts x).net ≡ None → x ≡ 0
  top_at x lt h = let m = t.parents x lt in rw h at m

  pub cases_net : (o : Option ℕ) → (o ≡ None) ⊎ ((n : ℕ) × (o ≡ Some n))
  cases_net None = inl refl
  cases_net (Some n) = inr (n, refl)

  -- a greater depth gives no other base
  pub base_depth : (d e x : ℕ) → x < length parts → x ≤ d → x ≤ e → base_within parts d (at parts x) ≡ base_within parts e (at parts x)
  base_depth zero e x lt h k = elim (cases_net (at parts x).net) [
    | inl top ↦ base_within-top parts zero (at parts x) top ∙ sym (base_within-top parts e (at parts x) top)
    | inr in_net ↦ absurd (omega (arith, (parent_at x in_net.0 lt in_net.1).0))
  ]
  base_depth (suc d) zero x lt h k = elim (cases_net (at parts x).net) [
    | inl top ↦ base_within-top parts (suc d) (at parts x) top ∙ sym (base_within-top parts zero (at parts x) top)
    | inr in_net ↦ absurd (omega (arith, (parent_at x in_net.0 lt in_net.1).0))
  ]
  base_depth (suc d) (suc e) x lt h k = elim (cases_net (at parts x).net) [
    | inl top ↦ base_within-top parts (suc d) (at parts x) top ∙ sym (base_within-top parts (suc e) (at parts x) top)
    | inr in_net ↦
        let n : ℕ = in_net.0 in
        let less : n < x = (parent_at x n lt in_net.1).0 in
        base_within-net parts d (at parts x) n in_net.1 (omega arith)
        ∙ ap (λ b. b + offset_in n parts (at parts x)) (base_depth d e n (omega arith) (omega arith) (omega arith))
        ∙ sym (base_within-net parts e (at parts x) n in_net.1 (omega arith))
  ]

  -- a part's base is its Net's base and the sizes of the siblings before it
  pub base_of-net : (x n : ℕ) → x < length parts → (at parts x).net ≡ Some n → base_of parts x ≡ base_of parts n + offset_in n parts (at parts x)
  base_of-net x n lt h =
      let less : n < x = (parent_at x n lt h).0 in
      base_depth (length parts) (suc (length parts)) x lt (omega arith) (omega arith)
      ∙ base_within-net parts (length parts) (at parts x) n h (omega arith)

  pub base_of-top : (x : ℕ) → (at parts x).net ≡ None → base_of parts x ≡ top_base
  base_of-top x h = base_within-top parts (length parts) (at parts x) h
