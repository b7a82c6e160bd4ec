-- Inner lists are lighter than the lists that hold them.
use Rattle.std.proofs.Common.{◌≡◌, ℕ, zero, suc, ◌<◌, ◌≤◌, ◌+◌, ◌*◌, ◌⊎◌, inl, inr, Bool, true, false, List, [], ◌∷◌, length, get_or, map, filter, All, refl, subst, ap, sym, arith}
use Rattle.std.proofs.Math.Nat.{eq-or-lt_of_le, mul-le-mul_left}
use Rattle.std.proofs.lemmas.List.Elements.{All-map, All-filter}
use Rattle.dml_tree.specs.declared.tree.Place.{Place}
use Rattle.dml_tree.specs.declared.tree.Attribute.{Attribute}
use Rattle.dml_tree.specs.declared.tree.Value.{Value}
use Rattle.dml_tree.specs.declared.tree.Value.TheVariants as value
use Rattle.dml_tree.specs.Attributes.{Attributes, weight}
use Rattle.dml_tree.specs.TreeView.{tree_of, with_value, attributes}
use Rattle.dml_resolve.specs.declared.members.Member.{Member}
use Rattle.dml_resolve.specs.Members.{value_weight, inner_weight, moved_to, is_missing, IsSmall, IsWithin}
use Rattle.dml_resolve.proofs.Entries.{tree_whole}

value_in : (key : List ℕ) (place : Place) (v : Value) (rest : Attributes) → value_weight v + weight rest < weight (with_value key place v rest)
value_in key place (value.Plain text) rest = omega arith
value_in key place (value.List inner) rest = omega arith

pub lighter_at : (xs : List Attribute) (i : ℕ) (d : Attribute) → i < length xs → value_weight (get_or xs i d).value < weight (tree_of xs)
lighter_at [] i d lt = absurd (omega arith)
lighter_at (x ∷ xs) zero d lt = omega (arith, value_in x.key x.place x.value (tree_of xs))
lighter_at (x ∷ xs) (suc i) d lt = omega (arith, lighter_at xs i d (omega arith), value_in x.key x.place x.value (tree_of xs))

-- the value of an attribute has fewer attributes than the list
pub lighter : (t : Attributes) (xs : List Attribute) (i : ℕ) (x : Attribute) → xs ≡ attributes t → i < length xs → x ≡ get_or xs i x → value_weight x.value < weight t
lighter t xs i x is lt at =
    let same : weight (tree_of xs) ≡ weight t = ap weight (tree_whole t xs is) in
    let own : value_weight x.value ≡ value_weight (get_or xs i x).value = ap (λ (a : Attribute). value_weight a.value) at in
    omega (arith, lighter_at xs i x lt)

falls_by : (most left v left' v' : ℕ) → (left' ≡ left) ⊎ (left' < left) → (left ≤ left' → v' < v) → v' ≤ most → left' * (most + 1) + v' < left * (most + 1) + v
falls_by most left v left' v' (inl e) lt small =
    let less : v' < v = lt (omega arith) in
    let same : left' * (most + 1) ≡ left * (most + 1) = ap (λ n. n * (most + 1)) e in
    omega arith
falls_by most left v left' v' (inr h) lt small =
    let below : (most + 1) * (left' + 1) ≤ (most + 1) * left = mul-le-mul_left (most + 1) (omega arith) in
    omega arith

-- a list in a level comes before the list of the level
pub measure_falls : (root : ℕ) (left v left' v' : ℕ) → left' ≤ left → (left ≤ left' → v' < v) → v' ≤ root → left' * (root + 1) + v' < left * (root + 1) + v
measure_falls root left v left' v' le lt small = falls_by root left v left' v' (eq-or-lt_of_le le) lt small

one_below : (root written : Attributes) (left l : ℕ) (is_root : Bool) (x : Member) → left ≡ suc l → inner_weight x ≤ weight root → IsWithin root left written is_root (moved_to l x)
one_below root written left l is_root x e small = record {
  no_more = omega arith;
  lighter = λ h. absurd (omega arith);
  small = small;
  expands = λ h. refl;
  schemas = λ h. absurd (let f : false ≡ true = h in cc);
}

-- what `_find` gives
pub find_within : (root written : Attributes) (left l : ℕ) (is_root : Bool) (found : List Member) → left ≡ suc l → All (IsSmall (weight root)) found → All (IsWithin root left written is_root) (map (moved_to l) found)
find_within root written left l is_root found e small =
    All-map (IsWithin root left written is_root) (moved_to l) found (λ k d lt. one_below root written left l is_root (get_or found k d) e (small k d lt))

included_one : (root written from : Attributes) (left l : ℕ) (is_root : Bool) (x : Member) → left ≡ suc l → IsWithin root l from false x → IsWithin root left written is_root x
included_one root written from left l is_root x e h = record {
  no_more = omega (arith, h.no_more);
  lighter = λ g. absurd (omega (arith, h.no_more));
  small = h.small;
  expands = λ g. h.expands refl;
  schemas = h.schemas;
}

-- what `_extends` gives
pub included_within : (root written from : Attributes) (left l : ℕ) (is_root : Bool) (included : List Member) → left ≡ suc l → All (IsWithin root l from false) included → All (IsWithin root left written is_root) (filter (is_missing written) included)
included_within root written from left l is_root included e h =
    All-filter (is_missing written) (IsWithin root left written is_root) included (λ k d lt. included_one root written from left l is_root (get_or included k d) e (h k d lt))

-- the attributes of a level have no more attributes than the root
pub small_within : (root written : Attributes) (left : ℕ) (is_root : Bool) (members : List Member) → All (IsWithin root left written is_root) members → All (IsSmall (weight root)) members
small_within root written left is_root members h = λ k d lt. (h k d lt).small

-- an attribute of a level
pub within_at : (root written : Attributes) (left : ℕ) (is_root : Bool) (members items : List Member) (i : ℕ) (m : Member) → items ≡ members → All (IsWithin root left written is_root) members → i < length items → m ≡ get_or items i m → IsWithin root left written is_root m
within_at root written left is_root members items i m e h lt is =
    subst (IsWithin root left written is_root) (sym is) (subst (All (IsWithin root left written is_root)) (sym e) h i m lt)
