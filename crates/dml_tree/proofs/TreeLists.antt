-- A tree and its list of attributes are the same, each made of the other.
use Rattle.std.proofs.Common.{◌≡◌, ℕ, zero, suc, ◌<◌, ◌≤◌, List, [], ◌∷◌, ◌++◌, length, get_or, refl, ap, sym, ◌∙◌, arith}
use Rattle.dml_tree.specs.declared.tree.Place.{Place}
use Rattle.dml_tree.specs.declared.tree.Attribute.{Attribute}
use Rattle.dml_tree.specs.declared.tree.Value.{Value}
use Rattle.dml_tree.specs.declared.tree.Value.TheVariants as value
use Rattle.dml_tree.specs.Attributes.{Attributes, none, plain, list, weight}
use Rattle.dml_tree.specs.TreeView.{tree_of, with_value, attributes, joined}

attributes-with_value : (key : List ℕ) (place : Place) (v : Value) (rest : Attributes) → attributes (with_value key place v rest) ≡ record { key = key; place = place; value = v } ∷ attributes rest
attributes-with_value key place (value.Plain text) rest = refl
attributes-with_value key place (value.List inner) rest = refl

pub attributes-tree_of : (xs : List Attribute) → attributes (tree_of xs) ≡ xs
attributes-tree_of [] = refl
attributes-tree_of (x ∷ xs) = attributes-with_value x.key x.place x.value (tree_of xs) ∙ ap (λ ys. x ∷ ys) (attributes-tree_of xs)

pub tree_of-attributes : (t : Attributes) → tree_of (attributes t) ≡ t
tree_of-attributes none = refl
tree_of-attributes (plain key place text rest) = ap (plain key place text) (tree_of-attributes rest)
tree_of-attributes (list key place inner rest) = ap (list key place inner) (tree_of-attributes rest)

joined-with_value : (key : List ℕ) (place : Place) (v : Value) (rest more : Attributes) → joined (with_value key place v rest) more ≡ with_value key place v (joined rest more)
joined-with_value key place (value.Plain text) rest more = refl
joined-with_value key place (value.List inner) rest more = refl

pub tree_of-append : (xs ys : List Attribute) → tree_of (xs ++ ys) ≡ joined (tree_of xs) (tree_of ys)
tree_of-append [] ys = refl
tree_of-append (x ∷ xs) ys = ap (with_value x.key x.place x.value) (tree_of-append xs ys) ∙ sym (joined-with_value x.key x.place x.value (tree_of xs) (tree_of ys))

lighter_than_with : (key : List ℕ) (place : Place) (v : Value) (rest : Attributes) (inner : Attributes) → v ≡ value.List inner → weight inner < weight (with_value key place v rest)
lighter_than_with key place (value.Plain text) rest inner e = absurd (cc)
lighter_than_with key place (value.List within) rest inner e =
    let same : within ≡ inner = cc in
    let m : weight within ≡ weight inner = ap weight same in
    omega arith

rest_no_heavier : (key : List ℕ) (place : Place) (v : Value) (rest : Attributes) → weight rest ≤ weight (with_value key place v rest)
rest_no_heavier key place (value.Plain text) rest = omega arith
rest_no_heavier key place (value.List within) rest = omega arith

lighter_at : (xs : List Attribute) (i : ℕ) (d : Attribute) (inner : Attributes) → i < length xs → (get_or xs i d).value ≡ value.List inner → weight inner < weight (tree_of xs)
lighter_at [] i d inner lt e = absurd (omega arith)
lighter_at (x ∷ xs) zero d inner lt e = lighter_than_with x.key x.place x.value (tree_of xs) inner e
lighter_at (x ∷ xs) (suc i) d inner lt e = omega (arith, lighter_at xs i d inner (omega arith) e, rest_no_heavier x.key x.place x.value (tree_of xs))

-- an inner list has fewer attributes than the tree that holds it
pub inner_lighter : (t : Attributes) (xs : List Attribute) → xs ≡ attributes t → (i : ℕ) (d : Attribute) (inner : Attributes) → i < length xs → (get_or xs i d).value ≡ value.List inner → weight inner < weight t
inner_lighter t xs is i d inner lt e =
    let same : tree_of xs ≡ t = ap tree_of is ∙ tree_of-attributes t in
    let m : weight (tree_of xs) ≡ weight t = ap weight same in
    omega (arith, lighter_at xs i d inner lt e)

-- what the value of an attribute weighs: nothing, or as much as its list
abbrev pub value_weight : Value → ℕ
value_weight (value.Plain text) = 0
value_weight (value.List inner) = weight inner

value_lighter_than_with : (key : List ℕ) (place : Place) (v : Value) (rest : Attributes) → value_weight v < weight (with_value key place v rest)
value_lighter_than_with key place (value.Plain text) rest = omega arith
value_lighter_than_with key place (value.List inner) rest = omega arith

value_lighter_at : (xs : List Attribute) (i : ℕ) (d : Attribute) → i < length xs → value_weight (get_or xs i d).value < weight (tree_of xs)
value_lighter_at [] i d lt = absurd (omega arith)
value_lighter_at (x ∷ xs) zero d lt = value_lighter_than_with x.key x.place x.value (tree_of xs)
value_lighter_at (x ∷ xs) (suc i) d lt = omega (arith, value_lighter_at xs i d (omega arith), rest_no_heavier x.key x.place x.value (tree_of xs))

-- a value weighs less than the tree that holds it
pub value_lighter : (t : Attributes) (xs : List Attribute) → xs ≡ attributes t → (i : ℕ) (d : Attribute) → i < length xs → value_weight (get_or xs i d).value < weight t
value_lighter t xs is i d lt =
    let m : weight (tree_of xs) ≡ weight t = ap weight (ap tree_of is ∙ tree_of-attributes t) in
    omega (arith, value_lighter_at xs i d lt)
