-- Going over attributes for the values of a key.
use Rattle.std.proofs.Common.{◌≡◌, ℕ, zero, suc, ◌+◌, ◌<◌, ◌≤◌, true, false, nat_eq, List, [], ◌∷◌, length, get_or, drop, refl, arith, ap, sym, ◌∙◌, add-one}
use Rattle.std.specs.Cmp.Lexicographic.{pointwise}
use Rattle.std.proofs.Math.Seq.{drop-cons}
use Rattle.dml_tree.specs.declared.tree.Attribute.{Attribute}
use Rattle.dml_tree.specs.declared.tree.Value.TheVariants as value
use Rattle.dml_tree.specs.Attributes.{Attributes}
use Rattle.net_graph.specs.Keys.{values_of, lists_in, lists_of}

-- the item at a place, and what follows it
pub drop_item : {A : Type 0} (xs : List A) (i : ℕ) (x : A) → i < length xs → x ≡ get_or xs i x → drop i xs ≡ x ∷ drop (i + 1) xs
drop_item xs i x lt is = rw add-one (drop-cons xs i x lt ∙ ap (λ y. y ∷ drop (suc i) xs) (sym is))

pub drop_all : {A : Type 0} (xs : List A) (i : ℕ) → length xs ≤ i → drop i xs ≡ []
drop_all [] zero le = refl
drop_all [] (suc i) le = refl
drop_all (x ∷ xs) zero le = absurd (omega arith)
drop_all (x ∷ xs) (suc i) le = drop_all xs i (omega arith)

-- an attribute with another key is passed by, and one with this key counts
pub values_skip : (key : List ℕ) (x : Attribute) (xs : List Attribute) → pointwise nat_eq x.key key ≡ false → values_of key (x ∷ xs) ≡ values_of key xs
values_skip key x xs e = rw e refl

pub values_keep : (key : List ℕ) (x : Attribute) (xs : List Attribute) → pointwise nat_eq x.key key ≡ true → values_of key (x ∷ xs) ≡ x.value ∷ values_of key xs
values_keep key x xs e = rw e refl

pub next_values : (key : List ℕ) (xs : List Attribute) (i : ℕ) (x : Attribute) → i < length xs → x ≡ get_or xs i x → pointwise nat_eq x.key key ≡ false → values_of key (drop i xs) ≡ values_of key (drop (i + 1) xs)
next_values key xs i x lt is e = ap (values_of key) (drop_item xs i x lt is) ∙ values_skip key x (drop (i + 1) xs) e

pub this_value : (key : List ℕ) (xs : List Attribute) (i : ℕ) (x : Attribute) → i < length xs → x ≡ get_or xs i x → pointwise nat_eq x.key key ≡ true → values_of key (drop i xs) ≡ x.value ∷ values_of key (drop (i + 1) xs)
this_value key xs i x lt is e = ap (values_of key) (drop_item xs i x lt is) ∙ values_keep key x (drop (i + 1) xs) e

pub no_values : (key : List ℕ) (xs : List Attribute) (i : ℕ) → length xs ≤ i → values_of key (drop i xs) ≡ []
no_values key xs i le = ap (values_of key) (drop_all xs i le)

-- the same for lists
pub next_lists : (key : List ℕ) (xs : List Attribute) (i : ℕ) (x : Attribute) → i < length xs → x ≡ get_or xs i x → pointwise nat_eq x.key key ≡ false → lists_of key (drop i xs) ≡ lists_of key (drop (i + 1) xs)
next_lists key xs i x lt is e = ap lists_in (next_values key xs i x lt is e)

pub text_no_list : (key : List ℕ) (xs : List Attribute) (i : ℕ) (x : Attribute) (text : List ℕ) → i < length xs → x ≡ get_or xs i x → pointwise nat_eq x.key key ≡ true → x.value ≡ value.Plain text → lists_of key (drop i xs) ≡ lists_of key (drop (i + 1) xs)
text_no_list key xs i x text lt is e v = ap lists_in (this_value key xs i x lt is e ∙ ap (λ y. y ∷ values_of key (drop (i + 1) xs)) v)

pub this_list : (key : List ℕ) (xs : List Attribute) (i : ℕ) (x : Attribute) (inner : Attributes) → i < length xs → x ≡ get_or xs i x → pointwise nat_eq x.key key ≡ true → x.value ≡ value.List inner → lists_of key (drop i xs) ≡ inner ∷ lists_of key (drop (i + 1) xs)
this_list key xs i x inner lt is e v = ap lists_in (this_value key xs i x lt is e ∙ ap (λ y. y ∷ values_of key (drop (i + 1) xs)) v)

pub no_lists : (key : List ℕ) (xs : List Attribute) (i : ℕ) → length xs ≤ i → lists_of key (drop i xs) ≡ []
no_lists key xs i le = ap lists_in (no_values key xs i le)
