-- Equality of trees, attribute by attribute.
use Rattle.std.proofs.Common.{◌≡◌, ℕ, suc, ◌<◌, ◌≤◌, Bool, true, false, not, ◌&&◌, List, [], ◌∷◌, length, get_or, drop, refl, ap, sym, ◌∙◌, drop-cons, drop_of_length-le}
use Rattle.dml_tree.specs.declared.tree.Place.{Place}
use Rattle.dml_tree.specs.declared.tree.Attribute.{Attribute}
use Rattle.dml_tree.specs.declared.tree.Value.{Value}
use Rattle.dml_tree.specs.declared.tree.Value.TheVariants as value
use Rattle.dml_tree.specs.Attributes.{Attributes, none}
use Rattle.dml_tree.specs.TreeView.{tree_of, with_value, attributes}
use Rattle.dml_tree.proofs.TreeLists.{tree_of-attributes}
use Rattle.dml_tree.specs.SameTree.{same_tree, same_text}
use Rattle.dml_tree.specs.SameValue.{same_value}

no_and : (a b : Bool) → false ≡ (a && false && b)
no_and true b = refl
no_and false b = refl

same_with : (key key' : List ℕ) (place place' : Place) (v w : Value) (r s : Attributes) → same_tree (with_value key place v r) (with_value key' place' w s) ≡ (same_text key key' && same_value v w && same_tree r s)
same_with key key' place place' (value.Plain text) (value.Plain other) r s = refl
same_with key key' place place' (value.Plain text) (value.List other) r s = no_and (same_text key key') (same_tree r s)
same_with key key' place place' (value.List inner) (value.Plain other) r s = no_and (same_text key key') (same_tree r s)
same_with key key' place place' (value.List inner) (value.List other) r s = refl

module _ (xs ys : List Attribute) (i : ℕ) (d : Attribute) (lx : i < length xs) where
  first_left : tree_of (drop i xs) ≡ with_value (get_or xs i d).key (get_or xs i d).place (get_or xs i d).value (tree_of (drop (suc i) xs))
  first_left = ap tree_of (drop-cons xs i d lx)

  -- both have one more attribute
  pub one_each : (e : Attribute) → i < length ys → same_tree (tree_of (drop i xs)) (tree_of (drop i ys)) ≡ (same_text (get_or xs i d).key (get_or ys i e).key && same_value (get_or xs i d).value (get_or ys i e).value && same_tree (tree_of (drop (suc i) xs)) (tree_of (drop (suc i) ys)))
  one_each e ly =
      ap (λ t. same_tree t (tree_of (drop i ys))) first_left
      ∙ ap (λ l. same_tree (with_value (get_or xs i d).key (get_or xs i d).place (get_or xs i d).value (tree_of (drop (suc i) xs))) (tree_of l)) (drop-cons ys i e ly)
      ∙ same_with (get_or xs i d).key (get_or ys i e).key (get_or xs i d).place (get_or ys i e).place (get_or xs i d).value (get_or ys i e).value (tree_of (drop (suc i) xs)) (tree_of (drop (suc i) ys))

-- both are at their ends
pub both_end : (xs ys : List Attribute) (i : ℕ) → length xs ≤ i → length ys ≤ i → same_tree (tree_of (drop i xs)) (tree_of (drop i ys)) ≡ true
both_end xs ys i le me =
    ap (λ l. same_tree (tree_of l) (tree_of (drop i ys))) (drop_of_length-le xs le)
    ∙ ap (λ l. same_tree none (tree_of l)) (drop_of_length-le ys me)

pub same_trees : (t u : Attributes) (xs ys : List Attribute) → xs ≡ attributes t → ys ≡ attributes u → same_tree t u ≡ same_tree (tree_of xs) (tree_of ys)
same_trees t u xs ys e f =
    sym (ap (λ s. same_tree s (tree_of ys)) (ap tree_of e ∙ tree_of-attributes t) ∙ ap (same_tree t) (ap tree_of f ∙ tree_of-attributes u))

pub no_key_and : (a b c : Bool) → a ≡ false → (a && b && c) ≡ false
no_key_and a b c e = ap (λ x. x && b && c) e

pub no_value_and : (a b c : Bool) → a ≡ true → b ≡ false → (a && b && c) ≡ false
no_value_and a b c e f = ap (λ x. x && b && c) e ∙ ap (λ x. true && x && c) f

pub all_and : (a b c : Bool) → a ≡ true → b ≡ true → (a && b && c) ≡ c
all_and a b c e f = ap (λ x. x && b && c) e ∙ ap (λ x. true && x && c) f

pub not_true : (b : Bool) → not b ≡ true → b ≡ false
not_true true e = sym e
not_true false e = refl

pub not_false : (b : Bool) → not b ≡ false → b ≡ true
not_false true e = refl
not_false false e = sym e

no_rest_and : (a b : Bool) → (a && b && false) ≡ false
no_rest_and true true = refl
no_rest_and true false = refl
no_rest_and false b = refl

none_with : (key : List ℕ) (place : Place) (v : Value) (r : Attributes) → same_tree none (with_value key place v r) ≡ false
none_with key place (value.Plain text) r = refl
none_with key place (value.List inner) r = refl

with_none : (key : List ℕ) (place : Place) (v : Value) (r : Attributes) → same_tree (with_value key place v r) none ≡ false
with_none key place (value.Plain text) r = refl
with_none key place (value.List inner) r = refl

-- lists of other lengths differ
pub other_length : (xs ys : List Attribute) → ¬ (length xs ≡ length ys) → same_tree (tree_of xs) (tree_of ys) ≡ false
other_length [] [] other = absurd (other refl)
other_length [] (y ∷ ys) other = none_with y.key y.place y.value (tree_of ys)
other_length (x ∷ xs) [] other = with_none x.key x.place x.value (tree_of xs)
other_length (x ∷ xs) (y ∷ ys) other =
    same_with x.key y.key x.place y.place x.value y.value (tree_of xs) (tree_of ys)
    ∙ ap (λ b. same_text x.key y.key && same_value x.value y.value && b) (other_length xs ys (λ e. other (ap suc e)))
    ∙ no_rest_and (same_text x.key y.key) (same_value x.value y.value)
