-- A tree of few attributes has few tokens.
use Rattle.std.proofs.Common.{ℕ, ◌≡◌, ◌≤◌, refl, Bool, true, false, not, nat_eq, List, ◌∷◌, length, filter, codes, Option, Some, None, IfSome, arith, inl, inr}
use Rattle.std.specs.Cmp.Lexicographic.{pointwise, unequal}
use Rattle.std.proofs.lemmas.Bool.{cases_Bool}
use Rattle.std.proofs.lemmas.List.{length-map}
use Rattle.std.proofs.lemmas.List.Filters.{length-filter_both}
use Rattle.dml_tree.specs.declared.tree.Attribute.{Attribute}
use Rattle.dml_tree.specs.declared.tree.Value.{Value}
use Rattle.dml_tree.specs.declared.tree.Value.TheVariants as value
use Rattle.dml_tree.specs.Attributes.{Attributes, none, plain, list, weight}
use Rattle.dml_tree.specs.TreeView.{attributes}
use Rattle.dml_resolve.specs.Resolving.{counted_weight, is_schemas, most_weight}
use Rattle.net_graph.specs.Keys.{values_of, lists_in, lists_of, first_of}
use Rattle.net_build.specs.RingModel.{HasFewTokens}

attributes_few : (t : Attributes) → length (attributes t) ≤ weight t
attributes_few none = omega arith
attributes_few (plain key place text rest) = let h = attributes_few rest in omega arith
attributes_few (list key place inner rest) = let h = attributes_few rest in omega arith

-- a key has no more values than there are attributes
values_few : (key : List ℕ) (t : Attributes) → length (values_of key (attributes t)) ≤ weight t
values_few key t =
    let has : Attribute → Bool = λ x. pointwise nat_eq x.key key in
    let few = attributes_few t in
    let values = length-map (filter has (attributes t)) (λ (x : Attribute). x.value) in
    let both = length-filter_both has (λ x. not (has x)) (λ x. refl) (attributes t) in
    omega (arith, few, values, both)

-- a list of another key is counted
not_schemas : (key : List ℕ) → pointwise nat_eq key (codes "ring") ≡ true → is_schemas key ≡ false
not_schemas key ring =
    unequal nat_eq key (codes "schemas") (λ seven.
    let other : pointwise nat_eq key (codes "ring") ≡ false = unequal nat_eq key (codes "ring") (λ four. omega arith) in
    absurd (cc))

values_skip : (key : List ℕ) (x : Attribute) (xs : List Attribute) → pointwise nat_eq x.key key ≡ false → values_of key (x ∷ xs) ≡ values_of key xs
values_skip key x xs e = rw e refl

values_keep : (key : List ℕ) (x : Attribute) (xs : List Attribute) → pointwise nat_eq x.key key ≡ true → values_of key (x ∷ xs) ≡ x.value ∷ values_of key xs
values_keep key x xs e = rw e refl

abbrev IsLight : ℕ → List Value → Type 0
IsLight most values = IfSome (first_of (lists_in values)) (λ ring. weight ring ≤ most)

-- the first ring is no heavier than what is counted
ring_light : (t : Attributes) (most : ℕ) → counted_weight t ≤ most → IsLight most (values_of (codes "ring") (attributes t))
ring_light none most h = tt
ring_light (plain key place text rest) most h =
    let x : Attribute = record { key = key; place = place; value = value.Plain text } in
    let behind = ring_light rest most (omega arith) in
    elim (cases_Bool (pointwise nat_eq key (codes "ring"))) [
      | inl is ↦ rw (values_keep (codes "ring") x (attributes rest) is) behind
      | inr other ↦ rw (values_skip (codes "ring") x (attributes rest) other) behind
    ]
ring_light (list key place inner rest) most h =
    let x : Attribute = record { key = key; place = place; value = value.List inner } in
    let behind = ring_light rest most (omega arith) in
    elim (cases_Bool (pointwise nat_eq key (codes "ring"))) [
      | inl is ↦ rw (values_keep (codes "ring") x (attributes rest) is) (let counted = rw (not_schemas key is) at h in omega arith)
      | inr other ↦ rw (values_skip (codes "ring") x (attributes rest) other) behind
    ]

few_of : (o : Option Attributes) → IfSome o (λ ring. weight ring ≤ most_weight) → IfSome o (λ ring. length (values_of (codes "token") (attributes ring)) ≤ 4194304)
few_of None h = tt
few_of (Some ring) h = let few = values_few (codes "token") ring in omega arith

pub few_tokens : (t : Attributes) → counted_weight t ≤ most_weight → HasFewTokens (attributes t)
few_tokens t h = few_of (first_of (lists_of (codes "ring") (attributes t))) (ring_light t most_weight h)
