-- The parts of a layout are a tree.
use Rattle.std.proofs.Common.{◌≡◌, ◌≢◌, ℕ, zero, suc, nat_eq, ◌+◌, ◌-◌, ◌<◌, ◌≤◌, false, List, [], ◌∷◌, length, get_or, map, take, drop, sum_by, Option, Some, None, MatchOption, inl, inr, refl, sym, ap, subst, ◌∙◌, arith, add-zero}
use Rattle.std.specs.Option.{option_map_or}
use Rattle.std.proofs.lemmas.List.{length-map, get_or-map, get_or-take, length-take}
use Rattle.std.proofs.lemmas.List.Sums.{sum_by-cons, sum_by-take-drop}
use Rattle.std.proofs.lemmas.Bool.{cases_lt, cases_order, cond-false, ne_eqb}
use Rattle.ip_blocks.specs.declared.layout.LinkSize.{LinkSize}
use Rattle.ip_blocks.specs.declared.layout.NetParent.{NetParent}
use Rattle.ip_blocks.specs.Blocks.{Part, size_of, lies_in, sum_in, link_part, net_part, parts_from, parts_of, exponent_of, places, parent_of, IsLayout}
use Rattle.ip_blocks.proofs.Sums.{weight, sum_in_is}
use Rattle.ip_blocks.specs.Apart.{no_link}
use Rattle.ip_blocks.specs.Tree.{IsTree, at, no_part}

abbrev pub no_net : NetParent
no_net = record { parent = None; order = 0 }

pub length-parts_from : (links : List LinkSize) (n : ℕ) (nets : List NetParent) → length (parts_from links n nets) ≡ length nets + length links
unfolding parts_from
length-parts_from links n [] = omega (arith, length-map links link_part)
length-parts_from links n (net ∷ nets) = omega (arith, length-parts_from links (n + 1) nets)

drop-parts_from-step : (links : List LinkSize) (n i : ℕ) (net : NetParent) (nets : List NetParent) → drop (suc i) (parts_from links n (net ∷ nets)) ≡ drop i (parts_from links (n + 1) nets)
unfolding parts_from
drop-parts_from-step links n i net nets = refl

pub drop-parts_from : (links : List LinkSize) (n i : ℕ) (nets : List NetParent) → i ≤ length nets → drop i (parts_from links n nets) ≡ parts_from links (n + i) (drop i nets)
drop-parts_from links n zero nets h = ap (λ m. parts_from links m nets) (sym (add-zero n))
drop-parts_from links n (suc i) [] h = absurd (omega arith)
drop-parts_from links n (suc i) (net ∷ nets) h =
    drop-parts_from-step links n i net nets ∙ drop-parts_from links (n + 1) i nets (omega arith) ∙ ap (λ m. parts_from links m (drop i nets)) (omega arith)

pub get_or-parts_from-net : (links : List LinkSize) (n i : ℕ) (nets : List NetParent) → i < length nets → get_or (parts_from links n nets) i no_part ≡ net_part (n + i) (get_or nets i no_net) (drop (suc i) (parts_from links n nets))
unfolding parts_from
get_or-parts_from-net links n i [] h = absurd (omega arith)
get_or-parts_from-net links n zero (net ∷ nets) h = ap (λ m. net_part m net (parts_from links (n + 1) nets)) (sym (add-zero n))
get_or-parts_from-net links n (suc i) (net ∷ nets) h =
    get_or-parts_from-net links (n + 1) i nets (omega arith)
    ∙ ap (λ m. net_part m (get_or nets i no_net) (drop (suc i) (parts_from links (n + 1) nets))) (omega arith)

pub get_or-parts_from-link : (links : List LinkSize) (n k : ℕ) (nets : List NetParent) → k < length links → get_or (parts_from links n nets) (length nets + k) no_part ≡ link_part (get_or links k no_link)
unfolding parts_from
get_or-parts_from-link links n k [] h = ap (λ j. get_or (map link_part links) j no_part) (let e : 0 + k ≡ k = omega arith in e) ∙ get_or-map link_part links k no_link no_part h
get_or-parts_from-link links n k (net ∷ nets) h =
    ap (λ j. get_or (parts_from links n (net ∷ nets)) j no_part) (let e : suc (length nets) + k ≡ suc (length nets + k) = omega arith in e)
    ∙ get_or-parts_from-link links (n + 1) k nets h

pub sum_by-zero : {X : Type 0} (f : X → ℕ) (d : X) (xs : List X) → ((k : ℕ) → k < length xs → f (get_or xs k d) ≡ 0) → sum_by f xs ≡ 0
sum_by-zero f d [] h = refl
sum_by-zero f d (x ∷ xs) h = omega (arith, sum_by-cons f x xs, h 0 (omega arith), sum_by-zero f d xs (λ k lt. h (suc k) (omega arith)))

-- the parts that lie in a Net have larger numbers
pub sum_in-drop : (parts : List Part) (n i : ℕ) → ((x m : ℕ) → x < length parts → (at parts x).net ≡ Some m → m < x) → i ≤ suc n → sum_in n (drop i parts) ≡ sum_in n parts
sum_in-drop parts n i lower h =
    let none : sum_by (weight n) (take i parts) ≡ 0 = sum_by-zero (weight n) no_part (take i parts) (λ k lt. light k lt) in
    omega (arith, sum_in_is n (drop i parts), sum_in_is n parts, sum_by-take-drop (weight n) parts i)
  where
    not_in : (part : Part) → ((m : ℕ) → part.net ≡ Some m → m ≢ n) → (o : Option ℕ) → part.net ≡ o → option_map_or (λ m. nat_eq m n) o false ≡ false
    not_in part ne None e = refl
    not_in part ne (Some m) e = ne_eqb m n (ne m e)

    light : (k : ℕ) → k < length (take i parts) → weight n (get_or (take i parts) k no_part) ≡ 0
    light k lt =
        let below : k < i = omega (arith, length-take i parts) in
        let there : k < length parts = omega (arith, length-take i parts) in
        let part : Part = at parts k in
        rw (get_or-take i parts k no_part below)
        (cond-false (lies_in n part) (size_of part) 0 (not_in part (λ m e same. absurd (omega (arith, lower k m there e))) part.net refl))

abbrev place_of : Part → Option ℕ × ℕ
place_of part = (part.net, part.order)

same_pairs : (xs : List LinkSize) → map place_of (map link_part xs) ≡ map (λ (link : LinkSize). (Some link.net, link.order)) xs
same_pairs [] = refl
same_pairs (x ∷ xs) = ap (λ ps. (Some x.net, x.order) ∷ ps) (same_pairs xs)

places-parts_from : (links : List LinkSize) (n : ℕ) (nets : List NetParent) → map place_of (parts_from links n nets) ≡ places links nets
unfolding parts_from
places-parts_from links n [] = same_pairs links
places-parts_from links n (net ∷ nets) = ap (λ ps. (net.parent, net.order) ∷ ps) (places-parts_from links (n + 1) nets)

pub net_at : (links : List LinkSize) (nets : List NetParent) (x : ℕ) → x < length nets → at (parts_of links nets) x ≡ net_part x (get_or nets x no_net) (drop (suc x) (parts_of links nets))
net_at links nets x lt = get_or-parts_from-net links 0 x nets lt ∙ ap (λ m. net_part m (get_or nets x no_net) (drop (suc x) (parts_of links nets))) (omega arith)

pub link_at : (links : List LinkSize) (nets : List NetParent) (k : ℕ) → k < length links → at (parts_of links nets) (length nets + k) ≡ link_part (get_or links k no_link)
link_at links nets k lt = get_or-parts_from-link links 0 k nets lt

module _ (links : List LinkSize) (nets : List NetParent) (layout : IsLayout links nets) where
  parents_of_nets : (x : ℕ) → x < length nets → MatchOption (at (parts_of links nets) x).net (x ≡ 0) (λ n. (n < x) × (n < length nets))
  parents_of_nets x lt = rw (net_at links nets x lt) (widen (parent_of nets x) (layout.parents x lt))
    where
      widen : (o : Option ℕ) → MatchOption o (x ≡ 0) (λ p. p < x) → MatchOption o (x ≡ 0) (λ n. (n < x) × (n < length nets))
      widen None h = h
      widen (Some p) h = (h, omega arith)

  parents_of : (x : ℕ) → x < length (parts_of links nets) → MatchOption (at (parts_of links nets) x).net (x ≡ 0) (λ n. (n < x) × (n < length nets))
  parents_of x lt = elim (cases_lt x (length nets)) [
    | inl low ↦ parents_of_nets x low
    | inr high ↦
        let k : ℕ = x - length nets in
        let there : k < length links = omega (arith, length-parts_from links 0 nets) in
        let same : length nets + k ≡ x = omega arith in
        let net_there : (get_or links k no_link).net < length nets = layout.nets_there k no_link there in
        subst (λ y. MatchOption (at (parts_of links nets) y).net (y ≡ 0) (λ n. (n < y) × (n < length nets))) same
        (rw (link_at links nets k there) (omega arith, net_there))
  ]

  place_at : (x : ℕ) → x < length (parts_of links nets) → get_or (places links nets) x (None, 0) ≡ place_of (at (parts_of links nets) x)
  place_at x lt = ap (λ ps. get_or ps x (None, 0)) (sym (places-parts_from links 0 nets)) ∙ get_or-map place_of (parts_of links nets) x no_part (None, 0) lt

  length_places : length (places links nets) ≡ length (parts_of links nets)
  length_places = ap length (sym (places-parts_from links 0 nets)) ∙ length-map (parts_of links nets) place_of

  ordered_differ : (x y : ℕ) → x < y → y < length (parts_of links nets) → (at (parts_of links nets) x).net ≡ (at (parts_of links nets) y).net → (at (parts_of links nets) x).order ≡ (at (parts_of links nets) y).order → ⊥
  ordered_differ x y less lt same_net same_order =
      layout.orders_differ x y (None, 0) less (omega (arith, length_places))
      (place_at x (omega arith) ∙ cc (same_net, same_order) ∙ sym (place_at y lt))

  parts_differ : (x y : ℕ) → x < length (parts_of links nets) → y < length (parts_of links nets) → (at (parts_of links nets) x).net ≡ (at (parts_of links nets) y).net → (at (parts_of links nets) x).order ≡ (at (parts_of links nets) y).order → x ≡ y
  parts_differ x y lx ly same_net same_order = elim (cases_order x y) [
    | inl same ↦ same
    | inr (inl less) ↦ absurd (ordered_differ x y less ly same_net same_order)
    | inr (inr more) ↦ absurd (ordered_differ y x more lx (sym same_net) (sym same_order))
  ]

  pub lower_nets : (x m : ℕ) → x < length (parts_of links nets) → (at (parts_of links nets) x).net ≡ Some m → m < x
  lower_nets x m lt e = let p = parents_of x lt in let q = rw e at p in q.0

  pub is_tree : IsTree (parts_of links nets) (length nets)
  is_tree = record {
    parents = parents_of;
    filled = λ n lt. ap (λ (p : Part). p.exponent) (net_at links nets n lt) ∙ ap exponent_of (sum_in-drop (parts_of links nets) n (suc n) lower_nets (omega arith));
    differ = parts_differ;
    nets_first = omega (arith, length-parts_from links 0 nets);
  }
