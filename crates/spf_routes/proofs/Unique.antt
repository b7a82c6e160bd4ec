-- A host has one table of least routes.
use Rattle.std.proofs.Common.{◌≡◌, ℕ, zero, suc, ◌<◌, ◌≤◌, List, length, slice_get, slice_index, Some, inl, inr, sym, ap, subst, ◌∙◌, arith, add-one}
use Rattle.std.specs.Prelude.{Contains}
use Rattle.std.specs.List.Sorted.{IsStrictlyIncreasing}
use Rattle.std.proofs.lemmas.Bool.{cases_lt}
use Rattle.std.proofs.lemmas.List.{ext_get_or, get_or_default}
use Rattle.std.proofs.lemmas.List.Elements.{Contains-get_or}
use Rattle.ip_blocks.specs.declared.block.Block.{Block}
use Rattle.spf_routes.specs.declared.graph.Graph.{Graph}
use Rattle.spf_routes.specs.declared.graph.Route.{Route}
use Rattle.spf_routes.specs.declared.search.Label.{Label}
use Rattle.spf_routes.specs.Best.{no_route, route_at}
use Rattle.spf_routes.specs.Walks.{Reaches, IsLeast, label_of, IsTable}
use Rattle.spf_routes.proofs.Reaching.{labels_same}

-- an earlier number of a rising list is not greater
rises : (xs : List ℕ) → IsStrictlyIncreasing xs → (j i : ℕ) → j ≤ i → i < length xs → slice_index xs j ≤ slice_index xs i
rises xs h j zero le lt = let same : j ≡ zero = omega arith in omega (arith, ap (slice_index xs) same)
rises xs h j (suc i) le lt = elim (cases_lt j (suc i)) [
  | inl low ↦ omega (arith, rises xs h j i (omega arith) (omega arith), h i (omega arith), ap (slice_index xs) (add-one i))
  | inr high ↦ let same : j ≡ suc i = omega arith in omega (arith, ap (slice_index xs) same)
]

-- a number of the one list stands in the other at the same place or later
later : (xs ys : List ℕ) → IsStrictlyIncreasing xs → IsStrictlyIncreasing ys → ((x : ℕ) → Contains xs x → Contains ys x) → (k : ℕ) → k < length xs → (j : ℕ) × (k ≤ j) × (j < length ys) × (slice_index ys j ≡ slice_index xs k)
later xs ys rising_x rising_y holds zero lt =
    let there = holds (slice_index xs zero) (Contains-get_or xs zero 0 lt) in
    (there.0, omega arith, there.1, sym (get_or_default ys there.0 (slice_index xs zero) 0 there.1) ∙ there.2)
later xs ys rising_x rising_y holds (suc k) lt =
    let there = holds (slice_index xs (suc k)) (Contains-get_or xs (suc k) 0 lt) in
    let is : slice_index ys there.0 ≡ slice_index xs (suc k) = sym (get_or_default ys there.0 (slice_index xs (suc k)) 0 there.1) ∙ there.2 in
    let before = later xs ys rising_x rising_y holds k (omega arith) in
    elim (cases_lt before.0 there.0) [
      | inl low ↦ (there.0, omega (arith, before.1), there.1, is)
      | inr high ↦ absurd (omega (arith, rises ys rising_y there.0 before.0 high before.2, before.3, is, rising_x k (omega arith), ap (slice_index xs) (add-one k)))
    ]

at_most_there : (xs ys : List ℕ) → IsStrictlyIncreasing xs → IsStrictlyIncreasing ys → ((x : ℕ) → Contains xs x → Contains ys x) → (k : ℕ) → k < length xs → (k < length ys) × (slice_index ys k ≤ slice_index xs k)
at_most_there xs ys rising_x rising_y holds k lt =
    let there = later xs ys rising_x rising_y holds k lt in
    (omega (arith, there.1, there.2), omega (arith, rises ys rising_y k there.0 there.1 there.2, there.3))

no_longer : (xs ys : List ℕ) → ((k : ℕ) → k < length xs → k < length ys) → length xs ≤ length ys
no_longer xs ys h = elim (cases_lt (length ys) (length xs)) [
  | inl longer ↦ absurd (omega (arith, h (length ys) longer))
  | inr high ↦ high
]

route_is : (a b : Route) → label_of a ≡ label_of b → a.block ≡ b.block → a ≡ b
route_is a b same block =
    let first : ◌≡◌ {A = Route} a (record { block = b.block; interface = a.interface; next = a.next; cost = a.cost }) = ap {B = Route} (λ (x : Block). record { block = x; interface = a.interface; next = a.next; cost = a.cost }) block in
    first ∙ ap {B = Route} (λ (l : Label). record { block = b.block; interface = l.interface; next = l.next; cost = l.cost }) same

module _ (graph : Graph) (from : ℕ) where
  -- the links of the one table stand in the other
  known : (a b : List Route) (h : IsTable graph from a) (k : IsTable graph from b) → (x : ℕ) → Contains h.links x → Contains k.links x
  known a b h k x c =
      let at_x : slice_index h.links c.0 ≡ x = sym (get_or_default h.links c.0 x 0 c.1) ∙ c.2 in
      k.all_links x (label_of (route_at a c.0)) (subst (λ n. Reaches graph.arms from n (label_of (route_at a c.0))) at_x (h.least c.0 (omega (arith, c.1, h.as_many))).walked)

  pub one_table : (a b : List Route) → IsTable graph from a → IsTable graph from b → a ≡ b
  one_table a b h k =
      let up = at_most_there h.links k.links h.in_order k.in_order (known a b h k) in
      let down = at_most_there k.links h.links k.in_order h.in_order (known b a k h) in
      let long : length a ≡ length b = omega (arith, h.as_many, k.as_many, no_longer h.links k.links (λ n lt. (up n lt).0), no_longer k.links h.links (λ n lt. (down n lt).0)) in
      ext_get_or no_route a b long (λ n lt.
      let in_a : n < length h.links = omega (arith, h.as_many) in
      let in_b : n < length k.links = omega (arith, k.as_many, long) in
      let link : slice_index k.links n ≡ slice_index h.links n = omega (arith, (up n in_a).1, (down n in_b).1) in
      let least_a = h.least n lt in
      let least_b : IsLeast graph.arms from (slice_index h.links n) (label_of (route_at b n)) = subst (λ m. IsLeast graph.arms from m (label_of (route_at b n))) link (k.least n (omega (arith, long))) in
      let block_b : slice_get graph.blocks (slice_index h.links n) ≡ Some (route_at b n).block = subst (λ m. slice_get graph.blocks m ≡ Some (route_at b n).block) link (k.block n (omega (arith, long))) in
      let both : Some (route_at a n).block ≡ Some (route_at b n).block = sym (h.block n lt) ∙ block_b in
      let block : (route_at a n).block ≡ (route_at b n).block = cc in
      route_is (route_at a n) (route_at b n) (labels_same (label_of (route_at a n)) (label_of (route_at b n)) (least_a.least (label_of (route_at b n)) least_b.walked) (least_b.least (label_of (route_at a n)) least_a.walked)) block)
