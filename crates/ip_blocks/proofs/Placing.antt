-- The laws of the blocks that the parts of a tree have.
use Rattle.std.proofs.Common.{◌≡◌, ◌≢◌, ℕ, ◌+◌, ◌-◌, ◌^◌, ◌<◌, ◌≤◌, List, ◌++◌, length, get_or, map, take, drop, Some, inl, inr, sym, ap, ◌∙◌, arith}
use Rattle.std.specs.Prelude.{All, AllPairs}
use Rattle.std.proofs.lemmas.List.{length-map, map-append, take-append-drop, get_or-map, get_or-drop, length-drop, get_or-take, length-take}
use Rattle.std.proofs.lemmas.Bool.{cases_order}
use Rattle.ip_blocks.specs.declared.block.Block.{Block}
use Rattle.ip_blocks.specs.declared.layout.LinkSize.{LinkSize}
use Rattle.ip_blocks.specs.Blocks.{Part, size_of, block_of, block_end, BlockLists, exponent_of, top_base}
use Rattle.ip_blocks.specs.Apart.{IsWithin, IsApart, IsNestedOrApart, attachments_of, HasRoom, AddressesDiffer, IsPlaced}
use Rattle.ip_blocks.proofs.Exponents.{exponent-room, pow_up}
use Rattle.ip_blocks.specs.Tree.{IsTree, at, no_part}
use Rattle.ip_blocks.proofs.Bases.{base_of, base_of-top, parent_at, cases_net}
use Rattle.ip_blocks.proofs.Nested.{Above, here, up, Related, above_le, child_above, related, top_above, within, apart, exponent_most}

abbrev pub lists_of : List Part → ℕ → BlockLists
lists_of parts count = record { nets = map (block_of parts) (take count parts); links = map (block_of parts) (drop count parts) }

module _ (parts : List Part) (count : ℕ) (t : IsTree parts count) (most : (at parts 0).exponent ≤ 24) where
  pub end_at : (x : ℕ) → x < length parts → block_end (block_of parts (at parts x)) ≡ base_of parts x + size_of (at parts x)
  end_at x lt = ap (λ e. base_of parts x + 2 ^ e) (let e : 32 - (32 - (at parts x).exponent) ≡ (at parts x).exponent = omega (arith, exponent_most parts count t x lt) in e)

  -- every part ends within the 2^24 addresses from 10.0.0.0 on
  pub end_most : (x : ℕ) → x < length parts → base_of parts x + size_of (at parts x) ≤ top_base + 2 ^ 24
  end_most x lt =
      let inside = within parts count t {u = 0} {x = x} lt (top_above parts count t x x lt (omega arith)) in
      let top : base_of parts 0 ≡ top_base = elim (cases_net parts count t (at parts 0).net) [
        | inl none ↦ base_of-top parts count t 0 none
        | inr in_net ↦ absurd (omega (arith, (parent_at parts count t 0 in_net.0 (omega arith) in_net.1).0))
      ] in
      omega (arith, pow_up (at parts 0).exponent 24 most)

  nested_from : (x y : ℕ) → x < length parts → y < length parts → Related parts x y → IsNestedOrApart (block_of parts (at parts x)) (block_of parts (at parts y))
  nested_from x y lx ly (inl above) =
      let inside = within parts count t ly above in
      inr (inl (omega arith, omega (arith, end_at x lx, end_at y ly)))
  nested_from x y lx ly (inr (inl above)) =
      let inside = within parts count t lx above in
      inl (omega arith, omega (arith, end_at x lx, end_at y ly))
  nested_from x y lx ly (inr (inr s)) = elim (apart parts count t x y lx ly s) [
    | inl first ↦ inr (inr (inl (omega (arith, end_at x lx))))
    | inr second ↦ inr (inr (inr (omega (arith, end_at y ly))))
  ]

  all_blocks : map (block_of parts) (take count parts) ++ map (block_of parts) (drop count parts) ≡ map (block_of parts) parts
  all_blocks = sym (map-append (block_of parts) (take count parts) (drop count parts)) ∙ ap (map (block_of parts)) (take-append-drop count parts)

  nested_pairs : AllPairs IsNestedOrApart (map (block_of parts) parts)
  nested_pairs x y d less lt =
      let ly : y < length parts = omega (arith, length-map parts (block_of parts)) in
      let lx : x < length parts = omega arith in
      rw (get_or-map (block_of parts) parts x no_part d lx, get_or-map (block_of parts) parts y no_part d ly)
      (nested_from x y lx ly (related parts count t x y lx ly))

  -- nothing lies in a link
  link_holds : (x y : ℕ) → count ≤ x → y < length parts → Above parts x y → x ≡ y
  link_holds x y high lt above = elim (child_above parts above) [
    | inl same ↦ same
    | inr child ↦ absurd (let z : ℕ = child.0 in ⊥_from z child.1 child.2)
  ]
    where
      ⊥_from : (z : ℕ) → (at parts z).net ≡ Some x → Above parts z y → ⊥
      ⊥_from z e above' =
          let there : z ≤ y = above_le parts count t lt above' in
          let low = (parent_at parts count t z x (omega arith) e).1 in
          omega arith

  links_apart : (x y : ℕ) → count ≤ x → count ≤ y → x < length parts → y < length parts → x ≢ y → IsApart (block_of parts (at parts x)) (block_of parts (at parts y))
  links_apart x y hx hy lx ly ne = elim (related parts count t x y lx ly) [
    | inl above ↦ absurd (ne (link_holds x y hx ly above))
    | inr (inl above) ↦ absurd (ne (sym (link_holds y x hy lx above)))
    | inr (inr s) ↦ elim (apart parts count t x y lx ly s) [
      | inl first ↦ inl (omega (arith, end_at x lx))
      | inr second ↦ inr (omega (arith, end_at y ly))
    ]
  ]

  pub net_at : (n : ℕ) (d : Block) → n < count → get_or (map (block_of parts) (take count parts)) n d ≡ block_of parts (at parts n)
  net_at n d lt = get_or-map (block_of parts) (take count parts) n no_part d (omega (arith, length-take count parts, t.nets_first)) ∙ ap (block_of parts) (get_or-take count parts n no_part lt)

  -- a part lies within its Net
  pub in_net : (x n : ℕ) → x < length parts → (at parts x).net ≡ Some n → IsWithin (block_of parts (at parts x)) (block_of parts (at parts n))
  in_net x n lt e =
      let there : n < length parts = omega (arith, (parent_at parts count t x n lt e).1, t.nets_first) in
      let inside = within parts count t {u = n} {x = x} lt (up e here) in
      (omega arith, omega (arith, end_at x lt, end_at n there))

  pub link_at : (k : ℕ) (d : Block) → count + k < length parts → get_or (map (block_of parts) (drop count parts)) k d ≡ block_of parts (at parts (count + k))
  link_at k d lt = get_or-map (block_of parts) (drop count parts) k no_part d (omega (arith, length-drop count parts)) ∙ ap (block_of parts) (get_or-drop count parts k no_part)

  link_pairs : AllPairs IsApart (map (block_of parts) (drop count parts))
  link_pairs j k d less lt =
      let lk : count + k < length parts = omega (arith, length-map (drop count parts) (block_of parts), length-drop count parts) in
      let lj : count + j < length parts = omega arith in
      rw (link_at j d lj, link_at k d lk)
      (links_apart (count + j) (count + k) (omega arith) (omega arith) lj lk (λ e. absurd (omega arith)))

  module _ (links : List LinkSize) (long : length parts ≡ count + length links) (attached : (k : ℕ) → k < length links → (at parts (count + k)).exponent ≡ exponent_of (attachments_of links k + 2)) where
    has_room : (k : ℕ) → k < length links → attachments_of links k + 2 ≤ size_of (at parts (count + k))
    has_room k lt = rw (attached k lt) (exponent-room (attachments_of links k + 2))

    room_of : HasRoom links (lists_of parts count)
    room_of k lt =
        let lk : count + k < length parts = omega arith in
        rw (link_at k (record { base = 0; bits = 0 }) lk)
        (let e : 32 - (32 - (at parts (count + k)).exponent) ≡ (at parts (count + k)).exponent = omega (arith, exponent_most parts count t (count + k) lk) in
        rw e (has_room k lt))

    differ_from : (j k place other : ℕ) → j < length links → k < length links → place < attachments_of links j → other < attachments_of links k → base_of parts (count + j) + 1 + place ≡ base_of parts (count + k) + 1 + other → j ≢ k → ⊥
    differ_from j k place other lj lk pj pk same ne =
        let tj : count + j < length parts = omega arith in
        let tk : count + k < length parts = omega arith in
        elim (links_apart (count + j) (count + k) (omega arith) (omega arith) tj tk (λ e. ne (omega arith))) [
          | inl first ↦ omega (arith, end_at (count + j) tj, has_room j lj)
          | inr second ↦ omega (arith, end_at (count + k) tk, has_room k lk)
        ]

    differing : AddressesDiffer links (lists_of parts count)
    differing j k place other lj lk pj pk same =
        let bj = ap (λ (b : Block). b.base) (link_at j (record { base = 0; bits = 0 }) (omega arith)) in
        let bk = ap (λ (b : Block). b.base) (link_at k (record { base = 0; bits = 0 }) (omega arith)) in
        let sum : base_of parts (count + j) + 1 + place ≡ base_of parts (count + k) + 1 + other = omega arith in
        elim (cases_order j k) [
          | inl e ↦ (e, let b : base_of parts (count + j) ≡ base_of parts (count + k) = ap (λ m. base_of parts (count + m)) e in omega arith)
          | inr (inl less) ↦ absurd (differ_from j k place other lj lk pj pk sum (λ e. omega arith))
          | inr (inr more) ↦ absurd (differ_from j k place other lj lk pj pk sum (λ e. omega arith))
        ]

    pub is_placed : IsPlaced links (lists_of parts count)
    is_placed = record { nested_or_apart = rw all_blocks nested_pairs; links_apart = link_pairs; room = room_of; addresses_differ = differing }

-- every block ends where an address of 32 bits ends, or before that
pub all_end : (parts : List Part) (count : ℕ) → IsTree parts count → (at parts 0).exponent ≤ 24 → All (λ block. block_end block ≤ 2 ^ 32) (map (block_of parts) parts)
all_end parts count t most k d lt =
    let there : k < length parts = omega (arith, length-map parts (block_of parts)) in
    rw (get_or-map (block_of parts) parts k no_part d there)
    (omega (arith, end_at parts count t most k there, end_most parts count t most k there))
