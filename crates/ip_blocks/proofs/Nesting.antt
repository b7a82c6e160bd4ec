-- Each link and each nested Net has its place in its own Net.
use Rattle.std.proofs.Common.{◌≡◌, ℕ, ◌+◌, ◌<◌, ◌≤◌, List, length, slice_index_or, Option, Some, None, IfSome, refl, ap, ◌∙◌, arith}
use Rattle.std.specs.Option.{option_map_or}
use Rattle.ip_blocks.specs.declared.layout.LinkSize.{LinkSize}
use Rattle.ip_blocks.specs.declared.layout.NetParent.{NetParent}
use Rattle.ip_blocks.specs.Blocks.{Part, BlockLists, IsLayout, parts_of, block_of, link_part, offset_in, parent_of, top_base}
use Rattle.ip_blocks.specs.Apart.{AreNested, IsWithin, net_block, link_block, net_of, no_block, no_link}
use Rattle.ip_blocks.specs.Tree.{IsTree, at}
use Rattle.ip_blocks.proofs.Bases.{base_of, base_of-net, base_of-top, parent_at}
use Rattle.ip_blocks.proofs.Layouts.{is_tree, length-parts_from, net_at, link_at}
use Rattle.ip_blocks.proofs.Placing as placing

module _ (links : List LinkSize) (nets : List NetParent) (layout : IsLayout links nets) (most : (at (parts_of links nets) 0).exponent ≤ 24) where
  abbrev parts : List Part
  parts = parts_of links nets

  abbrev count : ℕ
  count = length nets

  abbrev blocks : BlockLists
  blocks = placing.lists_of parts count

  tree : IsTree parts count
  tree = is_tree links nets layout

  -- the blocks of the lists
  net_is : (n : ℕ) → n < count → net_block blocks n ≡ block_of parts (at parts n)
  net_is n lt = placing.net_at parts count tree most n no_block lt

  link_there : (k : ℕ) → k < length links → count + k < length parts
  link_there k lt = omega (arith, length-parts_from links 0 nets)

  net_there : (n : ℕ) → n < count → n < length parts
  net_there n lt = omega (arith, length-parts_from links 0 nets)

  link_is : (k : ℕ) → k < length links → link_block blocks k ≡ block_of parts (at parts (count + k))
  link_is k lt = placing.link_at parts count tree most k no_block (link_there k lt)

  link_in : (k : ℕ) → k < length links → (at parts (count + k)).net ≡ Some (net_of links k)
  link_in k lt = ap (λ (p : Part). p.net) (link_at links nets k lt)

  net_in : (i : ℕ) (o : Option ℕ) → i < count → parent_of nets i ≡ o → (at parts i).net ≡ o
  net_in i o lt e = ap (λ (p : Part). p.net) (net_at links nets i lt) ∙ e

  link_within : (k : ℕ) → k < length links → IsWithin (link_block blocks k) (net_block blocks (net_of links k))
  link_within k lt =
      let low = (parent_at parts count tree (count + k) (net_of links k) (link_there k lt) (link_in k lt)).1 in
      rw (link_is k lt, net_is (net_of links k) low) (placing.in_net parts count tree most (count + k) (net_of links k) (link_there k lt) (link_in k lt))

  net_within : (i : ℕ) (o : Option ℕ) → i < count → parent_of nets i ≡ o → IfSome o (λ p. IsWithin (net_block blocks i) (net_block blocks p))
  net_within i None lt e = tt
  net_within i (Some p) lt e =
      let low = (parent_at parts count tree i p (net_there i lt) (net_in i (Some p) lt e)).1 in
      rw (net_is i lt, net_is p low) (placing.in_net parts count tree most i p (net_there i lt) (net_in i (Some p) lt e))

  link_base : (k : ℕ) → k < length links → (link_block blocks k).base ≡ (net_block blocks (net_of links k)).base + offset_in (net_of links k) parts (link_part (slice_index_or links k no_link))
  link_base k lt =
      let low = (parent_at parts count tree (count + k) (net_of links k) (link_there k lt) (link_in k lt)).1 in
      rw (link_is k lt, net_is (net_of links k) low)
      (base_of-net parts count tree (count + k) (net_of links k) (link_there k lt) (link_in k lt)
      ∙ ap (λ (part : Part). base_of parts (net_of links k) + offset_in (net_of links k) parts part) (link_at links nets k lt))

  net_base : (i : ℕ) (o : Option ℕ) → i < count → parent_of nets i ≡ o → (net_block blocks i).base ≡ option_map_or (λ p. (net_block blocks p).base + offset_in p parts (at parts i)) o top_base
  net_base i None lt e = rw (net_is i lt) (base_of-top parts count tree i (net_in i None lt e))
  net_base i (Some p) lt e =
      let low = (parent_at parts count tree i p (net_there i lt) (net_in i (Some p) lt e)).1 in
      rw (net_is i lt, net_is p low) (base_of-net parts count tree i p (net_there i lt) (net_in i (Some p) lt e))

  pub are_nested : AreNested links nets blocks
  are_nested = record {
    links_within = link_within;
    nets_within = λ i lt. net_within i (parent_of nets i) lt refl;
    link_bases = link_base;
    net_bases = λ i lt. net_base i (parent_of nets i) lt refl;
  }
