-- The addresses of interfaces differ.
use Rattle.std.proofs.Common.{◌≡◌, ℕ, ◌^◌, ◌<◌, ◌≤◌, List, length, slice_index, Option, Some, None, refl, sym, ap, subst, ◌∙◌, inl, inr, arith}
use Rattle.std.specs.Option.{option_map}
use Rattle.std.proofs.lemmas.List.{length-map}
use Rattle.std.proofs.lemmas.Bool.{cases_lt}
use Rattle.ip_blocks.specs.declared.layout.LinkSize.{LinkSize}
use Rattle.ip_blocks.specs.declared.layout.NetParent.{NetParent}
use Rattle.ip_blocks.specs.Blocks.{Part, IsLayout, BlockLists, parts_of, blocks_of, top_size, sum_in}
use Rattle.ip_blocks.specs.Apart.{IsPlaced, address_of}
use Rattle.ip_blocks.specs.Sums.{AllFit}
use Rattle.ip_blocks.proofs.Adding.{top_too_large, top_exponent}
use Rattle.ip_blocks.proofs.Layouts.{is_tree, length-parts_from, link_at as part_at}
use Rattle.ip_blocks.proofs.Placing.{lists_of, is_placed}
use Rattle.net_graph.specs.declared.rows.Network.{Network}
use Rattle.net_graph.specs.Networks.{IsNetwork, link_size, link_sizes, net_parents, link_at, attachment_of}
use Rattle.net_layout.specs.Addresses.{network_blocks, addresses_needed, interface_address}
use Rattle.net_layout.specs.Limits.{HasDistinctAddresses}
use Rattle.net_layout.proofs.Rows.{attachments_are}

all_fit : (links : List LinkSize) (nets : List NetParent) → IsLayout links nets → top_size links nets ≤ 2 ^ 24 → AllFit (length nets) (parts_of links nets)
all_fit links nets layout few n lt = elim (cases_lt (2 ^ 24) (sum_in n (parts_of links nets))) [
  | inl more ↦ let much = top_too_large links nets layout (n, lt, more) in absurd (omega arith)
  | inr le ↦ le
]

lists_are : (links : List LinkSize) (nets : List NetParent) → lists_of (parts_of links nets) (length nets) ≡ blocks_of links nets
unfolding blocks_of
lists_are links nets = refl

placed : (links : List LinkSize) (nets : List NetParent) → IsLayout links nets → top_size links nets ≤ 2 ^ 24 → IsPlaced links (blocks_of links nets)
placed links nets layout few =
    subst (IsPlaced links) (lists_are links nets)
    (is_placed (parts_of links nets) (length nets) (is_tree links nets layout) (top_exponent links nets layout (all_fit links nets layout few)) links (length-parts_from links 0 nets)
    (λ k lt. ap (λ (p : Part). p.exponent) (part_at links nets k lt)))

network_placed : (network : Network) → IsNetwork network → addresses_needed network ≤ 2 ^ 24 → IsPlaced (link_sizes network) (network_blocks network)
unfolding network_blocks addresses_needed
network_placed network is few = placed (link_sizes network) (net_parents network) is.layout few

mapped : {A B : Type 0} (f : A → B) (o : Option A) (y : B) → option_map f o ≡ Some y → (x : A) × (o ≡ Some x) × (f x ≡ y)
mapped {B = B} f None y e = let h : ◌≡◌ {A = Option B} None (Some y) = e in cc
mapped {B = B} f (Some x) y e = let h : ◌≡◌ {A = Option B} (Some (f x)) (Some y) = e in (x, refl, cc)

module _ (network : Network) (is : IsNetwork network) (few : addresses_needed network ≤ 2 ^ 24) where
  one : (i j address : ℕ) → i < length network.interfaces → j < length network.interfaces → interface_address network i ≡ Some address → interface_address network j ≡ Some address → i ≡ j
  one i j address li lj ei ej =
      let blocks : BlockLists = network_blocks network in
      let a = mapped (λ (at : ℕ × ℕ). address_of blocks at.0 at.1) (attachment_of network i) address ei in
      let b = mapped (λ (at : ℕ × ℕ). address_of blocks at.0 at.1) (attachment_of network j) address ej in
      let first = is.interfaces i li in
      let second = is.interfaces j lj in
      let al : a.0.0 < length network.links = first.link a.0 a.1 in
      let bl : b.0.0 < length network.links = second.link b.0 b.1 in
      let ap' : a.0.1 < length (link_at network a.0.0).attached = first.place a.0 a.1 in
      let bp : b.0.1 < length (link_at network b.0.0).attached = second.place b.0 b.1 in
      let count = length-map network.links link_size in
      let same = (network_placed network is few).addresses_differ a.0.0 b.0.0 a.0.1 b.0.1 (omega arith) (omega arith)
      (omega (arith, attachments_are network a.0.0 al)) (omega (arith, attachments_are network b.0.0 bl)) (a.2 ∙ sym b.2) in
      sym (first.attached a.0 a.1)
      ∙ ap (λ l. slice_index (link_at network l).attached a.0.1) same.0
      ∙ ap (λ k. slice_index (link_at network b.0.0).attached k) same.1
      ∙ second.attached b.0 b.1

  pub distinct : HasDistinctAddresses network
  distinct = record {
    differ = one;
    above_zero = λ i address e.
        let a = mapped (λ (at : ℕ × ℕ). address_of (network_blocks network) at.0 at.1) (attachment_of network i) address e in
        let is : address_of (network_blocks network) a.0.0 a.0.1 ≡ address = a.2 in
        omega arith;
  }
