use Rattle.std.proofs.Common.{◌≡◌, ℕ, ◌+◌, ◌-◌, ◌^◌, ◌<◌, ◌≤◌, List, ◌∷◌, length, get_or, drop, map, slice_index, slice_set, Option, Some, None, inl, inr, ap, sym, ◌∙◌, arith, length-set, get_or-set_same, get_or-set_other}
use Rattle.std.proofs.lemmas.List.{drop_more, drop_all}
use Rattle.std.proofs.lemmas.Bool.{cases_eq}
use Rattle.ip_blocks.specs.declared.layout.LinkSize.{LinkSize}
use Rattle.ip_blocks.specs.declared.layout.NetParent.{NetParent}
use Rattle.ip_blocks.specs.Blocks.{Part, IsLayout, exponent_of, sum_in, link_part, parts_of, parts_from, size_of}
use Rattle.ip_blocks.specs.Tree.{at, no_part}
use Rattle.ip_blocks.specs.Sums.{AreSums, AreTooMany}
use Rattle.ip_blocks.proofs.Layouts.{no_net, length-parts_from, drop-parts_from, sum_in-drop, lower_nets, net_at, is_tree}
use Rattle.ip_blocks.proofs.Adding.{sums_add, sums_pass, sum_with, sum_in-drop-le}
use Rattle.ip_blocks.proofs.Outcomes.{if_err_always}
use Rattle.ip_blocks.proofs.sizes.net_exponents.Goals as goal

links_last : (links : List LinkSize) (nets : List NetParent) → drop (length nets) (parts_of links nets) ≡ map link_part links
unfolding parts_from
links_last links nets = drop-parts_from links 0 (length nets) nets (omega arith) ∙ ap (λ rest. parts_from links (0 + length nets) rest) (drop_all (length nets) nets (omega arith))

module _ (links : List LinkSize) (nets : List NetParent) (layout : IsLayout links nets) (sums : List ℕ) (i number e : ℕ) (there : i < length nets) (next : number ≡ i + 1) (so_far : AreSums sums (drop number (parts_of links nets))) (long : length sums ≡ length nets) (is : e ≡ exponent_of (slice_index sums i)) where
  first : drop i (parts_of links nets) ≡ at (parts_of links nets) i ∷ drop number (parts_of links nets)
  first = rw next (drop_more (parts_of links nets) i no_part (omega (arith, length-parts_from links 0 nets)))

  exponent_at : e ≡ (at (parts_of links nets) i).exponent
  exponent_at =
      let sum = so_far i (omega arith) in
      let later : sum_in i (drop number (parts_of links nets)) ≡ sum_in i (parts_of links nets) = sum_in-drop (parts_of links nets) i number (lower_nets links nets layout) (omega arith) in
      is ∙ ap exponent_of (sum.0 ∙ later) ∙ sym ((is_tree links nets layout).filled i there)

  parent_at : (p : Option ℕ) → (get_or nets i no_net).parent ≡ p → (at (parts_of links nets) i).net ≡ p
  parent_at p h = ap (λ (part : Part). part.net) (net_at links nets i there) ∙ h

  parent_low : (m : ℕ) → (get_or nets i no_net).parent ≡ Some m → m < length sums
  parent_low m h = let lower = layout.parents i there in let less : m < i = rw h at lower in omega arith

  sums_in_net : (m : ℕ) → (get_or nets i no_net).parent ≡ Some m → slice_index sums m + 2 ^ e ≤ 2 ^ 24 → AreSums (slice_set sums m (slice_index sums m + 2 ^ e)) (drop i (parts_of links nets))
  sums_in_net m h fits =
      let part : Part = at (parts_of links nets) i in
      let room : slice_index sums m + size_of part ≤ 2 ^ 24 = rw exponent_at at fits in
      rw (first, exponent_at) (sums_add sums part (drop number (parts_of links nets)) m so_far (parent_at (Some m) h) (parent_low m h) room)

  sums_in_none : (get_or nets i no_net).parent ≡ None → AreSums sums (drop i (parts_of links nets))
  sums_in_none h = rw first (sums_pass sums (at (parts_of links nets) i) (drop number (parts_of links nets)) so_far (parent_at None h))

  too_many : (m : ℕ) → (get_or nets i no_net).parent ≡ Some m → 2 ^ 24 < slice_index sums m + 2 ^ e → AreTooMany (length nets) (parts_of links nets)
  too_many m h over =
      let low : m < length sums = parent_low m h in
      let part : Part = at (parts_of links nets) i in
      let size : 2 ^ e ≡ size_of part = ap (λ k. 2 ^ k) exponent_at in
      let sum : sum_in m (drop i (parts_of links nets)) ≡ slice_index sums m + size_of part = ap (sum_in m) first ∙ sum_with sums part (drop number (parts_of links nets)) m so_far (parent_at (Some m) h) low in
      (m, omega arith, omega (arith, sum_in-drop-le m i (parts_of links nets)))

  exponents_more : (exponents : List ℕ) → length exponents ≡ length nets → ((n : ℕ) → number ≤ n → n < length nets → slice_index exponents n ≡ (at (parts_of links nets) n).exponent) → (n : ℕ) → i ≤ n → n < length nets → slice_index (slice_set exponents i e) n ≡ (at (parts_of links nets) n).exponent
  exponents_more exponents full h n low lt = elim (cases_eq n i) [
    | inl same ↦ ap (slice_index (slice_set exponents i e)) same ∙ get_or-set_same exponents i e 0 (omega arith) ∙ exponent_at ∙ ap (λ k. (at (parts_of links nets) k).exponent) (sym same)
    | inr other ↦ get_or-set_other exponents i n e 0 other ∙ h n (omega arith) lt
  ]

pub returns-in_err-add_links-clause-no_space : goal.returns-in_err-add_links-clause-no_space
returns-in_err-add_links-clause-no_space c =
    let over = c.in_err-add_links.ensures.no_space in
    let links : List LinkSize = c.args.links.now in
    let nets : List NetParent = c.args.nets.now in
    let last : sum_in over.0 (drop (length nets) (parts_of links nets)) ≡ sum_in over.0 (map link_part links) = ap (sum_in over.0) (links_last links nets) in
    if_err_always c.from_residual-in_err-add_links.result (λ _ _. (over.0, omega (arith, over.1, c.in_ok-needs.needs.ok.0, c.in_ok-needs.ensures.len), omega (arith, over.2, sum_in-drop-le over.0 (length nets) (parts_of links nets))))

pub loop-number-init : goal.loop-number-init
loop-number-init c = (omega (arith, c.in_ok-needs.needs.ok.0, c.in_ok-needs.ensures.len), omega (arith, c.in_ok-exponents.exponents.ok.0, c.in_ok-exponents.ensures.len), rw (links_last c.args.links.now c.args.nets.now) c.in_ok-add_links.ensures.ok, λ n low lt. absurd (omega arith))

pub loop-number-preserved-in-Continue-branch-4 : goal.loop-number-preserved-in-Continue-branch-4
loop-number-preserved-in-Continue-branch-4 c =
    let old = c.loop-number.invariant in
    let i : ℕ = c.loop-number.number - 1 in
    let is = c.exponent-exponent.ensures ∙ ap exponent_of c.from.ensures in (
      omega arith,
      omega (arith, length-set c.loop-number.exponents.items i c.exponent-exponent.result),
      rw c.in_ok-add.ensures.ok (sums_in_net c.args.links.now c.args.nets.now c.requires c.loop-number.sums i c.loop-number.number c.exponent-exponent.result (omega arith) (omega arith) old.2 old.0 is c.in-Some.parent c.in-Some.is c.in_ok-add.ensures.fits),
      exponents_more c.args.links.now c.args.nets.now c.requires c.loop-number.sums i c.loop-number.number c.exponent-exponent.result (omega arith) (omega arith) old.2 old.0 is c.loop-number.exponents.items old.1 old.3,
    )

pub returns-in_err-add-clause-no_space : goal.returns-in_err-add-clause-no_space
returns-in_err-add-clause-no_space c =
    let old = c.loop-number.invariant in
    let i : ℕ = c.loop-number.number - 1 in
    let is = c.exponent-exponent.ensures ∙ ap exponent_of c.from.ensures in
    if_err_always c.from_residual-in_err-add.result
    (λ _ _. too_many c.args.links.now c.args.nets.now c.requires c.loop-number.sums i c.loop-number.number c.exponent-exponent.result (omega arith) (omega arith) old.2 old.0 is c.in-Some.parent c.in-Some.is c.in_err-add.ensures.no_space)

pub loop-number-preserved : goal.loop-number-preserved
loop-number-preserved c =
    let old = c.loop-number.invariant in
    let i : ℕ = c.loop-number.number - 1 in
    let is = c.exponent-exponent.ensures ∙ ap exponent_of c.from.ensures in (
      omega arith,
      omega (arith, length-set c.loop-number.exponents.items i c.exponent-exponent.result),
      sums_in_none c.args.links.now c.args.nets.now c.requires c.loop-number.sums i c.loop-number.number c.exponent-exponent.result (omega arith) (omega arith) old.2 old.0 is c.in_default.is,
      exponents_more c.args.links.now c.args.nets.now c.requires c.loop-number.sums i c.loop-number.number c.exponent-exponent.result (omega arith) (omega arith) old.2 old.0 is c.loop-number.exponents.items old.1 old.3,
    )
