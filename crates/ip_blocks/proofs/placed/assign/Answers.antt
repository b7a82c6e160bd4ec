use Rattle.std.proofs.Common.{◌≡◌, ℕ, ◌+◌, List, length, map, take, drop, refl, ap, subst, sym, ◌∙◌, arith}
use Rattle.std.proofs.lemmas.List.{take-map, drop-map, length-map, length-take, length-drop}
use Rattle.ip_blocks.specs.declared.block.Block.{Block}
use Rattle.ip_blocks.specs.declared.layout.LinkSize.{LinkSize}
use Rattle.ip_blocks.specs.declared.layout.NetParent.{NetParent}
use Rattle.ip_blocks.specs.declared.members.Member.{Member}
use Rattle.ip_blocks.specs.Blocks.{Part, BlockLists, IsLayout, block_of, blocks_of, parts_of}
use Rattle.ip_blocks.specs.Apart.{IsPlaced, AreNested}
use Rattle.ip_blocks.specs.Sums.{AllFit}
use Rattle.ip_blocks.specs.Members.{part_of}
use Rattle.ip_blocks.proofs.Layouts.{is_tree, length-parts_from, link_at}
use Rattle.ip_blocks.proofs.Adding.{top_too_large, top_fits, top_exponent}
use Rattle.ip_blocks.proofs.Placing.{lists_of, is_placed, all_end}
use Rattle.ip_blocks.proofs.Nesting.{are_nested}
use Rattle.std.proofs.lemmas.Result.{err_from_is_err_and}
use Rattle.ip_blocks.proofs.placed.assign.Goals as goal

abbrev lists : List Block → ℕ → BlockLists
lists blocks count = record { nets = take count blocks; links = drop count blocks }

lists_are : (links : List LinkSize) (nets : List NetParent) (blocks : List Block) → blocks ≡ map (block_of (parts_of links nets)) (parts_of links nets) → lists blocks (length nets) ≡ lists_of (parts_of links nets) (length nets)
lists_are links nets blocks h =
    ap (λ bs. lists bs (length nets)) h
    ∙ ap (λ ns. record { nets = ns; links = drop (length nets) (map (block_of (parts_of links nets)) (parts_of links nets)) }) (take-map (block_of (parts_of links nets)) (length nets) (parts_of links nets))
    ∙ ap (λ ls. record { nets = map (block_of (parts_of links nets)) (take (length nets) (parts_of links nets)); links = ls }) (drop-map (block_of (parts_of links nets)) (length nets) (parts_of links nets))

blocks_are : (links : List LinkSize) (nets : List NetParent) → lists_of (parts_of links nets) (length nets) ≡ blocks_of links nets
unfolding blocks_of
blocks_are links nets = refl

laws : (links : List LinkSize) (nets : List NetParent) → IsLayout links nets → AllFit (length nets) (parts_of links nets) → IsPlaced links (lists_of (parts_of links nets) (length nets))
laws links nets layout fits =
    is_placed (parts_of links nets) (length nets) (is_tree links nets layout) (top_exponent links nets layout fits) links (length-parts_from links 0 nets)
    (λ k lt. ap (λ (p : Part). p.exponent) (link_at links nets k lt))

pub returns-in_err-exponents-clause-no_space : goal.returns-in_err-exponents-clause-no_space
returns-in_err-exponents-clause-no_space c =
    let p = err_from_is_err_and c.from_residual.result c.from_residual.ensures.1 in
    rw (p.1, p.2) (λ e. top_too_large c.args.links.now c.args.nets.now c.requires (c.in_err-exponents.ensures.no_space e))

pub offsets-requires-clause-tree : goal.offsets-requires-clause-tree
offsets-requires-clause-tree c = rw (c.as_slice-2.ensures.value, c.in_ok-members.ensures.parts) (is_tree c.args.links.now c.args.nets.now c.requires)

pub block_list-requires-clause-tree : goal.block_list-requires-clause-tree
block_list-requires-clause-tree c = rw (c.as_slice-3.ensures.value, c.in_ok-members.ensures.parts) (is_tree c.args.links.now c.args.nets.now c.requires)

pub block_list-requires-clause-fits : goal.block_list-requires-clause-fits
block_list-requires-clause-fits c = rw (c.as_slice-3.ensures.value, c.in_ok-members.ensures.parts) (top_exponent c.args.links.now c.args.nets.now c.requires c.in_ok-exponents.ensures.fits)

-- the blocks that were made, of the parts of the layout
made : (links : List LinkSize) (nets : List NetParent) (members seen : List Member) (blocks : List Block) → seen ≡ members → map part_of members ≡ parts_of links nets → blocks ≡ map (block_of (map part_of seen)) (map part_of seen) → blocks ≡ map (block_of (parts_of links nets)) (parts_of links nets)
made links nets members seen blocks same parts h = h ∙ ap (λ ps. map (block_of ps) ps) (ap (map part_of) same ∙ parts)

pub invariant_of-result : goal.invariant_of-result
invariant_of-result c =
    let links : List LinkSize = c.args.links.now in
    let nets : List NetParent = c.args.nets.now in
    let blocks = made links nets c.in_ok-members.members.items c.as_slice-3.result.now c.in_ok-blocks.blocks.items c.as_slice-3.ensures.value c.in_ok-members.ensures.parts c.in_ok-blocks.ensures in
    rw blocks (all_end (parts_of links nets) (length nets) (is_tree links nets c.requires) (top_exponent links nets c.requires c.in_ok-exponents.ensures.fits))

pub returns-clause-blocks : goal.returns-clause-blocks
returns-clause-blocks c =
    let links : List LinkSize = c.args.links.now in
    let nets : List NetParent = c.args.nets.now in
    let blocks = made links nets c.in_ok-members.members.items c.as_slice-3.result.now c.in_ok-blocks.blocks.items c.as_slice-3.ensures.value c.in_ok-members.ensures.parts c.in_ok-blocks.ensures in
    lists_are links nets c.in_ok-blocks.blocks.items blocks ∙ blocks_are links nets

-- how long the lists are
lengths : (links : List LinkSize) (nets : List NetParent) (blocks : List Block) → blocks ≡ map (block_of (parts_of links nets)) (parts_of links nets) → (length (take (length nets) blocks) ≡ length nets) × (length (drop (length nets) blocks) ≡ length links)
lengths links nets blocks h =
    let all : length blocks ≡ length nets + length links = ap length h ∙ length-map (parts_of links nets) (block_of (parts_of links nets)) ∙ length-parts_from links 0 nets in
    (omega (arith, length-take (length nets) blocks), omega (arith, length-drop (length nets) blocks))

pub returns-clause-nets : goal.returns-clause-nets
returns-clause-nets c =
    (lengths c.args.links.now c.args.nets.now c.in_ok-blocks.blocks.items (made c.args.links.now c.args.nets.now c.in_ok-members.members.items c.as_slice-3.result.now c.in_ok-blocks.blocks.items c.as_slice-3.ensures.value c.in_ok-members.ensures.parts c.in_ok-blocks.ensures)).0

pub returns-clause-links : goal.returns-clause-links
returns-clause-links c =
    (lengths c.args.links.now c.args.nets.now c.in_ok-blocks.blocks.items (made c.args.links.now c.args.nets.now c.in_ok-members.members.items c.as_slice-3.result.now c.in_ok-blocks.blocks.items c.as_slice-3.ensures.value c.in_ok-members.ensures.parts c.in_ok-blocks.ensures)).1

pub returns-clause-laws : goal.returns-clause-laws
returns-clause-laws c =
    let links : List LinkSize = c.args.links.now in
    let nets : List NetParent = c.args.nets.now in
    let blocks = made links nets c.in_ok-members.members.items c.as_slice-3.result.now c.in_ok-blocks.blocks.items c.as_slice-3.ensures.value c.in_ok-members.ensures.parts c.in_ok-blocks.ensures in
    subst (IsPlaced links) (sym (lists_are links nets c.in_ok-blocks.blocks.items blocks)) (laws links nets c.requires c.in_ok-exponents.ensures.fits)

pub returns-clause-nested : goal.returns-clause-nested
returns-clause-nested c =
    let links : List LinkSize = c.args.links.now in
    let nets : List NetParent = c.args.nets.now in
    let blocks = made links nets c.in_ok-members.members.items c.as_slice-3.result.now c.in_ok-blocks.blocks.items c.as_slice-3.ensures.value c.in_ok-members.ensures.parts c.in_ok-blocks.ensures in
    subst (AreNested links nets) (sym (lists_are links nets c.in_ok-blocks.blocks.items blocks)) (are_nested links nets c.requires (top_exponent links nets c.requires c.in_ok-exponents.ensures.fits))

pub returns-clause-fits : goal.returns-clause-fits
returns-clause-fits c = top_fits c.args.links.now c.args.nets.now c.requires c.in_ok-exponents.ensures.fits
