use Rattle.std.proofs.Common.{◌≡◌, ◌++◌, ◌∷◌, [], ◌∙◌, ap, sym, get_or, take, arith}
use Rattle.std.proofs.lemmas.List.{take_more, take_all}
use Rattle.std.proofs.lemmas.Option.{get_or_from_slice_get}
use Rattle.ip_blocks.specs.declared.block.Block.{Block}
use Rattle.net_layout.proofs.arms.link_blocks.Goals as goal

pub link-requires : goal.link-requires
link-requires c = omega (arith, c.requires.blocks.links)

pub loop-link-preserved : goal.loop-link-preserved
loop-link-preserved c =
    let blocks = c.args.blocks.now.links in
    let i = c.loop-link.link in
    let is : get_or blocks i c.link.result ≡ c.link.result = get_or_from_slice_get blocks i c.link.result c.link.result c.link.ensures in
    c.in_ok-push.ensures.items
    ∙ ap (λ xs. xs ++ c.link.result ∷ []) c.loop-link.invariant
    ∙ ap (λ (b : Block). take i blocks ++ b ∷ []) (sym is)
    ∙ sym (take_more blocks i c.link.result (omega (arith, c.requires.blocks.links)))

pub returns : goal.returns
returns c = c.loop-link.invariant ∙ take_all c.loop-link.link c.args.blocks.now.links (omega (arith, c.requires.blocks.links))
