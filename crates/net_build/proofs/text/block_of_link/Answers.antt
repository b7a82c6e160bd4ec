use Rattle.std.proofs.Common.{sym, ap, ◌∙◌}
use Rattle.std.proofs.lemmas.Option.{get_or_from_slice_get}
use Rattle.ip_blocks.specs.Blocks.{BlockLists}
use Rattle.ip_blocks.specs.Apart.{no_block}
use Rattle.ip_blocks.specs.Apart.{link_block}
use Rattle.net_build.proofs.text.block_of_link.Goals as goal

pub returns : goal.returns
returns c =
    sym (get_or_from_slice_get c.args.blocks.now.links c.args.link c.link.result no_block c.link.ensures)
    ∙ ap (λ (b : BlockLists). link_block b c.args.link) c.requires.blocks.are
