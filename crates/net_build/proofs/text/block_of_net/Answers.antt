use Rattle.std.proofs.Common.{sym, ap, ◌∙◌}
use Rattle.std.proofs.lemmas.Option.{get_or_from_slice_get}
use Rattle.ip_blocks.specs.Blocks.{BlockLists}
use Rattle.ip_blocks.specs.Apart.{no_block}
use Rattle.net_build.specs.PlanText.{net_block}
use Rattle.net_build.proofs.text.block_of_net.Goals as goal

pub returns : goal.returns
returns c =
    sym (get_or_from_slice_get c.args.blocks.now.nets c.args.net c.net.result no_block c.net.ensures)
    ∙ ap (λ (b : BlockLists). net_block b c.args.net) c.requires.blocks.are
