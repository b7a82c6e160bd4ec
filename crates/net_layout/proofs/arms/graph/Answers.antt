use Rattle.std.proofs.Common.{◌∙◌}
use Rattle.net_layout.proofs.Graphs.{lawful_from}
use Rattle.net_layout.proofs.arms.graph.Goals as goal

pub returns-clause-lawful : goal.returns-clause-lawful
returns-clause-lawful c =
    lawful_from c.args.network.now c.args.blocks.now c.args.tick c.len-hosts.result c.from_vec.result c.from_vec-2.result c.requires.network c.requires.blocks c.len-hosts.ensures
    (c.from_vec.ensures ∙ c.in_ok-blocks.ensures) (c.from_vec-2.ensures ∙ c.in_ok-arms.ensures)
