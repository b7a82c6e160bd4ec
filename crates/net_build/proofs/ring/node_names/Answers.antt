use Rattle.std.proofs.Common.{decimal, arith}
use Rattle.std.proofs.lemmas.Grind.{common_steps}
use Rattle.std.proofs.lemmas.List.FromFn.{map-range_with_len_more}
use Rattle.net_build.proofs.ring.node_names.Goals as goal

pub loop-node-preserved : goal.loop-node-preserved
loop-node-preserved c = grind (arith, common_steps, map-range_with_len_more decimal 0 c.loop-node.node c.loop-node.node (omega arith))
