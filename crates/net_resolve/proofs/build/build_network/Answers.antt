use Rattle.std.proofs.Common.{◌≡◌, Some, Ok, Err, IfOk}
use Rattle.dml_tree.specs.Attributes.{Attributes}
use Rattle.net_graph.specs.declared.rows.Network.{Network}
use Rattle.net_graph.specs.Reads.{Read}
use Rattle.net_graph.specs.Networks.{IsNetwork}
use Rattle.net_graph.specs.NetworkOf.{net_network}
use Rattle.std.proofs.lemmas.Result.{IfOk-at_ok}
use Rattle.network_laws.proofs.Lawful.{net_lawful}
use Rattle.net_resolve.proofs.build.build_network.Goals as goal

if_read : (tree : Attributes) (r : Read Network) → IfOk r (λ network. net_network tree ≡ Ok network) → IfOk r (λ network. IsNetwork network)
if_read tree (Ok network) is = IfOk-at_ok IsNetwork is (net_lawful (Some tree))
if_read tree (Err fault) is = tt

pub returns-clause-lawful : goal.returns-clause-lawful
returns-clause-lawful c = if_read c.in-Some.net.now c.net_network.result c.net_network.ensures.network
