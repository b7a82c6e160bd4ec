use Rattle.net_layout.proofs.Keeping.{links_same, graph_same}
use Rattle.net_layout.proofs.laws.links_keep_within_a_period.Goals as goal

pub returns-clause-links : goal.returns-clause-links
returns-clause-links c = λ network begin tick le. links_same begin tick le network

pub returns-clause-graph : goal.returns-clause-graph
returns-clause-graph c = λ network begin tick le. graph_same begin tick le network
