use Rattle.std.proofs.Common.{codes}
use Rattle.net_graph.specs.Visits.{session_visits}
use Rattle.net_graph.proofs.Walks.{no_list}
use Rattle.net_graph.proofs.seen.Seen.graph_part.Goals as goal

pub returns-in-None-clause-walked : goal.returns-in-None-clause-walked
returns-in-None-clause-walked c = no_list c.args.frequency c.args.self.now (session_visits c.args.frequency) (codes "ProtocolSession") c.args.attribute.now c.in-None.ensures
