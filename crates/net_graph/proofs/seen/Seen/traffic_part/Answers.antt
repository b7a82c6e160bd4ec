use Rattle.std.proofs.Common.{codes}
use Rattle.net_graph.specs.Visits.{pattern_visits}
use Rattle.net_graph.proofs.Walks.{no_list}
use Rattle.net_graph.proofs.seen.Seen.traffic_part.Goals as goal

pub returns-in-None-clause-walked : goal.returns-in-None-clause-walked
returns-in-None-clause-walked c = no_list c.args.frequency c.args.self.now (pattern_visits c.args.net.now) (codes "pattern") c.args.attribute.now c.in-None.ensures
