use Rattle.host_sessions.proofs.Tabling.{fresh_added}
use Rattle.host_sessions.proofs.sessions.Sessions.add.Goals as goal

pub put-requires-clause-fresh : goal.put-requires-clause-fresh
put-requires-clause-fresh c = fresh_added c.args.number c.args.sockets.now c.args.client c.deadline-deadline.result c.args.session c.table_sockets.result c.args.self.now c.table_sockets.ensures c.requires.order
