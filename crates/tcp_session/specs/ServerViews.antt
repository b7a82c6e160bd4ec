-- What a contract sees of a server: the record of its fields.
use Rattle.tcp_rules.specs.Servers.{ServerFields}
use Rattle.tcp_session.specs.declared.server.Server.TheInside.{Inside}

abbrev pub server_view : Inside → ServerFields
server_view s = record {
  config = s.config;
  state = s.state;
  irs = s.irs;
  rcv = s.rcv;
  kept = s.kept;
  fin = s.fin;
  delivered = s.delivered;
  rto = s.rto;
  tries = s.tries;
  deadline = s.deadline;
}
