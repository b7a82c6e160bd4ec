-- What a contract sees of a client: the record of its fields.
use Rattle.tcp_rules.specs.Clients.{ClientFields}
use Rattle.tcp_session.specs.declared.client.Client.TheInside.{Inside}

abbrev pub client_view : Inside → ClientFields
client_view c = record {
  config = c.config;
  state = c.state;
  una = c.una;
  nxt = c.nxt;
  top = c.top;
  end = c.end;
  rcv = c.rcv;
  peer = c.peer;
  window = c.window;
  rto = c.rto;
  timed = c.timed;
  tries = c.tries;
  duplicates = c.duplicates;
  deadline = c.deadline;
}

abbrev pub client_inside : ClientFields → Inside
client_inside c = record {
  config = c.config;
  state = c.state;
  una = c.una;
  nxt = c.nxt;
  top = c.top;
  end = c.end;
  rcv = c.rcv;
  peer = c.peer;
  window = c.window;
  rto = c.rto;
  timed = c.timed;
  tries = c.tries;
  duplicates = c.duplicates;
  deadline = c.deadline;
}
