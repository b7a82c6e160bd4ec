-- What a contract sees of a session: its client or its server.
use Rattle.tcp_rules.specs.Sessions as rules
use Rattle.tcp_session.specs.declared.session.Session.TheInside.{Inside}
use Rattle.tcp_session.specs.declared.session.End.{End}
use Rattle.tcp_session.specs.declared.session.End.TheVariants.{Client, Server}

abbrev pub end_view : End → rules.End
end_view (Client c) = rules.Client c
end_view (Server s) = rules.Server s

abbrev pub session_view : Inside → rules.End
session_view s = end_view s.end
