use Rattle.std.proofs.Common.{length, take}
use Rattle.net_layout.specs.Gathered.{AreGathered}
use Rattle.net_layout.specs.Sessions.{client_in}
use Rattle.net_layout.proofs.HostSessions.{of_host}
use Rattle.net_layout.proofs.host_sessions.clients.Given as goal

abbrev pub invariant-loop-session : goal.invariant-loop-session
invariant-loop-session l = AreGathered (of_host client_in) (length l.network.hosts) (take l.session-index l.network.sessions) l.clients.items
