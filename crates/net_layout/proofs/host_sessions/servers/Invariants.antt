use Rattle.std.proofs.Common.{length, take}
use Rattle.net_layout.specs.Gathered.{AreGathered}
use Rattle.net_layout.proofs.HostSessions.{servers_in}
use Rattle.net_layout.proofs.host_sessions.servers.Given as goal

abbrev pub invariant-loop-server : goal.invariant-loop-server
invariant-loop-server l = AreGathered servers_in (length l.network.hosts) (take l.server-index l.network.servers) l.servers.items
