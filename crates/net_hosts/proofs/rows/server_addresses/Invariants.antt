use Rattle.std.proofs.Common.{◌≡◌, map, take}
use Rattle.net_layout.specs.Sessions.{server_address}
use Rattle.net_hosts.proofs.rows.server_addresses.Given as goal

abbrev pub invariant-loop-server : goal.invariant-loop-server
invariant-loop-server l = l.addresses.items ≡ map (server_address l.network) (take l.server-index l.servers)
