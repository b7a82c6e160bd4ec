-- The rows of each host of a network.
use Rattle.std.specs.Prelude.{ℕ, ◌≡◌, List, [], length, map, slice_index_or}
use Rattle.spf_routes.specs.declared.graph.Period.{Period}
use Rattle.net_graph.specs.declared.rows.Network.{Network}
use Rattle.net_graph.specs.Networks.{numbers, host_at, interface_at}
use Rattle.net_layout.specs.Addresses.{interface_address}
use Rattle.net_layout.specs.Wiring.{in_channel, poke_channel}
use Rattle.net_layout.specs.Ports.{ports_of, outs_of, downs_of}
use Rattle.net_layout.specs.Sessions.{clients_of, servers_of, server_addresses, listens_of}
use Rattle.net_layout.specs.HostRoutes.{AreTables}
use Rattle.host_rules.specs.declared.rows.HostPort.{HostPort}
use Rattle.host_rules.specs.declared.rows.HostRows.{HostRows}

-- an interface as its host sees it
abbrev pub port_row : Network → ℕ → HostPort
port_row network i = record {
  id = (interface_at network i).id;
  bitrate = (interface_at network i).bitrate;
  buffer = (interface_at network i).buffer;
  address = interface_address network i;
  in_channel = in_channel network i;
  outs = outs_of network i;
  downs = downs_of network i;
}

-- the rows of a host, of which these are the periods of each host. It is poked by the out-channel of its own number
abbrev pub host_rows_of : Network → List (List Period) → ℕ → HostRows
host_rows_of network tables h = record {
  number = h;
  ports = map (port_row network) (ports_of network h);
  routes = slice_index_or tables h [];
  clients = clients_of network h;
  servers = servers_of network h;
  addresses = server_addresses network h;
  listens = listens_of network h;
  tcp = (host_at network h).tcp;
  poke_in = poke_channel network h;
  poke_out = h;
}

-- the rows of all hosts, in their order
pub record AreHostRows (network : Network) (rows : List HostRows) : Type 0 where
  pub tables : List (List Period)
  pub routes : AreTables network tables
  pub each : rows ≡ map (host_rows_of network tables) (numbers (length network.hosts))
