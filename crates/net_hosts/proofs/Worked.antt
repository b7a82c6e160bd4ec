-- The rows of two hosts and a router between them, where the first host has a client session that goes to the last one.
use Rattle.std.proofs.Common.{◌≡◌, ℕ, false, true, List, [], ◌∷◌, Some, None, refl}
use Rattle.sim_base.specs.declared.records.ClientRow.{ClientRow}
use Rattle.sim_base.specs.declared.records.ServerRow.{ServerRow}
use Rattle.sim_base.specs.declared.records.TcpConfig.{TcpConfig}
use Rattle.ip_blocks.specs.Blocks.{blocks_of, parts_from, exponent_of, sum_in, offset_in, base_within}
use Rattle.net_graph.specs.declared.rows.Network.{Network}
use Rattle.net_graph.specs.declared.rows.HostRow.{HostRow}
use Rattle.net_graph.specs.declared.rows.InterfaceRow.{InterfaceRow}
use Rattle.net_graph.specs.declared.rows.LinkRow.{LinkRow}
use Rattle.net_graph.specs.declared.rows.Down.{Down}
use Rattle.net_graph.specs.declared.rows.SessionKind.TheVariants.{Client, Server}
use Rattle.net_graph.specs.Networks.{no_net}
use Rattle.net_layout.specs.Arms.{first_interface}
use Rattle.net_layout.specs.Addresses.{network_blocks}
use Rattle.net_layout.specs.Wiring.{wires_of_link, wires_of}
use Rattle.net_layout.specs.Ports.{outs_of}
use Rattle.net_layout.specs.Sessions.{clients_of, servers_of, listens_of}
use Rattle.host_rules.specs.declared.rows.HostRows.{HostRows}
use Rattle.net_hosts.specs.HostRowsOf.{host_rows_of}
use Rattle.net_hosts.specs.HostOuts.{host_outs}

abbrev tcp : TcpConfig
tcp = record { iss = 0; mss = 1000; receive = 32; send = 32; tries = 12; msl = 60000000000; frequency = 1000000000 }

abbrev host : HostRow
host = record { net = 0; id = 0; router = false; ospf = false; gateway = None; tcp = tcp }

abbrev interface : ℕ → ℕ → ℕ → ℕ → InterfaceRow
interface host id link place = record { host = host; id = id; bitrate = 8000000; latency = 0; buffer = 1000000; cost = 1; link = Some (link, place) }

abbrev link : ℕ → List ℕ → List Down → LinkRow
link order attached downs = record { net = 0; order = order; delay = 1000000; attached = attached; priority = 0; downs = downs }

abbrev client : ClientRow
client = record { tcp = true; start = 0; window = 0; file = 1500; datagram = 1000; interval = 10000000 }

abbrev server : ServerRow
server = record { client = 0; interface = 3; port = 80 }

abbrev worked : Network
worked = record {
  frequency = 1000000000;
  patterns = 1;
  nets = no_net ∷ [];
  hosts = host ∷ host ∷ host ∷ [];
  interfaces = interface 0 0 0 0 ∷ interface 1 0 0 1 ∷ interface 1 1 1 1 ∷ interface 2 0 1 0 ∷ [];
  links = link 0 (0 ∷ 1 ∷ []) [] ∷ link 1 (3 ∷ 2 ∷ []) (record { from = 5; to = 9 } ∷ []) ∷ [];
  sessions = record { host = 0; kind = Client client } ∷ record { host = 2; kind = Server 80 } ∷ [];
  servers = server ∷ [];
}

-- the first host has 10.0.0.1, and goes to 10.0.0.5
first_worked : ◌≡◌ {A = HostRows} (host_rows_of worked [] 0) (record {
  number = 0;
  ports = record { id = 0; bitrate = 8000000; buffer = 1000000; address = Some 167772161; in_channel = 0; outs = (167772162, 3) ∷ []; downs = [] } ∷ [];
  routes = [];
  clients = client ∷ [];
  servers = server ∷ [];
  addresses = (3, 167772165) ∷ [];
  listens = [];
  tcp = tcp;
  poke_in = 1;
  poke_out = 0;
})
unfolding outs_of wires_of wires_of_link first_interface network_blocks blocks_of parts_from exponent_of sum_in offset_in base_within clients_of servers_of listens_of
first_worked = refl

-- the router has 10.0.0.2 and 10.0.0.6, and the link of its second interface goes down
router_worked : ◌≡◌ {A = HostRows} (host_rows_of worked [] 1) (record {
  number = 1;
  ports =
      record { id = 0; bitrate = 8000000; buffer = 1000000; address = Some 167772162; in_channel = 2; outs = (167772161, 4) ∷ []; downs = [] }
      ∷ record { id = 1; bitrate = 8000000; buffer = 1000000; address = Some 167772166; in_channel = 3; outs = (167772165, 6) ∷ []; downs = (5, 9) ∷ [] }
      ∷ [];
  routes = [];
  clients = [];
  servers = [];
  addresses = [];
  listens = [];
  tcp = tcp;
  poke_in = 4;
  poke_out = 1;
})
unfolding outs_of wires_of wires_of_link first_interface network_blocks blocks_of parts_from exponent_of sum_in offset_in base_within clients_of servers_of listens_of
router_worked = refl

-- it pokes itself by out-channel 1, and sends on 4 and 6
outs_worked : host_outs worked 1 ≡ 1 ∷ 4 ∷ 6 ∷ []
unfolding host_outs wires_of wires_of_link first_interface
outs_worked = refl

listens_worked : listens_of worked 2 ≡ 80 ∷ []
unfolding listens_of
listens_worked = refl
