-- The sessions of each host and the servers that its client sessions go to; its timed processes and their channels.
use Rattle.std.specs.Prelude.{ℕ, ◌+◌, ◌==◌, Bool, true, false, ◌&&◌, List, ◌∷◌, ◌++◌, length, map, filter, sum_by, count_by, replicate, Option, Some, None, if◌then◌else◌}
use Rattle.std.specs.Option.{unwrap_or}
use Rattle.std.specs.List.{filter_map, range_with_len}
use Rattle.sim_base.specs.declared.records.ServerRow.{ServerRow}
use Rattle.sim_base.specs.declared.records.ClientRow.{ClientRow}
use Rattle.net_graph.specs.declared.rows.Network.{Network}
use Rattle.net_graph.specs.declared.rows.SessionRow.{SessionRow}
use Rattle.net_graph.specs.declared.rows.SessionKind.{SessionKind}
use Rattle.net_graph.specs.declared.rows.SessionKind.TheVariants.{Silent, Ospf, Tcp, Client, Server}
use Rattle.net_graph.specs.Networks.{numbers}
use Rattle.net_layout.specs.Addresses.{interface_address}
use Rattle.net_layout.specs.Wiring.{is_client}
use Rattle.net_layout.specs.Ports.{port_count}

-- what a session has where it is a client, and where it is a server
abbrev pub client_in : SessionKind → Option ClientRow
client_in Silent = None
client_in Ospf = None
client_in Tcp = None
client_in (Client client) = Some client
client_in (Server port) = None

abbrev pub port_in : SessionKind → Option ℕ
port_in Silent = None
port_in Ospf = None
port_in Tcp = None
port_in (Client client) = None
port_in (Server port) = Some port

abbrev pub client_of : ℕ → SessionRow → Option ClientRow
client_of h session = if session.host == h then client_in session.kind else None

abbrev pub port_of : ℕ → SessionRow → Option ℕ
port_of h session = if session.host == h then port_in session.kind else None

-- the client sessions of a host, in order
unfoldable pub clients_of : Network → ℕ → List ClientRow
clients_of network h = filter_map (client_of h) network.sessions

-- the ports on which a host serves, in order
unfoldable pub listens_of : Network → ℕ → List ℕ
listens_of network h = filter_map (port_of h) network.sessions

-- the servers of the patterns whose client is a host, in order
unfoldable pub servers_of : Network → ℕ → List ServerRow
servers_of network h = filter (λ (s : ServerRow). s.client == h) network.servers

-- the interface of each of these servers, and its address
abbrev pub server_address : Network → ServerRow → (ℕ × ℕ)
server_address network server = (server.interface, unwrap_or (interface_address network server.interface) 0)

abbrev pub server_addresses : Network → ℕ → List (ℕ × ℕ)
server_addresses network h = map (server_address network) (servers_of network h)

-- how many they are
abbrev pub client_count : Network → ℕ → ℕ
client_count network h = count_by (λ (s : SessionRow). is_client s && s.host == h) network.sessions

abbrev pub server_count : Network → ℕ → ℕ
server_count network h = count_by (λ (s : ServerRow). s.client == h) network.servers

-- of each process of a host, whether it is timed: its receivers are not, its clock and its client sessions are
abbrev pub timed_of : Network → ℕ → List Bool
timed_of network h = replicate (port_count network h) false ++ true ∷ replicate (client_count network h) true

-- how many timer channels a host has, one for its clock and one for each client session
abbrev pub timer_count : Network → ℕ → ℕ
timer_count network h = 1 + client_count network h

-- the first timer channel of a host, behind the start channels and the timer channels of the hosts before it
unfoldable pub first_timer : Network → ℕ → ℕ
first_timer network h = length network.hosts + sum_by (timer_count network) (numbers h)

-- the timer channels of a host: that of its clock, and then those of its client sessions
abbrev pub timers_of : Network → ℕ → List ℕ
timers_of network h = range_with_len (first_timer network h) (timer_count network h)
