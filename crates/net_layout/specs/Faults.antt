-- The first fault that keeps a network from having a plan.
use Rattle.std.specs.Prelude.{ℕ, ◌+◌, ◌*◌, ◌^◌, nat_lt, Bool, false, ◌||◌, length, count_by, Option, Some, None, codes, if◌then◌else◌}
use Rattle.std.specs.List.{list_any}
use Rattle.sim_base.specs.declared.records.ClientRow.{ClientRow}
use Rattle.sim_base.specs.Traffic.{ticks_of}
use Rattle.net_graph.specs.declared.rows.Network.{Network}
use Rattle.net_graph.specs.declared.rows.HostRow.{HostRow}
use Rattle.net_graph.specs.declared.rows.InterfaceRow.{InterfaceRow}
use Rattle.net_graph.specs.declared.rows.SessionRow.{SessionRow}
use Rattle.net_graph.specs.declared.rows.SessionKind.{SessionKind}
use Rattle.net_graph.specs.declared.rows.SessionKind.TheVariants.{Silent, Ospf, Tcp, Client, Server}
use Rattle.net_graph.specs.declared.fault.ShapeFault.{ShapeFault}
use Rattle.net_graph.specs.declared.fault.ShapeFault.TheVariants.{TooMany, NoSpace, DelayTooLong, TooManyChannels}
use Rattle.ssf_model.specs.Reaction.{LongestDelay}
use Rattle.ssf_model.specs.Drafts.{MostChannels}
use Rattle.net_graph.specs.Networks.{numbers, link_at}
use Rattle.net_layout.specs.Periods.{periods_of}
use Rattle.net_layout.specs.Addresses.{addresses_needed}
use Rattle.net_layout.specs.Wiring.{first_channel, wires_of}
use Rattle.net_layout.specs.Sessions.{client_count, server_count}

-- the client sessions of a host times the servers that they go to
unfoldable pub has_many_transfers : Network → Bool
has_many_transfers network = list_any (λ h. nat_lt 50000 (client_count network h * server_count network h)) (numbers (length network.hosts))

-- the hosts with an OSPF session times the links times the periods
unfoldable pub has_many_routes : Network → Bool
has_many_routes network = nat_lt 16777216 (count_by (λ (h : HostRow). h.ospf) network.hosts * length network.links * length (periods_of network))

unfoldable pub has_no_space : Network → Bool
has_no_space network = nat_lt (2 ^ 24) (addresses_needed network)

-- above 10^15 ticks
abbrev pub is_long : ℕ → Bool
is_long ticks = nat_lt LongestDelay ticks

-- the latency of an interface and the delay of the link that attaches it
abbrev pub is_long_way : Network → InterfaceRow → Option (ℕ × ℕ) → Bool
is_long_way network interface None = false
is_long_way network interface (Some at) = is_long (interface.latency + (link_at network at.0).delay)

abbrev pub is_slow : Network → InterfaceRow → Bool
is_slow network interface = is_long_way network interface interface.link || is_long (ticks_of interface.bitrate network.frequency (interface.buffer + 1))

-- the latest start of a client, and its wait between two datagrams
abbrev pub is_late_client : ClientRow → Bool
is_late_client client = is_long (client.start + client.window) || is_long client.interval

abbrev pub is_late_kind : SessionKind → Bool
is_late_kind Silent = false
is_late_kind Ospf = false
is_late_kind Tcp = false
is_late_kind (Client client) = is_late_client client
is_late_kind (Server port) = false

unfoldable pub has_long_delay : Network → Bool
has_long_delay network =
    list_any (is_slow network) network.interfaces
    || list_any (λ (s : SessionRow). is_late_kind s.kind) network.sessions
    || list_any (λ (h : HostRow). is_long (2 * h.tcp.msl)) network.hosts

-- start, timer and mapping channels together
unfoldable pub has_many_channels : Network → Bool
has_many_channels network = nat_lt MostChannels (first_channel network + length (wires_of network))

abbrev pub first_fault : Network → Option ShapeFault
first_fault network =
    if has_many_transfers network then Some (TooMany (codes "transfers"))
    else if has_many_routes network then Some (TooMany (codes "routes"))
    else if has_no_space network then Some NoSpace
    else if has_long_delay network then Some DelayTooLong
    else if has_many_channels network then Some TooManyChannels
    else None
