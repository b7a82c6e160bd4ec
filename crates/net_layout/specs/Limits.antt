-- What a network keeps where nothing keeps it from having a plan.
use Rattle.std.specs.Prelude.{ℕ, ◌≡◌, ◌+◌, ◌*◌, ◌^◌, ◌<◌, ◌≤◌, length, All, Some}
use Rattle.sim_base.specs.declared.records.ClientRow.{ClientRow}
use Rattle.sim_base.specs.Traffic.{IsClient}
use Rattle.net_iface.specs.InterfaceFields.{IsRated}
use Rattle.ssf_model.specs.Reaction.{LongestDelay}
use Rattle.ssf_model.specs.Drafts.{MostChannels}
use Rattle.net_graph.specs.declared.rows.Network.{Network}
use Rattle.net_graph.specs.declared.rows.HostRow.{HostRow}
use Rattle.net_graph.specs.declared.rows.InterfaceRow.{InterfaceRow}
use Rattle.net_layout.specs.Addresses.{addresses_needed, interface_address}
use Rattle.net_layout.specs.Wiring.{first_channel, wires_of}
use Rattle.net_layout.specs.Sessions.{clients_of, servers_of}
use Rattle.net_layout.specs.declared.wiring.Wire.{Wire}

-- a client session that starts within 10^15 ticks, and waits no longer between two datagrams
pub record IsPromptClient (client : ClientRow) : Type 0 where
  pub ranges : IsClient client
  pub start : client.start + client.window ≤ LongestDelay
  pub interval : client.interval ≤ LongestDelay

-- a mapping's channel has a delay of at most 10^15 ticks
abbrev pub IsPromptWire : Wire → Type 0
IsPromptWire wire = wire.latency + wire.delay ≤ LongestDelay

pub record KeepsLimits (network : Network) : Type 0 where
  pub transfers : (h : ℕ) → h < length network.hosts → length (clients_of network h) * length (servers_of network h) ≤ 50000
  pub addresses : addresses_needed network ≤ 2 ^ 24
  pub rates : All (λ (i : InterfaceRow). IsRated i.bitrate network.frequency i.buffer) network.interfaces
  pub clients : (h : ℕ) → All IsPromptClient (clients_of network h)
  pub lifetimes : All (λ (host : HostRow). 2 * host.tcp.msl ≤ LongestDelay) network.hosts
  pub wires : All IsPromptWire (wires_of network)
  pub channels : first_channel network + length (wires_of network) ≤ MostChannels

-- two interfaces with the same address are one, and no address is 0
pub record HasDistinctAddresses (network : Network) : Type 0 where
  pub differ : (i j address : ℕ) → i < length network.interfaces → j < length network.interfaces → interface_address network i ≡ Some address → interface_address network j ≡ Some address → i ≡ j
  pub above_zero : (i address : ℕ) → interface_address network i ≡ Some address → 1 ≤ address
