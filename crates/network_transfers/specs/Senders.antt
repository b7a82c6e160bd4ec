-- The host of an address, and what it sends to a TCP session in a run.
use Rattle.std.specs.Prelude.{ℕ, ◌≡◌, ◌<◌, Bool, List, length, Some, slice_get}
use Rattle.event_order.specs.declared.key.Key.{Key}
use Rattle.event_order.specs.Pending.{Among}
use Rattle.sim_base.specs.SegmentFields.{SegmentFields}
use Rattle.ssf_model.specs.declared.event.Event.{Event}
use Rattle.ssf_model.specs.declared.entity.Entity.{Entity}
use Rattle.ssf_model.specs.declared.plan.Plan.{Plan}
use Rattle.ssf_model.specs.declared.out.Written.{Written}
use Rattle.ssf_model.specs.declared.out.Written.TheVariants.{Channel}
use Rattle.ssf_model.specs.Channels.{delivered_to}
use Rattle.ssf_model.specs.Run.{world_after, run_event}
use Rattle.ip_layer.specs.Packets.{PacketFields}
use Rattle.host_rules.specs.declared.sockets.Sockets.{Sockets}
use Rattle.host_rules.specs.Hosts.{HostFields}
use Rattle.host_rules.specs.Reacting.{host_reaction}
use Rattle.net_graph.specs.declared.rows.Network.{Network}
use Rattle.net_graph.specs.Networks.{interface_at}
use Rattle.net_layout.specs.Addresses.{interface_address}

-- an interface of this host has the address
pub record HasAddress (network : Network) (h address : ℕ) : Type 0 where
  pub interface : ℕ
  pub there : interface < length network.interfaces
  pub own : (interface_at network interface).host ≡ h
  pub at : interface_address network interface ≡ Some address

-- this host has the address, and no other has it
pub record IsHostOf (network : Network) (address h : ℕ) : Type 0 where
  pub has : HasAddress network h address
  pub alone : (g : ℕ) → HasAddress network g address → g ≡ h

-- one of these writes is of a packet from the address and port of a session's peer to its own address and port, with this segment and
-- with the time to live with which packets are made: one that is passed on has a lower one
pub record SendsTo (ends : Sockets) (segment : SegmentFields) (writes : List (Written PacketFields)) : Type 0 where
  pub channel : ℕ
  pub delay : ℕ
  pub packet : PacketFields
  pub written : Among (Channel channel delay packet) writes
  pub made : packet.ttl ≡ 64
  pub source : packet.src ≡ ends.peer
  pub source_port : packet.src_port ≡ ends.peer_port
  pub destination : packet.dst ≡ ends.own
  pub destination_port : packet.dst_port ≡ ends.own_port
  pub brings : packet.segment ≡ Some segment

-- at one of the first n events of a plan's run host number h writes such a packet
pub record HasSent {B : Type 0} (plan : Plan B HostFields PacketFields) (until : ℕ) (kept : Key → Bool) (n h : ℕ) (ends : Sockets) (segment : SegmentFields) : Type 0 where
  pub number : ℕ
  pub before : number < n
  pub event : Event PacketFields
  pub is : run_event host_reaction plan until kept number ≡ Some event
  pub at_host : event.entity ≡ h
  pub host : Entity B HostFields PacketFields
  pub there : slice_get (world_after host_reaction plan until kept number).state.entities h ≡ Some host
  pub sends : SendsTo ends segment (delivered_to host_reaction event host).writes
