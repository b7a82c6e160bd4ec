-- What the hosts of a run send to a TCP session.
use Rattle.std.specs.Prelude.{ℕ, zero, suc, ◌≡◌, Bool, ◌&&◌, cond, nat_eq, List, [], ◌++◌, Option, Some, None, slice_get, option_to_list}
use Rattle.std.specs.List.{flat_map}
use Rattle.event_order.specs.declared.key.Key.{Key}
use Rattle.event_order.specs.Pending.{Among}
use Rattle.sim_base.specs.SegmentFields.{SegmentFields}
use Rattle.ssf_model.specs.declared.event.Event.{Event}
use Rattle.ssf_model.specs.declared.entity.Entity.{Entity}
use Rattle.ssf_model.specs.declared.plan.Plan.{Plan}
use Rattle.ssf_model.specs.declared.wait.Kind.{Kind}
use Rattle.ssf_model.specs.declared.wait.Kind.TheVariants.{Begin, Timer, Message}
use Rattle.ssf_model.specs.declared.out.Written.{Written}
use Rattle.ssf_model.specs.declared.out.Written.TheVariants.{Channel, Timer as TimerWrite}
use Rattle.ssf_model.specs.Reaction.{Each}
use Rattle.ssf_model.specs.Channels.{delivered_to}
use Rattle.ssf_model.specs.Run.{world_after, run_event}
use Rattle.ip_layer.specs.Packets.{PacketFields}
use Rattle.ip_layer.specs.Forwarding.{has_address}
use Rattle.tcp_rules.specs.Servers.{ServerFields}
use Rattle.tcp_rules.specs.Sessions.{Server}
use Rattle.host_rules.specs.declared.sockets.Sockets.{Sockets}
use Rattle.host_rules.specs.Hosts.{EntryFields, HostFields}
use Rattle.host_rules.specs.Sending.{own_addresses}
use Rattle.host_rules.specs.Reacting.{host_reaction}

-- a packet goes from the peer's address and port to the session's own, and has the time to live with which it was made
abbrev pub goes_to : Sockets → PacketFields → Bool
goes_to ends packet = nat_eq packet.ttl 64 && (nat_eq ends.own packet.dst && (nat_eq ends.own_port packet.dst_port && (nat_eq ends.peer packet.src && nat_eq ends.peer_port packet.src_port)))

-- the segment that a write brings to the session between these ends
abbrev pub segment_for : Sockets → Written PacketFields → List SegmentFields
segment_for ends (Channel channel delay packet) = cond (goes_to ends packet) (option_to_list packet.segment) []
segment_for ends (TimerWrite process delay ticket) = []

abbrev pub IsNoMessage : Kind PacketFields → Type 0
IsNoMessage Begin = Unit {0}
IsNoMessage (Timer process ticket) = Unit {0}
IsNoMessage (Message channel packet) = ⊥

module _ {B : Type 0} where
  -- the segments that this host makes and sends to it at an event, if the peer's address is one of the host's own
  abbrev pub segments_from : Sockets → Event PacketFields → Entity B HostFields PacketFields → List SegmentFields
  segments_from ends e host =
      cond (has_address (own_addresses host.state.rows) ends.peer) (flat_map (segment_for ends) (delivered_to host_reaction e host).writes) []

  abbrev pub segments_from_one : Sockets → Event PacketFields → Option (Entity B HostFields PacketFields) → List SegmentFields
  segments_from_one ends e None = []
  segments_from_one ends e (Some host) = segments_from ends e host

  abbrev pub segments_at : Sockets → Option (Event PacketFields) → List (Entity B HostFields PacketFields) → List SegmentFields
  segments_at ends None hosts = []
  segments_at ends (Some e) hosts = segments_from_one ends e (slice_get hosts e.entity)

  -- all segments that the host of the peer's address sent to it at the first n events of a plan's run, in order
  abbrev pub segments_sent : Plan B HostFields PacketFields → ℕ → (Key → Bool) → Sockets → ℕ → List SegmentFields
  segments_sent plan until kept ends zero = []
  segments_sent plan until kept ends (suc n) =
      segments_sent plan until kept ends n
      ++ segments_at ends (run_event host_reaction plan until kept n) (world_after host_reaction plan until kept n).state.entities

  -- a plan in which nothing has begun: no host has a session, and no packet is under way
  pub record IsFresh (plan : Plan B HostFields PacketFields) : Type 0 where
    pub sessions : Each (λ (host : Entity B HostFields PacketFields). host.state.stack.sessions ≡ []) plan.entities
    pub events : Each (λ (e : Event PacketFields). IsNoMessage e.kind) plan.events

  -- after n events of the run some host has this session, and it is a server's
  pub record IsServing (plan : Plan B HostFields PacketFields) (until : ℕ) (kept : Key → Bool) (n : ℕ) (x : EntryFields) (server : ServerFields) : Type 0 where
    pub number : ℕ
    pub host : Entity B HostFields PacketFields
    pub at : slice_get (world_after host_reaction plan until kept n).state.entities number ≡ Some host
    pub among : Among x host.state.stack.sessions
    pub session : x.session ≡ Server server
