-- The plan of a network as a draft: its hosts with their in-channels come first, host by host, and then for each wire its
-- out-channel and its mapping.
use Rattle.std.specs.Prelude.{ℕ, zero, suc, ◌≡◌, List, length, map}
use Rattle.spf_routes.specs.declared.graph.Period.{Period}
use Rattle.ssf_model.specs.declared.builder.DraftEntity.{DraftEntity}
use Rattle.ssf_model.specs.declared.builder.OutChannel.{OutChannel}
use Rattle.ssf_model.specs.declared.plan.Plan.{Plan}
use Rattle.ssf_model.specs.Drafts.{Draft, with_entity, with_in_channel, with_out_channel, with_mapping, planned}
use Rattle.net_graph.specs.declared.rows.Network.{Network}
use Rattle.net_graph.specs.Networks.{numbers}
use Rattle.net_layout.specs.declared.wiring.Wire.{Wire}
use Rattle.net_layout.specs.Wiring.{wires_of, mappings_from}
use Rattle.net_layout.specs.Ports.{ins_of, owners_before}
use Rattle.net_layout.specs.Sessions.{timed_of}
use Rattle.net_layout.specs.HostRoutes.{AreTables}
use Rattle.host_rules.specs.Hosts.{HostFields, first_host}
use Rattle.net_hosts.specs.HostRowsOf.{host_rows_of}
use Rattle.net_hosts.specs.HostOuts.{outs_in}

-- a host before its first event, of which these are the periods of each host
abbrev pub host_state : Network → List (List Period) → ℕ → HostFields
host_state network tables h = first_host (host_rows_of network tables h)

-- a host as an entity, with its in-channels, and with its out-channels among these wires
abbrev pub host_entity : Network → List (List Period) → List Wire → ℕ → DraftEntity HostFields
host_entity network tables wires h = record {
  state = host_state network tables h;
  timed = timed_of network h;
  in_channels = ins_of network h;
  out_channels = outs_in wires h;
}

-- the out-channel of a wire is its sender's, with the latency of the sending interface
abbrev pub out_channel_of : Wire → OutChannel
out_channel_of wire = record { entity = wire.from; delay = wire.latency }

-- the draft of so many hosts, and of these wires; each mapping has its place as its channel until the plan is finished
abbrev pub draft_of : {B : Type 0} → B → Network → List (List Period) → (hosts : ℕ) → List Wire → Draft B HostFields
draft_of behaviour network tables hosts wires = record {
  behaviour = behaviour;
  entities = map (host_entity network tables wires) (numbers hosts);
  in_owners = owners_before network hosts;
  outs = map out_channel_of wires;
  mappings = mappings_from 0 0 wires;
}

-- the draft of all hosts and all wires of a network
unfoldable pub net_draft : {B : Type 0} → B → Network → List (List Period) → Draft B HostFields
net_draft behaviour network tables = draft_of behaviour network tables (length network.hosts) (wires_of network)

-- so many in-channels more of an entity
abbrev pub with_ins : {B S : Type 0} → Draft B S → ℕ → ℕ → Draft B S
with_ins d entity zero = d
with_ins d entity (suc n) = with_in_channel (with_ins d entity n) entity

-- the next host, as yet without a channel
abbrev pub with_host : {B : Type 0} → Draft B HostFields → Network → List (List Period) → ℕ → Draft B HostFields
with_host d network tables h = with_entity d (host_state network tables h) (timed_of network h)

-- the out-channel of the next wire, and then its mapping: the wire's number is that of its out-channel
abbrev pub with_out : {B S : Type 0} → Draft B S → Wire → Draft B S
with_out d wire = with_out_channel d wire.from wire.latency

abbrev pub with_wire : {B S : Type 0} → Draft B S → ℕ → Wire → Draft B S
with_wire d number wire = with_mapping (with_out d wire) number wire.in_channel wire.delay wire.priority

-- the plan of a network, by the routes of each host in each period
pub record IsNetBuilt {B P : Type 0} (behaviour : B) (network : Network) (plan : Plan B HostFields P) : Type 0 where
  pub tables : List (List Period)
  pub routes : AreTables network tables
  pub plan_is : plan ≡ planned (net_draft behaviour network tables)
