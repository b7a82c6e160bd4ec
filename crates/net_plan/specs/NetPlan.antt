-- The plan of a network with the names and Nets of its hosts.
use Rattle.std.specs.Prelude.{ℕ, ◌≡◌, List, length, map, take}
use Rattle.spf_routes.specs.declared.graph.Period.{Period}
use Rattle.ip_layer.specs.Packets.{PacketFields}
use Rattle.ssf_model.specs.Drafts.{Draft}
use Rattle.net_graph.specs.declared.rows.Network.{Network}
use Rattle.net_graph.specs.declared.rows.HostRow.{HostRow}
use Rattle.net_graph.specs.Networks.{numbers}
use Rattle.net_layout.specs.Wiring.{wires_of}
use Rattle.net_layout.specs.HostRoutes.{AreTables}
use Rattle.net_build.specs.declared.built.Built.{Built}
use Rattle.net_build.specs.PlanText.{host_text}
use Rattle.host_rules.specs.declared.rows.HostRows.{HostRows}
use Rattle.host_rules.specs.Hosts.{HostFields}
use Rattle.host_stack.specs.declared.host.Host.{Host}
use Rattle.net_hosts.specs.HostRowsOf.{host_rows_of}
use Rattle.net_plan.specs.NetDraft.{draft_of, IsNetBuilt}

abbrev pub names_of : Network → List (List ℕ)
names_of network = map (host_text network) (numbers (length network.hosts))

abbrev pub net_in : HostRow → ℕ
net_in host = host.net

abbrev pub nets_of : Network → List ℕ
nets_of network = map net_in network.hosts

-- the plan of a network, with the printed name and the innermost Net of each host
pub record IsPlanOf (network : Network) (built : Built Host HostFields PacketFields) : Type 0 where
  pub plan : IsNetBuilt (record {}) network built.plan
  pub names : built.names.names ≡ names_of network
  pub nets : built.nets ≡ nets_of network

-- the rows of a host
pub record AreRowsOf (network : Network) (h : ℕ) (rows : HostRows) : Type 0 where
  pub tables : List (List Period)
  pub routes : AreTables network tables
  pub own : rows ≡ host_rows_of network tables h

-- the draft of the plan, of which so many hosts and wires were made
pub record IsSoFar (network : Network) (hosts wires : ℕ) (d : Draft Host HostFields) : Type 0 where
  pub tables : List (List Period)
  pub routes : AreTables network tables
  pub draft : d ≡ draft_of (record {}) network tables hosts (take wires (wires_of network))
