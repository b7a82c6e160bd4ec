-- Lists that are moved out one by one, the first ones first.
use Rattle.std.specs.Prelude.{ℕ, ◌≡◌, ◌<◌, ◌≤◌, List, [], length, slice_index_or}
use Rattle.net_graph.specs.declared.rows.Network.{Network}
use Rattle.net_layout.specs.Arms.{first_interface}
use Rattle.net_layout.specs.Ports.{outs_of}
use Rattle.net_layout.specs.Sessions.{clients_of, servers_of, listens_of}
use Rattle.net_hosts.specs.declared.parts.Parts.{Parts}

-- of these n lists those from a number on are still there
pub record AreLeft {T : Type 0} (list_of : ℕ → List T) (from n : ℕ) (lists : List (List T)) : Type 0 where
  pub as_many : length lists ≡ n
  pub each : (k : ℕ) → from ≤ k → k < n → slice_index_or lists k [] ≡ list_of k

-- what belongs to the hosts from a number on is still there
pub record HasParts (network : Network) (h : ℕ) (parts : Parts) : Type 0 where
  pub outs : AreLeft (outs_of network) (first_interface network h) (length network.interfaces) parts.outs
  pub clients : AreLeft (clients_of network) h (length network.hosts) parts.clients
  pub servers : AreLeft (servers_of network) h (length network.hosts) parts.servers
  pub listens : AreLeft (listens_of network) h (length network.hosts) parts.listens
  pub tables : length parts.tables ≡ length network.hosts
