-- A network from the rows of its Nets and from its other parts.
use Rattle.std.specs.Prelude.{ℕ, List}
use Rattle.net_graph.specs.declared.rows.NetRow.{NetRow}
use Rattle.net_graph.specs.declared.rows.Network.{Network}
use Rattle.net_resolve.specs.declared.build.Parts.{Parts}

abbrev pub network_with : ℕ → List NetRow → Parts → Network
network_with frequency nets parts = record {
  frequency = frequency;
  patterns = parts.patterns;
  nets = nets;
  hosts = parts.hosts;
  interfaces = parts.interfaces;
  links = parts.links;
  sessions = parts.sessions;
  servers = parts.servers;
}
