use Rattle.std.proofs.Common.{◌≡◌, ◌-◌, length, map}
use Rattle.std.specs.List.{range_with_len}
use Rattle.net_layout.specs.Arms.{first_interface}
use Rattle.net_layout.specs.Ports.{outs_of}
use Rattle.net_hosts.specs.HostRowsOf.{port_row}
use Rattle.net_hosts.specs.Left.{AreLeft}
use Rattle.net_hosts.proofs.rows.take_ports.Given as goal

abbrev pub invariant-loop-interface : goal.invariant-loop-interface
invariant-loop-interface l = record {
  ports : l.ports.items ≡ map (port_row l.network) (range_with_len (first_interface l.network l.host) (l.interface - first_interface l.network l.host));
  outs : AreLeft (outs_of l.network) l.interface (length l.network.interfaces) l.outs;
}
