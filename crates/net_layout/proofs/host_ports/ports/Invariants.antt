use Rattle.std.proofs.Common.{◌≡◌, ◌-◌}
use Rattle.std.specs.List.{range_with_len}
use Rattle.net_layout.specs.Arms.{first_interface}
use Rattle.net_layout.proofs.host_ports.ports.Given as goal

abbrev pub invariant-loop-interface : goal.invariant-loop-interface
invariant-loop-interface l = l.ports.items ≡ range_with_len (first_interface l.network l.host) (l.interface - first_interface l.network l.host)
