use Rattle.std.proofs.Common.{◌≡◌, map, take}
use Rattle.host_rules.specs.Hosts.{idle_interface}
use Rattle.host_stack.proofs.state.idle_interfaces.Given as goal

-- the interfaces so far are those of the ports up to here
abbrev pub invariant-loop-port : goal.invariant-loop-port
invariant-loop-port l = l.interfaces.items ≡ map (idle_interface l.frequency) (take l.port-index l.ports)
