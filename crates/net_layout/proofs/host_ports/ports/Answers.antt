use Rattle.std.proofs.Common.{◌≡◌, ℕ, ◌+◌, ◌-◌, ◌≤◌, ap, ◌∙◌, arith}
use Rattle.std.specs.List.{range_with_len}
use Rattle.net_layout.specs.Arms.{first_interface}
use Rattle.net_layout.specs.Ports.{port_count}
use Rattle.net_layout.proofs.HostPorts.{first_interface_up, range_grown}
use Rattle.net_layout.proofs.host_ports.ports.Goals as goal

pub loop-interface-preserved : goal.loop-interface-preserved
loop-interface-preserved c =
    let first : ℕ = first_interface c.args.network.now c.args.host in
    let from : first ≤ c.loop-interface.interface = omega (arith, c.first_interface-interface.ensures.first, c.loop-interface.auto.interface) in
    c.in_ok-push.ensures.items ∙ range_grown c.loop-interface.ports.items first c.loop-interface.interface from c.loop-interface.invariant

pub returns : goal.returns
returns c =
    let first : ℕ = first_interface c.args.network.now c.args.host in
    let up = first_interface_up c.args.network.now c.args.host (c.args.host + 1) (omega arith) in
    let count : c.loop-interface.interface - first ≡ port_count c.args.network.now c.args.host =
    omega (arith, c.first_interface-interface.ensures.first, c.first_interface-interface-end.ensures.first, c.loop-interface.auto.interface, c.loop-interface.auto.interface-end, c.loop-interface-test.false) in
    c.loop-interface.invariant ∙ ap (range_with_len first) count
