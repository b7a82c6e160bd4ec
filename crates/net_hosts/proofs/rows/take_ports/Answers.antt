use Rattle.std.proofs.Common.{◌≡◌, ℕ, ◌+◌, ◌≤◌, length, subst, arith}
use Rattle.net_layout.specs.Arms.{first_interface}
use Rattle.net_layout.specs.Ports.{outs_of}
use Rattle.net_layout.proofs.HostPorts.{first_interface_up}
use Rattle.net_hosts.specs.HostRowsOf.{port_row}
use Rattle.net_hosts.specs.Left.{AreLeft}
use Rattle.net_hosts.proofs.Moving.{left_moved, ports_more, ports_all}
use Rattle.net_hosts.proofs.rows.take_ports.Goals as goal

pub loop-interface-preserved : goal.loop-interface-preserved
loop-interface-preserved c =
    let network = c.args.network.now in
    let i : ℕ = c.loop-interface.interface in
    let first : ℕ = first_interface network c.args.host in
    let from : first ≤ i = omega (arith, c.first_interface-interface.ensures.first, c.loop-interface.auto.interface) in
    record {
      ports = ports_more (port_row network) c.loop-interface.ports.items c.push.new.self.items c.in_ok-port_row.field-0 first i from c.loop-interface.invariant.ports c.in_ok-port_row.ensures c.in_ok-push.ensures.items;
      outs = left_moved (outs_of network) i (length network.interfaces) c.loop-interface.outs c.take_list-own.new.lists c.loop-interface.invariant.outs c.take_list-own.ensures.rest;
    }

pub returns-clause-ports : goal.returns-clause-ports
returns-clause-ports c =
    let network = c.args.network.now in
    let up = first_interface_up network c.args.host (c.args.host + 1) (omega arith) in
    let end : c.loop-interface.interface ≡ first_interface network (c.args.host + 1) =
    omega (arith, c.first_interface-interface.ensures.first, c.first_interface-interface-end.ensures.first, c.loop-interface.auto.interface, c.loop-interface.auto.interface-end, c.loop-interface-test.false) in
    ports_all network (port_row network) c.loop-interface.ports.items c.args.host c.loop-interface.interface end c.loop-interface.invariant.ports

pub returns-clause-outs : goal.returns-clause-outs
returns-clause-outs c =
    let network = c.args.network.now in
    let up = first_interface_up network c.args.host (c.args.host + 1) (omega arith) in
    let end : c.loop-interface.interface ≡ first_interface network (c.args.host + 1) =
    omega (arith, c.first_interface-interface.ensures.first, c.first_interface-interface-end.ensures.first, c.loop-interface.auto.interface, c.loop-interface.auto.interface-end, c.loop-interface-test.false) in
    subst (λ n. AreLeft (outs_of network) n (length network.interfaces) c.loop-interface.outs) end c.loop-interface.invariant.outs
