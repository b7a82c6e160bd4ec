use Rattle.std.proofs.Common.{◌≡◌, ◌++◌, Some, refl, sym, ap, subst, arith, append-nil}
use Rattle.std.specs.Prelude.{OnOk, IfOk, slice_get}
use Rattle.std.proofs.lemmas.List.{get_or_read}
use Rattle.std.proofs.lemmas.Result.{on_ok_weaker}
use Rattle.ssf_model.specs.declared.wait.Wait.TheVariants.{Forever}
use Rattle.ssf_model.specs.Reaction.{Outcome}
use Rattle.ip_layer.specs.Packets.{PacketFields}
use Rattle.host_rules.specs.Hosts.{HostFields, Stack}
use Rattle.host_rules.specs.Reacting.{roles}
use Rattle.host_roles.specs.declared.roles.Process.{Process}
use Rattle.host_roles.specs.Processes.{IsRoleOf}
use Rattle.host_stack.specs.contracts.state.HostState.{the_view}
use Rattle.host_stack.proofs.Valid.{row_within}
use Rattle.host_stack.proofs.RoleCases.{none_does, clock_does, receiver_does, client_does}
use Rattle.host_stack.proofs.state.HostState.act.Goals as goal

pub index-start-requires : goal.index-start-requires
index-start-requires c =
    let within = row_within c.self.inside.site c.in-Client.client c.in-Some-client.row.now (sym c.in-Some-client.ensures) in
    let are = c.self.invariant.starts_are in
    omega (arith, within, are)

pub returns-in_default-clause-state : goal.returns-in_default-clause-state
returns-in_default-clause-state c = rw (← c.self.view_is) (none_does (λ (o : Outcome HostFields PacketFields). the_view c.self.inside ≡ o.state) (the_view c.self.inside) c.args.process c.args.now c.args.wake.now c.in_default.ensures refl)

pub returns-in_default-clause-wait : goal.returns-in_default-clause-wait
returns-in_default-clause-wait c = rw (← c.self.view_is) (none_does (λ (o : Outcome HostFields PacketFields). Forever ≡ o.wait) (the_view c.self.inside) c.args.process c.args.now c.args.wake.now c.in_default.ensures refl)

pub returns-in_default-clause-writes : goal.returns-in_default-clause-writes
returns-in_default-clause-writes c = rw (← c.self.view_is) (none_does (λ (o : Outcome HostFields PacketFields). c.args.out.now.writes ≡ c.args.out.now.writes ++ o.writes) (the_view c.self.inside) c.args.process c.args.now c.args.wake.now c.in_default.ensures (sym (append-nil c.args.out.now.writes)))

pub returns-in_default-clause-lines : goal.returns-in_default-clause-lines
returns-in_default-clause-lines c = rw (← c.self.view_is) (none_does (λ (o : Outcome HostFields PacketFields). c.args.out.now.lines ≡ c.args.out.now.lines ++ o.lines) (the_view c.self.inside) c.args.process c.args.now c.args.wake.now c.in_default.ensures (sym (append-nil c.args.out.now.lines)))

pub returns-in-Clock-clause-state : goal.returns-in-Clock-clause-state
returns-in-Clock-clause-state c =
    rw (← c.self.view_is)
    (clock_does (λ (o : Outcome HostFields PacketFields). OnOk c.keep_time.result (record (the_view c.self.inside) { stack = c.keep_time.new.self } ≡ o.state)) (the_view c.self.inside) c.args.process c.args.now c.args.wake.now
    (subst (λ (p : Process). IsRoleOf c.self.inside.site (Some p) (slice_get (roles c.self.inside.site) c.args.process)) c.in-Clock.is c.in-Some.ensures) (on_ok_weaker c.keep_time.result (λ e. ap (λ (t : Stack). record (the_view c.self.inside) { stack = t }) e) c.keep_time.ensures.stack))

pub returns-in-Clock-clause-wait : goal.returns-in-Clock-clause-wait
returns-in-Clock-clause-wait c =
    rw (← c.self.view_is)
    (clock_does (λ (o : Outcome HostFields PacketFields). IfOk c.keep_time.result (λ wait. wait ≡ o.wait)) (the_view c.self.inside) c.args.process c.args.now c.args.wake.now
    (subst (λ (p : Process). IsRoleOf c.self.inside.site (Some p) (slice_get (roles c.self.inside.site) c.args.process)) c.in-Clock.is c.in-Some.ensures) c.keep_time.ensures.wait)

pub returns-in-Clock-clause-writes : goal.returns-in-Clock-clause-writes
returns-in-Clock-clause-writes c =
    rw (← c.self.view_is)
    (clock_does (λ (o : Outcome HostFields PacketFields). OnOk c.keep_time.result (c.keep_time.new.out.writes ≡ c.args.out.now.writes ++ o.writes)) (the_view c.self.inside) c.args.process c.args.now c.args.wake.now
    (subst (λ (p : Process). IsRoleOf c.self.inside.site (Some p) (slice_get (roles c.self.inside.site) c.args.process)) c.in-Clock.is c.in-Some.ensures) c.keep_time.ensures.writes)

pub returns-in-Clock-clause-lines : goal.returns-in-Clock-clause-lines
returns-in-Clock-clause-lines c =
    rw (← c.self.view_is)
    (clock_does (λ (o : Outcome HostFields PacketFields). OnOk c.keep_time.result (c.keep_time.new.out.lines ≡ c.args.out.now.lines ++ o.lines)) (the_view c.self.inside) c.args.process c.args.now c.args.wake.now
    (subst (λ (p : Process). IsRoleOf c.self.inside.site (Some p) (slice_get (roles c.self.inside.site) c.args.process)) c.in-Clock.is c.in-Some.ensures) c.keep_time.ensures.lines)

pub returns-in-Some-port-clause-state : goal.returns-in-Some-port-clause-state
returns-in-Some-port-clause-state c =
    rw (← c.self.view_is)
    (receiver_does (λ (o : Outcome HostFields PacketFields). OnOk c.receive.result (record (the_view c.self.inside) { stack = c.receive.new.self } ≡ o.state)) (the_view c.self.inside) c.args.process c.args.now c.args.wake.now c.in-Receiver.place c.in-Some-port.port.now
    (subst (λ (p : Process). IsRoleOf c.self.inside.site (Some p) (slice_get (roles c.self.inside.site) c.args.process)) c.in-Receiver.is c.in-Some.ensures) (sym c.in-Some-port.ensures) (on_ok_weaker c.receive.result (λ e. ap (λ (t : Stack). record (the_view c.self.inside) { stack = t }) e) c.receive.ensures.stack))

pub returns-in-Some-port-clause-wait : goal.returns-in-Some-port-clause-wait
returns-in-Some-port-clause-wait c =
    rw (← c.self.view_is)
    (receiver_does (λ (o : Outcome HostFields PacketFields). IfOk c.receive.result (λ wait. wait ≡ o.wait)) (the_view c.self.inside) c.args.process c.args.now c.args.wake.now c.in-Receiver.place c.in-Some-port.port.now
    (subst (λ (p : Process). IsRoleOf c.self.inside.site (Some p) (slice_get (roles c.self.inside.site) c.args.process)) c.in-Receiver.is c.in-Some.ensures) (sym c.in-Some-port.ensures) c.receive.ensures.wait)

pub returns-in-Some-port-clause-writes : goal.returns-in-Some-port-clause-writes
returns-in-Some-port-clause-writes c =
    rw (← c.self.view_is)
    (receiver_does (λ (o : Outcome HostFields PacketFields). OnOk c.receive.result (c.receive.new.out.writes ≡ c.args.out.now.writes ++ o.writes)) (the_view c.self.inside) c.args.process c.args.now c.args.wake.now c.in-Receiver.place c.in-Some-port.port.now
    (subst (λ (p : Process). IsRoleOf c.self.inside.site (Some p) (slice_get (roles c.self.inside.site) c.args.process)) c.in-Receiver.is c.in-Some.ensures) (sym c.in-Some-port.ensures) c.receive.ensures.writes)

pub returns-in-Some-port-clause-lines : goal.returns-in-Some-port-clause-lines
returns-in-Some-port-clause-lines c =
    rw (← c.self.view_is)
    (receiver_does (λ (o : Outcome HostFields PacketFields). OnOk c.receive.result (c.receive.new.out.lines ≡ c.args.out.now.lines ++ o.lines)) (the_view c.self.inside) c.args.process c.args.now c.args.wake.now c.in-Receiver.place c.in-Some-port.port.now
    (subst (λ (p : Process). IsRoleOf c.self.inside.site (Some p) (slice_get (roles c.self.inside.site) c.args.process)) c.in-Receiver.is c.in-Some.ensures) (sym c.in-Some-port.ensures) c.receive.ensures.lines)

pub returns-in-Some-client-clause-state : goal.returns-in-Some-client-clause-state
returns-in-Some-client-clause-state c =
    let within = row_within c.self.inside.site c.in-Client.client c.in-Some-client.row.now (sym c.in-Some-client.ensures) in
    let are = c.self.invariant.starts_are in
    let start = get_or_read c.self.inside.starts.items c.in-Client.client c.index-start.result.now (omega (arith, within, are)) c.index-start.ensures 0 in
    rw (← c.self.view_is)
    (client_does (λ (o : Outcome HostFields PacketFields). OnOk c.serve_client.result (record (the_view c.self.inside) { stack = c.serve_client.new.self } ≡ o.state)) (the_view c.self.inside) c.args.process c.args.now c.args.wake.now c.in-Client.client c.in-Some-client.row.now c.index-start.result.now
    (subst (λ (p : Process). IsRoleOf c.self.inside.site (Some p) (slice_get (roles c.self.inside.site) c.args.process)) c.in-Client.is c.in-Some.ensures) (sym c.in-Some-client.ensures) start (on_ok_weaker c.serve_client.result (λ e. ap (λ (t : Stack). record (the_view c.self.inside) { stack = t }) e) c.serve_client.ensures.stack))

pub returns-in-Some-client-clause-wait : goal.returns-in-Some-client-clause-wait
returns-in-Some-client-clause-wait c =
    let within = row_within c.self.inside.site c.in-Client.client c.in-Some-client.row.now (sym c.in-Some-client.ensures) in
    let are = c.self.invariant.starts_are in
    let start = get_or_read c.self.inside.starts.items c.in-Client.client c.index-start.result.now (omega (arith, within, are)) c.index-start.ensures 0 in
    rw (← c.self.view_is)
    (client_does (λ (o : Outcome HostFields PacketFields). IfOk c.serve_client.result (λ wait. wait ≡ o.wait)) (the_view c.self.inside) c.args.process c.args.now c.args.wake.now c.in-Client.client c.in-Some-client.row.now c.index-start.result.now
    (subst (λ (p : Process). IsRoleOf c.self.inside.site (Some p) (slice_get (roles c.self.inside.site) c.args.process)) c.in-Client.is c.in-Some.ensures) (sym c.in-Some-client.ensures) start c.serve_client.ensures.wait)

pub returns-in-Some-client-clause-writes : goal.returns-in-Some-client-clause-writes
returns-in-Some-client-clause-writes c =
    let within = row_within c.self.inside.site c.in-Client.client c.in-Some-client.row.now (sym c.in-Some-client.ensures) in
    let are = c.self.invariant.starts_are in
    let start = get_or_read c.self.inside.starts.items c.in-Client.client c.index-start.result.now (omega (arith, within, are)) c.index-start.ensures 0 in
    rw (← c.self.view_is)
    (client_does (λ (o : Outcome HostFields PacketFields). OnOk c.serve_client.result (c.serve_client.new.out.writes ≡ c.args.out.now.writes ++ o.writes)) (the_view c.self.inside) c.args.process c.args.now c.args.wake.now c.in-Client.client c.in-Some-client.row.now c.index-start.result.now
    (subst (λ (p : Process). IsRoleOf c.self.inside.site (Some p) (slice_get (roles c.self.inside.site) c.args.process)) c.in-Client.is c.in-Some.ensures) (sym c.in-Some-client.ensures) start c.serve_client.ensures.writes)

pub returns-in-Some-client-clause-lines : goal.returns-in-Some-client-clause-lines
returns-in-Some-client-clause-lines c =
    let within = row_within c.self.inside.site c.in-Client.client c.in-Some-client.row.now (sym c.in-Some-client.ensures) in
    let are = c.self.invariant.starts_are in
    let start = get_or_read c.self.inside.starts.items c.in-Client.client c.index-start.result.now (omega (arith, within, are)) c.index-start.ensures 0 in
    rw (← c.self.view_is)
    (client_does (λ (o : Outcome HostFields PacketFields). OnOk c.serve_client.result (c.serve_client.new.out.lines ≡ c.args.out.now.lines ++ o.lines)) (the_view c.self.inside) c.args.process c.args.now c.args.wake.now c.in-Client.client c.in-Some-client.row.now c.index-start.result.now
    (subst (λ (p : Process). IsRoleOf c.self.inside.site (Some p) (slice_get (roles c.self.inside.site) c.args.process)) c.in-Client.is c.in-Some.ensures) (sym c.in-Some-client.ensures) start c.serve_client.ensures.lines)
