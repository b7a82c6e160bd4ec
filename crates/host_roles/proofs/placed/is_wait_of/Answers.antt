use Rattle.std.proofs.Common.{◌≡◌, ◌∙◌, ◌<◌, ◌↔◌, IsTrue, List, length, get_or, sym, ap, subst, arith}
use Rattle.host_rules.specs.declared.rows.HostPort.{HostPort}
use Rattle.host_rules.specs.Reacting.{Role, Receiver}
use Rattle.host_rules.specs.Limits.{IsWaitOf}
use Rattle.host_roles.proofs.Numbering.{port_role, clock_role, client_role}
use Rattle.host_roles.proofs.placed.is_wait_of.Goals as goal

pub returns-then-number-ports : goal.returns-then-number-ports
returns-then-number-ports c = λ role at.
    let port = c.index-ports-number.result in
    let below : c.args.number < length c.args.rows.now.ports = subst (λ (ps : List HostPort). c.args.number < length ps) c.as_slice-ports.ensures c.if-number-ports.true in
    let here : port ≡ get_or c.args.rows.now.ports c.args.number port = c.index-ports-number.is ∙ ap (λ (ps : List HostPort). get_or ps c.args.number port) c.as_slice-ports.ensures in
    let is : role ≡ Receiver port = port_role c.args.rows.now c.args.number port role below here at in
    subst (λ (r : Role). IsTrue c.is_receiver_wait.result ↔ IsWaitOf c.args.rows.now r c.args.wait.now) (sym is) (c.is_receiver_wait.ensures c.args.rows.now)

pub returns-then-number-ports-2 : goal.returns-then-number-ports-2
returns-then-number-ports-2 c = λ role at.
    let same : c.args.number ≡ length c.args.rows.now.ports = c.if-number-ports-2.true ∙ ap length c.as_slice-ports.ensures in
    subst (λ (r : Role). IsTrue c.is_clock_wait.result ↔ IsWaitOf c.args.rows.now r c.args.wait.now) (sym (clock_role c.args.rows.now c.args.number role same at)) c.is_clock_wait.ensures

pub returns : goal.returns
returns c = λ role at.
    let long = ap length c.as_slice-ports.ensures in
    let past : length c.args.rows.now.ports < c.args.number = omega (arith, long) in
    let client = client_role c.args.rows.now c.args.number role past at in
    subst (λ (r : Role). IsTrue c.is_client_wait.result ↔ IsWaitOf c.args.rows.now r c.args.wait.now) (sym client.is) (c.is_client_wait.ensures c.args.rows.now client.client client.row)
