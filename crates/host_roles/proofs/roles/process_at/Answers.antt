use Rattle.std.proofs.Common.{◌≡◌, ◌∙◌, ◌-◌, length, ap, arith}
use Rattle.host_rules.specs.declared.rows.HostRows.{HostRows}
use Rattle.host_roles.proofs.Numbering.{role_of_client}
use Rattle.host_roles.proofs.roles.process_at.Goals as goal

pub returns-then-client-clients : goal.returns-then-client-clients
returns-then-client-clients c =
    let ports : c.as_slice-ports.result.now ≡ c.args.site.now.ports = c.as_slice-ports.ensures ∙ ap (λ (r : HostRows). r.ports) c.rows.ensures in
    let clients : c.as_slice-clients.result.now ≡ c.args.site.now.clients = c.as_slice-clients.ensures ∙ ap (λ (r : HostRows). r.clients) c.rows-2.ensures in
    let p = ap length ports in
    let q = ap length clients in
    role_of_client c.args.site.now c.args.number (c.args.number - length c.as_slice-ports.result.now - 1) (omega (arith, p)) (omega (arith, q))
