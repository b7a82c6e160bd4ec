use Rattle.std.proofs.Common.{◌≡◌, ℕ, ◌<◌, List, length, get_or, ap, subst, sym, ◌∙◌, arith}
use Rattle.net_layout.specs.Periods.{periods_of}
use Rattle.net_layout.specs.HostRoutes.{AreHostRoutes, IsPeriodOf}
use Rattle.net_layout.proofs.HostTables.{tables_more}
use Rattle.net_layout.proofs.host_tables.add_period.Goals as goal

pub loop-host-preserved : goal.loop-host-preserved
loop-host-preserved c =
    let network = c.args.network.now in
    let period = c.in_ok-routes.routes in
    let lt : c.args.period < length (periods_of network) = omega (arith, c.requires.period, ap length c.requires.periods) in
    let there : c.loop-host.host < length network.hosts = omega (arith, c.loop-host-test.true, c.len-host-end.ensures) in
    let from : period.from ≡ get_or (periods_of network) c.args.period 0 = c.in_ok-routes.ensures.from ∙ ap (λ (ts : List ℕ). get_or ts c.args.period 0) (c.as_slice.ensures ∙ c.requires.periods) in
    let is : IsPeriodOf network c.loop-host.host period = subst (λ (t : ℕ). AreHostRoutes network c.loop-host.host t period.routes) (sym c.in_ok-routes.ensures.from) c.in_ok-routes.ensures.routes in
    rw c.in_ok-append_at.ensures
    (tables_more network c.args.period c.loop-host.host c.loop-host.tables.items period lt there c.loop-host.invariant from is)
