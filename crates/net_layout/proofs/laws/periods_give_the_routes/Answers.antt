use Rattle.net_layout.proofs.HostTables.{routes_now}
use Rattle.net_layout.proofs.laws.periods_give_the_routes.Goals as goal

pub returns : goal.returns
returns c = routes_now
