use Rattle.net_hosts.proofs.Ranges.{routes_by, routes_are}
use Rattle.net_hosts.proofs.laws.hosts_send_by_the_routes.Goals as goal

pub returns-clause-periods : goal.returns-clause-periods
returns-clause-periods c = routes_by

pub returns-clause-routes : goal.returns-clause-routes
returns-clause-routes c = routes_are
