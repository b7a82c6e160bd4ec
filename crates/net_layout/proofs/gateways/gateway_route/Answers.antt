use Rattle.std.proofs.Common.{sym}
use Rattle.net_layout.proofs.gateways.gateway_route.Goals as goal

pub route_by-requires-clause-gateway : goal.route_by-requires-clause-gateway
route_by-requires-clause-gateway c = (c.requires.network.hosts c.args.host c.requires.host).gateway c.in-Some.gateway (sym c.in-Some.ensures)
