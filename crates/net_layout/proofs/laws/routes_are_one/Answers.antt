use Rattle.net_layout.proofs.HostTables.{routes_one, tables_one}
use Rattle.net_layout.proofs.laws.routes_are_one.Goals as goal

pub returns-clause-routes : goal.returns-clause-routes
returns-clause-routes c = routes_one

pub returns-clause-tables : goal.returns-clause-tables
returns-clause-tables c = tables_one
