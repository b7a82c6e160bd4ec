use Rattle.net_hosts.proofs.rows.host_rows.Goals as goal

pub returns : goal.returns
returns c = record { tables = c.in_ok-parts.parts.tables; routes = c.in_ok-parts.ensures.tables; each = c.in_ok-rows.ensures }
