use Rattle.std.proofs.Common.{[], replicate, length, ap, ◌∙◌, arith}
use Rattle.net_layout.proofs.HostTables.{tables_none, tables_all}
use Rattle.net_layout.proofs.host_tables.tables.Goals as goal

pub loop-period-init : goal.loop-period-init
loop-period-init c = tables_none c.args.network.now c.in_ok-tables.tables.items (c.in_ok-tables.ensures ∙ ap (λ n. replicate n []) c.len.ensures)

pub returns : goal.returns
returns c = tables_all c.args.network.now c.loop-period.period c.loop-period.tables.items (omega (arith, ap length c.requires.periods)) c.loop-period.invariant
