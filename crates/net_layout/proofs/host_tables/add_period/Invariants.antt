use Rattle.net_layout.specs.HostRoutes.{AreTablesSoFar}
use Rattle.net_layout.proofs.host_tables.add_period.Given as goal

abbrev pub invariant-loop-host : goal.invariant-loop-host
invariant-loop-host l = AreTablesSoFar l.network l.period l.host l.tables.items
