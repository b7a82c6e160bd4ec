use Rattle.net_layout.specs.HostRoutes.{AreTablesSoFar}
use Rattle.net_layout.proofs.host_tables.tables.Given as goal

abbrev pub invariant-loop-period : goal.invariant-loop-period
invariant-loop-period l = AreTablesSoFar l.network l.period 0 l.tables.items
