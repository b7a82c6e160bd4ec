use Rattle.std.proofs.Common.{◌↔◌, drop}
use Rattle.host_rules.specs.Reacting.{roles}
use Rattle.host_roles.proofs.Placing.{AreAll}
use Rattle.host_roles.proofs.placed.are_processes.Given as goal

abbrev pub invariant-loop-index : goal.invariant-loop-index
invariant-loop-index l = AreAll l.rows (roles l.rows) l.processes l.waits ↔ AreAll l.rows (drop l.index (roles l.rows)) (drop l.index l.processes) (drop l.index l.waits)
