use Rattle.std.proofs.Common.{◌↔◌, drop}
use Rattle.std.specs.List.{AllZip}
use Rattle.ssf_model.specs.Openings.{MayWait}
use Rattle.ssf_model.proofs.opening.can_all_wait.Given as goal

abbrev pub invariant-loop-index : goal.invariant-loop-index
invariant-loop-index l = AllZip (MayWait l.ins) l.processes l.waits ↔ AllZip (MayWait l.ins) (drop l.index l.processes) (drop l.index l.waits)
