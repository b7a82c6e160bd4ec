use Rattle.std.proofs.Common.{◌↔◌, drop}
use Rattle.std.specs.List.{AllZip}
use Rattle.ssf_model.specs.Openings.{MayOpen}
use Rattle.ssf_model.proofs.opening.can_all_open.Given as goal

abbrev pub invariant-loop-index : goal.invariant-loop-index
invariant-loop-index g l = AllZip (MayOpen (g.B.Behaviour.valid l.behaviour)) l.entities l.opened ↔ AllZip (MayOpen (g.B.Behaviour.valid l.behaviour)) (drop l.index l.entities) (drop l.index l.opened)
