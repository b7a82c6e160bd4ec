use Rattle.std.proofs.Common.{◌↔◌, drop}
use Rattle.ssf_model.specs.Reaction.{Each}
use Rattle.ssf_model.specs.Run.{IsPending}
use Rattle.ssf_model.specs.Openings.{reopened}
use Rattle.ssf_model.proofs.opening.are_pending.Given as goal

abbrev pub invariant-loop-index : goal.invariant-loop-index
invariant-loop-index g l =
    Each (IsPending (g.B.Behaviour.carried l.plan.behaviour) (reopened l.plan l.opening)) l.opening.pending
    ↔ Each (IsPending (g.B.Behaviour.carried l.plan.behaviour) (reopened l.plan l.opening)) (drop l.index l.opening.pending)
