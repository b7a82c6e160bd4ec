use Rattle.std.proofs.Common.{◌≤◌}
use Rattle.worker_hands.specs.Hands.{IsAsked, IsToldOn}
use Rattle.worker_hands.specs.Stepping.{IfExecuted}
use Rattle.worker_hands.proofs.Asking.{AreRuns}
use Rattle.worker_hands.proofs.steps.execute_all.Given as goal

abbrev pub invariant-loop-left : goal.invariant-loop-left
invariant-loop-left g l = record {
  have : IfExecuted g.B.Behaviour.valid g.B.Behaviour.carried g.B.Behaviour.reaction l.behaviour l.number l.fn.timeline l.timeline;
  low : l.left ≤ l.fn.left;
  told : IsToldOn l.fn.hand l.hand;
  asked : IsAsked l.fn.hand l.hand (AreRuns l.number l.fn.left l.left);
}

abbrev pub decreases-loop-left : goal.decreases-loop-left
decreases-loop-left g l = l.left
