use Rattle.std.proofs.Common.{◌≡◌, ◌+◌, ◌-◌, length}
use Rattle.core_rules.specs.Cores.{IsCoreOfRun}
use Rattle.core_rules.specs.Ending.{steps_left}
use Rattle.sync_core.specs.Choosing.{IsWorkOf, last_round}
use Rattle.sync_core.proofs.Tries.{OnTheWay}
use Rattle.sync_core.proofs.core_parts.Core.go_on.Given as goal

abbrev pub invariant-loop-end : goal.invariant-loop-end
invariant-loop-end g l =
    let b = l.fn.self.behaviour in
    record {
      way : OnTheWay (g.B.Behaviour.valid b) (g.B.Behaviour.carried b) (g.B.Behaviour.reaction b) (last_round l.fn.self.barrier.round l.crossings) l.schedule l.used l.fn.self l.self;
      first : l.first ≡ l.fn.self.barrier.round;
      run : IsCoreOfRun (g.B.Behaviour.valid l.self.behaviour) (g.B.Behaviour.carried l.self.behaviour) (g.B.Behaviour.reaction l.self.behaviour) l.self;
      work : IsWorkOf l.self l.work;
    }

abbrev pub decreases-loop-end : goal.decreases-loop-end
decreases-loop-end g l = steps_left l.self + (length l.schedule - l.used)
