use Rattle.global_list.specs.Standing.{standing}
use Rattle.global_list.proofs.Standings.{Running}
use Rattle.global_list.proofs.single.run.Given as goal

abbrev pub invariant-loop-executed : goal.invariant-loop-executed
invariant-loop-executed g l =
    let plan = l.fn.plan in
    Running (g.B.Behaviour.reaction plan.behaviour) plan l.fn.until l._executed (standing l.list) l.entries.items
