use Rattle.sync_core.specs.Cores.{core_of}
use Rattle.sync_core.proofs.Keeping.{ordered_without}
use Rattle.sync_core.proofs.Leading.{given_of_run, given_outside, bound_each}
use Rattle.sync_core.proofs.core_parts.Core.give_up.Goals as goal

pub give_up_below-requires-clause-bound : goal.give_up_below-requires-clause-bound
give_up_below-requires-clause-bound g c κs within = λ t a. bound_each (core_of c.self.inside.parts) c.args.self.now c.args.below t c.self.view_is c.requires.below a

pub invariant_of-self : goal.invariant_of-self
invariant_of-self g c =
    ordered_without (core_of c.self.inside.parts) c.args.below c.give_up_below.new.timelines.items c.give_up_below.ensures c.self.invariant

pub returns-clause-run : goal.returns-clause-run
returns-clause-run g c = λ q.
    given_of_run g.B.Behaviour.reaction g.B.Behaviour.valid g.B.Behaviour.carried g.met.B.Behaviour.sound g.met.B.Behaviour.modest c.args.below c.args.self.now _
    (given_outside (core_of c.self.inside.parts) c.args.self.now c.give_up_below.new.timelines.items c.args.below c.self.view_is c.give_up_below.ensures) q
