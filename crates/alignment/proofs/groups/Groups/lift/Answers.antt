use Rattle.alignment.proofs.Growing.{lifted_in}
use Rattle.alignment.proofs.groups.Groups.lift.Goals as goal

pub returns-clause-smoothed : goal.returns-clause-smoothed
returns-clause-smoothed c =
    lifted_in c.args.self.now c.self.inside.parents.items c.args.entity c.index-parent.result.now c.index-above.result.now c.self.view_is c.self.invariant c.requires.within c.requires.above c.index-parent.ensures c.index-above.ensures
