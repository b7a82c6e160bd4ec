use Rattle.alignment.proofs.Growing.{tied_in}
use Rattle.alignment.proofs.groups.Groups.join.Goals as goal

pub returns : goal.returns
returns c =
    tied_in c.args.self.now c.least_of-a.new.self c.least_of-b.new.self c.self.inside.parents.items c.args.a c.args.b c.least_of-a.result c.least_of-b.result c.max.result c.min.result c.self.view_is
    c.least_of-a.ensures.smoothed c.least_of-b.ensures.smoothed c.least_of-a.ensures.top c.least_of-b.ensures.top c.least_of-a.ensures.within c.least_of-b.ensures.within c.max.ensures c.min.ensures
