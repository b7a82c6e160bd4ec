use Rattle.std.proofs.Common.{◌∙◌, ap}
use Rattle.std.specs.BTreeSet.{contains}
use Rattle.session_table.specs.Entries.{least}
use Rattle.session_table.specs.Indexes.{deadline_cmp}
use Rattle.session_table.proofs.Deadlines.{least_is, no_least, due_le, no_due}
use Rattle.session_table.proofs.table.SessionTable.least.Goals as goal

pub returns-in-Some : goal.returns-in-Some
returns-in-Some g c =
    least_is c.in-Some.deadline.now c.self.inside.entries.entries (contains deadline_cmp c.self.inside.deadlines) c.self.invariant.kept c.self.invariant.dues c.in-Some.ensures.member
    (λ p due. due_le c.in-Some.deadline.now p (c.in-Some.ensures.least p due))
    ∙ ap (least {S = g.row.S.Denot}) c.self.view_is

pub returns-in-None : goal.returns-in-None
returns-in-None g c =
    no_least c.self.inside.entries.entries c.self.invariant.kept (λ q due. no_due c.self.inside.deadlines.keys (λ some. let t = c.in-None.ensures.variant.1 some in absurd (cc)) q (c.self.invariant.dues q ∙ due))
    ∙ ap (least {S = g.row.S.Denot}) c.self.view_is
