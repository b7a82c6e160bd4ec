use Rattle.std.proofs.Common.{ℕ, List, IsPermutation, ◌∙◌, ap, subst}
use Rattle.session_table.specs.Entries.{due}
use Rattle.session_table.proofs.Due.{due_is}
use Rattle.session_table.proofs.table.SessionTable.due.Goals as goal

pub returns : goal.returns
returns g c =
    let sorted = c.sort_unstable.new.self.items in
    due_is c.self.inside.deadlines.keys c.self.inside.entries.entries c.self.invariant.kept c.in_ok-numbers.ensures.ordered c.self.invariant.dues c.args.now sorted
    (subst (λ (ns : List ℕ). IsPermutation ns sorted) c.in_ok-numbers.ensures.numbers c.sort_unstable.ensures.permutation) c.sort_unstable.ensures.sorted
    ∙ ap (due {S = g.row.S.Denot} c.args.now) c.self.view_is
