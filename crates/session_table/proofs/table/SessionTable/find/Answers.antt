use Rattle.std.proofs.Common.{List, ◌∙◌, sym, ap}
use Rattle.session_table.specs.declared.entry.Entry.{Entry}
use Rattle.session_table.specs.Entries.{found, accepts_at, opens_at}
use Rattle.session_table.proofs.Lists.{found_is, both_are}
use Rattle.session_table.proofs.table.SessionTable.find.Goals as goal

pub returns : goal.returns
returns g c =
    let s = c.args.sockets.now in
    let es = c.self.inside.entries.entries in
    c.or.ensures ∙ both_are (c.copied-accepted.ensures ∙ c.get.ensures.value ∙ sym (found_is (accepts_at s) es _ c.self.invariant.kept (c.self.invariant.accepts s)))
    (c.copied-opened.ensures ∙ c.get-2.ensures.value ∙ sym (found_is (opens_at s) es _ c.self.invariant.kept (c.self.invariant.opens s)))
    ∙ ap (λ (xs : List (Entry g.row.S.Denot)). found s xs) c.self.view_is
