use Rattle.std.proofs.Common.{◌∙◌, sym, ap}
use Rattle.session_table.specs.Entries.{numbered}
use Rattle.session_table.proofs.Lists.{numbered_is, copied_is}
use Rattle.session_table.proofs.table.SessionTable.entry.Goals as goal

pub returns : goal.returns
returns g c = copied_is c.get.result (numbered c.args.number c.args.self.now)
    (c.get.ensures.value ∙ sym (numbered_is c.self.inside.entries.entries c.args.number c.self.invariant.kept) ∙ ap (numbered c.args.number) c.self.view_is)
