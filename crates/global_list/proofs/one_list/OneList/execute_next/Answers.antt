use Rattle.std.proofs.Common.{sym, refl}
use Rattle.global_list.proofs.Going.{may_next, step_made, none_made}
use Rattle.global_list.proofs.one_list.OneList.execute_next.Goals as goal

pub execute-requires-after_bounds : goal.execute-requires-after_bounds
execute-requires-after_bounds g c κs within =
    let old = c.args.self.now in
    may_next (g.B.Behaviour.reaction old.behaviour) old.fan_out c.args.until (g.B.Behaviour.valid old.behaviour) (g.B.Behaviour.carried old.behaviour)
    (g.met.B.Behaviour.sound old.behaviour) (g.met.B.Behaviour.modest old.behaviour) old.behaviour
    old.entities.items old.agenda.counts.items old.agenda.pending c.take_due.new.self c.in-Some.event c.in-Some.ensures.taken (sym c.in-Some.ensures.due) c.requires

pub returns-in_default-clause-next : goal.returns-in_default-clause-next
returns-in_default-clause-next g c =
    let old = c.args.self.now in
    none_made (g.B.Behaviour.reaction old.behaviour) old.fan_out c.args.until old.behaviour old.behaviour old.fan_out old.entities.items old.agenda.counts.items old.agenda.pending c.take_due.new.self
    refl refl c.in_default.ensures.kept (sym c.in_default.ensures.due)

pub returns-clause-next : goal.returns-clause-next
returns-clause-next g c =
    let old = c.args.self.now in
    step_made (g.B.Behaviour.reaction old.behaviour) old.fan_out c.args.until old.behaviour c.execute.new.self.behaviour c.execute.new.self.fan_out old.entities.items c.execute.new.self.entities.items
    old.agenda.counts.items c.execute.new.self.agenda.counts.items old.agenda.pending c.execute.new.self.agenda.pending c.take_due.new.self c.in-Some.event c.in_ok-entry.entry
    c.execute.ensures.behaviour c.execute.ensures.mappings c.in_ok-entry.ensures.size c.in-Some.ensures.taken (sym c.in-Some.ensures.due) c.in_ok-entry.ensures.executed
