use Rattle.std.proofs.Common.{sym, ◌∙◌}
use Rattle.global_list.specs.Standing.{standing, next_entry}
use Rattle.list_run.proofs.Pieces.{next_sent, next_part, none_sent, of_err}
use Rattle.list_run.proofs.running.write_next.Goals as goal

pub returns-in_err-send_entry-in-Some-clause-part : goal.returns-in_err-send_entry-in-Some-clause-part
returns-in_err-send_entry-in-Some-clause-part g c =
    of_err _ (next_part c.args.names.now c.in-Some.entry (next_entry (g.B.Behaviour.reaction c.args.list.now.behaviour) c.args.until (standing c.args.list.now)) c.args.gathered.now.items
    (g.K.Sink.held c.args.out.now) (g.K.Sink.held c.send_entry.new.sink) (sym c.in-Some.is ∙ c.in_ok-entry.ensures.entry) c.in_err-send_entry-in-Some.ensures.part)

pub returns-in_ok-send_entry-in-Some-clause-sent : goal.returns-in_ok-send_entry-in-Some-clause-sent
returns-in_ok-send_entry-in-Some-clause-sent g c =
    next_sent c.args.names.now c.in-Some.entry (next_entry (g.B.Behaviour.reaction c.args.list.now.behaviour) c.args.until (standing c.args.list.now)) c.args.gathered.now.items
    c.send_entry.new.gathered.items (g.K.Sink.held c.args.out.now) (g.K.Sink.held c.send_entry.new.sink) (sym c.in-Some.is ∙ c.in_ok-entry.ensures.entry) c.in_ok-send_entry-in-Some.ensures.sent

pub returns-in-None-clause-sent : goal.returns-in-None-clause-sent
returns-in-None-clause-sent g c =
    none_sent c.args.names.now (next_entry (g.B.Behaviour.reaction c.args.list.now.behaviour) c.args.until (standing c.args.list.now)) c.args.gathered.now.items
    (g.K.Sink.held c.args.out.now) (sym c.in-None.is ∙ c.in_ok-entry.ensures.entry)
