use Rattle.std.proofs.Common.{◌≤◌, length, arith}
use Rattle.trace_writer.specs.Merging.{longest_name}
use Rattle.trace_writer.proofs.Writing.{on_err, event_failed, actions_failed, record_sent, name_short}
use Rattle.trace_writer.proofs.gathering.send_record.Goals as goal

pub send_event-requires : goal.send_event-requires
send_event-requires g c =
    let short : length c.name.result.now ≤ longest_name c.args.names.now = name_short c.args.names.now c.args.entry.now.entity c.name.result.now c.name.ensures in
    let room = c.requires.room in
    omega arith

pub returns-in_err-send_event-clause-part : goal.returns-in_err-send_event-clause-part
returns-in_err-send_event-clause-part g c =
    on_err c.from_residual.result _ (event_failed c.args.names.now c.args.entry.now c.name.result.now c.args.gathered.now.items (g.K.Sink.held c.args.sink.now) (g.K.Sink.held c.send_event.new.sink) c.name.ensures c.in_err-send_event.ensures.part)

pub returns-in_err-send_actions-clause-part : goal.returns-in_err-send_actions-clause-part
returns-in_err-send_actions-clause-part g c =
    on_err c.from_residual-in_err-send_actions.result _ (actions_failed c.args.names.now c.args.entry.now c.name.result.now c.args.gathered.now.items c.send_event.new.gathered.items c.as_slice.result.now (g.K.Sink.held c.args.sink.now) (g.K.Sink.held c.send_event.new.sink) (g.K.Sink.held c.send_actions.new.sink)
    c.name.ensures c.as_slice.ensures c.in_ok-send_event.ensures.sent c.in_err-send_actions.ensures.part)

pub returns-clause-sent : goal.returns-clause-sent
returns-clause-sent g c =
    record_sent c.args.names.now c.args.entry.now c.name.result.now c.args.gathered.now.items c.send_event.new.gathered.items c.send_actions.new.gathered.items c.as_slice.result.now (g.K.Sink.held c.args.sink.now) (g.K.Sink.held c.send_event.new.sink) (g.K.Sink.held c.send_actions.new.sink)
    c.name.ensures c.as_slice.ensures c.in_ok-send_event.ensures.sent c.in_ok-send_actions.ensures.sent
