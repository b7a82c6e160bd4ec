use Rattle.std.proofs.Common.{arith}
use Rattle.trace_writer.proofs.Writing.{on_err, lines_failed, lines_sent}
use Rattle.trace_writer.proofs.gathering.send_actions.Goals as goal

pub loop-line-preserved : goal.loop-line-preserved
loop-line-preserved g c =
    let faults = c.loop-line.invariant.faults in
    let never = c.send_action.ensures.never_falls in
    let capacity = c.loop-line.invariant.capacity in
    let grown = c.send_action.ensures.capacity in
    record {
      sent = lines_sent c.args.lines.now c.loop-line.line-index _ _ c.args.gathered.now.items c.loop-line.gathered.items c.send_action.new.gathered.items (g.K.Sink.held c.args.sink.now) (g.K.Sink.held c.loop-line.sink) (g.K.Sink.held c.send_action.new.sink)
          (omega arith) c.loop-line-test.true c.loop-line.invariant.sent c.in_ok-send_action.ensures.sent;
      faults = omega arith;
      capacity = omega arith;
    }

pub returns-in_err-send_action-clause-part : goal.returns-in_err-send_action-clause-part
returns-in_err-send_action-clause-part g c =
    on_err c.from_residual.result _ (lines_failed c.args.lines.now c.loop-line.line-index _ c.args.gathered.now.items c.loop-line.gathered.items (g.K.Sink.held c.args.sink.now) (g.K.Sink.held c.loop-line.sink) (g.K.Sink.held c.send_action.new.sink)
    c.loop-line-test.true c.loop-line.invariant.sent c.in_err-send_action.ensures.part)
