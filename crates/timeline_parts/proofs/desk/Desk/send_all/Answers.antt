use Rattle.std.proofs.Common.{sym, arith}
use Rattle.timeline_parts.specs.RouteMap.{route}
use Rattle.timeline_parts.specs.Sending.{sent_on}
use Rattle.timeline_parts.proofs.Sending.{on_err_of}
use Rattle.timeline_parts.proofs.Sent.{partway_may, partway_next, partway_part}
use Rattle.timeline_parts.proofs.desk.Desk.send_all.Goals as goal

pub send-requires : goal.send-requires
send-requires g c =
    partway_may c.args.parent.now (sent_on (route c.args.routes.now.by_out) c.args.entity c.args.processes.now) c.args.writes.now c.loop-write.write-index
    c.args.self.now.counts.items c.loop-write.self.counts.items c.args.self.now.ends.items c.loop-write.self.ends.items c.args.self.now.written.items c.loop-write.self.written.items
    c.write-item.result c.loop-write-test.true (sym c.write-item.is) c.loop-write.invariant

pub returns-in_err-send-clause-in_part : goal.returns-in_err-send-clause-in_part
returns-in_err-send-clause-in_part g c =
    on_err_of c.from_residual.result
    (partway_part c.args.parent.now (sent_on (route c.args.routes.now.by_out) c.args.entity c.args.processes.now) c.args.writes.now c.loop-write.write-index
    c.args.self.now.counts.items c.loop-write.self.counts.items c.send.new.self.counts.items
    c.args.self.now.ends.items c.loop-write.self.ends.items c.send.new.self.ends.items
    c.args.self.now.written.items c.loop-write.self.written.items c.send.new.self.written.items
    c.loop-write.invariant c.in_err-send.ensures.in_part)

pub loop-write-preserved : goal.loop-write-preserved
loop-write-preserved g c =
    partway_next c.args.parent.now (sent_on (route c.args.routes.now.by_out) c.args.entity c.args.processes.now) c.args.writes.now c.loop-write.write-index
    c.args.self.now.counts.items c.loop-write.self.counts.items c.send.new.self.counts.items
    c.args.self.now.ends.items c.loop-write.self.ends.items c.send.new.self.ends.items
    c.args.self.now.written.items c.loop-write.self.written.items c.send.new.self.written.items
    c.write-item.result c.loop-write-test.true (sym c.write-item.is) c.loop-write.invariant c.in_ok-send.ensures.sent
