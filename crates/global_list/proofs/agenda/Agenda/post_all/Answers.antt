use Rattle.std.proofs.Common.{sym, arith}
use Rattle.ssf_model.specs.Channels.{sent}
use Rattle.global_list.proofs.Posts.{partway_first, partway_may, partway_next, partway_done}
use Rattle.global_list.proofs.agenda.Agenda.post_all.Goals as goal

pub loop-written-init : goal.loop-written-init
loop-written-init g c =
    partway_first c.args.parent.now (sent c.args.fan_out.now c.args.entity c.args.processes.now) c.args.writes.now c.args.self.now.counts.items c.args.self.now.pending c.requires

pub post-requires : goal.post-requires
post-requires g c =
    partway_may c.args.parent.now (sent c.args.fan_out.now c.args.entity c.args.processes.now) c.args.writes.now c.loop-written.written-index
    c.args.self.now.counts.items c.loop-written.self.counts.items c.args.self.now.pending c.loop-written.self.pending
    c.written-item.result c.loop-written-test.true (sym c.written-item.is) c.loop-written.invariant

pub loop-written-preserved : goal.loop-written-preserved
loop-written-preserved g c =
    partway_next c.args.parent.now (sent c.args.fan_out.now c.args.entity c.args.processes.now) c.args.writes.now c.loop-written.written-index
    c.args.self.now.counts.items c.loop-written.self.counts.items c.post.new.self.counts.items
    c.args.self.now.pending c.loop-written.self.pending c.post.new.self.pending
    c.written-item.result c.loop-written-test.true (sym c.written-item.is) c.loop-written.invariant c.in_ok-post.ensures

pub returns : goal.returns
returns g c =
    partway_done c.args.parent.now (sent c.args.fan_out.now c.args.entity c.args.processes.now) c.args.writes.now c.loop-written.written-index
    c.args.self.now.counts.items c.loop-written.self.counts.items c.args.self.now.pending c.loop-written.self.pending
    (omega arith) c.loop-written.invariant
