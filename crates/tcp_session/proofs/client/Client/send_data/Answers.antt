use Rattle.std.proofs.Common.{arith}
use Rattle.tcp_session.proofs.DataLoop.{data_loop_next}
use Rattle.tcp_session.proofs.client.Client.send_data.Goals as goal

pub loop-index-preserved : goal.loop-index-preserved
loop-index-preserved c =
    let done = c.loop-index in
    let next = data_loop_next c.args.count c.args.stop c.args.now c.args.self.now c.args.acts.now.items done._index done.self done.acts.items c.loop-index-test.true done.invariant.loop in
    record {
      loop = rw (c.send_data_segment.ensures.client, c.send_data_segment.ensures.acts) next;
      stop = c.send_data_segment.ensures.stop;
      len = omega arith;
      capacity = omega arith;
    }
