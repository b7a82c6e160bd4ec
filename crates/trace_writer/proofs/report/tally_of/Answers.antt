-- The histories one after another.
use Rattle.std.proofs.Common.{arith}
use Rattle.trace_writer.proofs.Tallies.{tally-next_history, tally-all_histories}
use Rattle.trace_writer.proofs.report.tally_of.Goals as goal

pub loop-i-preserved : goal.loop-i-preserved
loop-i-preserved g c =
    tally-next_history _ _ (g.H.Histories.lists c.args.histories.now) c.loop-i.i _ c.history.ensures c.loop-i.invariant c.add_all.ensures

pub returns : goal.returns
returns g c =
    tally-all_histories _ (g.H.Histories.lists c.args.histories.now) c.loop-i.i
    (omega (arith, c.count-i-end.ensures, c.loop-i-test.false, c.loop-i.auto.i-end)) c.loop-i.invariant
