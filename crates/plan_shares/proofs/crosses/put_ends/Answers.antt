use Rattle.std.proofs.Common.{get_or}
use Rattle.plan_shares.proofs.ForEach.{here_is, among_here}
use Rattle.plan_shares.proofs.Crossing.{no_cross}
use Rattle.plan_shares.proofs.crosses.put_ends.Goals as goal

pub timeline-requires : goal.timeline-requires
timeline-requires c = (c.requires.known (get_or c.args.crosses.now c.loop-cross.cross-index no_cross) (among_here c.args.crosses.now c.loop-cross.cross-index (get_or c.args.crosses.now c.loop-cross.cross-index no_cross) c.loop-cross-test.true (here_is c.args.crosses.now c.loop-cross.cross-index no_cross c.loop-cross-test.true))).0

pub timeline-requires-in-loop-cross : goal.timeline-requires-in-loop-cross
timeline-requires-in-loop-cross c = (c.requires.known (get_or c.args.crosses.now c.loop-cross.cross-index no_cross) (among_here c.args.crosses.now c.loop-cross.cross-index (get_or c.args.crosses.now c.loop-cross.cross-index no_cross) c.loop-cross-test.true (here_is c.args.crosses.now c.loop-cross.cross-index no_cross c.loop-cross-test.true))).1
