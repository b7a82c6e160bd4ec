use Rattle.timeline_parts.specs.Tables.{numbers_of}
use Rattle.sync_steps.proofs.Taking.{known_cross}
use Rattle.sync_steps.proofs.between.counts_of.Goals as goal

pub written-requires-after_bounds : goal.written-requires-after_bounds
written-requires-after_bounds g c κs within =
    known_cross c.outs-outs.result.now c.args.timeline.now.outs (numbers_of c.args.timeline.now.out_ends) c.loop-cross.cross-index c.requires.outs c.outs-outs.ensures c.loop-cross-test.true
