use Rattle.std.proofs.Common.{refl}
use Rattle.timeline_parts.specs.Tables.{numbers_of}
use Rattle.sync_steps.proofs.Taking.{known_cross}
use Rattle.sync_steps.proofs.between.has_taken_from.Goals as goal

pub has_taken_up_to-requires-clause-known : goal.has_taken_up_to-requires-clause-known
has_taken_up_to-requires-clause-known g c κs within =
    known_cross c.args.ins.now c.args.ins.now (numbers_of c.args.timeline.now.in_ends) c.loop-cross.cross-index c.requires refl c.loop-cross-test.true
