use Rattle.std.proofs.Common.{arith}
use Rattle.std.proofs.lemmas.Grind.{common_steps}
use Rattle.sync_steps.proofs.Words.{place_found, place_none}
use Rattle.sync_steps.proofs.schedules.place_of.Goals as goal

pub returns-then-here-byte-clause-place : goal.returns-then-here-byte-clause-place
returns-then-here-byte-clause-place c =
    place_found c.args.byte c.args.word.now c.loop-index.index c.loop-index-test.true c.loop-index.invariant (grind (arith, common_steps))

pub returns-clause-place : goal.returns-clause-place
returns-clause-place c = place_none c.args.byte c.args.word.now (λ k less. c.loop-index.invariant k (omega arith))
