use Rattle.std.proofs.Common.{[]}
use Rattle.share_turns.specs.Rows.{AreNear}
use Rattle.share_turns.proofs.near.Near.empty.Given as goal

abbrev pub invariant-loop-timeline : goal.invariant-loop-timeline
invariant-loop-timeline l = AreNear [] l._timeline l.rows.items
