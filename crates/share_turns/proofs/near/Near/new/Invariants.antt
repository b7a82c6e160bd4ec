use Rattle.share_turns.proofs.Rows.{AreNearTo}
use Rattle.share_turns.proofs.near.Near.new.Given as goal

abbrev pub invariant-loop-place : goal.invariant-loop-place
invariant-loop-place l = AreNearTo l.ends l.timelines l.place l.near.rows.items
