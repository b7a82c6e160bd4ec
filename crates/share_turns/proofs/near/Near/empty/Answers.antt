use Rattle.std.proofs.Common.{ℕ, ◌+◌, [], List, Vec, Global, subst, sym}
use Rattle.share_turns.specs.Rows.{AreNear}
use Rattle.share_turns.proofs.Rows.{near_none, near_empty}
use Rattle.share_turns.proofs.near.Near.empty.Goals as goal

pub loop-timeline-init : goal.loop-timeline-init
loop-timeline-init c = subst (λ (xs : List (Vec ℕ Global)). AreNear [] 0 xs) (sym c.new-rows.ensures.items) near_none

pub loop-timeline-preserved : goal.loop-timeline-preserved
loop-timeline-preserved c = subst (λ (xs : List (Vec ℕ Global)). AreNear [] (c.loop-timeline._timeline + 1) xs) (sym c.in_ok-push.ensures.items)
    (near_empty c.loop-timeline._timeline c.loop-timeline.rows.items c.new.result c.new.ensures.items c.loop-timeline.invariant)
