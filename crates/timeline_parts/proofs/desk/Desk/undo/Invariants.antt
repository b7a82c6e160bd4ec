use Rattle.std.proofs.Common.{◌≡◌, ℕ, List}
use Rattle.timeline_parts.specs.declared.ends.OutEnd.{OutEnd}
use Rattle.timeline_parts.specs.Tables.{AreNumbered}
use Rattle.timeline_parts.specs.Sending.{all_counted, all_put}
use Rattle.timeline_parts.proofs.desk.Desk.undo.Given as goal

abbrev pub invariant-loop-event : goal.invariant-loop-event
invariant-loop-event g l =
    AreNumbered l.self.counts.items × AreNumbered l.self.ends.items
    × ((counts : List (ℕ × ℕ)) → l.fn.self.counts.items ≡ all_counted l.fn.self.written.items counts → l.self.counts.items ≡ all_counted l.self.written.items counts)
    × ((ends : List (ℕ × OutEnd g.row.P.Denot)) → l.fn.self.ends.items ≡ all_put l.fn.self.written.items ends → l.self.ends.items ≡ all_put l.self.written.items ends)

abbrev pub decreases-loop-event : goal.decreases-loop-event
decreases-loop-event g l = goal.left-loop-event g l
