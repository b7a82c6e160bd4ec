use Rattle.std.proofs.Common.{take}
use Rattle.turn_table.specs.Passes.{view_of, IsSeated}
use Rattle.turn_table.specs.Turned.{key_of, table_of}
use Rattle.share_rules.specs.Places.{shape_of}
use Rattle.worker_turns.proofs.Posts.{ArePostedAmong}
use Rattle.worker_turns.proofs.task.post.Given as goal

-- the ends at the places so far are posted on
abbrev pub invariant-loop-place : goal.invariant-loop-place
invariant-loop-place g l =
    IsSeated (table_of l.table.turns.now) (shape_of (key_of l.table.turns.now).value) l.pass
    × ArePostedAmong g.B.Behaviour.valid g.B.Behaviour.carried g.B.Behaviour.reaction (key_of l.table.turns.now).value (take l.place-index l.place-items) l.table.number (view_of l.initial.pass) (view_of l.pass) l.own l.initial.hand l.hand
