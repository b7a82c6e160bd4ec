use Rattle.std.proofs.Common.{◌≡◌, take, drop, length}
use Rattle.sync_core.specs.Cores.{AreFirst}
use Rattle.sync_core.proofs.core_parts.timelines_of.Given as goal

abbrev pub invariant-loop-part : goal.invariant-loop-part
invariant-loop-part g l =
    (goal.iterator-loop-part g).can_next l.part-iterator
    × (goal.iterator-loop-part g).is_finite l.part-iterator
    × AreFirst l.until l.budget (take (length l.timelines.items) l.fn.parts.items) l.timelines.items
    × (drop (length l.timelines.items) l.fn.parts.items ≡ l.part-iterator.rest.items)
