use Rattle.std.proofs.Common.{◌≡◌, map, take, length}
use Rattle.timeline_parts.specs.Parts.{channel_of}
use Rattle.sync_steps.specs.Between.{events_on}
use Rattle.sync_steps.proofs.between.events_waiting.Given as goal

abbrev pub invariant-loop-cross : goal.invariant-loop-cross
invariant-loop-cross g l = l.waiting ≡ length (events_on l.mail (map channel_of (take l.cross-index l.ins)))
