use Rattle.std.proofs.Common.{◌≡◌, map, drop}
use Rattle.timeline_parts.specs.Parts.{channel_of}
use Rattle.sync_steps.specs.Between.{can_take}
use Rattle.sync_steps.proofs.between.has_mail.Given as goal

-- no mapping so far has mail
abbrev pub invariant-loop-cross : goal.invariant-loop-cross
invariant-loop-cross g l = can_take l.timeline l.mail (map channel_of l.ins) ≡ can_take l.timeline l.mail (map channel_of (drop l.cross-index l.ins))
