use Rattle.std.proofs.Common.{◌≡◌, map, take}
use Rattle.timeline_parts.specs.Parts.{channel_of}
use Rattle.sync_core.proofs.core_parts.channels_into.Given as goal

abbrev pub invariant-loop-cross : goal.invariant-loop-cross
invariant-loop-cross l = l.channels.items ≡ map channel_of (take l.cross-index l.fn.ins)
