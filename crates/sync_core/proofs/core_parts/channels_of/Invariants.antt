use Rattle.std.proofs.Common.{◌≡◌, map, take}
use Rattle.core_rules.specs.Cores.{channel_in}
use Rattle.sync_core.proofs.core_parts.channels_of.Given as goal

abbrev pub invariant-loop-end : goal.invariant-loop-end
invariant-loop-end l = l.channels.items ≡ map channel_in (take l.end-index l.fn.ends)
