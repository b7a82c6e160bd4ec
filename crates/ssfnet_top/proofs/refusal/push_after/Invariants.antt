use Rattle.std.proofs.Common.{◌≡◌, ◌++◌, map, take}
use Rattle.ssfnet_top.specs.Refusals.{printable_byte}
use Rattle.ssfnet_top.proofs.refusal.push_after.Given as goal

-- the bytes up to here stand behind the front
abbrev pub invariant-loop-byte : goal.invariant-loop-byte
invariant-loop-byte l = l.out.items ≡ l.fn.out.items ++ (l.front ++ map printable_byte (take l.byte-index l.byte-items))
