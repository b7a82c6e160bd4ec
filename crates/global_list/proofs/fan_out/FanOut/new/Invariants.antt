use Rattle.std.proofs.Common.{take}
use Rattle.global_list.specs.FanOut.{IsByOut}
use Rattle.global_list.proofs.fan_out.FanOut.new.Given as goal

abbrev pub invariant-loop-mapping : goal.invariant-loop-mapping
invariant-loop-mapping l = IsByOut l.by_out.items (take l.mapping-index l.fn.mappings)
