use Rattle.std.proofs.Common.{take}
use Rattle.spf_routes.specs.Arms.{AreDirect}
use Rattle.spf_routes.proofs.routes.direct_labels.Given as goal

abbrev pub invariant-loop-arm : goal.invariant-loop-arm
invariant-loop-arm l = AreDirect (take l.arm-index l.arms) l.from l.links l.direct.items
