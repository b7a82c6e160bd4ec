use Rattle.std.proofs.Common.{take}
use Rattle.spf_routes.specs.Arms.{NoneRelays}
use Rattle.spf_routes.proofs.routes.relays.Given as goal

abbrev pub invariant-loop-arm : goal.invariant-loop-arm
invariant-loop-arm l = NoneRelays (take l.arm-index l.arms) l.from
