use Rattle.std.proofs.Common.{◌≡◌}
use Rattle.net_plan.specs.NetDraft.{with_ins}
use Rattle.net_plan.proofs.building.add_ins.Given as goal

abbrev pub invariant-loop-channel : goal.invariant-loop-channel
invariant-loop-channel l = l.builder ≡ with_ins l.fn.builder l.host l._channel
