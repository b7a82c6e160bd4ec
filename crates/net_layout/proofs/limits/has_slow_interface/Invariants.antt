use Rattle.std.proofs.Common.{◌≡◌, false, take}
use Rattle.std.specs.List.{list_any}
use Rattle.net_layout.specs.Faults.{is_slow}
use Rattle.net_layout.proofs.limits.has_slow_interface.Given as goal

abbrev pub invariant-loop-interface : goal.invariant-loop-interface
invariant-loop-interface l = list_any (is_slow l.network) (take l.interface l.network.interfaces) ≡ false
