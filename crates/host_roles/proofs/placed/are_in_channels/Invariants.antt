use Rattle.std.proofs.Common.{◌↔◌, drop}
use Rattle.host_roles.proofs.Placing.{InsAre}
use Rattle.host_roles.proofs.placed.are_in_channels.Given as goal

abbrev pub invariant-loop-index : goal.invariant-loop-index
invariant-loop-index l = InsAre l.ports l.poke_in l.ins ↔ InsAre (drop l.index l.ports) l.poke_in (drop l.index l.ins)
