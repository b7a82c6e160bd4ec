use Rattle.std.proofs.Common.{◌↔◌, drop}
use Rattle.ssf_model.specs.Reaction.{Each}
use Rattle.host_rules.specs.Limits.{HasOuts}
use Rattle.host_roles.proofs.placed.have_outs.Given as goal

abbrev pub invariant-loop-index : goal.invariant-loop-index
invariant-loop-index l = Each (HasOuts l.outs) l.ports ↔ Each (HasOuts l.outs) (drop l.index l.ports)
