use Rattle.std.proofs.Common.{◌↔◌, drop}
use Rattle.ssf_model.specs.Reaction.{Each}
use Rattle.event_order.specs.Pending.{Among}
use Rattle.ssf_model.proofs.opening.are_among.Given as goal

abbrev pub invariant-loop-index : goal.invariant-loop-index
invariant-loop-index l = Each (λ c. Among c l.rising) l.channels ↔ Each (λ c. Among c l.rising) (drop l.index l.channels)
