use Rattle.std.proofs.Common.{ℕ, ◌↔◌, drop}
use Rattle.event_order.specs.Pending.{Among}
use Rattle.ssf_model.specs.Reaction.{Each}
use Rattle.host_roles.proofs.placed.lead_out.Given as goal

abbrev pub invariant-loop-index : goal.invariant-loop-index
invariant-loop-index l = Each (λ (way : ℕ × ℕ). Among way.1 l.outs) l.ways ↔ Each (λ (way : ℕ × ℕ). Among way.1 l.outs) (drop l.index l.ways)
