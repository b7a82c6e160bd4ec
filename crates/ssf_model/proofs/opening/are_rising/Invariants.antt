use Rattle.std.proofs.Common.{◌-◌, ◌≤◌, ◌↔◌, drop}
use Rattle.event_order.specs.Pending.{IsRising}
use Rattle.ssf_model.proofs.opening.are_rising.Given as goal

abbrev pub invariant-loop-index : goal.invariant-loop-index
invariant-loop-index g l = (1 ≤ l.index) × (IsRising (λ e. e.key) l.events ↔ IsRising (λ e. e.key) (drop (l.index - 1) l.events))
