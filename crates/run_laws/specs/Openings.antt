-- What the laws need of a plan's opening.
use Rattle.std.specs.Prelude.{◌≡◌, ◌<◌}
use Rattle.event_order.specs.Pending.{IsRising}
use Rattle.ssf_model.specs.declared.plan.Plan.{Plan}
use Rattle.ssf_model.specs.Reaction.{Each}
use Rattle.ssf_model.specs.Run.{counts_of}

-- the pending events stand in key order, in round 0, with numbers that their channels have counted
pub record OpensInOrder {B S P : Type 0} (plan : Plan B S P) : Type 0 where
  pub rising : IsRising (λ e. e.key) plan.events
  pub rounds : Each (λ e. e.key.round ≡ 0) plan.events
  pub numbers : Each (λ e. e.key.number < counts_of plan.counts e.key.channel) plan.events
