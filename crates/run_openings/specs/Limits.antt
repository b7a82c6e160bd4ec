-- Which numbers an opening may have, and how far a plan is from them.
use Rattle.std.specs.Prelude.{ℕ, ◌≡◌, ◌+◌, ◌*◌, ◌≤◌}
use Rattle.ssf_model.specs.declared.opening.Opening.{Opening}
use Rattle.ssf_model.specs.declared.plan.Plan.{Plan}
use Rattle.ssf_model.specs.Reaction.{Each}
use Rattle.ssf_model.specs.Run.{MostBefore, MostCount, MostTicket}
use Rattle.run_health.specs.Healthy.{MostSent}

-- no number is too great for an opening, and all that is pending is in round 0
pub record IsWithinLimits {B S P : Type 0} (o : Opening B S P) : Type 0 where
  pub counts : Each (λ count. count ≤ MostCount) o.counts
  pub tickets : Each (λ e. Each (λ ticket. ticket ≤ MostTicket) e.tickets) o.entities
  pub events : o.events ≤ MostBefore
  pub rounds : Each (λ e. e.key.round ≡ 0) o.pending

-- so many events make no number too great: each raises a ticket by at most one, and a count by at most `MostSent`
pub record HasRoomFor {B S P : Type 0} (events : ℕ) (plan : Plan B S P) : Type 0 where
  pub counts : Each (λ count. count + events * MostSent ≤ MostCount) plan.counts
  pub tickets : Each (λ e. Each (λ p. p.ticket + events ≤ MostTicket) e.processes) plan.entities
  pub before : plan.before + events ≤ MostBefore
