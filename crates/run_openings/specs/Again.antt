-- Plans that go on where a run of theirs stood.
use Rattle.std.specs.Prelude.{ℕ, ◌≡◌, ◌+◌, ◌++◌, Bool}
use Rattle.event_order.specs.declared.key.Key.{Key}
use Rattle.ssf_model.specs.declared.plan.Plan.{Plan}
use Rattle.ssf_model.specs.Reaction.{Reaction}
use Rattle.ssf_model.specs.Run.{run_event, run_entries, world_after}
use Rattle.ssf_model.specs.Openings.{opening_after, reopened}

-- the plan with the opening that stands after the first n events of its own run up to the time `until`
abbrev pub reopened_after : {B S P : Type 0} → Reaction S P → Plan B S P → ℕ → (Key → Bool) → ℕ → Plan B S P
reopened_after r plan until kept n = reopened plan (opening_after r plan until kept n)

-- the run of the plan `again` goes through what the run of `plan` goes through after its first n events
pub record GoesOn {B S P : Type 0} (r : Reaction S P) (plan again : Plan B S P) (until : ℕ) (kept : Key → Bool) (n : ℕ) : Type 0 where
  pub worlds : (k : ℕ) → world_after r again until kept k ≡ world_after r plan until kept (k + n)
  pub events : (k : ℕ) → run_event r again until kept k ≡ run_event r plan until kept (k + n)
  pub entries : (k : ℕ) → run_entries r plan until kept n ++ run_entries r again until kept k ≡ run_entries r plan until kept (k + n)
