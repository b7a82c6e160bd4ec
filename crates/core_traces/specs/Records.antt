-- What of a run's records stands before a time, and what all of them are. A record is told of each executed event, by its
-- entry.
use Rattle.std.specs.Prelude.{ℕ, ◌≡◌, ◌<◌, ◌≤◌, Bool, List, Some, None, IsSome}
use Rattle.event_order.specs.declared.key.Key.{Key}
use Rattle.ssf_model.specs.declared.event.Event.{Event}
use Rattle.ssf_model.specs.declared.event.Entry.{Entry}
use Rattle.ssf_model.specs.declared.plan.Plan.{Plan}
use Rattle.ssf_model.specs.Reaction.{Reaction}
use Rattle.ssf_model.specs.Run.{run_event, run_entries}

module _ {B S P : Type 0} where
  -- the entries of the run with times below f: those of its first events, all of which have such times, and the next
  -- event, where there is one, has not
  pub record AreEntriesBelow (r : Reaction S P) (plan : Plan B S P) (until : ℕ) (kept : Key → Bool) (f : ℕ) (entries : List Entry) : Type 0 where
    pub count : ℕ
    pub are : entries ≡ run_entries r plan until kept count
    pub each : (k : ℕ) → k < count → (e : Event P) × (run_event r plan until kept k ≡ Some e) × (e.key.time < f)
    pub next : (e : Event P) → run_event r plan until kept count ≡ Some e → f ≤ e.key.time

  -- the entries of the whole run: it has so many events, each of these and none behind them
  pub record AreAllEntries (r : Reaction S P) (plan : Plan B S P) (until : ℕ) (kept : Key → Bool) (entries : List Entry) : Type 0 where
    pub count : ℕ
    pub are : entries ≡ run_entries r plan until kept count
    pub each : (k : ℕ) → k < count → IsSome (run_event r plan until kept k)
    pub no_more : run_event r plan until kept count ≡ None
