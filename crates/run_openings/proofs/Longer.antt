-- A run to a later end that goes on from an opening.
use Rattle.std.proofs.Common.{◌≡◌, ℕ, zero, suc, ◌+◌, ◌≤◌, Bool, List, ◌++◌, length, refl, sym, arith, Option, Some, None, length-append}
use Rattle.event_order.specs.declared.key.Key.{Key}
use Rattle.event_order.specs.Machine.{option_list}
use Rattle.event_order.proofs.Continuing.{longer_world}
use Rattle.ssf_model.specs.declared.plan.Plan.{Plan}
use Rattle.ssf_model.specs.Reaction.{Reaction, Validity, KeepsValid, LatestTime}
use Rattle.ssf_model.specs.Deliver.{IsModest}
use Rattle.ssf_model.specs.Run.{Fits, machine_of, opening, run_event, run_events, run_entries, world_after}
use Rattle.run_openings.specs.Again.{reopened_after}
use Rattle.run_openings.proofs.Again.{worlds_from, events_from, entries_from_there}
use Rattle.run_openings.proofs.Room.{few_events}

one_more : {T : Type 0} (xs : List T) (o : Option T) (n : ℕ) → length xs ≤ n → length (xs ++ option_list o) ≡ suc n → (x : T) × (o ≡ Some x)
one_more {T} xs None n few long = absurd (omega (arith, length-append xs (option_list {E = T} None)))
one_more xs (Some x) n few long = (x, refl)

module _ {B S P : Type 0} (r : Reaction S P) (valid : Validity S) (carried : P → Type 0) (law : KeepsValid valid carried r) (modest : IsModest valid carried r)
    (plan : Plan B S P) (until : ℕ) (in_time : until ≤ LatestTime) (fits : Fits valid carried plan) (kept : Key → Bool) (later : ℕ) (less : until ≤ later) where
  -- after so many events as there are up to the earlier end both runs are at the same world
  same_there : (n : ℕ) → length (run_events r plan until kept n) ≡ n → world_after r plan until kept n ≡ world_after r plan later kept n
  same_there zero long = refl
  same_there (suc n) long =
      let last = one_more (run_events r plan until kept n) (run_event r plan until kept n) n (few_events r plan until kept n) long in
      sym (longer_world (machine_of {B = B} r plan.mappings) until later less kept (opening plan) n last.0 last.1)

  pub longer_worlds : (n k : ℕ) → length (run_events r plan until kept n) ≡ n → world_after r (reopened_after r plan until kept n) later kept k ≡ world_after r plan later kept (k + n)
  longer_worlds n k long = worlds_from r valid carried law modest plan until in_time fits kept later n k (same_there n long)

  pub longer_events : (n k : ℕ) → length (run_events r plan until kept n) ≡ n → run_event r (reopened_after r plan until kept n) later kept k ≡ run_event r plan later kept (k + n)
  longer_events n k long = events_from r valid carried law modest plan until in_time fits kept later n k (same_there n long)

  pub longer_entries : (n k : ℕ) → length (run_events r plan until kept n) ≡ n →
      run_entries r plan later kept n ++ run_entries r (reopened_after r plan until kept n) later kept k ≡ run_entries r plan later kept (k + n)
  longer_entries n k long = entries_from_there r valid carried law modest plan until in_time fits kept later n k (same_there n long)
