-- Along the run of a plan that fits its states stay valid, and its entries name entities that there are.
use Rattle.std.proofs.Common.{◌≡◌, ℕ, zero, suc, ◌<◌, ◌≤◌, Bool, length, refl, arith, Option, Some, None, option_map, slice_get}
use Rattle.std.specs.List.{All}
use Rattle.event_order.specs.declared.key.Key.{Key}
use Rattle.event_order.specs.Machine.{option_list}
use Rattle.ssf_model.specs.declared.event.Event.{Event}
use Rattle.ssf_model.specs.declared.event.Entry.{Entry}
use Rattle.ssf_model.specs.declared.entity.Entity.{Entity}
use Rattle.ssf_model.specs.declared.plan.Plan.{Plan}
use Rattle.ssf_model.specs.Reaction.{Reaction, Validity, KeepsValid, LatestTime, Each}
use Rattle.ssf_model.specs.Deliver.{IsModest}
use Rattle.ssf_model.specs.Entities.{IsValidEntity}
use Rattle.ssf_model.specs.Run.{world_after, run_event, entry_by, entry_at, run_entries, Fits}
use Rattle.run_health.specs.Healthy.{shape}
use Rattle.ssf_model.proofs.Lists.{each_append, each_all, mapped_length, within_of}
use Rattle.run_health.proofs.Along.{healthy_along, all_aligned, placed}

module _ {B S P : Type 0} (r : Reaction S P) (valid : Validity S) (carried : P → Type 0) (law : KeepsValid valid carried r) (modest : IsModest valid carried r)
    (plan : Plan B S P) (until : ℕ) (in_time : until ≤ LatestTime) (fits : Fits valid carried plan) (kept : Key → Bool) where
  pub valid_along : (n k : ℕ) (e : Entity B S P) → slice_get (world_after r plan until kept n).state.entities k ≡ Some e → IsValidEntity valid e
  valid_along n k e at = ((healthy_along r valid carried law modest plan until in_time fits kept (λ j. 0) (all_aligned r valid carried law modest plan until in_time fits kept plan.mappings) n).entities k e at).is_valid

  entry_entity : (o : Option (Entity B S P)) (e : Event P) → (entry_by r e o).entity ≡ e.entity
  entry_entity None e = refl
  entry_entity (Some en) e = refl

  abbrev Named : Entry → Type 0
  Named entry = entry.entity < length plan.entities

  one_named : (n : ℕ) (o : Option (Event P)) → run_event r plan until kept n ≡ o → Each Named (option_list (option_map (entry_at r (world_after r plan until kept n).state.entities) o))
  one_named n None h = tt
  one_named n (Some e) h =
      let p = placed r valid carried law modest plan until in_time fits kept n e h in
      let x = (world_after r plan until kept n).state in
      let within = within_of x.entities e.entity p.entity p.at in
      let size = mapped_length shape x.entities plan.entities p.healthy.shapes in
      let same = entry_entity (slice_get x.entities e.entity) e in
      (omega arith, tt)

  each_named : (n : ℕ) → Each Named (run_entries r plan until kept n)
  each_named zero = tt
  each_named (suc n) = each_append Named _ _ (each_named n) (one_named n (run_event r plan until kept n) refl)

  pub entries_named : (n : ℕ) → All Named (run_entries r plan until kept n)
  entries_named n = each_all Named _ (each_named n)
