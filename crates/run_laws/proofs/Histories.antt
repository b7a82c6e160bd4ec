-- The entries of a plan's run, those that its timelines keep, and those before a time.
use Rattle.std.proofs.Common.{◌≡◌, ℕ, zero, suc, ◌<◌, ◌++◌, Bool, true, nat_eq, nat_lt, List, [], ◌∷◌, Option, Some, None, option_map, refl, ap, ◌∙◌, slice_get}
use Rattle.std.specs.List.{filter, flat_map}
use Rattle.event_order.specs.declared.key.Key.{Key}
use Rattle.event_order.specs.Order.{IsBefore}
use Rattle.event_order.specs.Pending.{IsRising}
use Rattle.event_order.specs.Machine.{option_list}
use Rattle.ssf_model.specs.declared.event.Event.{Event}
use Rattle.ssf_model.specs.declared.event.Entry.{Entry}
use Rattle.ssf_model.specs.declared.entity.Entity.{Entity}
use Rattle.ssf_model.specs.declared.plan.Plan.{Plan}
use Rattle.ssf_model.specs.Reaction.{Reaction}
use Rattle.ssf_model.specs.Run.{States, machine_of, entry_by, entry_at, run_event, run_entries, world_after}
use Rattle.ssf_model.specs.Scene.{Net, Scene, scene_of, event_at, time_of}
use Rattle.ssf_model.specs.Truth.{is_on_line, all_entries, line_entries, entries_below, IsPassed, HasReached, IsMerged, IsCut}
use Rattle.ssf_model.proofs.Histories.{part_of_all, entries_rise, cut_of, merged_is}
use Rattle.run_laws.specs.Openings.{OpensInOrder}
use Rattle.run_laws.proofs.OfPlans.{plan_keys_rise}

module _ {B S P : Type 0} (r : Reaction S P) (plan : Plan B S P) (until : ℕ) (kept : Key → Bool) (line : ℕ → ℕ) (net : Net) where
  abbrev run : Scene (States B S P) (Event P)
  run = scene_of r plan until kept line net

  one_entry : (n : ℕ) (o : Option (Event P)) → option_list (option_map (entry_at r (world_after r plan until kept n).state.entities) o)
      ≡ flat_map (λ e. entry_at r (world_after r plan until kept n).state.entities e ∷ []) (option_list o)
  one_entry n None = refl
  one_entry n (Some e) = refl

  pub run_is_all : (n : ℕ) → run_entries r plan until kept n ≡ all_entries run n
  run_is_all zero = refl
  run_is_all (suc n) =
      ap (λ xs. xs ++ option_list (option_map (entry_at r (world_after r plan until kept n).state.entities) (run_event r plan until kept n))) (run_is_all n)
      ∙ ap (λ xs. all_entries run n ++ xs) (one_entry n (run_event r plan until kept n))

  -- ---- what an entry tells of its event

  key_by : (e : Event P) (o : Option (Entity B S P)) → (entry_by r e o).key ≡ e.key
  key_by e None = refl
  key_by e (Some entity) = refl

  entity_by : (e : Event P) (o : Option (Entity B S P)) → (entry_by r e o).entity ≡ e.entity
  entity_by e None = refl
  entity_by e (Some entity) = refl

  keyed : (x : States B S P) (e : Event P) → (run.entry x e).key ≡ run.machine.key e
  unfolding machine_of
  keyed x e = key_by e (slice_get x.entities e.entity)

  on_line : (i : ℕ) (x : States B S P) (e : Event P) → nat_eq (line (run.entry x e).entity) i ≡ is_on_line run i e
  on_line i x e = ap (λ k. nat_eq (line k) i) (entity_by e (slice_get x.entities e.entity))

  before : (v : ℕ) (x : States B S P) (e : Event P) → nat_lt (run.entry x e).key.time v ≡ nat_lt (time_of run e) v
  before v x e = ap (λ (k : Key). nat_lt k.time v) (keyed x e)

  -- ---- parts of the run

  pub line_is_part : (i n : ℕ) → line_entries run i n ≡ filter (λ (x : Entry). nat_eq (line x.entity) i) (all_entries run n)
  line_is_part i n = part_of_all run (is_on_line run i) (λ (x : Entry). nat_eq (line x.entity) i) (on_line i) n

  pub below_is_part : (v n : ℕ) → entries_below run v n ≡ filter (λ (x : Entry). nat_lt x.key.time v) (all_entries run n)
  below_is_part v n = part_of_all run (λ e. nat_lt (time_of run e) v) (λ (x : Entry). nat_lt x.key.time v) (before v) n

  -- ---- their order

  module _ (opens : OpensInOrder plan) where
    rise : (n k : ℕ) (e d : Event P) → n < k → event_at run n ≡ Some e → event_at run k ≡ Some d → IsBefore (run.machine.key e) (run.machine.key d)
    unfolding machine_of
    rise n k e d l at there = plan_keys_rise r plan until opens kept n k e d l at there

    pub run_rises : (n : ℕ) → IsRising (λ (x : Entry). x.key) (all_entries run n)
    run_rises n = entries_rise run keyed rise (λ e. true) n

    pub line_rises : (i n : ℕ) → IsRising (λ (x : Entry). x.key) (line_entries run i n)
    line_rises i n = entries_rise run keyed rise (is_on_line run i) n

    pub moment_of : (v most : ℕ) → IsPassed run v most → (n : ℕ) × IsCut run v n
    moment_of v most within = cut_of run keyed rise v most within

    pub merged_is_run : (v n : ℕ) (at : ℕ → ℕ) (entries : List Entry) → IsCut run v n → HasReached run v at → IsMerged run v at entries → entries ≡ all_entries run n
    merged_is_run v n at entries cut reached is = merged_is run keyed rise v n cut at reached entries is
