-- The laws of machines, for the machine of a plan.
use Rattle.std.proofs.Common.{◌≡◌, ◌⊎◌, ℕ, ◌+◌, ◌<◌, ◌≤◌, Bool, ap, Some, None, arith}
use Rattle.event_order.specs.declared.key.Key.{Key}
use Rattle.event_order.specs.Order.{IsBefore}
use Rattle.event_order.specs.Pending.{Among, IsRising}
use Rattle.event_order.specs.Machine.{World, due, within, all_kept}
use Rattle.event_order.specs.Run.{WrittenBefore, ExecutedWithin, Arises, Run, Chain}
use Rattle.event_order.proofs.Steps.{event_arises}
use Rattle.event_order.proofs.Keys.{keys_rise, pending_rises, one_key, pending_executed}
use Rattle.event_order.proofs.Rounds.{rounds, first_events_same, cut_same}
use Rattle.event_order.proofs.Finite.{finite}
use Rattle.ssf_model.specs.declared.event.Event.{Event}
use Rattle.ssf_model.specs.declared.plan.Plan.{Plan}
use Rattle.ssf_model.specs.Reaction.{Reaction}
use Rattle.ssf_model.specs.Run.{States, machine_of, opening, run_event, run_events, run_entries, world_after}
use Rattle.ssf_model.proofs.Entries.{same_entries}
use Rattle.run_laws.specs.Openings.{OpensInOrder}
use Rattle.run_laws.proofs.Lawful.{known, fine, lawful, has_rounds, opened, rounds_opened}

module _ {B S P : Type 0} (r : Reaction S P) (plan : Plan B S P) (until : ℕ) (opens : OpensInOrder plan) where
  pub plan_keys_rise : (kept : Key → Bool) (n k : ℕ) (e d : Event P) → n < k → run_event r plan until kept n ≡ Some e → run_event r plan until kept k ≡ Some d → IsBefore e.key d.key
  unfolding machine_of
  plan_keys_rise kept n k e d h p q =
      keys_rise (machine_of {B = B} r plan.mappings) until kept (opening plan) (known r plan.mappings) (lawful r plan.mappings) (opened r plan opens) n k e d h p q

  pub plan_pending_rises : (kept : Key → Bool) (n : ℕ) → IsRising (λ (e : Event P). e.key) (world_after r plan until kept n).pending
  unfolding machine_of
  plan_pending_rises kept n = pending_rises (machine_of {B = B} r plan.mappings) until kept (opening plan) (known r plan.mappings) (lawful r plan.mappings) (opened r plan opens) n

  pub plan_keys_apart : (kept : Key → Bool) (e d : Event P) → Arises (machine_of {B = B} r plan.mappings) until kept (opening plan) e →
      Arises (machine_of {B = B} r plan.mappings) until kept (opening plan) d → e.key ≡ d.key → e ≡ d
  unfolding machine_of
  plan_keys_apart kept e d a b same =
      one_key (machine_of {B = B} r plan.mappings) until kept (opening plan) (known r plan.mappings) (lawful r plan.mappings) (opened r plan opens) e d a b same

  pub plan_pending_executed : (kept : Key → Bool) (n end : ℕ) (e : Event P) → n ≤ end → run_event r plan until kept end ≡ None →
      Among e (world_after r plan until kept n).pending → e.key.time ≤ until → ExecutedWithin (machine_of {B = B} r plan.mappings) until kept (opening plan) n end e
  unfolding machine_of
  plan_pending_executed kept n end e h o a t =
      pending_executed (machine_of {B = B} r plan.mappings) until kept (opening plan) (known r plan.mappings) (lawful r plan.mappings) (opened r plan opens) end n e o h a t

  abbrev pub run_with : (Key → Bool) → Run (States B S P) (Event P)
  run_with kept = record { machine = machine_of r plan.mappings; until = until; kept = kept; opening = opening plan }

  pub plan_rounds : (kept : Key → Bool) (n : ℕ) (e : Event P) → run_event r plan until kept n ≡ Some e →
      Chain (run_with kept) (λ p d. Unit {0}) (record { number = n; event = e }) e.key.round
  unfolding machine_of
  plan_rounds kept n e h =
      rounds (machine_of {B = B} r plan.mappings) until kept (opening plan) (fine r plan.mappings) (λ p d. Unit {0}) (has_rounds r plan.mappings)
      (λ k d q. tt) (rounds_opened r plan opens) n e h

  pub plan_cut_ends : (R : ℕ) → (n : ℕ) × (run_event r plan until (within R) n ≡ None)
  plan_cut_ends R =
      finite (machine_of {B = B} r plan.mappings) until R (opening plan) (known r plan.mappings) (fine r plan.mappings) (λ p d. Unit {0})
      (lawful r plan.mappings) (opened r plan opens) (has_rounds r plan.mappings) (λ k d q. tt) (rounds_opened r plan opens)

  pub plan_cut_same : (R n : ℕ) → n ≤ R + 1 → run_events r plan until (within R) n ≡ run_events r plan until all_kept n
  plan_cut_same R n h =
      first_events_same (machine_of {B = B} r plan.mappings) until (opening plan) (fine r plan.mappings) (λ p d. Unit {0}) (has_rounds r plan.mappings)
      (λ k d q. tt) (rounds_opened r plan opens) R n (omega arith)

  pub plan_cut_world : (R n : ℕ) → n ≤ R → world_after r plan until (within R) n ≡ world_after r plan until all_kept n
  plan_cut_world R n h =
      cut_same (machine_of {B = B} r plan.mappings) until (opening plan) (fine r plan.mappings) (λ p d. Unit {0}) (has_rounds r plan.mappings)
      (λ k d q. tt) (rounds_opened r plan opens) R n h

  pub plan_cut_event : (R n : ℕ) → n ≤ R → run_event r plan until (within R) n ≡ run_event r plan until all_kept n
  plan_cut_event R n h = ap (λ (v : World (States B S P) (Event P)). due (machine_of {B = B} r plan.mappings).key until v.pending) (plan_cut_world R n h)

  pub plan_cut_entries : (R n : ℕ) → n ≤ R + 1 → run_entries r plan until (within R) n ≡ run_entries r plan until all_kept n
  plan_cut_entries R n h = same_entries r plan.mappings until (within R) all_kept (opening plan) n (λ k l. plan_cut_world R k (omega arith))

pub plan_events_arise : {B S P : Type 0} (r : Reaction S P) (plan : Plan B S P) (until : ℕ) (kept : Key → Bool) (n : ℕ) (e : Event P) → run_event r plan until kept n ≡ Some e →
    Among e plan.events ⊎ WrittenBefore (machine_of {B = B} r plan.mappings) until kept (opening plan) n e
plan_events_arise {B = B} r plan until kept n e h = event_arises (machine_of {B = B} r plan.mappings) until kept (opening plan) n e h
