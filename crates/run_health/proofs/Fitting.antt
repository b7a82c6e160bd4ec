-- The opening of a plan that fits is healthy, before any event.
use Rattle.std.proofs.Common.{◌≡◌, ℕ, zero, suc, ◌+◌, ◌*◌, ◌^◌, ◌≤◌, List, [], ◌∷◌, refl, arith, Some, slice_get, get_or}
use Rattle.ssf_model.specs.declared.event.Event.{Event}
use Rattle.ssf_model.specs.declared.process.Process.{Process}
use Rattle.ssf_model.specs.declared.entity.Entity.{Entity}
use Rattle.ssf_model.specs.declared.plan.Plan.{Plan}
use Rattle.ssf_model.specs.Reaction.{Validity, Each}
use Rattle.ssf_model.specs.Entities.{IsValidEntity}
use Rattle.ssf_model.specs.Run.{MostTicket, opening, IsProcessOf, IsPending, Fits}
use Rattle.run_health.specs.Healthy.{IsWaiting, IsHealthyEntity, IsHealthyEvent, IsHealthy}
use Rattle.ssf_model.proofs.Lists.{each_get, each_among, each_of}

each_count : (most : ℕ) (xs : List ℕ) (c : ℕ) → Each (λ x. x ≤ most) xs → get_or xs c 0 ≤ most
each_count most [] c e = omega arith
each_count most (x ∷ xs) zero e = e.0
each_count most (x ∷ xs) (suc c) e = each_count most xs c e.1

module _ {B S P : Type 0} (valid : Validity S) (carried : P → Type 0) (plan : Plan B S P) (fits : Fits valid carried plan) (spent : ℕ → ℕ) where
  entity_in : (k : ℕ) (e : Entity B S P) → slice_get plan.entities k ≡ Some e → IsHealthyEntity valid (spent k) e
  entity_in k e at =
      let own : Each (IsProcessOf e.in_channels) e.processes =
      each_get (λ (z : Entity B S P). Each (IsProcessOf z.in_channels) z.processes) plan.entities k e fits.opened.processes at in
      record {
        is_valid = each_get (IsValidEntity valid) plan.entities k e fits.opened.entities at;
        waiting = each_of (IsProcessOf e.in_channels) (IsWaiting e.in_channels) e.processes (λ p q. record { waits = q.waits; untimed = q.untimed }) own;
        tickets = each_of (IsProcessOf e.in_channels) (λ (p : Process). p.ticket ≤ MostTicket + spent k) e.processes (λ p q. let low = q.ticket in omega arith) own;
      }

  event_in : (d : Event P) → IsPending carried plan d → IsHealthyEvent carried plan.mappings (opening plan).state spent d
  event_in d h = record { entity = h.entity; on_channel = h.on_channel; number = h.number; round = omega (arith, h.round); time = omega (arith, h.time) }

  pub healthy_first : IsHealthy valid carried plan spent (opening plan)
  healthy_first = record {
    shapes = refl;
    entities = entity_in;
    pending = λ d a. event_in d (each_among (IsPending carried plan) plan.events d fits.opened.pending a);
    counts = λ k c w. let h = each_count (5 * 10 ^ 18) plan.counts c fits.opened.counts in omega arith;
  }
