-- Parts that have done nothing keep all entries of the run.
use Rattle.std.proofs.Common.{◌≡◌, ℕ, zero, suc, ◌≤◌, true, false, List, [], replicate, subst, arith, None, slice_get}
use Rattle.event_order.specs.Machine.{within}
use Rattle.event_order.proofs.Steps.{le_test}
use Rattle.ssf_model.specs.declared.event.Event.{Event}
use Rattle.ssf_model.specs.declared.event.Entry.{Entry}
use Rattle.ssf_model.specs.declared.plan.Plan.{Plan}
use Rattle.ssf_model.specs.Reaction.{Reaction, Validity, KeepsValid, LatestTime}
use Rattle.ssf_model.specs.Deliver.{IsModest}
use Rattle.ssf_model.specs.Run.{States, Fits}
use Rattle.ssf_model.specs.Scene.{Scene}
use Rattle.run_health.specs.Healthy.{MostEvents}
use Rattle.sync_facts.specs.Nets.{net_of}
use Rattle.sync_facts.proofs.Nets.{aligned_net}
use Rattle.sync_facts.proofs.Shares.{shared_within}
use Rattle.alignment.specs.declared.labels.Mode.{Mode}
use Rattle.alignment.specs.Alignment.{IsAlignment, line_of, timeline_count}
use Rattle.alignment.proofs.Numbering.{line_below}
use Rattle.alignment.proofs.Lawful.{together_each}
use Rattle.timeline.specs.Sound.{IsRunOnLines}
use Rattle.barrier_window.specs.BarrierFields.{BarrierFields}
use Rattle.sync_steps.specs.Sounds.{has_least}
use Rattle.core_rules.specs.Cores.{CoreView}
use Rattle.core_rules.specs.Beginning.{IsFirstCore}
use Rattle.core_rules.proofs.Begins.{first_is_sound}
use Rattle.core_traces.specs.Kept.{AreKept, run_on, IsCoreFrom}

nothing_told : (n i : ℕ) → has_least (slice_get (replicate n None) i) ≡ true → ⊥
nothing_told zero i h = (let wrong : false ≡ true = h in cc)
nothing_told (suc n) zero h = (let wrong : false ≡ true = h in cc)
nothing_told (suc n) (suc i) h = nothing_told n i h

none_kept : (hist : List Entry) → hist ≡ [] → AreKept 0 [] hist
none_kept hist is = record { given_up = []; whole = is; before = λ x a. absurd a; from = λ x a. omega arith }

module _ {B S P : Type 0} (r : Reaction S P) (valid : Validity S) (carried : P → Type 0) (law : KeepsValid valid carried r) (modest : IsModest valid carried r)
    (plan : Plan B S P) (fits : Fits valid carried plan) (nets : List ℕ) (mode : Mode) (lines : List ℕ) (aligned : IsAlignment plan nets mode lines)
    (threshold until : ℕ) (in_time : until ≤ LatestTime) (budget : ℕ) (low : budget ≤ MostEvents) (most : ℕ) (up : budget ≤ most)
    (core : CoreView B S P) (first : IsFirstCore plan lines threshold until budget core) where
  abbrev s : Scene (States B S P) (Event P)
  s = run_on r plan lines threshold until (within most)

  on_lines : IsRunOnLines plan (line_of lines) budget s
  on_lines =
      let size = aligned.entities in
      let together = together_each plan nets mode lines fits.wired aligned in
      let net = aligned_net valid carried plan fits (line_of lines) (timeline_count lines) threshold together (λ e h. line_below lines e (omega (arith, h, size))) in
      record {
        shared = shared_within r valid carried law modest plan until in_time fits (line_of lines) (net_of plan (line_of lines) (timeline_count lines) threshold) net most;
        aligned = together;
        keeps = λ k here. le_test k.round most (omega (arith, here, up));
      }

  pub first_from : IsCoreFrom plan (line_of lines) s budget core 0
  first_from = record {
    run = on_lines;
    at = λ i. 0;
    before = 0;
    sound = first_is_sound r plan fits lines threshold until budget in_time low (within most) on_lines.shared core first;
    most = first.most;
    keeps = λ i t own. none_kept t.history (first.each i t own).history;
    reported = λ i t own told. absurd (nothing_told (timeline_count lines) i (subst (λ (b : BarrierFields). has_least (slice_get b.reports i) ≡ true) first.barrier told));
    safe = omega arith;
  }
