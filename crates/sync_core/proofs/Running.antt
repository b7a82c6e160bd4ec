-- The parts that a plan begins with are those of its run.
use Rattle.std.proofs.Common.{ℕ, ◌≤◌, sym, subst, arith, List}
use Rattle.event_order.specs.Machine.{within}
use Rattle.event_order.proofs.Steps.{le_test}
use Rattle.ssf_model.specs.declared.plan.Plan.{Plan}
use Rattle.ssf_model.specs.Reaction.{Reaction, Validity, KeepsValid, LatestTime}
use Rattle.ssf_model.specs.Deliver.{IsModest}
use Rattle.ssf_model.specs.Run.{Fits}
use Rattle.run_health.specs.Healthy.{MostEvents}
use Rattle.alignment.specs.declared.labels.Mode.{Mode}
use Rattle.alignment.specs.Alignment.{IsAlignment, line_of, timeline_count}
use Rattle.alignment.proofs.Numbering.{line_below}
use Rattle.alignment.proofs.Lawful.{together_each}
use Rattle.sync_facts.specs.Nets.{net_of}
use Rattle.sync_facts.proofs.Nets.{aligned_net}
use Rattle.sync_facts.proofs.Shares.{shared_within}
use Rattle.core_rules.specs.Cores.{CoreView, IsCoreOfRun}
use Rattle.core_rules.specs.Beginning.{IsFirstCore}
use Rattle.core_rules.proofs.Begins.{first_of_run}

module _ {B S P : Type 0} (reaction : B → Reaction S P) (valid : B → Validity S) (carried : B → P → Type 0) (law : (b : B) → KeepsValid (valid b) (carried b) (reaction b))
    (modest : (b : B) → IsModest (valid b) (carried b) (reaction b)) where
  pub first_run : (plan : Plan B S P) (nets : List ℕ) (mode : Mode) (lines : List ℕ) (threshold until budget : ℕ) (core : CoreView B S P) → Fits (valid plan.behaviour) (carried plan.behaviour) plan
      → IsAlignment plan nets mode lines → until ≤ LatestTime → budget ≤ MostEvents → IsFirstCore plan lines threshold until budget core
      → IsCoreOfRun (valid core.behaviour) (carried core.behaviour) (reaction core.behaviour) core
  first_run plan nets mode lines threshold until budget core fits aligned in_time most first =
      let b = plan.behaviour in
      let size = aligned.entities in
      let together = together_each plan nets mode lines fits.wired aligned in
      let net = aligned_net (valid b) (carried b) plan fits (line_of lines) (timeline_count lines) threshold together (λ e h. line_below lines e (omega arith)) in
      let shared = shared_within (reaction b) (valid b) (carried b) (law b) (modest b) plan until in_time fits (line_of lines) (net_of plan (line_of lines) (timeline_count lines) threshold) net budget in
      let run : IsCoreOfRun (valid b) (carried b) (reaction b) core =
      first_of_run (reaction b) plan fits lines threshold until budget in_time most (within budget) shared core first
      (record { shared = shared; aligned = together; keeps = λ k low. le_test k.round budget low }) in
      subst (λ d. IsCoreOfRun (valid d) (carried d) (reaction d) core) (sym first.kept.behaviour) run
