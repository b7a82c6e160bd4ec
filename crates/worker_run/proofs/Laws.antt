-- The laws of pieces of a trace, for parts that workers carry on.
use Rattle.ssf_model.specs.Reaction.{Reaction, Validity, KeepsValid}
use Rattle.ssf_model.specs.Deliver.{IsModest}
use Rattle.alignment.specs.Alignment.{line_of, timeline_count}
use Rattle.sync_facts.specs.Nets.{net_of}
use Rattle.core_traces.proofs.Merging.{next_records}
use Rattle.core_traces.proofs.Room.{can_merge}
use Rattle.core_traces.proofs.Ends.{safe_in_budget, budget_ends}
use Rattle.core_traces.proofs.First.{first_from}
use Rattle.core_traces.proofs.Unreported.{without_reports, from_core, grown_from, left_from, as_from, all_whole, all_few, all_windows}
use Rattle.worker_run.proofs.Beginning.{FirstLaw}
use Rattle.worker_run.proofs.Going.{AreLaws}

module _ {B S P : Type 0} (valid : B → Validity S) (carried : B → P → Type 0) (reaction : B → Reaction S P)
    (sound : (b : B) → KeepsValid (valid b) (carried b) (reaction b)) (modest : (b : B) → IsModest (valid b) (carried b) (reaction b)) where
  pub laws : AreLaws valid carried reaction
  laws = record {
    keep = λ b plan until kept line net fits in_time budget core from q after at v holds same grown up.
        grown_from (reaction b) (valid b) (carried b) (sound b) (modest b) plan until in_time fits kept line net budget core from q after at v holds same grown up;
    give = λ b plan until kept line net fits in_time budget core from q below order safe.
        left_from (reaction b) (valid b) (carried b) (sound b) (modest b) plan until in_time fits kept line net budget core from q below order safe;
    can = λ b plan nets mode lines threshold until budget from kept core names fits aligned in_time most q size.
        can_merge (reaction b) (valid b) (carried b) (sound b) (modest b) plan until in_time fits kept nets mode lines threshold aligned budget most (without_reports core) from
        (as_from (reaction b) (valid b) (carried b) (sound b) (modest b) plan until in_time fits kept (line_of lines) (net_of plan (line_of lines) (timeline_count lines) threshold) budget core from q) names size;
    next = λ b plan until kept line net fits in_time budget core from q f entries order safe p.
        next_records (reaction b) (valid b) (carried b) (sound b) (modest b) plan until in_time fits kept line net budget (without_reports core) from
        (as_from (reaction b) (valid b) (carried b) (sound b) (modest b) plan until in_time fits kept line net budget core from q) f entries order safe p;
    whole = λ b plan until kept line net fits in_time budget core from q ended entries p.
        all_whole (reaction b) (valid b) (carried b) (sound b) (modest b) plan until in_time fits kept line net budget core from q ended entries p;
    few = λ b plan until kept line net fits in_time budget core from q ended.
        all_few (reaction b) (valid b) (carried b) (sound b) (modest b) plan until in_time fits kept line net budget core from q ended;
    windows = λ b plan until kept line net fits in_time budget core from q ended.
        all_windows (reaction b) (valid b) (carried b) (sound b) (modest b) plan until in_time fits kept line net budget core from q ended;
    within = λ b plan until kept line net fits in_time budget core from q.
        safe_in_budget (reaction b) (valid b) (carried b) (sound b) (modest b) plan until in_time fits kept line net budget (without_reports core) from
        (as_from (reaction b) (valid b) (carried b) (sound b) (modest b) plan until in_time fits kept line net budget core from q);
    budget_ends = λ b plan until kept line net fits in_time budget core from q i ends.
        budget_ends (reaction b) (valid b) (carried b) (sound b) (modest b) plan until in_time fits kept line net budget (without_reports core) from
        (as_from (reaction b) (valid b) (carried b) (sound b) (modest b) plan until in_time fits kept line net budget core from q) i (record { timeline = ends.timeline; own = ends.own; over = ends.over; least = ends.least });
  }

  pub first_law : FirstLaw valid carried reaction
  first_law b plan nets mode lines threshold until budget most core fits aligned in_time low up first =
      from_core (reaction b) (valid b) (carried b) (sound b) (modest b) plan until in_time fits _ (line_of lines) (net_of plan (line_of lines) (timeline_count lines) threshold) budget core 0
      (first_from (reaction b) (valid b) (carried b) (sound b) (modest b) plan fits nets mode lines aligned threshold until in_time budget low most up core first)
