-- The laws of pieces of a trace, for the behaviours of a run.
use Rattle.ssf_model.specs.Reaction.{Reaction, Validity, KeepsValid}
use Rattle.ssf_model.specs.Deliver.{IsModest}
use Rattle.core_traces.proofs.Keeps.{on_own, leads_on, leads_safe, gives_up}
use Rattle.core_traces.proofs.Ends.{budget_ends, safe_in_budget, ended_whole, ended_few, ended_windows}
use Rattle.core_traces.proofs.First.{first_from}
use Rattle.core_traces.proofs.Merging.{next_records}
use Rattle.core_traces.proofs.Records.{none_below, all_long}
use Rattle.core_traces.proofs.Room.{can_merge}
use Rattle.step_run.proofs.Beginning.{FirstLaw, NoneLaw}
use Rattle.step_run.proofs.Ending.{CountLaw}
use Rattle.step_run.proofs.Going.{AreLaws}

module _ {B S P : Type 0} (valid : B → Validity S) (carried : B → P → Type 0) (reaction : B → Reaction S P)
    (sound : (b : B) → KeepsValid (valid b) (carried b) (reaction b)) (modest : (b : B) → IsModest (valid b) (carried b) (reaction b)) where
  pub laws : AreLaws valid carried reaction
  laws = record {
    keep = λ b plan until kept line net fits in_time budget core from q after steps grown.
        let lead = steps plan until kept line net fits in_time q.at q.before (on_own (reaction b) (valid b) (carried b) (sound b) (modest b) plan until in_time fits kept line net budget core from q) q.sound in
        leads_on (reaction b) (valid b) (carried b) (sound b) (modest b) plan until in_time fits kept line net budget core from q after lead.0 lead.1 grown;
    safe = λ b plan until kept line net fits in_time budget core from q after steps.
        let lead = steps plan until kept line net fits in_time q.at q.before (on_own (reaction b) (valid b) (carried b) (sound b) (modest b) plan until in_time fits kept line net budget core from q) q.sound in
        leads_safe (reaction b) (valid b) (carried b) (sound b) (modest b) plan until in_time fits kept line net budget core from q after lead.0 lead.1;
    give = λ b plan until kept line net fits in_time budget core from q below order safe.
        gives_up (reaction b) (valid b) (carried b) (sound b) (modest b) plan until in_time fits kept line net budget core from q below order safe;
    can = λ b plan nets mode lines threshold until budget from kept core names fits aligned in_time most q size.
        can_merge (reaction b) (valid b) (carried b) (sound b) (modest b) plan until in_time fits kept nets mode lines threshold aligned budget most core from q names size;
    next = λ b plan until kept line net fits in_time budget core from q f entries order safe p.
        next_records (reaction b) (valid b) (carried b) (sound b) (modest b) plan until in_time fits kept line net budget core from q f entries order safe p;
    whole = λ b plan until kept line net fits in_time budget core from q ended entries p.
        ended_whole (reaction b) (valid b) (carried b) (sound b) (modest b) plan until in_time fits kept line net budget core from q ended entries p;
    few = λ b plan until kept line net fits in_time budget core from q ended.
        ended_few (reaction b) (valid b) (carried b) (sound b) (modest b) plan until in_time fits kept line net budget core from q ended;
    windows = λ b plan until kept line net fits in_time budget core from q ended.
        ended_windows (reaction b) (valid b) (carried b) (sound b) (modest b) plan until in_time fits kept line net budget core from q ended;
    budget_ends = λ b plan until kept line net fits in_time budget core from q i ends.
        budget_ends (reaction b) (valid b) (carried b) (sound b) (modest b) plan until in_time fits kept line net budget core from q i ends;
    within = λ b plan until kept line net fits in_time budget core from q.
        safe_in_budget (reaction b) (valid b) (carried b) (sound b) (modest b) plan until in_time fits kept line net budget core from q;
  }

  pub first_law : FirstLaw valid carried reaction
  first_law b plan nets mode lines threshold until budget most core fits aligned in_time low up first =
      first_from (reaction b) (valid b) (carried b) (sound b) (modest b) plan fits nets mode lines aligned threshold until in_time budget low most up core first

  pub none_law : NoneLaw valid carried reaction
  none_law b plan until kept = none_below (reaction b) plan until kept

  pub count_law : CountLaw valid carried reaction
  count_law b plan until kept entries q = all_long (reaction b) plan until kept entries q
