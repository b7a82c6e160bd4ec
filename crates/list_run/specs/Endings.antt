-- How a run by one event list ends which writes its trace while it goes on, and what was written then.
use Rattle.std.specs.Prelude.{ℕ, ◌≡◌, ◌+◌, ◌≤◌, ◌⊎◌, ◌++◌, List, length, Option, None, IsSome}
use Rattle.sim_base.specs.Outside.{Appends, AppendsPrefix}
use Rattle.event_order.specs.Machine.{within}
use Rattle.ssf_model.specs.declared.event.Entry.{Entry}
use Rattle.ssf_model.specs.declared.event.Names.{Names}
use Rattle.ssf_model.specs.declared.plan.Plan.{Plan}
use Rattle.ssf_model.specs.Reaction.{Reaction}
use Rattle.ssf_model.specs.Run.{run_event, run_entries}
use Rattle.trace_writer.specs.Trace.{entries_text, trace_text}
use Rattle.trace_writer.specs.Report.{Totals, totals_of}

-- a tally of any entries became one of these and the new ones
abbrev pub IsTallied : Totals → Totals → List Entry → Type 0
IsTallied before after entries = (told : List Entry) → before ≡ totals_of told → after ≡ totals_of (told ++ entries)

module _ {B S P : Type 0} where
  -- these are the first entries of the run, whatever its cut, as long as the cut drops no round up to the budget
  abbrev pub AreFirst : Reaction S P → Plan B S P → ℕ → ℕ → List Entry → Type 0
  AreFirst r plan until budget entries = (R : ℕ) → budget ≤ R → entries ≡ run_entries r plan until (within R) (length entries)

  -- the run has at most as many events as the budget, and these are the entries of all of them
  pub record AreAll (r : Reaction S P) (plan : Plan B S P) (until budget : ℕ) (entries : List Entry) : Type 0 where
    pub few : length entries ≤ budget
    pub first : AreFirst r plan until budget entries
    pub no_more : (R : ℕ) → budget ≤ R → run_event r plan until (within R) (length entries) ≡ None

  -- it has more, and these are the entries of as many as the budget
  pub record AreBudget (r : Reaction S P) (plan : Plan B S P) (until budget : ℕ) (entries : List Entry) : Type 0 where
    pub full : length entries ≡ budget
    pub first : AreFirst r plan until budget entries
    pub more : (R : ℕ) → budget ≤ R → IsSome (run_event r plan until (within R) budget)

  -- the whole trace was written, and the tally counts its entries
  pub record IsTraced (r : Reaction S P) (plan : Plan B S P) (names : Names) (until budget : ℕ) (held held' : Option (List ℕ)) (tally tally' : Totals) : Type 0 where
    pub entries : List Entry
    pub all : AreAll r plan until budget entries
    pub text : Appends (trace_text names entries until (plan.before + length entries)) held held'
    pub tallied : IsTallied tally tally' entries

  -- exactly the records of as many events as the budget were written
  pub record IsOverBudget (r : Reaction S P) (plan : Plan B S P) (names : Names) (until budget : ℕ) (held held' : Option (List ℕ)) : Type 0 where
    pub entries : List Entry
    pub are : AreBudget r plan until budget entries
    pub text : Appends (entries_text names entries) held held'

  -- a part was written, from the beginning: of the trace, or of those records
  pub record IsPartOfTrace (r : Reaction S P) (plan : Plan B S P) (names : Names) (until budget : ℕ) (held held' : Option (List ℕ)) : Type 0 where
    pub entries : List Entry
    pub all : AreAll r plan until budget entries
    pub text : AppendsPrefix (trace_text names entries until (plan.before + length entries)) held held'

  pub record IsPartOfRecords (r : Reaction S P) (plan : Plan B S P) (names : Names) (until budget : ℕ) (held held' : Option (List ℕ)) : Type 0 where
    pub entries : List Entry
    pub are : AreBudget r plan until budget entries
    pub text : AppendsPrefix (entries_text names entries) held held'

  abbrev pub IsPartWritten : Reaction S P → Plan B S P → Names → ℕ → ℕ → Option (List ℕ) → Option (List ℕ) → Type 0
  IsPartWritten r plan names until budget held held' =
      IsPartOfTrace r plan names until budget held held' ⊎ IsPartOfRecords r plan names until budget held held'
