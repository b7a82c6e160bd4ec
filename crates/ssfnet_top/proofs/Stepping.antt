-- From the end of a run by steps to what a command answers.
use Rattle.std.proofs.Common.{ℕ, ◌≡◌, ◌<◌, ◌≤◌, ◌+◌, ◌++◌, ◌∙◌, arith, ap, sym, subst, refl, Bool, true, false, List, [], length, Option, Result, Ok, Err, IfErr, OnOk, ◌⊎◌, inl, inr}
use Rattle.sim_base.specs.Outside.{Rose, Appends}
use Rattle.net_graph.specs.declared.fault.ShapeFault.{ShapeFault}
use Rattle.net_graph.specs.declared.fault.ShapeFault.TheVariants as shape_fault
use Rattle.ssf_model.specs.declared.event.Entry.{Entry}
use Rattle.ssf_model.specs.declared.event.Names.{Names}
use Rattle.ssf_model.specs.declared.plan.Plan.{Plan}
use Rattle.ssf_model.specs.Reaction.{Reaction}
use Rattle.ssf_model.specs.Truth.{AreFew}
use Rattle.alignment.specs.declared.labels.Mode.{Mode}
use Rattle.alignment.specs.Alignment.{IsAlignment, timeline_count}
use Rattle.trace_writer.specs.Trace.{entries_text, trace_text}
use Rattle.trace_writer.specs.Report.{Totals, totals_of, report_of, report_with}
use Rattle.core_traces.specs.Ends.{AreWindows, IsInBudget, EndsBudget}
use Rattle.step_run.specs.declared.running.StepEnd.{StepEnd}
use Rattle.step_run.specs.declared.running.StepEnd.TheVariants as end
use Rattle.step_run.specs.Endings.{IfFinished, IfOverBudget, IfMemoryBelow, IfTooMany, IfWrite, IfNotBegun, IfBegun, IsTraced, IsWrittenBelow, IsPartWritten, OnTimelines, HasStoppedAt}
use Rattle.ssfnet_top.specs.declared.refusal.Refusal.{Refusal}
use Rattle.ssfnet_top.specs.declared.refusal.Refusal.TheVariants as refusal
use Rattle.ssfnet_top.specs.Refusals.{status_of}
use Rattle.ssfnet_top.specs.Outcome.{done_with, refused, windows_line, told_if, HasTimelines, IsDueOn, IsMidwayOn}
use Rattle.ssfnet_top.specs.Answering.{Answers, AnswersMidway, IsOfSteps, answer_of, told_with}
use Rattle.ssfnet_top.specs.Ending.{IsLongReport}

told_of : (wanted : Bool) (totals : Totals) (entries : List Entry) (crossed last : ℕ) → totals ≡ totals_of entries → told_with wanted totals crossed last ≡ told_if wanted entries crossed last
unfolding report_of
told_of true totals entries crossed last is = ap (λ (t : Totals). report_with t ++ windows_line crossed last) is
told_of false totals entries crossed last is = refl

pub long_report : (wanted : Bool) (totals : Totals) (entries : List Entry) (crossed last : ℕ) (text : List ℕ) → totals ≡ totals_of entries → text ≡ told_with wanted totals crossed last → IsLongReport wanted text
unfolding report_of
long_report true totals entries crossed last text is made = (entries, crossed, last, made ∙ ap (λ (t : Totals). report_with t ++ windows_line crossed last) is)
long_report false totals entries crossed last text is made = made

done_by : (report report' text : List ℕ) → report ≡ report' → done_with report text ≡ done_with report' text
done_by report report' text same = ap (λ (t : List ℕ). done_with t text) same

too_many_there : (count : ℕ) → ◌≡◌ {A = ShapeFault} (shape_fault.TooManyTimelines count) shape_fault.Memory → ⊥
too_many_there count is = cc

module _ {B S P : Type 0} (r : Reaction S P) (plan : Plan B S P) (names : Names) (nets : List ℕ) (mode : Mode) (threshold until budget : ℕ) (wanted : Bool)
    (faults faults' : ℕ) (held held' : Option (List ℕ)) where
  abbrev pub Gives : List ℕ → Result (Unit {0}) Refusal → Type 0
  Gives report answer =
      Answers (IsDueOn r plan names nets mode threshold until budget wanted) report answer faults faults' held held'
      ⊎ AnswersMidway (IsMidwayOn r plan names nets mode threshold until budget) answer faults faults' held held'

  pub gives_whole : (crossed last : ℕ) (totals first : Totals) (report : List ℕ) (unit : Unit {0}) → HasTimelines plan nets mode → first ≡ totals_of []
      → IsTraced r plan names until budget held held' first totals
      → OnTimelines r plan nets mode threshold until budget (λ s. AreFew s budget)
      → OnTimelines r plan nets mode threshold until budget (λ s. AreWindows s crossed last)
      → report ≡ told_with wanted totals crossed last → Gives report (Ok unit)
  gives_whole crossed last totals first report unit there start traced few windows made =
      inl (inl (
        trace_text names traced.entries until (plan.before + length traced.entries),
        inl (
          there,
          inl (record {
            entries = traced.entries;
            all = traced.all;
            few = few;
            crossed = crossed;
            last = last;
            windows = windows;
            whole = done_by report _ _ (made ∙ told_of wanted totals traced.entries crossed last (traced.tallied [] start));
          }),
        ),
        traced.text,
      ))

  pub tells_whole : (crossed last : ℕ) (totals first : Totals) (report : List ℕ) → first ≡ totals_of [] → IsTraced r plan names until budget held held' first totals
      → report ≡ told_with wanted totals crossed last → IsLongReport wanted report
  tells_whole crossed last totals first report start traced made = long_report wanted totals traced.entries crossed last report (traced.tallied [] start) made

  pub gives_over : (timeline below : ℕ) (report : List ℕ) → HasTimelines plan nets mode
      → OnTimelines r plan nets mode threshold until budget (λ s. EndsBudget s budget timeline below) → HasStoppedAt r plan nets mode threshold until budget timeline
      → IsWrittenBelow r plan names until budget below held held' → Gives report (Err (refusal.TimelineBudget timeline budget below))
  gives_over timeline below report there ends stopped written =
      inl (inl (entries_text names written.entries, inl (there, inr (record { timeline = timeline; below = below; ends = ends; stopped = stopped; entries = written.entries; before = written.are; first = refl })), written.text))

  pub gives_below : (below : ℕ) (report : List ℕ) → HasTimelines plan nets mode → below ≤ until + 1
      → OnTimelines r plan nets mode threshold until budget (λ s. IsInBudget s budget below)
      → IsWrittenBelow r plan names until budget below held held' → Gives report (Err (refusal.MemoryBelow below))
  gives_below below report there late inside written =
      inr (below, entries_text names written.entries, record { few = there; inside = late; in_budget = inside; entries = written.entries; before = written.are; text_is = refl }, inl (inl refl, written.text))

  pub gives_stop : (worker below : ℕ) (report : List ℕ) → HasTimelines plan nets mode → below ≤ until + 1
      → OnTimelines r plan nets mode threshold until budget (λ s. IsInBudget s budget below)
      → IsWrittenBelow r plan names until budget below held held' → Gives report (Err (refusal.Stopped worker below))
  gives_stop worker below report there late inside written =
      inr (below, entries_text names written.entries, record { few = there; inside = late; in_budget = inside; entries = written.entries; before = written.are; text_is = refl }, inl (inr (worker, refl), written.text))

  pub gives_nothing : (report : List ℕ) → Appends [] held held' → Gives report (Err refusal.Memory)
  gives_nothing report none = inl (inr (inr (refl, none)))

  pub gives_many : (count : ℕ) (report : List ℕ) → (lines : List ℕ) × IsAlignment plan nets mode lines × (4096 < timeline_count lines) × (count ≡ timeline_count lines)
      → Appends [] held held' → Gives report (Err (refusal.Shape (shape_fault.TooManyTimelines count)))
  gives_many count report (lines, aligned, many, is) none =
      inl (inl ([], inr (record { lines = lines; aligned = aligned; many = many; none = ap {B = _} (λ (n : ℕ). refused (refusal.Shape (shape_fault.TooManyTimelines n)) []) is }), none))

  pub gives_part : (report : List ℕ) → HasTimelines plan nets mode → Rose faults faults' → IsPartWritten r plan names nets mode threshold until budget held held' → Gives report (Err refusal.Write)
  gives_part report there rose (inl piece) =
      inr (piece.below, entries_text names piece.entries, record { few = there; inside = piece.inside; in_budget = piece.in_budget; entries = piece.entries; before = piece.are; text_is = refl }, inr (refl, rose, piece.text))
  gives_part report there rose (inr piece) =
      inl (inr (inl (
        done_with (told_if wanted piece.entries piece.crossed piece.last) (trace_text names piece.entries until (plan.before + length piece.entries)),
        inl (there, inl (record { entries = piece.entries; all = piece.all; few = piece.few; crossed = piece.crossed; last = piece.last; windows = piece.windows; whole = refl })),
        inr (refl, rose),
        piece.text,
      )))

  -- what a run says where it ended so
  pub record HasRun (e : StepEnd) (first totals : Totals) : Type 0 where
    pub trace : IfFinished e (λ crossed last. IsTraced r plan names until budget held held' first totals)
    pub few : IfFinished e (λ crossed last. OnTimelines r plan nets mode threshold until budget (λ s. AreFew s budget))
    pub windows : IfFinished e (λ crossed last. OnTimelines r plan nets mode threshold until budget (λ s. AreWindows s crossed last))
    pub over : IfOverBudget e (λ timeline below. IsWrittenBelow r plan names until budget below held held')
    pub budget_ends : IfOverBudget e (λ timeline below. OnTimelines r plan nets mode threshold until budget (λ s. EndsBudget s budget timeline below))
    pub stopped : IfOverBudget e (λ timeline below. HasStoppedAt r plan nets mode threshold until budget timeline)
    pub inside : IfMemoryBelow e (λ below. below ≤ until + 1)
    pub memory_below : IfMemoryBelow e (λ below. IsWrittenBelow r plan names until budget below held held')
    pub in_budget : IfMemoryBelow e (λ below. OnTimelines r plan nets mode threshold until budget (λ s. IsInBudget s budget below))
    pub nothing : IfNotBegun e (Appends [] held held')
    pub too_many : IfTooMany e (λ count. (lines : List ℕ) × IsAlignment plan nets mode lines × (4096 < timeline_count lines) × (count ≡ timeline_count lines))
    pub begun : IfBegun e (HasTimelines plan nets mode)
    pub part : IfWrite e (IsPartWritten r plan names nets mode threshold until budget held held')
    pub cause : IfWrite e (Rose faults faults')

  module _ (first totals : Totals) (report : List ℕ) (start : first ≡ totals_of []) where
    gives_end : (e : StepEnd) → HasRun e first totals → IfFinished e (λ crossed last. report ≡ told_with wanted totals crossed last) → Gives report (answer_of budget e)
    gives_end (end.Finished crossed last) h made = gives_whole crossed last totals first report tt h.begun start h.trace h.few h.windows made
    gives_end (end.OverBudget timeline below) h made = gives_over timeline below report h.begun h.budget_ends h.stopped h.over
    gives_end (end.MemoryBelow below) h made = gives_below below report h.begun h.inside h.in_budget h.memory_below
    gives_end end.Memory h made = gives_nothing report h.nothing
    gives_end (end.TooManyTimelines count) h made = gives_many count report h.too_many h.nothing
    gives_end end.Write h made = gives_part report h.begun h.cause h.part

    tells_end : (e : StepEnd) → IfFinished e (λ crossed last. IsTraced r plan names until budget held held' first totals) → IfFinished e (λ crossed last. report ≡ told_with wanted totals crossed last) → OnOk (answer_of budget e) (IsLongReport wanted report)
    tells_end (end.Finished crossed last) h made = tells_whole crossed last totals first report start h made
    tells_end (end.OverBudget timeline below) h made = tt
    tells_end (end.MemoryBelow below) h made = tt
    tells_end end.Memory h made = tt
    tells_end (end.TooManyTimelines count) h made = tt
    tells_end end.Write h made = tt

  causes_end : (e : StepEnd) → IfErr (answer_of budget e) (λ x. IsOfSteps budget x)
  causes_end (end.Finished crossed last) = tt
  causes_end (end.OverBudget timeline below) = refl
  causes_end (end.MemoryBelow below) = tt
  causes_end end.Memory = tt
  causes_end (end.TooManyTimelines count) = λ is. too_many_there count is
  causes_end end.Write = tt

  -- what else is so of the answer
  writes_end : (e : StepEnd) → IfWrite e (Rose faults faults') → IfErr (answer_of budget e) (λ x. x ≡ refusal.Write → Rose faults faults')
  writes_end (end.Finished crossed last) h = tt
  writes_end (end.OverBudget timeline below) h = λ is. absurd (let no : ◌≡◌ {A = Refusal} (refusal.TimelineBudget timeline budget below) refusal.Write = is in cc)
  writes_end (end.MemoryBelow below) h = λ is. absurd (let no : ◌≡◌ {A = Refusal} (refusal.MemoryBelow below) refusal.Write = is in cc)
  writes_end end.Memory h = λ is. absurd (let no : ◌≡◌ {A = Refusal} refusal.Memory refusal.Write = is in cc)
  writes_end (end.TooManyTimelines count) h = λ is. absurd (let no : ◌≡◌ {A = Refusal} (refusal.Shape (shape_fault.TooManyTimelines count)) refusal.Write = is in cc)
  writes_end end.Write h = λ is. h

  leaves_end : (e : StepEnd) → IfNotBegun e (Appends [] held held') → IfErr (answer_of budget e) (λ x. status_of x ≡ 6 → Appends [] held held')
  leaves_end (end.Finished crossed last) h = tt
  leaves_end (end.OverBudget timeline below) h = λ is. absurd (omega (arith, is))
  leaves_end (end.MemoryBelow below) h = λ is. absurd (omega (arith, is))
  leaves_end end.Memory h = λ is. h
  leaves_end (end.TooManyTimelines count) h = λ is. h
  leaves_end end.Write h = λ is. absurd (omega (arith, is))

  unbegun_end : (e : StepEnd) → IfNotBegun e (Appends [] held held') → IfErr (answer_of budget e) (λ x. x ≡ refusal.Memory → Appends [] held held')
  unbegun_end (end.Finished crossed last) h = tt
  unbegun_end (end.OverBudget timeline below) h = λ is. absurd (let no : ◌≡◌ {A = Refusal} (refusal.TimelineBudget timeline budget below) refusal.Memory = is in cc)
  unbegun_end (end.MemoryBelow below) h = λ is. absurd (let no : ◌≡◌ {A = Refusal} (refusal.MemoryBelow below) refusal.Memory = is in cc)
  unbegun_end end.Memory h = λ is. h
  unbegun_end (end.TooManyTimelines count) h = λ is. h
  unbegun_end end.Write h = λ is. absurd (let no : ◌≡◌ {A = Refusal} refusal.Write refusal.Memory = is in cc)

  -- an answer that is the one of the end
  module _ (e : StepEnd) (answer : Result (Unit {0}) Refusal) (is : answer ≡ answer_of budget e) where
    pub ended_due : (first totals : Totals) (report : List ℕ) → first ≡ totals_of [] → HasRun e first totals → IfFinished e (λ crossed last. report ≡ told_with wanted totals crossed last) → Gives report answer
    ended_due first totals report start h made = subst (λ (a : Result (Unit {0}) Refusal). Gives report a) (sym is) (gives_end first totals report start e h made)

    pub ended_told : (first totals : Totals) (report : List ℕ) → first ≡ totals_of [] → IfFinished e (λ crossed last. IsTraced r plan names until budget held held' first totals) → IfFinished e (λ crossed last. report ≡ told_with wanted totals crossed last)
        → OnOk answer (IsLongReport wanted report)
    ended_told first totals report start h made = subst (λ (a : Result (Unit {0}) Refusal). OnOk a (IsLongReport wanted report)) (sym is) (tells_end first totals report start e h made)

    pub ended_cause : IfErr answer (λ x. IsOfSteps budget x)
    ended_cause = subst (λ (a : Result (Unit {0}) Refusal). IfErr a (λ x. IsOfSteps budget x)) (sym is) (causes_end e)

    pub ended_write : IfWrite e (Rose faults faults') → IfErr answer (λ x. x ≡ refusal.Write → Rose faults faults')
    ended_write h = subst (λ (a : Result (Unit {0}) Refusal). IfErr a (λ x. x ≡ refusal.Write → Rose faults faults')) (sym is) (writes_end e h)

    pub ended_nothing : IfNotBegun e (Appends [] held held') → IfErr answer (λ x. status_of x ≡ 6 → Appends [] held held')
    ended_nothing h = subst (λ (a : Result (Unit {0}) Refusal). IfErr a (λ x. status_of x ≡ 6 → Appends [] held held')) (sym is) (leaves_end e h)

    pub ended_unbegun : IfNotBegun e (Appends [] held held') → IfErr answer (λ x. x ≡ refusal.Memory → Appends [] held held')
    ended_unbegun h = subst (λ (a : Result (Unit {0}) Refusal). IfErr a (λ x. x ≡ refusal.Memory → Appends [] held held')) (sym is) (unbegun_end e h)

-- the same Nets
pub with_nets : {B S P : Type 0} (r : Reaction S P) (plan : Plan B S P) (names : Names) (nets used : List ℕ) (mode : Mode) (threshold until budget : ℕ) (wanted : Bool)
    (faults faults' : ℕ) (held held' : Option (List ℕ)) (report : List ℕ) (answer : Result (Unit {0}) Refusal) → used ≡ nets
    → Gives r plan names used mode threshold until budget wanted faults faults' held held' report answer → Gives r plan names nets mode threshold until budget wanted faults faults' held held' report answer
with_nets r plan names nets used mode threshold until budget wanted faults faults' held held' report answer same gives =
    subst (λ (n : List ℕ). Gives r plan names n mode threshold until budget wanted faults faults' held held' report answer) same gives
