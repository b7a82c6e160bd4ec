-- What a command is to answer, by its words and the told files alone: the status, and the bytes that are due on
-- `out` and on `err`.
use Rattle.std.specs.Prelude.{ℕ, ◌≡◌, ◌+◌, ◌<◌, ◌≤◌, ◌⊎◌, Bool, true, false, slice_index_or, List, [], ◌∷◌, ◌++◌, Option, Some, None, IsSome, option_map, map, string_bytes, length, codes, decimal, Result, Ok, Err}
use Rattle.sim_base.specs.Outside.{Files}
use Rattle.dml_tree.specs.declared.tree.Attribute.{Attribute}
use Rattle.dml_tree.specs.Attributes.{Attributes, none}
use Rattle.dml_tree.specs.TreeView.{attributes, joined}
use Rattle.dml_tree.specs.Reading.{Reads}
use Rattle.dml_tree.specs.Printing.{printing}
use Rattle.dml_tree.specs.declared.reading.TreeFault.{TreeFault}
use Rattle.dml_resolve.specs.declared.resolving.PathFault.{PathFault}
use Rattle.dml_resolve.specs.declared.resolving.PathFault.TheVariants as path_fault
use Rattle.dml_resolve.specs.Resolving.{resolved}
use Rattle.net_graph.specs.declared.fault.ShapeFault.{ShapeFault}
use Rattle.net_graph.specs.declared.fault.ShapeFault.TheVariants as shape_fault
use Rattle.net_graph.specs.declared.rows.Network.{Network}
use Rattle.net_graph.specs.Keys.{has_net}
use Rattle.net_graph.specs.Reads.{Read, then_read}
use Rattle.net_graph.specs.NetworkOf.{network_of}
use Rattle.net_layout.specs.Faults.{first_fault}
use Rattle.net_plan.specs.NetPlan.{IsPlanOf}
use Rattle.host_stack.specs.declared.host.Host.{Host}
use Rattle.host_rules.specs.Hosts.{HostFields}
use Rattle.host_rules.specs.Reacting.{host_reaction}
use Rattle.ip_layer.specs.Packets.{PacketFields}
use Rattle.net_build.specs.declared.built.Built.{Built}
use Rattle.net_build.specs.RingModel.{ring_plan_of, ring_counts_of}
use Rattle.net_build.specs.PlanText.{IsPlanText, ring_text_of}
use Rattle.ring_model.specs.declared.ring.Ring.{Ring}
use Rattle.ring_model.specs.declared.ring.RingState.{RingState}
use Rattle.ring_model.specs.declared.ring.RingPayload.{RingPayload}
use Rattle.ring_model.specs.Reacting.{ring_reaction}
use Rattle.event_order.specs.Machine.{within}
use Rattle.ssf_model.specs.declared.event.Entry.{Entry}
use Rattle.ssf_model.specs.declared.event.Names.{Names}
use Rattle.ssf_model.specs.declared.plan.Plan.{Plan}
use Rattle.ssf_model.specs.Reaction.{Reaction}
use Rattle.ssf_model.specs.Run.{run_event, run_entries}
use Rattle.ssf_model.specs.Truth.{AreFew}
use Rattle.alignment.specs.declared.labels.Mode.{Mode}
use Rattle.alignment.specs.declared.labels.Mode.TheVariants as mode
use Rattle.alignment.specs.Alignment.{IsAlignment, timeline_count}
use Rattle.core_traces.specs.Ends.{AreWindows, IsInBudget, EndsBudget}
use Rattle.step_run.specs.Endings.{AreRecordsBelow, AreAllRecords, OnTimelines, HasStoppedAt}
use Rattle.trace_writer.specs.Report.{report_of}
use Rattle.trace_writer.specs.Trace.{entries_text, trace_text}
use Rattle.model_gen.specs.Campus.{campus_text}
use Rattle.command_words.specs.declared.command.Command.{Command}
use Rattle.command_words.specs.declared.command.Command.TheVariants as commands
use Rattle.command_words.specs.declared.command.Align.{Align}
use Rattle.command_words.specs.declared.command.Align.TheVariants as align
use Rattle.command_words.specs.declared.words.Request.{Request}
use Rattle.ssfnet_top.specs.declared.refusal.Refusal.{Refusal}
use Rattle.ssfnet_top.specs.declared.refusal.Refusal.TheVariants as refusal
use Rattle.ssfnet_top.specs.declared.running.Running.{Running}
use Rattle.ssfnet_top.specs.declared.running.Way.{Way}
use Rattle.ssfnet_top.specs.declared.running.Way.TheVariants as way
use Rattle.ssfnet_top.specs.Refusals.{status_of, line_of}
use Rattle.command_words.specs.Words.{Asked, asked_of_words}
use Rattle.ssfnet_top.specs.Counts.{network_line, ring_line}

-- what is due: the status, the bytes on `out`, and those on `err`
pub record Due : Type 0 where
  pub status : ℕ
  pub out : List ℕ
  pub err : List ℕ

-- the line of a refusal
abbrev pub refusal_line : Refusal → List ℕ
refusal_line r = line_of r ++ 10 ∷ []

-- all went well, with this report on `err`, and this text
abbrev pub done_with : List ℕ → List ℕ → Due
done_with report text = record { status = 0; out = text; err = report }

-- all went well, with this text, and nothing on `err`
abbrev pub done : List ℕ → Due
done text = done_with [] text

-- it was refused, after this text
abbrev pub refused : Refusal → List ℕ → Due
refused r text = record { status = status_of r; out = text; err = refusal_line r }

-- The files.

-- what bytes mean that stand in a file of this name
abbrev pub meant : List ℕ → Result Attributes TreeFault → Result Attributes Refusal
meant name (Ok tree) = Ok tree
meant name (Err fault) = Err (refusal.Dml name fault)

-- a file that is not there is refused, and one that is there has the tree or the fault of its bytes
abbrev pub IsRead : List ℕ → ℕ → Option (List ℕ) → Result Attributes Refusal → Type 0
IsRead name number None result = result ≡ Err (refusal.Read name)
IsRead name number (Some bytes) result = (meaning : Result Attributes TreeFault) × Reads number bytes meaning × (result ≡ meant name meaning)

-- file `number` of the model, of this name, is read so
abbrev pub IsFileRead : Files → ℕ → List ℕ → Result Attributes Refusal → Type 0
IsFileRead files number name result = IsRead name number (files name) result

-- files of these names, numbered from `number` on, are read so: their trees are joined in order, and the first
-- refusal decides
abbrev pub AreRead : Files → ℕ → List (List ℕ) → Result Attributes Refusal → Type 0
AreRead files number [] (Ok tree) = tree ≡ none
AreRead files number [] (Err r) = ⊥
AreRead files number (name ∷ names) (Ok tree) =
    (first : Attributes) × (others : Attributes)
    × IsFileRead files number name (Ok first) × AreRead files (number + 1) names (Ok others) × (tree ≡ joined first others)
AreRead files number (name ∷ names) (Err r) =
    IsFileRead files number name (Err r)
    ⊎ ((first : Attributes) × IsFileRead files number name (Ok first) × AreRead files (number + 1) names (Err r))

-- The substitutions.

-- the name of the file of this number
abbrev pub file_name : List (List ℕ) → ℕ → List ℕ
file_name names number = slice_index_or names number []

-- the name of the file in which the place of a fault stands
abbrev pub file_of_fault : List (List ℕ) → PathFault → List ℕ
file_of_fault names (path_fault.BadPath place) = file_name names place.file
file_of_fault names (path_fault.UnknownPath place) = file_name names place.file
file_of_fault names (path_fault.NotAList place) = file_name names place.file
file_of_fault names (path_fault.TooDeep place) = file_name names place.file
file_of_fault names path_fault.TooLarge = []
file_of_fault names path_fault.Memory = []

abbrev pub pathed : List (List ℕ) → Result Attributes PathFault → Result Attributes Refusal
pathed names (Ok tree) = Ok tree
pathed names (Err fault) = Err (refusal.Path (file_of_fault names fault) fault)

-- the resolved tree of the joined tree of files with these names
abbrev pub resolved_of : List (List ℕ) → Attributes → Result Attributes Refusal
resolved_of names tree = pathed names (resolved tree)

-- The model.

abbrev pub shaped : {A : Type 0} → Result A ShapeFault → Result A Refusal
shaped (Ok model) = Ok model
shaped (Err fault) = Err (refusal.Shape fault)

-- The counts of a model, and the text of its plan.

-- a network without this fault
abbrev pub unless : Option ShapeFault → Network → Read Network
unless None network = Ok network
unless (Some fault) network = Err fault

-- the network of a resolved tree, or its first fault: in the tree, or one that keeps it from having a plan
abbrev pub planned_network : List Attribute → Read Network
planned_network root = then_read (network_of root) (λ network. unless (first_fault network) network)

-- the line of counts of a resolved tree, whose model is a Net or not
abbrev pub counts_in : Bool → List Attribute → Read (List ℕ)
counts_in true root = then_read (planned_network root) (λ network. Ok (network_line network))
counts_in false root = then_read (ring_counts_of root) (λ ring. Ok (ring_line ring))

abbrev pub counts_of : Result Attributes Refusal → Result (List ℕ) Refusal
counts_of (Ok tree) = shaped (counts_in (has_net (attributes tree)) (attributes tree))
counts_of (Err r) = Err r

abbrev pub IsText : Result (List ℕ) Refusal → Due → Type 0
IsText (Ok text) due = due ≡ done text
IsText (Err r) due = due ≡ refused r []

abbrev pub IsNetworkPlan : Read Network → Due → Type 0
IsNetworkPlan (Ok network) due = (text : List ℕ) × IsPlanText network text × (due ≡ done text)
IsNetworkPlan (Err fault) due = due ≡ refused (refusal.Shape fault) []

-- the text of the plan of a resolved tree, whose model is a Net or not
abbrev pub IsPlanIn : Bool → List Attribute → Due → Type 0
IsPlanIn true root due = IsNetworkPlan (planned_network root) due
IsPlanIn false root due = IsText (shaped (ring_text_of root)) due

abbrev pub IsPlan : Result Attributes Refusal → Due → Type 0
IsPlan (Ok tree) due = IsPlanIn (has_net (attributes tree)) (attributes tree) due
IsPlan (Err r) due = due ≡ refused r []

-- The run. R is the cut: the writes of a round above it do not become pending.

-- a run has so many events: each of these, and none behind them
pub record HasEvents {B S P : Type 0} (r : Reaction S P) (plan : Plan B S P) (until R n : ℕ) : Type 0 where
  pub each : (k : ℕ) → k < n → IsSome (run_event r plan until (within R) k)
  pub no_more : run_event r plan until (within R) n ≡ None

-- the report of these events, where one is wanted
abbrev pub report_if : Bool → List Entry → List ℕ
report_if true entries = report_of entries
report_if false entries = []

-- the run has at most `budget` events, and its whole trace is due, and the report of it where one is wanted
pub record IsWithin {B S P : Type 0} (r : Reaction S P) (plan : Plan B S P) (names : Names) (until budget : ℕ) (wanted : Bool) (R : ℕ) (due : Due) : Type 0 where
  pub count : ℕ
  pub few : count ≤ budget
  pub events : HasEvents r plan until R count
  pub whole : due ≡ done_with (report_if wanted (run_entries r plan until (within R) count)) (trace_text names (run_entries r plan until (within R) count) until (plan.before + count))

-- the run has more events, and the records of the first `budget` ones are due
pub record IsOver {B S P : Type 0} (r : Reaction S P) (plan : Plan B S P) (names : Names) (until budget R : ℕ) (due : Due) : Type 0 where
  pub more : IsSome (run_event r plan until (within R) budget)
  pub first : due ≡ refused (refusal.Budget budget) (entries_text names (run_entries r plan until (within R) budget))

-- what is due of a run by one event list, whatever its cut, as long as the cut drops no round up to `budget`
abbrev pub IsRunDue : {B S P : Type 0} → Reaction S P → Plan B S P → Names → ℕ → ℕ → Bool → Due → Type 0
IsRunDue r plan names until budget wanted due =
    (R : ℕ) → budget ≤ R → IsWithin r plan names until budget wanted R due ⊎ IsOver r plan names until budget R due

-- The run on timelines: `mode` and `threshold` are those of the plan's alignment, and `budget` is that of each timeline. The schedule
-- decides nothing of what is due.

-- the line of the windows that were crossed, without the first one, and the last of them
abbrev pub windows_line : ℕ → ℕ → List ℕ
windows_line crossed last = codes "windows " ++ (decimal crossed ++ (32 ∷ decimal last ++ 10 ∷ []))

-- the report of these events with that line behind it, where one is wanted
abbrev pub told_if : Bool → List Entry → ℕ → ℕ → List ℕ
told_if true entries crossed last = report_of entries ++ windows_line crossed last
told_if false entries crossed last = []

-- no timeline has more events than the budget, and the whole trace is due
pub record IsWithinOn {B S P : Type 0} (r : Reaction S P) (plan : Plan B S P) (names : Names) (nets : List ℕ) (mode : Mode) (threshold until budget : ℕ) (wanted : Bool) (due : Due) : Type 0 where
  pub entries : List Entry
  pub all : AreAllRecords r plan until budget entries
  pub few : OnTimelines r plan nets mode threshold until budget (λ s. AreFew s budget)
  pub crossed : ℕ
  pub last : ℕ
  pub windows : OnTimelines r plan nets mode threshold until budget (λ s. AreWindows s crossed last)
  pub whole : due ≡ done_with (told_if wanted entries crossed last) (trace_text names entries until (plan.before + length entries))

-- the budget ends at a timeline, the first where it ends when the run stops, and the records before the time of this event are due
pub record IsOverOn {B S P : Type 0} (r : Reaction S P) (plan : Plan B S P) (names : Names) (nets : List ℕ) (mode : Mode) (threshold until budget : ℕ) (due : Due) : Type 0 where
  pub timeline : ℕ
  pub below : ℕ
  pub ends : OnTimelines r plan nets mode threshold until budget (λ s. EndsBudget s budget timeline below)
  pub stopped : HasStoppedAt r plan nets mode threshold until budget timeline
  pub entries : List Entry
  pub before : AreRecordsBelow r plan until budget below entries
  pub first : due ≡ refused (refusal.TimelineBudget timeline budget below) (entries_text names entries)

-- the plan's entities stand on at most 4096 timelines
abbrev pub HasTimelines : {B S P : Type 0} → Plan B S P → List ℕ → Mode → Type 0
HasTimelines plan nets mode = (lines : List ℕ) × IsAlignment plan nets mode lines × (timeline_count lines ≤ 4096)

-- they stand on more
pub record HasTooMany {B S P : Type 0} (plan : Plan B S P) (nets : List ℕ) (mode : Mode) (due : Due) : Type 0 where
  pub lines : List ℕ
  pub aligned : IsAlignment plan nets mode lines
  pub many : 4096 < timeline_count lines
  pub none : due ≡ refused (refusal.Shape (shape_fault.TooManyTimelines (timeline_count lines))) []

abbrev pub IsDueOn : {B S P : Type 0} → Reaction S P → Plan B S P → Names → List ℕ → Mode → ℕ → ℕ → ℕ → Bool → Due → Type 0
IsDueOn r plan names nets mode threshold until budget wanted due =
    (HasTimelines plan nets mode × (IsWithinOn r plan names nets mode threshold until budget wanted due ⊎ IsOverOn r plan names nets mode threshold until budget due))
    ⊎ HasTooMany plan nets mode due

-- the text of the records before a time, at most a tick after the end, where the run is ended there: no timeline has more events than the
-- budget before it
pub record IsMidwayOn {B S P : Type 0} (r : Reaction S P) (plan : Plan B S P) (names : Names) (nets : List ℕ) (mode : Mode) (threshold until budget below : ℕ) (text : List ℕ) : Type 0 where
  pub few : HasTimelines plan nets mode
  pub inside : below ≤ until + 1
  pub in_budget : OnTimelines r plan nets mode threshold until budget (λ s. IsInBudget s budget below)
  pub entries : List Entry
  pub before : AreRecordsBelow r plan until budget below entries
  pub text_is : text ≡ entries_text names entries

-- What is said of a run: it comes to its end, with this due; or it is ended before, with the text of the records before a time.
pub data Course : Type 0 where
  Ended : Due → Course
  Midway : ℕ → List ℕ → Course

-- where nothing is run, for the model has a fault
abbrev pub IsRefused : Refusal → Course → Type 0
IsRefused r (Ended due) = due ≡ refused r []
IsRefused r (Midway below text) = ⊥

-- the course of the run of a plan in this way
abbrev pub IsCourseBy : {B S P : Type 0} → Way → Reaction S P → Built B S P → ℕ → ℕ → Bool → Course → Type 0
IsCourseBy way.OneList r built until budget wanted (Ended due) = IsRunDue r built.plan built.names until budget wanted due
IsCourseBy way.OneList r built until budget wanted (Midway below text) = ⊥
IsCourseBy (way.Timelines mode threshold) r built until budget wanted (Ended due) = IsDueOn r built.plan built.names built.nets mode threshold until budget wanted due
IsCourseBy (way.Timelines mode threshold) r built until budget wanted (Midway below text) = IsMidwayOn r built.plan built.names built.nets mode threshold until budget below text

abbrev pub IsCourse : {B S P : Type 0} → Reaction S P → Built B S P → Running → Course → Type 0
IsCourse r built running course = IsCourseBy running.way r built running.until running.budget running.report course

-- The commands.

-- the run of a ring's plan, or the first fault of the ring
abbrev pub IsRingRun : Running → Read (Built Ring RingState RingPayload) → Course → Type 0
IsRingRun running (Ok built) course = IsCourse ring_reaction built running course
IsRingRun running (Err fault) course = IsRefused (refusal.Shape fault) course

-- the run of the plan of a network of hosts, or the first fault of the network
abbrev pub IsNetworkRun : Running → Read Network → Course → Type 0
IsNetworkRun running (Ok network) course = (built : Built Host HostFields PacketFields) × IsPlanOf network built × IsCourse host_reaction built running course
IsNetworkRun running (Err fault) course = IsRefused (refusal.Shape fault) course

-- the run of a resolved tree, whose model is a Net or not
abbrev pub IsRunIn : Running → Bool → List Attribute → Course → Type 0
IsRunIn running true root course = IsNetworkRun running (planned_network root) course
IsRunIn running false root course = IsRingRun running (ring_plan_of root) course

abbrev pub IsModelRun : Running → Result Attributes Refusal → Course → Type 0
IsModelRun running (Ok tree) course = IsRunIn running (has_net (attributes tree)) (attributes tree) course
IsModelRun running (Err r) course = IsRefused r course

abbrev pub IsPrinted : Result Attributes Refusal → Due → Type 0
IsPrinted (Ok tree) due = due ≡ done (printing 0 tree)
IsPrinted (Err r) due = due ≡ refused r []

-- how `seq` runs a model
abbrev pub by_list : ℕ → ℕ → Bool → Running
by_list until budget wanted = record { until = until; budget = budget; report = wanted; way = way.OneList }

abbrev pub mode_of : Align → Mode
mode_of align.One = mode.One
mode_of align.Host = mode.Host
mode_of align.Net = mode.Net
mode_of (align.Parts parts) = mode.Count parts

-- how `step` and `run` do
abbrev pub on_timelines : ℕ → ℕ → Bool → Align → ℕ → Running
on_timelines until budget wanted aligned threshold = record { until = until; budget = budget; report = wanted; way = way.Timelines (mode_of aligned) threshold }

-- what a request asks
abbrev pub asked_of : Request → Asked
asked_of request = record {
  command = request.command;
  schedule = option_map string_bytes request.schedule;
  report = request.report;
  files = map string_bytes request.files.items;
}

-- what a command has to do with the joined tree of the files, where this is asked; `gen` has no files, and asks
-- nothing of the tree. What is due of `run` is what is due of `step`, whatever the number of workers
abbrev pub IsCommandDue : Command → Asked → Attributes → Due → Type 0
IsCommandDue (commands.Dml false) asked tree due = IsPrinted (Ok tree) due
IsCommandDue (commands.Dml true) asked tree due = IsPrinted (resolved_of asked.files tree) due
IsCommandDue commands.Check asked tree due = IsText (counts_of (resolved_of asked.files tree)) due
IsCommandDue commands.Plan asked tree due = IsPlan (resolved_of asked.files tree) due
IsCommandDue (commands.Seq until budget) asked tree due = IsModelRun (by_list until budget asked.report) (resolved_of asked.files tree) (Ended due)
IsCommandDue (commands.Step until budget aligned threshold) asked tree due = IsModelRun (on_timelines until budget asked.report aligned threshold) (resolved_of asked.files tree) (Ended due)
IsCommandDue (commands.Run until budget aligned threshold workers) asked tree due = IsModelRun (on_timelines until budget asked.report aligned threshold) (resolved_of asked.files tree) (Ended due)
IsCommandDue (commands.Gen seed size) asked tree due = IsText (Ok (campus_text seed size)) due

-- what stands on `out` where the command is ended in the middle of a run, with the records before a time
abbrev pub IsCommandMidway : Command → Asked → Attributes → ℕ → List ℕ → Type 0
IsCommandMidway (commands.Step until budget aligned threshold) asked tree below text =
    IsModelRun (on_timelines until budget asked.report aligned threshold) (resolved_of asked.files tree) (Midway below text)
IsCommandMidway (commands.Run until budget aligned threshold workers) asked tree below text =
    IsModelRun (on_timelines until budget asked.report aligned threshold) (resolved_of asked.files tree) (Midway below text)
IsCommandMidway _ asked tree below text = ⊥

abbrev pub IsTreeDue : Asked → Result Attributes Refusal → Due → Type 0
IsTreeDue asked (Ok tree) due = IsCommandDue asked.command asked tree due
IsTreeDue asked (Err r) due = due ≡ refused r []

abbrev pub IsAskedDue : Files → Option Asked → Due → Type 0
IsAskedDue files None due = due ≡ refused refusal.Words []
IsAskedDue files (Some asked) due = (tree : Result Attributes Refusal) × AreRead files 0 asked.files tree × IsTreeDue asked tree due

-- what is asked on one thread: `run` is not
abbrev pub unless_run : Command → Asked → Option Asked
unless_run (commands.Run until budget aligned threshold workers) asked = None
unless_run _ asked = Some asked

abbrev pub offline_of : Option Asked → Option Asked
offline_of None = None
offline_of (Some asked) = unless_run asked.command asked

-- the outcome of these words with these files
abbrev pub IsOutcome : Files → List (List ℕ) → Due → Type 0
IsOutcome files words due = IsAskedDue files (asked_of_words words) due

abbrev pub IsTreeMidway : Asked → Result Attributes Refusal → ℕ → List ℕ → Type 0
IsTreeMidway asked (Ok tree) below text = IsCommandMidway asked.command asked tree below text
IsTreeMidway asked (Err r) below text = ⊥

abbrev pub IsAskedMidway : Files → Option Asked → ℕ → List ℕ → Type 0
IsAskedMidway files None below text = ⊥
IsAskedMidway files (Some asked) below text = (tree : Result Attributes Refusal) × AreRead files 0 asked.files tree × IsTreeMidway asked tree below text

-- these words with these files may be ended in the middle of a run, with this text of the records before a time
abbrev pub IsMidway : Files → List (List ℕ) → ℕ → List ℕ → Type 0
IsMidway files words below text = IsAskedMidway files (asked_of_words words) below text
