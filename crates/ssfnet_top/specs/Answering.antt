-- What calls within the top call answer. No public clause cites this file.
use Rattle.std.specs.Prelude.{ℕ, ◌≡◌, ◌<◌, ◌++◌, ◌⊎◌, Bool, true, false, List, [], Contains, Option, Some, None, Result, Ok, Err}
use Rattle.sim_base.specs.Outside.{Files, Rose, Appends, AppendsPrefix}
use Rattle.dml_tree.specs.declared.reading.TreeFault.TheVariants as tree_fault
use Rattle.net_graph.specs.declared.fault.ShapeFault.TheVariants as shape_fault
use Rattle.trace_writer.specs.Report.{Totals, report_with}
use Rattle.command_words.specs.declared.command.Command.{Command}
use Rattle.command_words.specs.declared.command.Command.TheVariants as commands
use Rattle.step_run.specs.declared.running.StepEnd.{StepEnd}
use Rattle.step_run.specs.declared.running.StepEnd.TheVariants as end
use Rattle.ssfnet_top.specs.declared.refusal.Refusal.{Refusal}
use Rattle.ssfnet_top.specs.declared.refusal.Refusal.TheVariants as refusal
use Rattle.ssfnet_top.specs.declared.running.Running.{Running}
use Rattle.ssfnet_top.specs.declared.running.Told.{Told}
use Rattle.ssfnet_top.specs.declared.running.Way.{Way}
use Rattle.ssfnet_top.specs.declared.running.Way.TheVariants as way
use Rattle.worker_run.specs.declared.running.WorkOrder.{WorkOrder}
use Rattle.command_words.specs.Words.{Asked}
use Rattle.ssfnet_top.specs.Outcome.{Due, done_with, refused, windows_line}
use Rattle.ssfnet_top.specs.Ending.{HasBudget, HasTimelineBudget, HasMiddle, HasWorker, Resolves, HasModel, IsFaultOf, IsReport, IsLongReport, IsFileReached, IsTold, IsHalfTold}

-- Within a call, where files of these names are read: what a refusal may be.
abbrev pub IsOfFiles : List (List ℕ) → Refusal → Type 0
IsOfFiles names refusal.Memory = Unit {0}
IsOfFiles names refusal.Words = ⊥
IsOfFiles names (refusal.Read file) = Contains names file
IsOfFiles names (refusal.Dml file fault) = Contains names file × ¬ (fault ≡ tree_fault.Memory)
IsOfFiles names (refusal.Path file fault) = ⊥
IsOfFiles names (refusal.Shape fault) = ⊥
IsOfFiles names refusal.Write = ⊥
IsOfFiles names (refusal.Budget budget) = ⊥
IsOfFiles names (refusal.TimelineBudget timeline budget below) = ⊥
IsOfFiles names (refusal.MemoryBelow below) = ⊥
IsOfFiles names (refusal.Stopped worker below) = ⊥

-- Within a call, where a plan is made of the joined tree of files with these names: what a refusal may be.
abbrev pub IsOfModel : List (List ℕ) → Refusal → Type 0
IsOfModel names refusal.Memory = Unit {0}
IsOfModel names refusal.Words = ⊥
IsOfModel names (refusal.Read file) = ⊥
IsOfModel names (refusal.Dml file fault) = ⊥
IsOfModel names (refusal.Path file fault) = IsFaultOf names file fault
IsOfModel names (refusal.Shape fault) = ¬ (fault ≡ shape_fault.Memory)
IsOfModel names refusal.Write = ⊥
IsOfModel names (refusal.Budget budget) = ⊥
IsOfModel names (refusal.TimelineBudget timeline budget below) = ⊥
IsOfModel names (refusal.MemoryBelow below) = ⊥
IsOfModel names (refusal.Stopped worker below) = ⊥

-- Within a call, where a command does its work with the joined tree of files with these names: what a refusal may be.
abbrev pub IsOfCommand : Command → List (List ℕ) → Refusal → Type 0
IsOfCommand command names refusal.Memory = Unit {0}
IsOfCommand command names refusal.Words = ⊥
IsOfCommand command names (refusal.Read file) = ⊥
IsOfCommand command names (refusal.Dml file fault) = ⊥
IsOfCommand command names (refusal.Path file fault) = Resolves command × IsFaultOf names file fault
IsOfCommand command names (refusal.Shape fault) = HasModel command × ¬ (fault ≡ shape_fault.Memory)
IsOfCommand command names refusal.Write = Unit {0}
IsOfCommand command names (refusal.Budget budget) = HasBudget command budget
IsOfCommand command names (refusal.TimelineBudget timeline budget below) = HasTimelineBudget command budget
IsOfCommand command names (refusal.MemoryBelow below) = HasMiddle command
IsOfCommand command names (refusal.Stopped worker below) = HasWorker command worker

-- it is done on one thread
abbrev pub IsOffline : Command → Type 0
IsOffline (commands.Run until most aligned threshold workers) = ⊥
IsOffline _ = Unit {0}

-- Within a call, where the model of a resolved tree is run: what a refusal may be.

abbrev pub IsListBudget : Way → ℕ → ℕ → Type 0
IsListBudget way.OneList budget most = most ≡ budget
IsListBudget (way.Timelines mode threshold) budget most = ⊥

abbrev pub IsTimelineBudget : Way → ℕ → ℕ → Type 0
IsTimelineBudget way.OneList budget most = ⊥
IsTimelineBudget (way.Timelines mode threshold) budget most = most ≡ budget

abbrev pub IsOnTimelines : Way → Type 0
IsOnTimelines way.OneList = ⊥
IsOnTimelines (way.Timelines mode threshold) = Unit {0}

abbrev pub IsOfRun : Running → Refusal → Type 0
IsOfRun running refusal.Memory = Unit {0}
IsOfRun running refusal.Words = ⊥
IsOfRun running (refusal.Read file) = ⊥
IsOfRun running (refusal.Dml file fault) = ⊥
IsOfRun running (refusal.Path file fault) = ⊥
IsOfRun running (refusal.Shape fault) = ¬ (fault ≡ shape_fault.Memory)
IsOfRun running refusal.Write = Unit {0}
IsOfRun running (refusal.Budget most) = IsListBudget running.way running.budget most
IsOfRun running (refusal.TimelineBudget timeline most below) = IsTimelineBudget running.way running.budget most
IsOfRun running (refusal.MemoryBelow below) = IsOnTimelines running.way
IsOfRun running (refusal.Stopped worker below) = ⊥

-- where it is run on timelines
abbrev pub IsOfSteps : ℕ → Refusal → Type 0
IsOfSteps budget refusal.Memory = Unit {0}
IsOfSteps budget refusal.Words = ⊥
IsOfSteps budget (refusal.Read file) = ⊥
IsOfSteps budget (refusal.Dml file fault) = ⊥
IsOfSteps budget (refusal.Path file fault) = ⊥
IsOfSteps budget (refusal.Shape fault) = ¬ (fault ≡ shape_fault.Memory)
IsOfSteps budget refusal.Write = Unit {0}
IsOfSteps budget (refusal.Budget most) = ⊥
IsOfSteps budget (refusal.TimelineBudget timeline most below) = most ≡ budget
IsOfSteps budget (refusal.MemoryBelow below) = Unit {0}
IsOfSteps budget (refusal.Stopped worker below) = ⊥

-- one of so many workers was stopped
abbrev pub IsStop : ℕ → Refusal → Type 0
IsStop workers r = (worker : ℕ) × (below : ℕ) × (r ≡ refusal.Stopped worker below) × (worker < workers)

-- how a run by workers goes, by its order
abbrev pub by_workers : WorkOrder → Bool → Running
by_workers order wanted = record { until = order.until; budget = order.budget; report = wanted; way = way.Timelines order.mode order.threshold }

-- what is told of the run
abbrev pub IsToldBy : Way → Bool → List ℕ → Type 0
IsToldBy way.OneList wanted text = IsReport wanted text
IsToldBy (way.Timelines mode threshold) wanted text = IsLongReport wanted text

abbrev pub windows_text : Option (ℕ × ℕ) → List ℕ
windows_text None = []
windows_text (Some windows) = windows_line windows.0 windows.1

-- the text of what is told
abbrev pub told_text : Told → List ℕ
told_text told = told.report.items ++ windows_text told.windows

-- the report with these numbers, where one is wanted
abbrev pub report_with_if : Bool → Totals → List ℕ
report_with_if true totals = report_with totals
report_with_if false totals = []

-- what a tally and windows give, where they are wanted
abbrev pub told_with : Bool → Totals → ℕ → ℕ → List ℕ
told_with true totals crossed last = report_with totals ++ windows_line crossed last
told_with false totals crossed last = []

-- what a command answers whose run on timelines ended so
abbrev pub answer_of : ℕ → StepEnd → Result (Unit {0}) Refusal
answer_of budget (end.Finished crossed last) = Ok tt
answer_of budget (end.OverBudget timeline below) = Err (refusal.TimelineBudget timeline budget below)
answer_of budget (end.MemoryBelow below) = Err (refusal.MemoryBelow below)
answer_of budget end.Memory = Err refusal.Memory
answer_of budget (end.TooManyTimelines count) = Err (refusal.Shape (shape_fault.TooManyTimelines count))
answer_of budget end.Write = Err refusal.Write

-- nothing is told yet
abbrev pub IsUntold : Told → Type 0
IsUntold told = (told.report.items ≡ []) × (told.windows ≡ None)

-- Within a call, where the text of an outcome is written to a sink.

-- the outcome that an answer, the report made and the bytes written stand for
abbrev pub due_of : List ℕ → Result (Unit {0}) Refusal → List ℕ → Due
due_of report (Ok unit) text = done_with report text
due_of report (Err r) text = refused r text

-- want of memory, or a failed write
abbrev pub IsHalt : Result (Unit {0}) Refusal → ℕ → ℕ → Type 0
IsHalt answer faults faults' = (answer ≡ Err refusal.Memory) ⊎ ((answer ≡ Err refusal.Write) × Rose faults faults')

-- all that is due was written; or a part of it; or nothing, for want of memory
abbrev pub Answers : (Due → Type 0) → List ℕ → Result (Unit {0}) Refusal → ℕ → ℕ → Option (List ℕ) → Option (List ℕ) → Type 0
Answers IsDue report answer faults faults' held held' =
    ((text : List ℕ) × IsDue (due_of report answer text) × Appends text held held')
    ⊎ (((due : Due) × IsDue due × IsHalt answer faults faults' × AppendsPrefix due.out held held')
    ⊎ ((answer ≡ Err refusal.Memory) × Appends [] held held'))

-- it was ended before a time, for want of memory or since a worker was stopped
abbrev pub IsEndedBelow : Result (Unit {0}) Refusal → ℕ → Type 0
IsEndedBelow answer below = (answer ≡ Err (refusal.MemoryBelow below)) ⊎ ((worker : ℕ) × (answer ≡ Err (refusal.Stopped worker below)))

-- the run was ended in its middle, or a sink failed there
abbrev pub AnswersMidway : (ℕ → List ℕ → Type 0) → Result (Unit {0}) Refusal → ℕ → ℕ → Option (List ℕ) → Option (List ℕ) → Type 0
AnswersMidway IsMiddle answer faults faults' held held' =
    (below : ℕ) × (text : List ℕ) × IsMiddle below text
    × ((IsEndedBelow answer below × Appends text held held') ⊎ ((answer ≡ Err refusal.Write) × Rose faults faults' × AppendsPrefix text held held'))

-- the library failed at a file of this command that is reached, and nothing was written
abbrev pub IsReadFault : Files → Option Asked → Result (Unit {0}) Refusal → ℕ → ℕ → Option (List ℕ) → Option (List ℕ) → Type 0
IsReadFault files asked answer faults faults' held held' =
    (name : List ℕ) × IsFileReached files asked name × (answer ≡ Err (refusal.Read name)) × Rose faults faults' × Appends [] held held'

-- memory may be wanted for the line of a refusal
abbrev pub IsMade : Refusal → Type 0
IsMade refusal.Write = ⊥
IsMade (refusal.TimelineBudget timeline budget below) = ⊥
IsMade (refusal.MemoryBelow below) = ⊥
IsMade (refusal.Stopped worker below) = ⊥
IsMade _ = Unit {0}

-- the line of a refusal was told, or cut short; or so was that of want of memory, where there may have been none for the line
abbrev pub IsAnswered : Refusal → ℕ → ℕ → ℕ → Option (List ℕ) → Option (List ℕ) → Type 0
IsAnswered r status faults faults' held held' =
    IsTold r status faults faults' held held' ⊎ (IsMade r × IsTold refusal.Memory status faults faults' held held')

-- the report made was written on `err`, or there is none; or `err` failed, and it was cut short
abbrev pub IsReportTold : List ℕ → ℕ → ℕ → ℕ → Option (List ℕ) → Option (List ℕ) → Type 0
IsReportTold report status faults faults' held held' =
    ((status ≡ 0) × Appends report held held') ⊎ (¬ (report ≡ []) × IsHalfTold report status faults faults' held held')
