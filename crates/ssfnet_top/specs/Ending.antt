-- How a call ends, measured by what is due: all of it, a part of it, or nothing.
use Rattle.std.specs.Prelude.{ℕ, ◌≡◌, ◌<◌, ◌+◌, ◌++◌, ◌⊎◌, Bool, true, false, List, [], ◌∷◌, Contains, Option, Some, None, IsSome, Ok}
use Rattle.std.specs.Option.{IsSomeAnd}
use Rattle.sim_base.specs.Outside.{Files, Rose, Appends, AppendsPrefix}
use Rattle.dml_tree.specs.Attributes.{Attributes}
use Rattle.dml_tree.specs.declared.reading.TreeFault.TheVariants as tree_fault
use Rattle.dml_resolve.specs.declared.resolving.PathFault.{PathFault}
use Rattle.dml_resolve.specs.declared.resolving.PathFault.TheVariants as path_fault
use Rattle.net_graph.specs.declared.fault.ShapeFault.TheVariants as shape_fault
use Rattle.ssf_model.specs.declared.event.Entry.{Entry}
use Rattle.trace_writer.specs.Report.{report_of}
use Rattle.model_gen.specs.Campus.{campus_text}
use Rattle.command_words.specs.declared.command.Command.{Command}
use Rattle.command_words.specs.declared.command.Command.TheVariants as commands
use Rattle.ssfnet_top.specs.declared.refusal.Refusal.{Refusal}
use Rattle.ssfnet_top.specs.declared.refusal.Refusal.TheVariants as refusal
use Rattle.ssfnet_top.specs.FilePlaces.{IsPlaced}
use Rattle.ssfnet_top.specs.Refusals.{status_of}
use Rattle.command_words.specs.Words.{Asked}
use Rattle.ssfnet_top.specs.Outcome.{Due, refusal_line, windows_line, file_of_fault, IsFileRead, IsAskedDue, IsAskedMidway}

-- a file of this name is one of the command's
abbrev pub IsFileOf : Option Asked → List ℕ → Type 0
IsFileOf asked name = IsSomeAnd asked (λ a. Contains a.files name)

-- What a refusal names is of the command, whatever the files hold. Want of memory is no fault of a file or a model.
abbrev pub HasBudget : Command → ℕ → Type 0
HasBudget (commands.Dml flat) budget = ⊥
HasBudget commands.Check budget = ⊥
HasBudget commands.Plan budget = ⊥
HasBudget (commands.Seq until most) budget = budget ≡ most
HasBudget _ budget = ⊥

-- it is run on timelines, with this budget
abbrev pub HasTimelineBudget : Command → ℕ → Type 0
HasTimelineBudget (commands.Step until most aligned threshold) budget = budget ≡ most
HasTimelineBudget (commands.Run until most aligned threshold workers) budget = budget ≡ most
HasTimelineBudget _ budget = ⊥

abbrev pub HasMiddle : Command → Type 0
HasMiddle (commands.Step until most aligned threshold) = Unit {0}
HasMiddle (commands.Run until most aligned threshold workers) = Unit {0}
HasMiddle _ = ⊥

-- it is run by workers, and this is one of them, numbered from 0 on
abbrev pub HasWorker : Command → ℕ → Type 0
HasWorker (commands.Run until most aligned threshold workers) worker = worker < workers
HasWorker _ worker = ⊥

-- what is asked may be ended in the middle of a run
abbrev pub MayEndMidway : Option Asked → Type 0
MayEndMidway asked = IsSomeAnd asked (λ a. HasMiddle a.command)

abbrev pub Resolves : Command → Type 0
Resolves (commands.Dml flat) = flat ≡ true
Resolves commands.Check = Unit {0}
Resolves commands.Plan = Unit {0}
Resolves (commands.Seq until most) = Unit {0}
Resolves (commands.Step until most aligned threshold) = Unit {0}
Resolves (commands.Run until most aligned threshold workers) = Unit {0}
Resolves _ = ⊥

abbrev pub HasModel : Command → Type 0
HasModel (commands.Dml flat) = ⊥
HasModel commands.Check = Unit {0}
HasModel commands.Plan = Unit {0}
HasModel (commands.Seq until most) = Unit {0}
HasModel (commands.Step until most aligned threshold) = Unit {0}
HasModel (commands.Run until most aligned threshold workers) = Unit {0}
HasModel _ = ⊥

-- the file is that of the fault, and one of these
abbrev pub IsFaultOf : List (List ℕ) → List ℕ → PathFault → Type 0
IsFaultOf names file fault = (file ≡ file_of_fault names fault) × IsPlaced names fault × ¬ (fault ≡ path_fault.Memory)

abbrev pub Concerns : Option Asked → Refusal → Type 0
Concerns asked refusal.Memory = Unit {0}
Concerns asked refusal.Words = asked ≡ None
Concerns asked (refusal.Read file) = IsFileOf asked file
Concerns asked (refusal.Dml file fault) = IsFileOf asked file × ¬ (fault ≡ tree_fault.Memory)
Concerns asked (refusal.Path file fault) = IsSomeAnd asked (λ a. Resolves a.command × IsFaultOf a.files file fault)
Concerns asked (refusal.Shape fault) = IsSomeAnd asked (λ a. HasModel a.command) × ¬ (fault ≡ shape_fault.Memory)
Concerns asked refusal.Write = IsSome asked
Concerns asked (refusal.Budget budget) = IsSomeAnd asked (λ a. HasBudget a.command budget)
Concerns asked (refusal.TimelineBudget timeline budget below) = IsSomeAnd asked (λ a. HasTimelineBudget a.command budget)
Concerns asked (refusal.MemoryBelow below) = MayEndMidway asked
Concerns asked (refusal.Stopped worker below) = IsSomeAnd asked (λ a. HasWorker a.command worker)

-- where a campus is asked, its text was written, whatever the files are
abbrev pub Generates : Command → Option (List ℕ) → Option (List ℕ) → Type 0
Generates (commands.Gen seed size) held held' = Appends (campus_text seed size) held held'
Generates _ held held' = Unit {0}

abbrev pub HasGenerated : Option Asked → Option (List ℕ) → Option (List ℕ) → Type 0
HasGenerated None held held' = Unit {0}
HasGenerated (Some asked) held held' = Generates asked.command held held'

-- What is written on `err` where a command ends well, whatever the files are.

-- the report of some events where one is wanted, and else nothing
abbrev pub IsReport : Bool → List ℕ → Type 0
IsReport true text = (entries : List Entry) × (text ≡ report_of entries)
IsReport false text = text ≡ []

-- the report of some events with the line of some windows behind it, where they are wanted, and else nothing
abbrev pub IsLongReport : Bool → List ℕ → Type 0
IsLongReport true text = (entries : List Entry) × (crossed : ℕ) × (last : ℕ) × (text ≡ report_of entries ++ windows_line crossed last)
IsLongReport false text = text ≡ []

-- what a command tells there: `seq`, `step` and `run` a report where one is wanted, and the others nothing
abbrev pub Tells : Command → Bool → List ℕ → Type 0
Tells (commands.Dml flat) wanted text = text ≡ []
Tells commands.Check wanted text = text ≡ []
Tells commands.Plan wanted text = text ≡ []
Tells (commands.Seq until budget) wanted text = IsReport wanted text
Tells (commands.Step until budget aligned threshold) wanted text = IsLongReport wanted text
Tells (commands.Run until budget aligned threshold workers) wanted text = IsLongReport wanted text
Tells (commands.Gen seed size) wanted text = text ≡ []

-- what is told there of these words
abbrev pub IsToldOf : Option Asked → List ℕ → Type 0
IsToldOf None text = ⊥
IsToldOf (Some asked) text = Tells asked.command asked.report text

-- a report is wanted
abbrev pub WantsReport : Option Asked → Type 0
WantsReport asked = IsSomeAnd asked (λ a. a.report ≡ true)

-- all of it was written
abbrev pub HasTold : Option Asked → Option (List ℕ) → Option (List ℕ) → Type 0
HasTold asked held held' = (text : List ℕ) × IsToldOf asked text × Appends text held held'

-- What is told on `err`.

-- the whole line of a refusal was told, and the status is that of the refusal
abbrev pub IsLineTold : Refusal → ℕ → Option (List ℕ) → Option (List ℕ) → Type 0
IsLineTold r status held held' = (status ≡ status_of r) × Appends (refusal_line r) held held'

-- a text was cut short, for `err` failed: then the status is 7
abbrev pub IsHalfTold : List ℕ → ℕ → ℕ → ℕ → Option (List ℕ) → Option (List ℕ) → Type 0
IsHalfTold text status faults faults' held held' = (status ≡ 7) × Rose faults faults' × AppendsPrefix text held held'

-- the line of a refusal was told, or cut short
abbrev pub IsTold : Refusal → ℕ → ℕ → ℕ → Option (List ℕ) → Option (List ℕ) → Type 0
IsTold r status faults faults' held held' = IsLineTold r status held held' ⊎ IsHalfTold (refusal_line r) status faults faults' held held'

-- a report that is wanted was cut short
abbrev pub IsReportCut : Option Asked → ℕ → ℕ → ℕ → Option (List ℕ) → Option (List ℕ) → Type 0
IsReportCut asked status faults faults' held held' =
    (text : List ℕ) × IsToldOf asked text × WantsReport asked × IsHalfTold text status faults faults' held held'

-- Whatever the files are: all was done; or a report was cut short; or the line of a refusal of the command was told, or
-- cut short.
abbrev pub IsTelling : Option Asked → ℕ → ℕ → ℕ → Option (List ℕ) → Option (List ℕ) → Type 0
IsTelling asked status faults faults' held held' =
    (status ≡ 0)
    ⊎ (IsReportCut asked status faults faults' held held'
    ⊎ ((r : Refusal) × Concerns asked r × IsTold r status faults faults' held held'))

-- What is seen of the outside: how often the library, `out` and `err` failed, and the bytes that `out` and `err` hold
-- where they are told.
pub record Outside : Type 0 where
  pub read_faults : ℕ
  pub out_faults : ℕ
  pub err_faults : ℕ
  pub out : Option (List ℕ)
  pub err : Option (List ℕ)

-- the status is the one that is due, and so are the bytes written
pub record IsMet (due : Due) (status : ℕ) (before after : Outside) : Type 0 where
  pub status_is : status ≡ due.status
  pub out : Appends due.out before.out after.out
  pub err : Appends due.err before.err after.err

-- the line of this refusal was told, or cut short
abbrev pub Says : Refusal → ℕ → Outside → Outside → Type 0
Says r status before after = IsTold r status before.err_faults after.err_faults before.err after.err

-- there was no memory, and some of what is due was written, from its beginning. Where it might have been ended in the middle
-- of a run, nothing was written
pub record IsWanting (asked : Option Asked) (due : Due) (status : ℕ) (before after : Outside) : Type 0 where
  pub line : Says refusal.Memory status before after
  pub out : AppendsPrefix due.out before.out after.out
  pub unbegun : MayEndMidway asked → Appends [] before.out after.out

-- `out` failed, and some of what is due was written, from its beginning
pub record IsUnwritten (due : Due) (status : ℕ) (before after : Outside) : Type 0 where
  pub rose : Rose before.out_faults after.out_faults
  pub line : Says refusal.Write status before after
  pub out : AppendsPrefix due.out before.out after.out

-- all that is due on `out` was written, and of what is due on `err` a part, from its beginning, for `err` failed: of the
-- line of a refusal, or of a report that is wanted
pub record IsHalfMet (asked : Option Asked) (due : Due) (status : ℕ) (before after : Outside) : Type 0 where
  pub wanted : due.status ≡ 0 → WantsReport asked
  pub out : Appends due.out before.out after.out
  pub err : IsHalfTold due.err status before.err_faults after.err_faults before.err after.err

-- what is due was written; or all of it but for the end of what is due on `err`; or some of it
abbrev pub IsDone : Option Asked → Due → ℕ → Outside → Outside → Type 0
IsDone asked due status before after =
    IsMet due status before after
    ⊎ (IsHalfMet asked due status before after ⊎ (IsWanting asked due status before after ⊎ IsUnwritten due status before after))

-- Of files with these names, numbered from `number` on, one of this name is reached: each file before it spells a tree.
abbrev pub IsReached : Files → ℕ → List (List ℕ) → List ℕ → Type 0
IsReached files number [] name = ⊥
IsReached files number (first ∷ names) name =
    (first ≡ name) ⊎ ((tree : Attributes) × IsFileRead files number first (Ok tree) × IsReached files (number + 1) names name)

-- a file of this name is one of the command's, and is reached
abbrev pub IsFileReached : Files → Option Asked → List ℕ → Type 0
IsFileReached files asked name = IsSomeAnd asked (λ a. IsReached files 0 a.files name)

-- the library failed at a file of the command, and each file before it spells a tree
pub record IsUnread (files : Files) (asked : Option Asked) (status : ℕ) (before after : Outside) : Type 0 where
  pub rose : Rose before.read_faults after.read_faults
  pub name : List ℕ
  pub file : IsFileReached files asked name
  pub line : Says (refusal.Read name) status before after

-- nothing was written on `out`: there was no memory, or the library failed
pub record IsNothing (files : Files) (asked : Option Asked) (status : ℕ) (before after : Outside) : Type 0 where
  pub cause : Says refusal.Memory status before after ⊎ IsUnread files asked status before after
  pub out : Appends [] before.out after.out

-- there was no memory to go on with a run, and exactly these records before a time were written
pub record IsShort (below : ℕ) (text : List ℕ) (status : ℕ) (before after : Outside) : Type 0 where
  pub line : Says (refusal.MemoryBelow below) status before after
  pub out : Appends text before.out after.out

-- the gate of a worker was closed, and exactly these records before a time were written
pub record IsStopped (asked : Option Asked) (below : ℕ) (text : List ℕ) (status : ℕ) (before after : Outside) : Type 0 where
  pub worker : ℕ
  pub asked_for : Concerns asked (refusal.Stopped worker below)
  pub line : Says (refusal.Stopped worker below) status before after
  pub out : Appends text before.out after.out

-- `out` failed, and a part of these records was written
pub record IsBroken (text : List ℕ) (status : ℕ) (before after : Outside) : Type 0 where
  pub rose : Rose before.out_faults after.out_faults
  pub line : Says refusal.Write status before after
  pub out : AppendsPrefix text before.out after.out

-- a run was ended in its middle: for want of memory, since the gate of a worker was closed, or since `out` failed
pub record IsEndedMidway (files : Files) (asked : Option Asked) (status : ℕ) (before after : Outside) : Type 0 where
  pub below : ℕ
  pub text : List ℕ
  pub midway : IsAskedMidway files asked below text
  pub ended : IsShort below text status before after ⊎ (IsStopped asked below text status before after ⊎ IsBroken text status before after)

-- A call where this is asked with these files ended with this status.
abbrev pub Ends : Files → Option Asked → ℕ → Outside → Outside → Type 0
Ends files asked status before after =
    ((due : Due) × IsAskedDue files asked due × IsDone asked due status before after)
    ⊎ (IsNothing files asked status before after ⊎ IsEndedMidway files asked status before after)
