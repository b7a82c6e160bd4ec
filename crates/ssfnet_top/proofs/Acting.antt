-- What a command did, by its request.
use Rattle.std.proofs.Common.{ℕ, ◌≡◌, ◌<◌, ◌≤◌, arith, ◌⊎◌, inl, inr, ◌++◌, ◌∙◌, ap, sym, subst, List, [], map, String, string_bytes, Bool, true, false, Option, Some, Result, Ok, Err, IfErr}
use Rattle.sim_base.specs.Outside.{Appends}
use Rattle.alignment.specs.declared.labels.Mode.{Mode}
use Rattle.command_words.specs.Words.{Asked}
use Rattle.ssfnet_top.specs.declared.running.Way.TheVariants as way
use Rattle.std.specs.declared.alloc.Global.{Global}
use Rattle.dml_tree.specs.declared.tree.Attribute.{Attribute}
use Rattle.dml_tree.specs.Attributes.{Attributes}
use Rattle.net_graph.specs.declared.rows.Network.{Network}
use Rattle.net_graph.specs.Reads.{Read}
use Rattle.net_graph.specs.Keys.{has_net}
use Rattle.dml_tree.specs.TreeView.{attributes}
use Rattle.net_build.specs.declared.built.Built.{Built}
use Rattle.net_build.specs.RingModel.{ring_plan_of}
use Rattle.ring_model.specs.declared.ring.Ring.{Ring}
use Rattle.ring_model.specs.declared.ring.RingState.{RingState}
use Rattle.ring_model.specs.declared.ring.RingPayload.{RingPayload}
use Rattle.command_words.specs.declared.command.Align.{Align}
use Rattle.command_words.specs.declared.command.Command.{Command}
use Rattle.command_words.specs.declared.command.Command.TheVariants as commands
use Rattle.command_words.specs.declared.words.Request.{Request}
use Rattle.ssfnet_top.specs.declared.refusal.Refusal.{Refusal}
use Rattle.ssfnet_top.specs.declared.refusal.Refusal.TheVariants as refusal
use Rattle.ssfnet_top.specs.declared.running.Told.{Told}
use Rattle.ssfnet_top.specs.Outcome.{asked_of, planned_network, by_list, on_timelines, IsNetworkRun, IsRingRun, IsRunIn, IsModelRun, IsCommandDue, IsCommandMidway}
use Rattle.ssfnet_top.specs.Outcome.Course.{Ended, Midway}
use Rattle.ssfnet_top.specs.Answering.{Answers, AnswersMidway, IsOfCommand, IsOfModel, IsOfRun, IsOfSteps, IsOnTimelines, IsStop, IsUntold, told_text, windows_text}
use Rattle.ssfnet_top.specs.Ending.{HasMiddle, MayEndMidway}

pub untold_text : (told : Told) → IsUntold told → told_text told ≡ []
untold_text told none = ap (λ (t : List ℕ). t ++ windows_text told.windows) none.0 ∙ ap (λ (w : Option (ℕ × ℕ)). [] ++ windows_text w) none.1

-- a run by one event list has no middle
no_network : (until budget : ℕ) (wanted : Bool) (read : Read Network) (below : ℕ) (text : List ℕ) → IsNetworkRun (by_list until budget wanted) read (Midway below text) → ⊥
no_network until budget wanted (Ok network) below text run = run.2
no_network until budget wanted (Err fault) below text run = run

no_ring : (until budget : ℕ) (wanted : Bool) (read : Read (Built Ring RingState RingPayload)) (below : ℕ) (text : List ℕ) → IsRingRun (by_list until budget wanted) read (Midway below text) → ⊥
no_ring until budget wanted (Ok built) below text run = run
no_ring until budget wanted (Err fault) below text run = run

no_run : (until budget : ℕ) (wanted net : Bool) (root : List Attribute) (below : ℕ) (text : List ℕ) → IsRunIn (by_list until budget wanted) net root (Midway below text) → ⊥
no_run until budget wanted true root below text run = no_network until budget wanted (planned_network root) below text run
no_run until budget wanted false root below text run = no_ring until budget wanted (ring_plan_of root) below text run

no_middle : (until budget : ℕ) (wanted : Bool) (tree : Result Attributes Refusal) (below : ℕ) (text : List ℕ) → IsModelRun (by_list until budget wanted) tree (Midway below text) → ⊥
no_middle until budget wanted (Ok tree) below text run = no_run until budget wanted (has_net (attributes tree)) (attributes tree) below text run
no_middle until budget wanted (Err r) below text run = run

-- what is so of each refusal of a run is so of the command
if_err_each : {T : Type 0} (r : Result T Refusal) (P Q : Refusal → Type 0) → ((x : Refusal) → P x → Q x) → IfErr r P → IfErr r Q
if_err_each (Ok x) P Q f h = tt
if_err_each (Err e) P Q f h = f e h

of_list : (until budget : ℕ) (wanted : Bool) (names : List (List ℕ)) (r : Refusal) → IsOfModel names r ⊎ IsOfRun (by_list until budget wanted) r → IsOfCommand (commands.Seq until budget) names r
of_list until budget wanted names refusal.Memory h = tt
of_list until budget wanted names refusal.Words (inl h) = h
of_list until budget wanted names refusal.Words (inr h) = h
of_list until budget wanted names (refusal.Read file) (inl h) = h
of_list until budget wanted names (refusal.Read file) (inr h) = h
of_list until budget wanted names (refusal.Dml file fault) (inl h) = h
of_list until budget wanted names (refusal.Dml file fault) (inr h) = h
of_list until budget wanted names (refusal.Path file fault) (inl h) = (tt, h)
of_list until budget wanted names (refusal.Path file fault) (inr h) = absurd h
of_list until budget wanted names (refusal.Shape fault) (inl h) = (tt, h)
of_list until budget wanted names (refusal.Shape fault) (inr h) = (tt, h)
of_list until budget wanted names refusal.Write h = tt
of_list until budget wanted names (refusal.Budget most) (inl h) = absurd h
of_list until budget wanted names (refusal.Budget most) (inr h) = h
of_list until budget wanted names (refusal.TimelineBudget timeline most below) (inl h) = h
of_list until budget wanted names (refusal.TimelineBudget timeline most below) (inr h) = h
of_list until budget wanted names (refusal.MemoryBelow below) (inl h) = h
of_list until budget wanted names (refusal.MemoryBelow below) (inr h) = h
of_list until budget wanted names (refusal.Stopped worker below) (inl h) = h
of_list until budget wanted names (refusal.Stopped worker below) (inr h) = h

of_steps : (until budget : ℕ) (wanted : Bool) (aligned : Align) (threshold : ℕ) (names : List (List ℕ)) (r : Refusal) → IsOfModel names r ⊎ IsOfRun (on_timelines until budget wanted aligned threshold) r
    → IsOfCommand (commands.Step until budget aligned threshold) names r
of_steps until budget wanted aligned threshold names refusal.Memory h = tt
of_steps until budget wanted aligned threshold names refusal.Words (inl h) = h
of_steps until budget wanted aligned threshold names refusal.Words (inr h) = h
of_steps until budget wanted aligned threshold names (refusal.Read file) (inl h) = h
of_steps until budget wanted aligned threshold names (refusal.Read file) (inr h) = h
of_steps until budget wanted aligned threshold names (refusal.Dml file fault) (inl h) = h
of_steps until budget wanted aligned threshold names (refusal.Dml file fault) (inr h) = h
of_steps until budget wanted aligned threshold names (refusal.Path file fault) (inl h) = (tt, h)
of_steps until budget wanted aligned threshold names (refusal.Path file fault) (inr h) = absurd h
of_steps until budget wanted aligned threshold names (refusal.Shape fault) (inl h) = (tt, h)
of_steps until budget wanted aligned threshold names (refusal.Shape fault) (inr h) = (tt, h)
of_steps until budget wanted aligned threshold names refusal.Write h = tt
of_steps until budget wanted aligned threshold names (refusal.Budget most) (inl h) = h
of_steps until budget wanted aligned threshold names (refusal.Budget most) (inr h) = h
of_steps until budget wanted aligned threshold names (refusal.TimelineBudget timeline most below) (inl h) = absurd h
of_steps until budget wanted aligned threshold names (refusal.TimelineBudget timeline most below) (inr h) = h
of_steps until budget wanted aligned threshold names (refusal.MemoryBelow below) (inl h) = absurd h
of_steps until budget wanted aligned threshold names (refusal.MemoryBelow below) (inr h) = tt
of_steps until budget wanted aligned threshold names (refusal.Stopped worker below) (inl h) = h
of_steps until budget wanted aligned threshold names (refusal.Stopped worker below) (inr h) = h

of_workers : (until budget : ℕ) (aligned : Align) (threshold workers lanes : ℕ) (names : List (List ℕ)) → lanes ≤ workers → (r : Refusal) → IsOfModel names r ⊎ (IsOfSteps budget r ⊎ IsStop lanes r)
    → IsOfCommand (commands.Run until budget aligned threshold workers) names r
of_workers until budget aligned threshold workers lanes names few r (inl h) = of_model_there r h
  where
    of_model_there : (x : Refusal) → IsOfModel names x → IsOfCommand (commands.Run until budget aligned threshold workers) names x
    of_model_there refusal.Memory h = tt
    of_model_there refusal.Words h = h
    of_model_there (refusal.Read file) h = h
    of_model_there (refusal.Dml file fault) h = h
    of_model_there (refusal.Path file fault) h = (tt, h)
    of_model_there (refusal.Shape fault) h = (tt, h)
    of_model_there refusal.Write h = tt
    of_model_there (refusal.Budget most) h = h
    of_model_there (refusal.TimelineBudget timeline most below) h = absurd h
    of_model_there (refusal.MemoryBelow below) h = absurd h
    of_model_there (refusal.Stopped worker below) h = absurd h
of_workers until budget aligned threshold workers lanes names few r (inr (inl h)) = of_steps_there r h
  where
    of_steps_there : (x : Refusal) → IsOfSteps budget x → IsOfCommand (commands.Run until budget aligned threshold workers) names x
    of_steps_there refusal.Memory h = tt
    of_steps_there refusal.Words h = h
    of_steps_there (refusal.Read file) h = h
    of_steps_there (refusal.Dml file fault) h = h
    of_steps_there (refusal.Path file fault) h = absurd h
    of_steps_there (refusal.Shape fault) h = (tt, h)
    of_steps_there refusal.Write h = tt
    of_steps_there (refusal.Budget most) h = h
    of_steps_there (refusal.TimelineBudget timeline most below) h = h
    of_steps_there (refusal.MemoryBelow below) h = tt
    of_steps_there (refusal.Stopped worker below) h = absurd h
of_workers until budget aligned threshold workers lanes names few r (inr (inr (worker, below, is, low))) =
    subst (λ (x : Refusal). IsOfCommand (commands.Run until budget aligned threshold workers) names x) (sym is) (let there : worker < workers = omega (arith, low, few) in there)

-- `names` are those of the request's files, and `here` is its command
module _ (request : Request) (here : Command) (names : List (String Global)) (is : request.command ≡ here) (same : names ≡ request.files.items)
    (answer : Result (Unit {0}) Refusal) where
  module _ (tree : Attributes) (report : List ℕ) (faults faults' : ℕ) (held held' : Option (List ℕ)) where
    abbrev Acts : Command → List (List ℕ) → Type 0
    Acts command files =
        Answers (IsCommandDue command (record (asked_of request) { files = files }) tree) report answer faults faults' held held'
        ⊎ AnswersMidway (IsCommandMidway command (record (asked_of request) { files = files }) tree) answer faults faults' held held'

    pub acted : Acts here (map string_bytes names) → Acts request.command (map string_bytes request.files.items)
    acted answers =
        let P : List (String Global) → Type 0 = λ l. Acts here (map string_bytes l) in
        subst (λ (c : Command). Acts c (map string_bytes request.files.items)) (sym is) (subst P same answers)

    -- nothing is told on `err`
    pub acted_quietly : report ≡ [] → Answers (IsCommandDue here (record (asked_of request) { files = map string_bytes names }) tree) [] answer faults faults' held held'
        → Acts request.command (map string_bytes request.files.items)
    acted_quietly empty answers =
        acted (inl (subst (λ (text : List ℕ). Answers (IsCommandDue here (record (asked_of request) { files = map string_bytes names }) tree) text answer faults faults' held held') (sym empty) answers))

  pub caused : IfErr answer (λ r. IsOfCommand here (map string_bytes names) r) → IfErr answer (λ r. IsOfCommand request.command (map string_bytes request.files.items) r)
  caused cause =
      let P : List (String Global) → Type 0 = λ l. IfErr answer (λ r. IsOfCommand here (map string_bytes l) r) in
      let Q : Command → Type 0 = λ command. IfErr answer (λ r. IsOfCommand command (map string_bytes request.files.items) r) in
      subst Q (sym is) (subst P same cause)

-- a run by one event list
pub listed : (until budget : ℕ) (wanted : Bool) (tree : Result Attributes Refusal) (report : List ℕ) (answer : Result (Unit {0}) Refusal) (faults faults' : ℕ) (held held' : Option (List ℕ))
    → Answers (λ due. IsModelRun (by_list until budget wanted) tree (Ended due)) report answer faults faults' held held'
    ⊎ AnswersMidway (λ below text. IsModelRun (by_list until budget wanted) tree (Midway below text)) answer faults faults' held held'
    → Answers (λ due. IsModelRun (by_list until budget wanted) tree (Ended due)) report answer faults faults' held held' ⊎ AnswersMidway (λ below text. ⊥) answer faults faults' held held'
listed until budget wanted tree report answer faults faults' held held' (inl whole) = inl whole
listed until budget wanted tree report answer faults faults' held held' (inr (below, text, midway, how)) = absurd (no_middle until budget wanted tree below text midway)

pub listed_cause : (until budget : ℕ) (wanted : Bool) (names : List (List ℕ)) (answer : Result (Unit {0}) Refusal) → IfErr answer (λ r. IsOfModel names r ⊎ IsOfRun (by_list until budget wanted) r)
    → IfErr answer (λ r. IsOfCommand (commands.Seq until budget) names r)
listed_cause until budget wanted names answer cause = if_err_each answer _ _ (of_list until budget wanted names) cause

pub stepped_cause : (until budget : ℕ) (wanted : Bool) (aligned : Align) (threshold : ℕ) (names : List (List ℕ)) (answer : Result (Unit {0}) Refusal)
    → IfErr answer (λ r. IsOfModel names r ⊎ IsOfRun (on_timelines until budget wanted aligned threshold) r)
    → IfErr answer (λ r. IsOfCommand (commands.Step until budget aligned threshold) names r)
stepped_cause until budget wanted aligned threshold names answer cause = if_err_each answer _ _ (of_steps until budget wanted aligned threshold names) cause

-- Where nothing was written for want of memory: it is said of runs on timelines alone.

pub unbegun_without : (answer : Result (Unit {0}) Refusal) (command here : Command) (held held' : Option (List ℕ)) → command ≡ here → (HasMiddle here → ⊥)
    → IfErr answer (λ r. r ≡ refusal.Memory → HasMiddle command → Appends [] held held')
unbegun_without (Ok unit) command here held held' is lacks = tt
unbegun_without (Err r) command here held held' is lacks = λ short middle. absurd (lacks (subst HasMiddle is middle))

pub unbegun_stepped : (answer : Result (Unit {0}) Refusal) (command : Command) (held held' : Option (List ℕ)) (mode : Mode) (threshold : ℕ)
    → IfErr answer (λ r. r ≡ refusal.Memory → IsOnTimelines (way.Timelines mode threshold) → Appends [] held held')
    → IfErr answer (λ r. r ≡ refusal.Memory → HasMiddle command → Appends [] held held')
unbegun_stepped answer command held held' mode threshold none = if_err_each answer _ _ (λ r given short middle. given short tt) none

pub asked_unbegun : (answer : Result (Unit {0}) Refusal) (asked : Option Asked) (a : Asked) (held held' : Option (List ℕ)) → asked ≡ Some a
    → IfErr answer (λ r. r ≡ refusal.Memory → HasMiddle a.command → Appends [] held held')
    → IfErr answer (λ r. r ≡ refusal.Memory → MayEndMidway asked → Appends [] held held')
asked_unbegun answer asked a held held' is none = if_err_each answer _ _ (λ r given short middle. given short (let there : MayEndMidway (Some a) = subst MayEndMidway is middle in there)) none

-- the same of a run by workers
pub worked_cause : (until budget : ℕ) (aligned : Align) (threshold workers lanes : ℕ) (names : List (List ℕ)) (answer : Result (Unit {0}) Refusal) → lanes ≤ workers
    → IfErr answer (λ r. IsOfModel names r ⊎ (IsOfSteps budget r ⊎ IsStop lanes r))
    → IfErr answer (λ r. IsOfCommand (commands.Run until budget aligned threshold workers) names r)
worked_cause until budget aligned threshold workers lanes names answer few cause = if_err_each answer _ _ (of_workers until budget aligned threshold workers lanes names few) cause
