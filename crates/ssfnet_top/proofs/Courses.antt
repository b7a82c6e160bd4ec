-- From the run of a plan to the course of its model.
use Rattle.ssfnet_top.specs.declared.model.Planned.{Planned}
use Rattle.ssfnet_top.specs.declared.model.Planned.TheVariants as planned
use Rattle.ssfnet_top.specs.Planning.{IsPlanned, IsPlannedIn, IsFault, IsFaultIn}
use Rattle.ssfnet_top.proofs.Endings.{appends_nothing}
use Rattle.dml_tree.specs.TreeView.{attributes}
use Rattle.net_graph.specs.Keys.{has_net}
use Rattle.net_graph.specs.declared.fault.ShapeFault.{ShapeFault}
use Rattle.net_build.specs.RingModel.{ring_plan_of}
use Rattle.std.proofs.Common.{ℕ, ◌≡◌, ◌++◌, sym, ap, refl, subst, Bool, true, false, List, [], append-nil, ◌⊎◌, inl, inr, Option, None, Result, Ok, Err, IfErr}
use Rattle.sim_base.specs.Outside.{Appends}
use Rattle.dml_tree.specs.declared.tree.Attribute.{Attribute}
use Rattle.dml_tree.specs.Attributes.{Attributes}
use Rattle.alignment.specs.declared.labels.Mode.{Mode}
use Rattle.ssf_model.specs.Reaction.{Reaction}
use Rattle.ssfnet_top.specs.declared.running.Way.{Way}
use Rattle.ssfnet_top.specs.declared.running.Way.TheVariants as way
use Rattle.std.specs.Prelude.{IsOkAnd}
use Rattle.net_graph.specs.declared.rows.Network.{Network}
use Rattle.net_graph.specs.Reads.{Read}
use Rattle.net_build.specs.declared.built.Built.{Built}
use Rattle.net_plan.specs.NetPlan.{IsPlanOf}
use Rattle.host_stack.specs.declared.host.Host.{Host}
use Rattle.host_rules.specs.Hosts.{HostFields}
use Rattle.host_rules.specs.Reacting.{host_reaction}
use Rattle.ip_layer.specs.Packets.{PacketFields}
use Rattle.ring_model.specs.declared.ring.Ring.{Ring}
use Rattle.ring_model.specs.declared.ring.RingState.{RingState}
use Rattle.ring_model.specs.declared.ring.RingPayload.{RingPayload}
use Rattle.ring_model.specs.Reacting.{ring_reaction}
use Rattle.ssfnet_top.specs.declared.refusal.Refusal.{Refusal}
use Rattle.ssfnet_top.specs.declared.refusal.Refusal.TheVariants as refusal
use Rattle.ssfnet_top.specs.declared.running.Running.{Running}
use Rattle.ssfnet_top.specs.Outcome.{Due, refused, planned_network, Course, IsRunDue, IsCourseBy, IsCourse, IsRingRun, IsNetworkRun, IsRunIn, IsModelRun}
use Rattle.ssfnet_top.specs.Outcome.Course.{Ended, Midway}
use Rattle.ssfnet_top.specs.Answering.{Answers, AnswersMidway, IsOnTimelines, windows_text}

-- what answers to one outcome answers to another that follows from it
pub answers_by : (P Q : Due → Type 0) → ((due : Due) → P due → Q due) → (report : List ℕ) (answer : Result (Unit {0}) Refusal) (faults faults' : ℕ) (held held' : Option (List ℕ))
    → Answers P report answer faults faults' held held' → Answers Q report answer faults faults' held held'
answers_by P Q follows report answer faults faults' held held' (inl (text, is, all)) = inl (text, follows _ is, all)
answers_by P Q follows report answer faults faults' held held' (inr (inl (due, is, halt, part))) = inr (inl (due, follows due is, halt, part))
answers_by P Q follows report answer faults faults' held held' (inr (inr none)) = inr (inr none)

pub midway_by : (P Q : ℕ → List ℕ → Type 0) → ((below : ℕ) (text : List ℕ) → P below text → Q below text) → (answer : Result (Unit {0}) Refusal) (faults faults' : ℕ) (held held' : Option (List ℕ))
    → AnswersMidway P answer faults faults' held held' → AnswersMidway Q answer faults faults' held held'
midway_by P Q follows answer faults faults' held held' (below, text, is, how) = (below, text, follows below text is, how)

-- a course that follows from another
pub course_by : (P Q : Course → Type 0) → ((course : Course) → P course → Q course) → (report : List ℕ) (answer : Result (Unit {0}) Refusal) (faults faults' : ℕ) (held held' : Option (List ℕ))
    → Answers (λ due. P (Ended due)) report answer faults faults' held held' ⊎ AnswersMidway (λ below text. P (Midway below text)) answer faults faults' held held'
    → Answers (λ due. Q (Ended due)) report answer faults faults' held held' ⊎ AnswersMidway (λ below text. Q (Midway below text)) answer faults faults' held held'
course_by P Q follows report answer faults faults' held held' (inl whole) =
    inl (answers_by (λ due. P (Ended due)) (λ due. Q (Ended due)) (λ due is. follows (Ended due) is) report answer faults faults' held held' whole)
course_by P Q follows report answer faults faults' held held' (inr short) =
    inr (midway_by (λ below text. P (Midway below text)) (λ below text. Q (Midway below text)) (λ below text is. follows (Midway below text) is) answer faults faults' held held' short)

-- the run of the plan of a network is that of the network
pub network_run : (running : Running) (read : Read Network) (built : Built Host HostFields PacketFields) → IsOkAnd read (λ network. IsPlanOf network built)
    → (course : Course) → IsCourse host_reaction built running course → IsNetworkRun running read course
network_run running (Ok network) built plan course run = (built, plan, run)
network_run running (Err fault) built plan course run = absurd plan

-- and so is that of the plan of a ring
pub ring_run : (running : Running) (read : Read (Built Ring RingState RingPayload)) (built : Built Ring RingState RingPayload) → read ≡ Ok built
    → (course : Course) → IsCourse ring_reaction built running course → IsRingRun running read course
ring_run running read built is course run = subst (λ (n : Read (Built Ring RingState RingPayload)). IsRingRun running n course) (sym is) run

-- a run in one way is the run that was asked
module _ {B S P : Type 0} (r : Reaction S P) (built : Built B S P) (running : Running) (answer : Result (Unit {0}) Refusal) (faults faults' : ℕ) (held held' : Option (List ℕ)) where
  abbrev Goes : Way → List ℕ → Type 0
  Goes w report =
      Answers (λ due. IsCourseBy w r built running.until running.budget running.report (Ended due)) report answer faults faults' held held'
      ⊎ AnswersMidway (λ below text. IsCourseBy w r built running.until running.budget running.report (Midway below text)) answer faults faults' held held'

  pub by_one_list : (report : List ℕ) (windows : Option (ℕ × ℕ)) → running.way ≡ way.OneList → windows ≡ None
      → Answers (IsRunDue r built.plan built.names running.until running.budget running.report) report answer faults faults' held held' → Goes running.way (report ++ windows_text windows)
  by_one_list report windows is none answers =
      let there : Goes way.OneList (report ++ []) = subst (λ (t : List ℕ). Goes way.OneList t) (sym (append-nil report)) (inl answers) in
      subst (λ (w : Way). Goes w (report ++ windows_text windows)) (sym is) (subst (λ (o : Option (ℕ × ℕ)). Goes way.OneList (report ++ windows_text o)) (sym none) there)

  pub on_its_timelines : (report : List ℕ) (mode : Mode) (threshold : ℕ) → running.way ≡ way.Timelines mode threshold → Goes (way.Timelines mode threshold) report → Goes running.way report
  on_its_timelines report mode threshold is goes = subst (λ (w : Way). Goes w report) (sym is) goes

-- the run of the plan of a model is that of the model
hosts_in : (running : Running) (net : Bool) (root : List Attribute) (built : Built Host HostFields PacketFields) → IsPlannedIn net root (planned.Hosts built)
    → (course : Course) → IsCourse host_reaction built running course → IsRunIn running net root course
hosts_in running true root built plan course run = network_run running (planned_network root) built plan course run
hosts_in running false root built plan course run = absurd plan

ring_in : (running : Running) (net : Bool) (root : List Attribute) (built : Built Ring RingState RingPayload) → IsPlannedIn net root (planned.Ring built)
    → (course : Course) → IsCourse ring_reaction built running course → IsRunIn running net root course
ring_in running true root built plan course run = absurd plan
ring_in running false root built plan course run = ring_run running (ring_plan_of root) built plan course run

hosts_of : (running : Running) (tree : Result Attributes Refusal) (built : Built Host HostFields PacketFields) → IsPlanned tree (planned.Hosts built)
    → (course : Course) → IsCourse host_reaction built running course → IsModelRun running tree course
hosts_of running (Ok tree) built plan course run = hosts_in running (has_net (attributes tree)) (attributes tree) built plan course run
hosts_of running (Err r) built plan course run = absurd plan

ring_of : (running : Running) (tree : Result Attributes Refusal) (built : Built Ring RingState RingPayload) → IsPlanned tree (planned.Ring built)
    → (course : Course) → IsCourse ring_reaction built running course → IsModelRun running tree course
ring_of running (Ok tree) built plan course run = ring_in running (has_net (attributes tree)) (attributes tree) built plan course run
ring_of running (Err r) built plan course run = absurd plan

module _ (running : Running) (tree : Result Attributes Refusal) (report : List ℕ) (answer : Result (Unit {0}) Refusal) (faults faults' : ℕ) (held held' : Option (List ℕ)) where
  abbrev pub Runs : Type 0
  Runs =
      Answers (λ due. IsModelRun running tree (Ended due)) report answer faults faults' held held'
      ⊎ AnswersMidway (λ below text. IsModelRun running tree (Midway below text)) answer faults faults' held held'

  pub runs_hosts : (p : Planned) (built : Built Host HostFields PacketFields) → p ≡ planned.Hosts built → IsPlanned tree p
      → Answers (λ due. IsCourse host_reaction built running (Ended due)) report answer faults faults' held held'
      ⊎ AnswersMidway (λ below text. IsCourse host_reaction built running (Midway below text)) answer faults faults' held held' → Runs
  runs_hosts p built is plan goes =
      course_by (IsCourse host_reaction built running) (IsModelRun running tree) (hosts_of running tree built (subst (λ (x : Planned). IsPlanned tree x) is plan)) report answer faults faults' held held' goes

  pub runs_ring : (p : Planned) (built : Built Ring RingState RingPayload) → p ≡ planned.Ring built → IsPlanned tree p
      → Answers (λ due. IsCourse ring_reaction built running (Ended due)) report answer faults faults' held held'
      ⊎ AnswersMidway (λ below text. IsCourse ring_reaction built running (Midway below text)) answer faults faults' held held' → Runs
  runs_ring p built is plan goes =
      course_by (IsCourse ring_reaction built running) (IsModelRun running tree) (ring_of running tree built (subst (λ (x : Planned). IsPlanned tree x) is plan)) report answer faults faults' held held' goes

-- and the refusal of a model without a plan is due
fault_in : (running : Running) (net : Bool) (root : List Attribute) (fault : ShapeFault) → IsFaultIn net root fault → IsRunIn running net root (Ended (refused (refusal.Shape fault) []))
fault_in running true root fault is = subst (λ (n : Read Network). IsNetworkRun running n (Ended (refused (refusal.Shape fault) []))) (sym is) refl
fault_in running false root fault is = subst (λ (n : Read (Built Ring RingState RingPayload)). IsRingRun running n (Ended (refused (refusal.Shape fault) []))) (sym is) refl

fault_of : (running : Running) (tree : Result Attributes Refusal) (r : Refusal) → IsFault tree r → IsModelRun running tree (Ended (refused r []))
fault_of running (Ok tree) r (fault, is, same) =
    subst (λ (s : Refusal). IsModelRun running (Ok tree) (Ended (refused s []))) (sym same) (fault_in running (has_net (attributes tree)) (attributes tree) fault is)
fault_of running (Err e) r same = ap (λ (s : Refusal). refused s []) same

pub runs_none : (running : Running) (tree : Result Attributes Refusal) (report : List ℕ) (r : Refusal) (faults : ℕ) (held : Option (List ℕ)) → (r ≡ refusal.Memory) ⊎ IsFault tree r
    → Runs running tree report (Err r) faults faults held held
runs_none running tree report r faults held (inl short) = inl (inr (inr (ap (λ (s : Refusal). Err s) short, appends_nothing held)))
runs_none running tree report r faults held (inr fault) = inl (inl ([], fault_of running tree r fault, appends_nothing held))

-- where nothing was written for want of memory: a run by one event list says nothing of it
pub unbegun_by_list : (answer : Result (Unit {0}) Refusal) (by : Way) (held held' : Option (List ℕ)) → by ≡ way.OneList
    → IfErr answer (λ r. r ≡ refusal.Memory → IsOnTimelines by → Appends [] held held')
unbegun_by_list (Ok unit) by held held' is = tt
unbegun_by_list (Err r) by held held' is = λ short on. absurd (subst IsOnTimelines is on)

pub unbegun_on_timelines : (answer : Result (Unit {0}) Refusal) (by : Way) (held held' : Option (List ℕ)) → IfErr answer (λ r. r ≡ refusal.Memory → Appends [] held held')
    → IfErr answer (λ r. r ≡ refusal.Memory → IsOnTimelines by → Appends [] held held')
unbegun_on_timelines (Ok unit) by held held' none = tt
unbegun_on_timelines (Err r) by held held' none = λ short on. none short
