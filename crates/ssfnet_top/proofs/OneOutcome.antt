-- There is at most one outcome, but for the timeline at which a budget ends, and what stands in the middle of a run begins it.
use Rattle.std.proofs.Common.{ℕ, ◌≡◌, ◌<◌, ◌≤◌, ◌+◌, ◌⊎◌, inl, inr, ◌∙◌, sym, ap, subst, refl, Bool, true, false, List, [], ◌∷◌, Option, Some, None, IsSome, Result, Ok, Err, arith}
use Rattle.sim_base.specs.Outside.{Files}
use Rattle.dml_tree.specs.declared.tree.Attribute.{Attribute}
use Rattle.dml_tree.specs.Attributes.{Attributes}
use Rattle.dml_tree.specs.TreeView.{attributes, joined}
use Rattle.dml_tree.proofs.OneMeaning.{one_meaning}
use Rattle.event_order.specs.Machine.{within}
use Rattle.event_order.proofs.Steps.{before_end, lt_or_ge, lt_or_same}
use Rattle.net_graph.specs.declared.fault.ShapeFault.{ShapeFault}
use Rattle.net_graph.specs.declared.rows.Network.{Network}
use Rattle.net_graph.specs.Keys.{has_net}
use Rattle.net_graph.specs.Reads.{Read, then_read}
use Rattle.net_graph.specs.Networks.{IsNetwork}
use Rattle.net_graph.specs.NetworkOf.{network_of}
use Rattle.net_layout.specs.Faults.{first_fault}
use Rattle.net_build.specs.declared.built.Built.{Built}
use Rattle.net_build.specs.PlanText.{ring_text_of}
use Rattle.net_build.specs.RingModel.{ring_plan_of}
use Rattle.net_build.proofs.OneText.{plan_texts_one}
use Rattle.net_plan.specs.NetPlan.{IsPlanOf}
use Rattle.net_plan.proofs.Refusing.{plans_one}
use Rattle.host_stack.specs.declared.host.Host.{Host}
use Rattle.host_rules.specs.Hosts.{HostFields}
use Rattle.host_rules.specs.Reacting.{host_reaction}
use Rattle.ip_layer.specs.Packets.{PacketFields}
use Rattle.network_laws.proofs.Lawful.{network_lawful}
use Rattle.ring_model.specs.declared.ring.Ring.{Ring}
use Rattle.ring_model.specs.declared.ring.RingState.{RingState}
use Rattle.ring_model.specs.declared.ring.RingPayload.{RingPayload}
use Rattle.ring_model.specs.Reacting.{ring_reaction}
use Rattle.ssf_model.specs.declared.event.Event.{Event}
use Rattle.ssf_model.specs.declared.event.Names.{Names}
use Rattle.ssf_model.specs.declared.plan.Plan.{Plan}
use Rattle.ssf_model.specs.Reaction.{Reaction}
use Rattle.ssf_model.specs.Run.{machine_of, opening, run_event, run_entries}
use Rattle.trace_writer.specs.Trace.{trace_text}
use Rattle.command_words.specs.declared.command.Command.{Command}
use Rattle.command_words.specs.declared.command.Command.TheVariants as commands
use Rattle.ssfnet_top.specs.declared.refusal.Refusal.{Refusal}
use Rattle.command_words.specs.Words.{Asked, asked_of_words}
use Rattle.ssfnet_top.specs.declared.running.Running.{Running}
use Rattle.ssfnet_top.specs.declared.running.Way.{Way}
use Rattle.ssfnet_top.specs.declared.running.Way.TheVariants as way
use Rattle.ssfnet_top.specs.Outcome.{Due, done, done_with, report_if, meant, IsRead, AreRead, resolved_of, shaped, unless, planned_network, counts_of, IsText, IsNetworkPlan, IsPlanIn, IsPlan, HasEvents, IsWithin, IsOver, IsCourseBy, IsCourse, IsRingRun, IsNetworkRun, IsRunIn, IsModelRun, IsPrinted, by_list, on_timelines, IsCommandDue, IsTreeDue, IsAskedDue, IsOutcome, IsCommandMidway, IsTreeMidway, IsAskedMidway, IsMidway}
use Rattle.ssfnet_top.specs.Outcome.Course.{Ended, Midway}
use Rattle.ssfnet_top.specs.Agreeing.{Agree, Begins}
use Rattle.ssfnet_top.proofs.OneRun.{agree_on, begins_on}

-- a file has one reading
read_once : (name : List ℕ) (number : ℕ) (o : Option (List ℕ)) (a b : Result Attributes Refusal) → IsRead name number o a → IsRead name number o b → a ≡ b
read_once name number None a b p q = p ∙ sym q
read_once name number (Some bytes) a b p q = p.2 ∙ (ap (meant name) (one_meaning number bytes p.0 q.0 p.1 q.1) ∙ sym q.2)

-- so have files
pub files_once : (files : Files) (number : ℕ) (names : List (List ℕ)) (a b : Result Attributes Refusal) → AreRead files number names a → AreRead files number names b → a ≡ b
files_once files number [] (Ok t) (Ok u) p q = ap (λ (x : Attributes). Ok x) (p ∙ sym q)
files_once files number [] (Ok t) (Err r) p q = absurd q
files_once files number [] (Err r) b p q = absurd p
files_once files number (name ∷ names) (Ok t) (Ok u) p q =
    let first : Ok p.0 ≡ Ok q.0 = read_once name number (files name) (Ok p.0) (Ok q.0) p.2 q.2 in
    let others : Ok p.1 ≡ Ok q.1 = files_once files (number + 1) names (Ok p.1) (Ok q.1) p.3 q.3 in
    let one : p.0 ≡ q.0 = cc in
    let more : p.1 ≡ q.1 = cc in
    ap (λ (x : Attributes). Ok x) (p.4 ∙ (ap (λ (x : Attributes). joined x p.1) one ∙ (ap (λ (x : Attributes). joined q.0 x) more ∙ sym q.4)))
files_once files number (name ∷ names) (Ok t) (Err r) p (inl q) = absurd (let e : Ok p.0 ≡ Err r = read_once name number (files name) (Ok p.0) (Err r) p.2 q in cc)
files_once files number (name ∷ names) (Ok t) (Err r) p (inr q) = absurd (let e : Ok p.1 ≡ Err r = files_once files (number + 1) names (Ok p.1) (Err r) p.3 q.2 in cc)
files_once files number (name ∷ names) (Err r) (Ok u) (inl p) q = absurd (let e : Err r ≡ Ok q.0 = read_once name number (files name) (Err r) (Ok q.0) p q.2 in cc)
files_once files number (name ∷ names) (Err r) (Ok u) (inr p) q = absurd (let e : Err r ≡ Ok q.1 = files_once files (number + 1) names (Err r) (Ok q.1) p.2 q.3 in cc)
files_once files number (name ∷ names) (Err r) (Err s) (inl p) (inl q) = read_once name number (files name) (Err r) (Err s) p q
files_once files number (name ∷ names) (Err r) (Err s) (inl p) (inr q) = absurd (let e : Err r ≡ Ok q.0 = read_once name number (files name) (Err r) (Ok q.0) p q.1 in cc)
files_once files number (name ∷ names) (Err r) (Err s) (inr p) (inl q) = absurd (let e : Ok p.0 ≡ Err s = read_once name number (files name) (Ok p.0) (Err s) p.1 q in cc)
files_once files number (name ∷ names) (Err r) (Err s) (inr p) (inr q) = files_once files (number + 1) names (Err r) (Err s) p.2 q.2

there_is : {T : Type 0} (o : Option T) → IsSome o → (x : T) × (o ≡ Some x)
there_is None some = absurd (cc)
there_is (Some x) some = (x, refl)

module _ {B S P : Type 0} (r : Reaction S P) (plan : Plan B S P) (until R : ℕ) where
  -- an event stands before the end of its run
  before_no_more : (k n : ℕ) → IsSome (run_event r plan until (within R) k) → run_event r plan until (within R) n ≡ None → k < n
  before_no_more k n some none =
      let found : (x : Event P) × (run_event r plan until (within R) k ≡ Some x) = there_is _ some in
      before_end (machine_of r plan.mappings) until (within R) (opening plan) n k found.0 none found.1

  -- a run has one number of events
  count_once : (n m : ℕ) → HasEvents r plan until R n → HasEvents r plan until R m → n ≡ m
  count_once n m p q = elim (lt_or_ge n m) [
    | inl l ↦ absurd (let low = before_no_more n n (q.each n l) p.no_more in omega arith)
    | inr g ↦ elim (lt_or_same m n g) [
      | inl l ↦ absurd (let low = before_no_more m m (p.each m l) q.no_more in omega arith)
      | inr e ↦ sym e
    ]
  ]

  module _ (names : Names) (budget : ℕ) (wanted : Bool) (due other : Due) where
    run_once : IsWithin r plan names until budget wanted R due ⊎ IsOver r plan names until budget R due
        → IsWithin r plan names until budget wanted R other ⊎ IsOver r plan names until budget R other → due ≡ other
    run_once (inl p) (inl q) =
        let same : p.count ≡ q.count = count_once p.count q.count p.events q.events in
        p.whole ∙ (ap (λ (n : ℕ). done_with (report_if wanted (run_entries r plan until (within R) n)) (trace_text names (run_entries r plan until (within R) n) until (plan.before + n))) same ∙ sym q.whole)
    run_once (inl p) (inr q) = absurd (let low = before_no_more budget p.count q.more p.events.no_more in let few = p.few in omega arith)
    run_once (inr p) (inl q) = absurd (let low = before_no_more budget q.count p.more q.events.no_more in let few = q.few in omega arith)
    run_once (inr p) (inr q) = p.first ∙ sym q.first

printed_once : (tree : Result Attributes Refusal) (due other : Due) → IsPrinted tree due → IsPrinted tree other → due ≡ other
printed_once (Ok tree) due other p q = p ∙ sym q
printed_once (Err r) due other p q = p ∙ sym q

text_once : (text : Result (List ℕ) Refusal) (due other : Due) → IsText text due → IsText text other → due ≡ other
text_once (Ok text) due other p q = p ∙ sym q
text_once (Err r) due other p q = p ∙ sym q

unless_is : (o : Option ShapeFault) (network n : Network) → unless o network ≡ Ok n → network ≡ n
unless_is None network n is = cc
unless_is (Some fault) network n is = absurd (cc)

planned_is : (r : Read Network) (n : Network) → then_read r (λ network. unless (first_fault network) network) ≡ Ok n → r ≡ Ok n
planned_is (Ok network) n is = ap (λ (m : Network). Ok m) (unless_is (first_fault network) network n is)
planned_is (Err fault) n is = absurd (cc)

-- a network that is lawful has one plan
network_plan_once : (r : Read Network) (due other : Due) → ((n : Network) → r ≡ Ok n → IsNetwork n) → IsNetworkPlan r due → IsNetworkPlan r other → due ≡ other
network_plan_once (Ok network) due other lawful p q =
    p.2 ∙ (ap (λ (text : List ℕ). done text) (plan_texts_one network p.0 q.0 (lawful network refl) p.1 q.1) ∙ sym q.2)
network_plan_once (Err fault) due other lawful p q = p ∙ sym q

plan_in_once : (is_net : Bool) (tree : Attributes) (due other : Due) → IsPlanIn is_net (attributes tree) due → IsPlanIn is_net (attributes tree) other → due ≡ other
plan_in_once true tree due other p q =
    network_plan_once (planned_network (attributes tree)) due other (λ n is. network_lawful tree n (planned_is (network_of (attributes tree)) n is)) p q
plan_in_once false tree due other p q = text_once (shaped (ring_text_of (attributes tree))) due other p q

plan_once : (tree : Result Attributes Refusal) (due other : Due) → IsPlan tree due → IsPlan tree other → due ≡ other
plan_once (Ok tree) due other p q = plan_in_once (has_net (attributes tree)) tree due other p q
plan_once (Err r) due other p q = p ∙ sym q

-- the course of a run of one plan is one, but for the timeline at which a budget ends
course_by_agrees : {B S P : Type 0} (by : Way) (r : Reaction S P) (built : Built B S P) (until budget : ℕ) (wanted : Bool) (due other : Due)
    → IsCourseBy by r built until budget wanted (Ended due) → IsCourseBy by r built until budget wanted (Ended other) → Agree due other
course_by_agrees way.OneList r built until budget wanted due other p q =
    let here : budget ≤ budget = omega arith in
    inl (run_once r built.plan until budget built.names budget wanted due other (p budget here) (q budget here))
course_by_agrees (way.Timelines mode threshold) r built until budget wanted due other p q =
    agree_on r built.plan built.names built.nets mode threshold until budget wanted due other p q

-- what stands in its middle begins it
course_by_begins : {B S P : Type 0} (by : Way) (r : Reaction S P) (built : Built B S P) (until budget : ℕ) (wanted : Bool) (below : ℕ) (text : List ℕ) (due : Due)
    → IsCourseBy by r built until budget wanted (Midway below text) → IsCourseBy by r built until budget wanted (Ended due) → Begins text due.out
course_by_begins way.OneList r built until budget wanted below text due p q = absurd p
course_by_begins (way.Timelines mode threshold) r built until budget wanted below text due p q =
    begins_on r built.plan built.names built.nets mode threshold until budget wanted below text due p q

module _ {B S P : Type 0} (r : Reaction S P) (built : Built B S P) (running : Running) where
  course_agrees : (due other : Due) → IsCourse r built running (Ended due) → IsCourse r built running (Ended other) → Agree due other
  course_agrees due other p q = course_by_agrees running.way r built running.until running.budget running.report due other p q

  course_begins : (below : ℕ) (text : List ℕ) (due : Due) → IsCourse r built running (Midway below text) → IsCourse r built running (Ended due) → Begins text due.out
  course_begins below text due p q = course_by_begins running.way r built running.until running.budget running.report below text due p q

-- so is that of a ring
ring_run_agrees : (running : Running) (r : Read (Built Ring RingState RingPayload)) (due other : Due) → IsRingRun running r (Ended due) → IsRingRun running r (Ended other) → Agree due other
ring_run_agrees running (Ok built) due other p q = course_agrees ring_reaction built running due other p q
ring_run_agrees running (Err fault) due other p q = inl (p ∙ sym q)

ring_run_begins : (running : Running) (r : Read (Built Ring RingState RingPayload)) (below : ℕ) (text : List ℕ) (due : Due) → IsRingRun running r (Midway below text) → IsRingRun running r (Ended due)
    → Begins text due.out
ring_run_begins running (Ok built) below text due p q = course_begins ring_reaction built running below text due p q
ring_run_begins running (Err fault) below text due p q = absurd p

-- and that of a network of hosts, which has one plan with one list of names and one of Nets
names_same : (a b : Names) → a.names ≡ b.names → a ≡ b
names_same a b same = ap (λ (names : List (List ℕ)). record { names = names }) same

built_same : (a b : Built Host HostFields PacketFields) → a.plan ≡ b.plan → a.names ≡ b.names → a.nets ≡ b.nets → a ≡ b
built_same a b plan names nets =
    let one : Plan Host HostFields PacketFields → Built Host HostFields PacketFields = λ p. record { plan = p; names = a.names; nets = a.nets } in
    let two : Names → Built Host HostFields PacketFields = λ n. record { plan = b.plan; names = n; nets = a.nets } in
    let three : List ℕ → Built Host HostFields PacketFields = λ l. record { plan = b.plan; names = b.names; nets = l } in
    ap one plan ∙ (ap two names ∙ ap three nets)

pub plan_of_one : (network : Network) (a b : Built Host HostFields PacketFields) → IsPlanOf network a → IsPlanOf network b → a ≡ b
plan_of_one network a b p q =
    built_same a b (plans_one (record {}) network a.plan b.plan p.plan q.plan) (names_same a.names b.names (p.names ∙ sym q.names)) (p.nets ∙ sym q.nets)

network_run_agrees : (running : Running) (r : Read Network) (due other : Due) → IsNetworkRun running r (Ended due) → IsNetworkRun running r (Ended other) → Agree due other
network_run_agrees running (Ok network) due other p q =
    let same : p.0 ≡ q.0 = plan_of_one network p.0 q.0 p.1 q.1 in
    let here : IsCourse host_reaction q.0 running (Ended due) = subst (λ (b : Built Host HostFields PacketFields). IsCourse host_reaction b running (Ended due)) same p.2 in
    course_agrees host_reaction q.0 running due other here q.2
network_run_agrees running (Err fault) due other p q = inl (p ∙ sym q)

network_run_begins : (running : Running) (r : Read Network) (below : ℕ) (text : List ℕ) (due : Due) → IsNetworkRun running r (Midway below text) → IsNetworkRun running r (Ended due) → Begins text due.out
network_run_begins running (Ok network) below text due p q =
    let same : p.0 ≡ q.0 = plan_of_one network p.0 q.0 p.1 q.1 in
    let here : IsCourse host_reaction q.0 running (Midway below text) = subst (λ (b : Built Host HostFields PacketFields). IsCourse host_reaction b running (Midway below text)) same p.2 in
    course_begins host_reaction q.0 running below text due here q.2
network_run_begins running (Err fault) below text due p q = absurd p

run_in_agrees : (running : Running) (is_net : Bool) (root : List Attribute) (due other : Due) → IsRunIn running is_net root (Ended due) → IsRunIn running is_net root (Ended other) → Agree due other
run_in_agrees running true root due other p q = network_run_agrees running (planned_network root) due other p q
run_in_agrees running false root due other p q = ring_run_agrees running (ring_plan_of root) due other p q

run_in_begins : (running : Running) (is_net : Bool) (root : List Attribute) (below : ℕ) (text : List ℕ) (due : Due) → IsRunIn running is_net root (Midway below text) → IsRunIn running is_net root (Ended due)
    → Begins text due.out
run_in_begins running true root below text due p q = network_run_begins running (planned_network root) below text due p q
run_in_begins running false root below text due p q = ring_run_begins running (ring_plan_of root) below text due p q

model_run_agrees : (running : Running) (tree : Result Attributes Refusal) (due other : Due) → IsModelRun running tree (Ended due) → IsModelRun running tree (Ended other) → Agree due other
model_run_agrees running (Ok tree) due other p q = run_in_agrees running (has_net (attributes tree)) (attributes tree) due other p q
model_run_agrees running (Err r) due other p q = inl (p ∙ sym q)

model_run_begins : (running : Running) (tree : Result Attributes Refusal) (below : ℕ) (text : List ℕ) (due : Due) → IsModelRun running tree (Midway below text) → IsModelRun running tree (Ended due)
    → Begins text due.out
model_run_begins running (Ok tree) below text due p q = run_in_begins running (has_net (attributes tree)) (attributes tree) below text due p q
model_run_begins running (Err r) below text due p q = absurd p

command_agrees : (command : Command) (asked : Asked) (tree : Attributes) (due other : Due) → IsCommandDue command asked tree due → IsCommandDue command asked tree other → Agree due other
command_agrees (commands.Dml false) asked tree due other p q = inl (p ∙ sym q)
command_agrees (commands.Dml true) asked tree due other p q = inl (printed_once (resolved_of asked.files tree) due other p q)
command_agrees commands.Check asked tree due other p q = inl (text_once (counts_of (resolved_of asked.files tree)) due other p q)
command_agrees commands.Plan asked tree due other p q = inl (plan_once (resolved_of asked.files tree) due other p q)
command_agrees (commands.Seq until budget) asked tree due other p q = model_run_agrees (by_list until budget asked.report) (resolved_of asked.files tree) due other p q
command_agrees (commands.Step until budget aligned threshold) asked tree due other p q =
    model_run_agrees (on_timelines until budget asked.report aligned threshold) (resolved_of asked.files tree) due other p q
command_agrees (commands.Run until budget aligned threshold workers) asked tree due other p q =
    model_run_agrees (on_timelines until budget asked.report aligned threshold) (resolved_of asked.files tree) due other p q
command_agrees (commands.Gen seed size) asked tree due other p q = inl (p ∙ sym q)

command_begins : (command : Command) (asked : Asked) (tree : Attributes) (below : ℕ) (text : List ℕ) (due : Due) → IsCommandMidway command asked tree below text → IsCommandDue command asked tree due
    → Begins text due.out
command_begins (commands.Step until budget aligned threshold) asked tree below text due p q =
    model_run_begins (on_timelines until budget asked.report aligned threshold) (resolved_of asked.files tree) below text due p q
command_begins (commands.Run until budget aligned threshold workers) asked tree below text due p q =
    model_run_begins (on_timelines until budget asked.report aligned threshold) (resolved_of asked.files tree) below text due p q
command_begins _ asked tree below text due p q = absurd p

tree_agrees : (asked : Asked) (tree : Result Attributes Refusal) (due other : Due) → IsTreeDue asked tree due → IsTreeDue asked tree other → Agree due other
tree_agrees asked (Ok tree) due other p q = command_agrees asked.command asked tree due other p q
tree_agrees asked (Err r) due other p q = inl (p ∙ sym q)

tree_begins : (asked : Asked) (tree : Result Attributes Refusal) (below : ℕ) (text : List ℕ) (due : Due) → IsTreeMidway asked tree below text → IsTreeDue asked tree due → Begins text due.out
tree_begins asked (Ok tree) below text due p q = command_begins asked.command asked tree below text due p q
tree_begins asked (Err r) below text due p q = absurd p

pub asked_agrees : (files : Files) (asked : Option Asked) (due other : Due) → IsAskedDue files asked due → IsAskedDue files asked other → Agree due other
asked_agrees files None due other p q = inl (p ∙ sym q)
asked_agrees files (Some asked) due other p q =
    let same : p.0 ≡ q.0 = files_once files 0 asked.files p.0 q.0 p.1 q.1 in
    let here : IsTreeDue asked q.0 due = rw (← same) p.2 in
    tree_agrees asked q.0 due other here q.2

asked_begins : (files : Files) (asked : Option Asked) (below : ℕ) (text : List ℕ) (due : Due) → IsAskedMidway files asked below text → IsAskedDue files asked due → Begins text due.out
asked_begins files None below text due p q = absurd p
asked_begins files (Some asked) below text due p q =
    let same : p.0 ≡ q.0 = files_once files 0 asked.files p.0 q.0 p.1 q.1 in
    let here : IsTreeMidway asked q.0 below text = rw (← same) p.2 in
    tree_begins asked q.0 below text due here q.2

pub outcomes_agree : (files : Files) (words : List (List ℕ)) (due other : Due) → IsOutcome files words due → IsOutcome files words other → Agree due other
outcomes_agree files words due other first second = asked_agrees files (asked_of_words words) due other first second

pub middles_begin : (files : Files) (words : List (List ℕ)) (below : ℕ) (text : List ℕ) (due : Due) → IsMidway files words below text → IsOutcome files words due → Begins text due.out
middles_begin files words below text due midway outcome = asked_begins files (asked_of_words words) below text due midway outcome
