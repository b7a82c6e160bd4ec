-- A model's run by one event list and its run on timelines, where both come to their end, write the same; and steps and workers have the same outcome.
use Rattle.std.proofs.Common.{ℕ, ◌≡◌, ◌≤◌, ◌+◌, ◌⊎◌, inl, inr, ◌∙◌, sym, ap, subst, refl, Bool, true, false, List, length, Option, Some, Result, Ok, Err, arith}
use Rattle.sim_base.specs.Outside.{Files}
use Rattle.dml_tree.specs.declared.tree.Attribute.{Attribute}
use Rattle.dml_tree.specs.Attributes.{Attributes}
use Rattle.dml_tree.specs.TreeView.{attributes}
use Rattle.event_order.specs.Machine.{within}
use Rattle.net_graph.specs.declared.rows.Network.{Network}
use Rattle.net_graph.specs.Keys.{has_net}
use Rattle.net_graph.specs.Reads.{Read}
use Rattle.net_build.specs.declared.built.Built.{Built}
use Rattle.net_build.specs.RingModel.{ring_plan_of}
use Rattle.host_stack.specs.declared.host.Host.{Host}
use Rattle.host_rules.specs.Hosts.{HostFields}
use Rattle.host_rules.specs.Reacting.{host_reaction}
use Rattle.ip_layer.specs.Packets.{PacketFields}
use Rattle.ring_model.specs.declared.ring.Ring.{Ring}
use Rattle.ring_model.specs.declared.ring.RingState.{RingState}
use Rattle.ring_model.specs.declared.ring.RingPayload.{RingPayload}
use Rattle.ring_model.specs.Reacting.{ring_reaction}
use Rattle.ssf_model.specs.declared.event.Entry.{Entry}
use Rattle.ssf_model.specs.declared.event.Names.{Names}
use Rattle.ssf_model.specs.declared.plan.Plan.{Plan}
use Rattle.ssf_model.specs.Reaction.{Reaction}
use Rattle.ssf_model.specs.Run.{run_entries}
use Rattle.alignment.specs.declared.labels.Mode.{Mode}
use Rattle.trace_writer.specs.Trace.{trace_text}
use Rattle.core_traces.specs.Records.{AreAllEntries}
use Rattle.core_traces.proofs.Records.{one_all, all_long}
use Rattle.command_words.specs.declared.command.Align.{Align}
use Rattle.command_words.specs.declared.command.Command.{Command}
use Rattle.command_words.specs.declared.command.Command.TheVariants as commands
use Rattle.command_words.specs.Words.{Asked, asked_of_words}
use Rattle.ssfnet_top.specs.declared.refusal.Refusal.{Refusal}
use Rattle.ssfnet_top.specs.declared.running.Running.{Running}
use Rattle.ssfnet_top.specs.Outcome.{Due, AreRead, resolved_of, planned_network, IsWithin, IsOver, IsRunDue, IsWithinOn, IsDueOn, IsCourse, IsRingRun, IsNetworkRun, IsRunIn, IsModelRun, by_list, on_timelines, mode_of, IsCommandDue, IsTreeDue, IsAskedDue, IsOutcome}
use Rattle.ssfnet_top.specs.Outcome.Course.{Ended}
use Rattle.ssfnet_top.proofs.OneOutcome.{files_once, plan_of_one}

out_of : (due other : Due) → due ≡ other → due.out ≡ other.out
out_of due other same = ap (λ (d : Due). d.out) same

status_of_due : (due other : Due) → due ≡ other → due.status ≡ other.status
status_of_due due other same = ap (λ (d : Due). d.status) same

module _ {B S P : Type 0} (r : Reaction S P) (plan : Plan B S P) (names : Names) (nets : List ℕ) (mode : Mode) (threshold until budget most : ℕ) (wanted told : Bool)
    (due other : Due) where
  whole_list : (R : ℕ) → IsWithin r plan names until budget wanted R due ⊎ IsOver r plan names until budget R due → due.status ≡ 0 → IsWithin r plan names until budget wanted R due
  whole_list R (inl w) well = w
  whole_list R (inr o) well = absurd (let eight : due.status ≡ 8 = status_of_due due _ o.first in omega (arith, well, eight))

  whole_on : IsDueOn r plan names nets mode threshold until most told other → other.status ≡ 0 → IsWithinOn r plan names nets mode threshold until most told other
  whole_on (inl (there, inl w)) well = w
  whole_on (inl (there, inr o)) well = absurd (let eight : other.status ≡ 8 = status_of_due other _ o.first in omega (arith, well, eight))
  whole_on (inr many) well = absurd (let six : other.status ≡ 6 = status_of_due other _ many.none in omega (arith, well, six))

  all_of : (R : ℕ) (w : IsWithin r plan names until budget wanted R due) → AreAllEntries r plan until (within R) (run_entries r plan until (within R) w.count)
  all_of R w = record { count = w.count; are = refl; each = w.events.each; no_more = w.events.no_more }

  traces_same : (R : ℕ) → most ≤ R → IsWithin r plan names until budget wanted R due → IsWithinOn r plan names nets mode threshold until most told other → due.out ≡ other.out
  unfolding all_of
  traces_same R low w v =
      let first : List Entry = run_entries r plan until (within R) w.count in
      let all = all_of R w in
      let long : length first ≡ w.count = all_long r plan until (within R) first all in
      let same : first ≡ v.entries = one_all r plan until (within R) first v.entries all (v.all R low) in
      out_of due _ w.whole ∙ (ap (λ (n : ℕ). trace_text names first until (plan.before + n)) (sym long)
      ∙ (ap (λ (es : List Entry). trace_text names es until (plan.before + length es)) same ∙ sym (out_of other _ v.whole)))

  runs_same : IsRunDue r plan names until budget wanted due → IsDueOn r plan names nets mode threshold until most told other → due.status ≡ 0 → other.status ≡ 0
      → due.out ≡ other.out
  runs_same p q well fine = traces_same (budget + most) (omega arith) (whole_list (budget + most) (p (budget + most) (omega arith)) well) (whole_on q fine)

module _ (until budget most threshold : ℕ) (wanted told : Bool) (aligned : Align) (due other : Due) (well : due.status ≡ 0) (fine : other.status ≡ 0) where
  abbrev by_one : Running
  by_one = by_list until budget wanted

  abbrev by_many : Running
  by_many = on_timelines until most told aligned threshold

  courses_same : {B S P : Type 0} (r : Reaction S P) (built : Built B S P) → IsCourse r built by_one (Ended due) → IsCourse r built by_many (Ended other) → due.out ≡ other.out
  courses_same r built p q = runs_same r built.plan built.names built.nets (mode_of aligned) threshold until budget most wanted told due other p q well fine

  rings_same : (read : Read (Built Ring RingState RingPayload)) → IsRingRun by_one read (Ended due) → IsRingRun by_many read (Ended other) → due.out ≡ other.out
  rings_same (Ok built) p q = courses_same ring_reaction built p q
  rings_same (Err fault) p q = out_of due other (p ∙ sym q)

  networks_same : (read : Read Network) → IsNetworkRun by_one read (Ended due) → IsNetworkRun by_many read (Ended other) → due.out ≡ other.out
  networks_same (Ok network) p q =
      let same : p.0 ≡ q.0 = plan_of_one network p.0 q.0 p.1 q.1 in
      let here : IsCourse host_reaction q.0 by_one (Ended due) = subst (λ (b : Built Host HostFields PacketFields). IsCourse host_reaction b by_one (Ended due)) same p.2 in
      courses_same host_reaction q.0 here q.2
  networks_same (Err fault) p q = out_of due other (p ∙ sym q)

  runs_in_same : (net : Bool) (root : List Attribute) → IsRunIn by_one net root (Ended due) → IsRunIn by_many net root (Ended other) → due.out ≡ other.out
  runs_in_same true root p q = networks_same (planned_network root) p q
  runs_in_same false root p q = rings_same (ring_plan_of root) p q

  models_same : (tree : Result Attributes Refusal) → IsModelRun by_one tree (Ended due) → IsModelRun by_many tree (Ended other) → due.out ≡ other.out
  models_same (Ok tree) p q = runs_in_same (has_net (attributes tree)) (attributes tree) p q
  models_same (Err r) p q = out_of due other (p ∙ sym q)

module _ (one two : Asked) (until budget most threshold : ℕ) (aligned : Align) (by_one : one.command ≡ commands.Seq until budget) (by_many : two.command ≡ commands.Step until most aligned threshold)
    (same : one.files ≡ two.files) (due other : Due) (well : due.status ≡ 0) (fine : other.status ≡ 0) where
  trees_same : (tree : Result Attributes Refusal) → IsTreeDue one tree due → IsTreeDue two tree other → due.out ≡ other.out
  trees_same (Ok tree) p q =
      let P : Command → Type 0 = λ c. IsCommandDue c one tree due in
      let Q : Command → Type 0 = λ c. IsCommandDue c two tree other in
      let F : List (List ℕ) → Type 0 = λ names. IsModelRun (by_list until budget one.report) (resolved_of names tree) (Ended due) in
      models_same until budget most threshold one.report two.report aligned due other well fine (resolved_of two.files tree) (subst F same (subst P by_one p)) (subst Q by_many q)
  trees_same (Err r) p q = out_of due other (p ∙ sym q)

  asked_same : (files : Files) → IsAskedDue files (Some one) due → IsAskedDue files (Some two) other → due.out ≡ other.out
  asked_same files p q =
      let read : AreRead files 0 two.files p.0 = subst (λ (l : List (List ℕ)). AreRead files 0 l p.0) same p.1 in
      let tree : p.0 ≡ q.0 = files_once files 0 two.files p.0 q.0 read q.1 in
      trees_same q.0 (subst (λ (t : Result Attributes Refusal). IsTreeDue one t due) tree p.2) q.2

  pub outcomes_same : (files : Files) (words others : List (List ℕ)) → asked_of_words words ≡ Some one → asked_of_words others ≡ Some two → IsOutcome files words due → IsOutcome files others other
      → due.out ≡ other.out
  outcomes_same files words others first second p q =
      asked_same files (subst (λ (o : Option Asked). IsAskedDue files o due) first p) (subst (λ (o : Option Asked). IsAskedDue files o other) second q)

-- What is due of `run` is what is due of `step`.
module _ (one two : Asked) (until budget threshold workers : ℕ) (aligned : Align) (by_steps : one.command ≡ commands.Step until budget aligned threshold)
    (by_workers : two.command ≡ commands.Run until budget aligned threshold workers) (same : one.files ≡ two.files) (reports : one.report ≡ two.report) (due : Due) where
  trees_due : (tree : Result Attributes Refusal) → IsTreeDue one tree due → IsTreeDue two tree due
  trees_due (Ok tree) p =
      let P : Command → Type 0 = λ c. IsCommandDue c one tree due in
      let Q : Command → Type 0 = λ c. IsCommandDue c two tree due in
      let F : List (List ℕ) → Type 0 = λ names. IsModelRun (on_timelines until budget one.report aligned threshold) (resolved_of names tree) (Ended due) in
      let R : Bool → Type 0 = λ wanted. IsModelRun (on_timelines until budget wanted aligned threshold) (resolved_of two.files tree) (Ended due) in
      subst Q (sym by_workers) (subst R reports (subst F same (subst P by_steps p)))
  trees_due (Err r) p = p

  pub steps_and_workers : (files : Files) (words others : List (List ℕ)) → asked_of_words words ≡ Some one → asked_of_words others ≡ Some two → IsOutcome files words due → IsOutcome files others due
  steps_and_workers files words others first second p =
      let here : IsAskedDue files (Some one) due = subst (λ (o : Option Asked). IsAskedDue files o due) first p in
      let there : IsAskedDue files (Some two) due = (here.0, subst (λ (l : List (List ℕ)). AreRead files 0 l here.0) same here.1, trees_due here.0 here.2) in
      subst (λ (o : Option Asked). IsAskedDue files o due) (sym second) there
