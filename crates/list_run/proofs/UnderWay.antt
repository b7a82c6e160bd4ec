-- A run by one event list while it goes on.
use Rattle.std.proofs.Common.{ℕ, ◌≡◌, ◌<◌, ◌≤◌, ◌+◌, ◌∙◌, sym, ap, subst, refl, inl, List, [], ◌++◌, length, append-nil, append_assoc, arith, Option, IsSome, IfSome, is_some, option_map, All, true, false}
use Rattle.sim_base.specs.Outside.{Appends, AppendsPrefix}
use Rattle.event_order.specs.Machine.{option_list, all_kept}
use Rattle.ssf_model.specs.declared.event.Event.{Event}
use Rattle.ssf_model.specs.declared.event.Entry.{Entry}
use Rattle.ssf_model.specs.declared.event.Names.{Names}
use Rattle.ssf_model.specs.declared.plan.Plan.{Plan}
use Rattle.ssf_model.specs.Reaction.{Reaction, Validity, KeepsValid, LatestTime}
use Rattle.ssf_model.specs.Deliver.{IsModest}
use Rattle.ssf_model.specs.Run.{Fits, run_event, run_entries, entry_at}
use Rattle.run_laws.specs.Openings.{OpensInOrder}
use Rattle.run_health.proofs.Staying.{entries_named}
use Rattle.trace_writer.specs.Trace.{entries_text, end_line}
use Rattle.trace_writer.specs.Report.{Totals, totals_of}
use Rattle.global_list.specs.Standing.{Standing, standing_after, advanced, next_event, next_entry}
use Rattle.global_list.proofs.Standings.{none_of, entries_next, Running, running_opened, running_next, running_prefix, running_ended, running_more}
use Rattle.list_run.specs.Sending.{Sends}
use Rattle.list_run.specs.Endings.{AreAll, IsTallied, IsTraced, IsOverBudget, IsPartWritten}
use Rattle.list_run.proofs.Pieces.{sends_nothing, sends_more, sends_end, part_more, part_end, part_none, entries_both, entries_none, trace_is}
use Rattle.list_run.proofs.Counting.{all_last, all_of, budget_of, part_due}

pub tallied_both : (a b c : Totals) (xs ys : List Entry) → IsTallied a b xs → IsTallied b c ys → IsTallied a c (xs ++ ys)
tallied_both a b c xs ys first second = λ told e. second (told ++ xs) (first told e) ∙ ap (λ (es : List Entry). totals_of es) (append_assoc told xs ys)

pub tallied_none : (a : Totals) → IsTallied a a []
tallied_none a = λ told e. e ∙ ap (λ (es : List Entry). totals_of es) (sym (append-nil told))

module _ {B S P : Type 0} (r : Reaction S P) (plan : Plan B S P) (names : Names) (until : ℕ) where
  abbrev first_ones : ℕ → List Entry
  first_ones n = run_entries r plan until all_kept n

  -- after i events: where the list stands, what was sent but for what is gathered, and what the tally got
  pub record UnderWay (i : ℕ) (s : Standing B S P) (gathered : List ℕ) (held held' : Option (List ℕ)) (tally tally' : Totals) : Type 0 where
    pub stands : Running r plan until i s (first_ones i)
    pub sends : Sends (entries_text names (first_ones i)) gathered held held'
    pub tallied : IsTallied tally tally' (first_ones i)

  pub way_opened : (s : Standing B S P) (gathered : List ℕ) (held : Option (List ℕ)) (tally : Totals) → s ≡ standing_after r plan until 0 → gathered ≡ [] → UnderWay 0 s gathered held held tally tally
  way_opened s gathered held tally is none = record {
    stands = running_opened r plan until s [] is refl;
    sends = rw (none, entries_none) (sends_nothing [] held);
    tallied = tallied_none tally;
  }

  -- the text with the next entry
  both_text : (i : ℕ) (s : Standing B S P) → s ≡ standing_after r plan until i → entries_text names (first_ones (i + 1)) ≡ entries_text names (first_ones i) ++ entries_text names (option_list (next_entry r until s))
  both_text i s is = ap (entries_text names) (entries_next r plan until i s is) ∙ entries_both names (first_ones i) (option_list (next_entry r until s))

  module _ (q : Reaction S P) (own : q ≡ r) (i : ℕ) (s s' : Standing B S P) (gathered gathered' : List ℕ) (held held' held'' : Option (List ℕ)) (tally tally' tally'' : Totals)
      (w : UnderWay i s gathered held held' tally tally') where
    -- one event more was executed
    pub way_next : s' ≡ advanced q until s → Sends (gathered ++ entries_text names (option_list (next_entry q until s))) gathered' held' held'' → IsTallied tally' tally'' (option_list (next_entry q until s))
        → is_some (next_event until s) ≡ true → UnderWay (i + 1) s' gathered' held held'' tally tally''
    way_next next sent added some =
        let sent : Sends (gathered ++ entries_text names (option_list (next_entry r until s))) gathered' held' held'' =
        subst (λ (p : Reaction S P). Sends (gathered ++ entries_text names (option_list (next_entry p until s))) gathered' held' held'') own sent in
        let added : IsTallied tally' tally'' (option_list (next_entry r until s)) = subst (λ (p : Reaction S P). IsTallied tally' tally'' (option_list (next_entry p until s))) own added in record {
          stands = running_next r plan until q own i s s' (first_ones i) (first_ones (i + 1)) w.stands next
              (subst (λ (p : Reaction S P). first_ones (i + 1) ≡ first_ones i ++ option_list (next_entry p until s)) (sym own) (entries_next r plan until i s w.stands.is)) some;
          sends = subst (λ (t : List ℕ). Sends t gathered' held held'') (sym (both_text i s w.stands.is)) (sends_more _ gathered _ gathered' held held' held'' w.sends sent);
          tallied = subst (λ (es : List Entry). IsTallied tally tally'' es) (sym (entries_next r plan until i s w.stands.is))
              (tallied_both tally tally' tally'' (first_ones i) (option_list (next_entry r until s)) w.tallied added);
        }

    -- there was no event
    pub way_same : Sends (gathered ++ entries_text names (option_list (next_entry q until s))) gathered' held' held'' → IsTallied tally' tally'' (option_list (next_entry q until s))
        → is_some (next_event until s) ≡ false → UnderWay i s gathered' held held'' tally tally''
    way_same sent added none =
        let no_entry : option_list (next_entry q until s) ≡ [] = ap (λ (o : Option (Event P)). option_list (option_map (entry_at q s.world.state.entities) o)) (none_of (next_event until s) none) in
        let sent : Sends (gathered ++ []) gathered' held' held'' = rw (no_entry, entries_none) at sent in
        let added : IsTallied tally' tally'' [] = rw no_entry at added in record {
          stands = w.stands;
          sends = subst (λ (t : List ℕ). Sends t gathered' held held'') (append-nil (entries_text names (first_ones i))) (sends_more _ gathered [] gathered' held held' held'' w.sends sent);
          tallied = subst (λ (es : List Entry). IsTallied tally tally'' es) (append-nil (first_ones i)) (tallied_both tally tally' tally'' (first_ones i) [] w.tallied added);
        }

    -- a part of the next record was sent
    pub way_part : (budget : ℕ) → OpensInOrder plan → i < budget → AppendsPrefix (gathered ++ entries_text names (option_list (next_entry q until s))) held' held'' → IsPartWritten r plan names until budget held held''
    way_part budget opens few part =
        let part : AppendsPrefix (gathered ++ entries_text names (option_list (next_entry r until s))) held' held'' =
        subst (λ (p : Reaction S P). AppendsPrefix (gathered ++ entries_text names (option_list (next_entry p until s))) held' held'') own part in
        part_due r plan until budget opens names (i + 1) held held'' (omega arith)
        (subst (λ (t : List ℕ). AppendsPrefix t held held'') (sym (both_text i s w.stands.is)) (part_more _ gathered _ held held' held'' w.sends part))

  -- ---- the ends

  module _ (budget : ℕ) (opens : OpensInOrder plan) (i : ℕ) (s : Standing B S P) (gathered : List ℕ) (held held' held'' : Option (List ℕ)) (tally tally' : Totals) (few : i ≤ budget)
      (w : UnderWay i s gathered held held' tally tally') where
    ended : is_some (next_event until s) ≡ false → AreAll r plan until budget (first_ones i)
    ended none = all_of r plan until budget opens (first_ones i) (running_prefix r plan until i s (first_ones i) w.stands) (running_ended r plan until i s (first_ones i) w.stands none) (omega (arith, w.stands.count))

    pub way_traced : (count : ℕ) → is_some (next_event until s) ≡ false → count ≡ plan.before + i → Appends (gathered ++ end_line until count) held' held''
        → IsTraced r plan names until budget held held'' tally tally'
    way_traced count none is text =
        let counted : count ≡ plan.before + length (first_ones i) = omega (arith, w.stands.count) in record {
          entries = first_ones i;
          all = ended none;
          text = rw (trace_is, ← counted) (sends_end _ gathered (end_line until count) held held' held'' w.sends text);
          tallied = w.tallied;
        }

    pub way_cut : (count : ℕ) → is_some (next_event until s) ≡ false → count ≡ plan.before + i → AppendsPrefix (gathered ++ end_line until count) held' held''
        → IsPartWritten r plan names until budget held held''
    way_cut count none is text =
        let counted : count ≡ plan.before + length (first_ones i) = omega (arith, w.stands.count) in inl (record {
          entries = first_ones i;
          all = ended none;
          text = rw (trace_is, ← counted) (part_more _ gathered (end_line until count) held held' held'' w.sends text);
        })

    pub way_over : i ≡ budget → is_some (next_event until s) ≡ true → Appends gathered held' held'' → IsOverBudget r plan names until budget held held''
    way_over full some text = record {
      entries = first_ones i;
      are = budget_of r plan until budget opens (first_ones i) (running_prefix r plan until i s (first_ones i) w.stands) (w.stands.count ∙ full)
          (subst (λ (n : ℕ). IsSome (run_event r plan until all_kept n)) full (running_more r plan until i s (first_ones i) w.stands some));
      text = subst (λ (t : List ℕ). Appends t held held'') (append-nil (entries_text names (first_ones i)))
          (sends_end _ gathered [] held held' held'' w.sends (subst (λ (t : List ℕ). Appends t held' held'') (sym (append-nil gathered)) text));
    }

    pub way_over_cut : AppendsPrefix gathered held' held'' → IsPartWritten r plan names until budget held held''
    way_over_cut part = part_due r plan until budget opens names i held held'' few (part_end _ gathered held held' held'' w.sends part)

  -- nothing was begun
  pub not_begun : (budget : ℕ) → OpensInOrder plan → (held : Option (List ℕ)) → IsPartWritten r plan names until budget held held
  not_begun budget opens held = part_due r plan until budget opens names 0 held held (omega arith) (part_none _ held)

-- the next entry has a name
pub next_named : {B S P : Type 0} (reaction : B → Reaction S P) (valid : B → Validity S) (carried : B → P → Type 0) (plan : Plan B S P) (until i names : ℕ)
    → KeepsValid (valid plan.behaviour) (carried plan.behaviour) (reaction plan.behaviour) → IsModest (valid plan.behaviour) (carried plan.behaviour) (reaction plan.behaviour)
    → Fits (valid plan.behaviour) (carried plan.behaviour) plan → until ≤ LatestTime → names ≡ length plan.entities
    → (s : Standing B S P) → s ≡ standing_after (reaction plan.behaviour) plan until i → IfSome (next_entry (reaction s.behaviour) until s) (λ (e : Entry). e.entity < names)
next_named {B} {S} {P} reaction valid carried plan until i names sound modest fits in_time named s is =
    let r = reaction plan.behaviour in
    let own : s.behaviour ≡ plan.behaviour = ap (λ (x : Standing B S P). x.behaviour) is in
    let Q : Entry → Type 0 = λ e. e.entity < length plan.entities in
    let all : All Q (run_entries r plan until all_kept (i + 1)) = entries_named r (valid plan.behaviour) (carried plan.behaviour) sound modest plan until in_time fits all_kept (i + 1) in
    let here : IfSome (next_entry r until s) Q = all_last Q (run_entries r plan until all_kept i) (next_entry r until s) (subst (λ (es : List Entry). All Q es) (entries_next r plan until i s is) all) in
    let N : ℕ → Type 0 = λ n. IfSome (next_entry r until s) (λ (e : Entry). e.entity < n) in
    subst (λ (b : B). IfSome (next_entry (reaction b) until s) (λ (e : Entry). e.entity < names)) (sym own) (subst N (sym named) here)
