-- What the entries of a run by one event list say of its outcome.
use Rattle.std.proofs.Common.{ℕ, zero, suc, ◌≡◌, ◌<◌, ◌≤◌, ◌+◌, inl, inr, ◌∙◌, sym, ap, subst, refl, List, length, length-append, Option, Some, None, IsSome, option_map, Bool, arith}
use Rattle.event_order.specs.declared.key.Key.{Key}
use Rattle.event_order.specs.Machine.{World, within, after, event, option_list}
use Rattle.event_order.proofs.Steps.{lt_or_same}
use Rattle.ssf_model.specs.declared.event.Entry.{Entry}
use Rattle.ssf_model.specs.declared.event.Event.{Event}
use Rattle.ssf_model.specs.declared.event.Names.{Names}
use Rattle.ssf_model.specs.declared.plan.Plan.{Plan}
use Rattle.ssf_model.specs.declared.plan.Mapping.{Mapping}
use Rattle.ssf_model.specs.Reaction.{Reaction}
use Rattle.ssf_model.specs.Run.{States, machine_of, run_event, run_entries, entries_from, entry_at}
use Rattle.trace_writer.specs.Trace.{entries_text, trace_text}
use Rattle.ssfnet_top.specs.declared.refusal.Refusal.TheVariants as refusal
use Rattle.ssfnet_top.specs.Outcome.{done_with, report_if, refused, IsRunDue}

most_one : {T U : Type 0} (f : T → U) (o : Option T) → length (option_list (option_map f o)) ≤ 1
most_one f None = omega arith
most_one f (Some x) = omega arith

one_there : {T U : Type 0} (f : T → U) (o : Option T) → length (option_list (option_map f o)) ≡ 1 → IsSome o
one_there f None one = absurd (omega arith)
one_there f (Some x) one = refl

module _ {B S P : Type 0} (r : Reaction S P) (ms : List Mapping) (until : ℕ) (kept : Key → Bool) (w : World (States B S P) (Event P)) where
  -- there are at most so many entries as events are asked for
  few_entries : (n : ℕ) → length (entries_from r ms until kept w n) ≤ n
  few_entries zero = omega arith
  few_entries (suc n) =
      let here = most_one (entry_at r (after (machine_of r ms) until kept w n).state.entities) (event (machine_of r ms) until kept w n) in
      let both = length-append (entries_from r ms until kept w n) (option_list (option_map (entry_at r (after (machine_of r ms) until kept w n).state.entities) (event (machine_of r ms) until kept w n))) in
      let before = few_entries n in omega arith

  -- where there are as many, each of those events is there
  all_there : (n : ℕ) → length (entries_from r ms until kept w n) ≡ n → (k : ℕ) → k < n → IsSome (event (machine_of r ms) until kept w k)
  all_there zero as_many k below = absurd (omega arith)
  all_there (suc n) as_many k below =
      let here = most_one (entry_at r (after (machine_of r ms) until kept w n).state.entities) (event (machine_of r ms) until kept w n) in
      let both = length-append (entries_from r ms until kept w n) (option_list (option_map (entry_at r (after (machine_of r ms) until kept w n).state.entities) (event (machine_of r ms) until kept w n))) in
      let before = few_entries n in
      elim (lt_or_same k n (omega arith)) [
        | inl l ↦ all_there n (omega arith) k l
        | inr e ↦ let Q : ℕ → Type 0 = λ j. IsSome (event (machine_of r ms) until kept w j) in
            subst Q (sym e) (one_there (entry_at r (after (machine_of r ms) until kept w n).state.entities) (event (machine_of r ms) until kept w n) (omega arith))
      ]

done_by : (report report' text text' : List ℕ) → report ≡ report' → text ≡ text' → done_with report text ≡ done_with report' text'
done_by report report' text text' same is = ap (λ (t : List ℕ). done_with report t) is ∙ ap (λ (t : List ℕ). done_with t text') same

module _ {B S P : Type 0} (r : Reaction S P) (plan : Plan B S P) (names : Names) (until budget : ℕ) (wanted : Bool) (entries : List Entry) where
  -- entries of a run that has no further event are its whole trace
  pub whole_due : (report text : List ℕ) (count : ℕ) → length entries ≤ budget
      → ((R : ℕ) → budget ≤ R → entries ≡ run_entries r plan until (within R) (length entries))
      → ((R : ℕ) → budget ≤ R → run_event r plan until (within R) (length entries) ≡ None)
      → count ≡ plan.before + length entries → text ≡ trace_text names entries until count → report ≡ report_if wanted entries
      → IsRunDue r plan names until budget wanted (done_with report text)
  whole_due report text count few prefix no_more count_is text_is report_is = λ R reached. inl (record {
    count = length entries;
    few = few;
    events = record {
      each = λ k below. all_there r plan.mappings until (within R) _ (length entries) (sym (ap (λ (es : List Entry). length es) (prefix R reached))) k below;
      no_more = no_more R reached;
    };
    whole = done_by report _ text _ (report_is ∙ ap (λ (es : List Entry). report_if wanted es) (prefix R reached)) (text_is ∙ (ap (λ (n : ℕ). trace_text names entries until n) count_is
        ∙ ap (λ (es : List Entry). trace_text names es until (plan.before + length entries)) (prefix R reached)));
  })

  -- entries of a run that goes on are the first ones
  pub first_due : (text : List ℕ) → length entries ≡ budget
      → ((R : ℕ) → budget ≤ R → entries ≡ run_entries r plan until (within R) (length entries))
      → ((R : ℕ) → budget ≤ R → IsSome (run_event r plan until (within R) budget))
      → text ≡ entries_text names entries
      → IsRunDue r plan names until budget wanted (refused (refusal.Budget budget) text)
  first_due text full prefix more text_is = λ R reached. inr (record {
    more = more R reached;
    first = ap (λ (t : List ℕ). refused (refusal.Budget budget) t) (text_is
        ∙ ap (λ (es : List Entry). entries_text names es) (prefix R reached ∙ ap (λ (n : ℕ). run_entries r plan until (within R) n) full));
  })
