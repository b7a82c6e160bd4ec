-- How many events a run has, and what is due of it.
use Rattle.std.proofs.Common.{ℕ, zero, suc, ◌≡◌, ◌≤◌, ◌+◌, ◌-◌, ◌⊎◌, ◌∙◌, sym, ap, subst, refl, inl, inr, List, [], ◌∷◌, ◌++◌, length, length-append, append-nil, append_assoc, arith, Option, Some, None, IsSome, IfSome, option_map, get_or, All}
use Rattle.sim_base.specs.Outside.{AppendsPrefix}
use Rattle.event_order.specs.Machine.{option_list, all_kept}
use Rattle.event_order.proofs.Steps.{ended_later}
use Rattle.ssf_model.specs.declared.event.Event.{Event}
use Rattle.ssf_model.specs.declared.event.Entry.{Entry}
use Rattle.ssf_model.specs.declared.event.Names.{Names}
use Rattle.ssf_model.specs.declared.plan.Plan.{Plan}
use Rattle.ssf_model.specs.Reaction.{Reaction}
use Rattle.ssf_model.specs.Run.{machine_of, opening, run_event, run_entries, entry_at, world_after}
use Rattle.run_laws.specs.Openings.{OpensInOrder}
use Rattle.trace_writer.specs.Trace.{entries_text, end_line}
use Rattle.global_list.proofs.Cuts.{prefix_cut, finished_cut, over_cut}
use Rattle.list_run.specs.Endings.{AreAll, AreBudget, IsPartWritten}
use Rattle.list_run.proofs.Pieces.{entries_both, part_longer, trace_is}

-- ---- the last entry

last_of : (xs : List Entry) (e : Entry) → get_or (xs ++ e ∷ []) (length xs) e ≡ e
last_of [] e = refl
last_of (x ∷ xs) e = last_of xs e

pub all_last : (Q : Entry → Type 0) (xs : List Entry) (o : Option Entry) → All Q (xs ++ option_list o) → IfSome o Q
all_last Q xs None all = tt
all_last Q xs (Some e) all = subst Q (last_of xs e) (all (length xs) e (omega (arith, length-append xs (e ∷ []))))

one_at : {T U : Type 0} (f : T → U) (o : Option T) → IsSome o → length (option_list (option_map f o)) ≡ 1
one_at f None h = absurd (cc)
one_at f (Some x) h = refl

option_cases : {T : Type 0} (o : Option T) → (o ≡ None) ⊎ IsSome o
option_cases None = inl refl
option_cases (Some x) = inr refl

some_none : {T : Type 0} (o : Option T) → IsSome o → o ≡ None → ⊥
some_none None h e = cc
some_none (Some x) h e = cc

module _ {B S P : Type 0} (r : Reaction S P) (plan : Plan B S P) (until : ℕ) where
  abbrev first_ones : ℕ → List Entry
  first_ones n = run_entries r plan until all_kept n

  abbrev entry_in : ℕ → Event P → Entry
  entry_in n = entry_at r (world_after r plan until all_kept n).state.entities

  -- the first entries are those before them and some more
  pub more_entries : (n k m : ℕ) → m ≡ k + n → (rest : List Entry) × (first_ones m ≡ first_ones n ++ rest)
  more_entries n zero m e = let same : m ≡ n = omega (arith, e) in ([], ap first_ones same ∙ sym (append-nil (first_ones n)))
  more_entries n (suc k) m e =
      let next : m ≡ suc (k + n) = omega (arith, e) in
      let before = more_entries n k (k + n) refl in
      let last : List Entry = option_list (option_map (entry_in (k + n)) (run_event r plan until all_kept (k + n))) in
      (before.0 ++ last, ap first_ones next ∙ (ap (λ (es : List Entry). es ++ last) before.1 ∙ append_assoc (first_ones n) before.0 last))

  -- before an event that there is there are as many entries
  pub as_many : (n : ℕ) → IsSome (run_event r plan until all_kept n) → length (first_ones n) ≡ n
  as_many zero some = refl
  as_many (suc n) some = elim (option_cases (run_event r plan until all_kept n)) [
    | inl none ↦ absurd (some_none (run_event r plan until all_kept (suc n)) some (ended_later (machine_of {B = B} r plan.mappings) until all_kept (opening plan) n (suc n) (omega arith) none))
    | inr here ↦ omega (arith, as_many n here, length-append (first_ones n) (option_list (option_map (entry_in n) (run_event r plan until all_kept n))), one_at (entry_in n) (run_event r plan until all_kept n) here)
  ]

  -- where there is no event number n, the entries of the first n are those of all
  pub record Settled (n : ℕ) : Type 0 where
    pub most : length (first_ones n) ≤ n
    pub same : first_ones n ≡ first_ones (length (first_ones n))
    pub none : run_event r plan until all_kept (length (first_ones n)) ≡ None

  same_settled : (n : ℕ) → run_event r plan until all_kept n ≡ None → Settled n → Settled (suc n)
  same_settled n none s =
      let same : first_ones (suc n) ≡ first_ones n =
      ap (λ (o : Option (Event P)). first_ones n ++ option_list (option_map (entry_in n) o)) none ∙ append-nil (first_ones n) in
      let size : length (first_ones (suc n)) ≡ length (first_ones n) = ap (λ (es : List Entry). length es) same in record {
        most = omega (arith, s.most);
        same = same ∙ (s.same ∙ ap first_ones (sym size));
        none = ap (λ (k : ℕ). run_event r plan until all_kept k) size ∙ s.none;
      }

  pub settled : (n : ℕ) → run_event r plan until all_kept n ≡ None → Settled n
  settled zero none = record { most = omega arith; same = refl; none = none }
  settled (suc n) none = elim (option_cases (run_event r plan until all_kept n)) [
    | inl before ↦ same_settled n before (settled n before)
    | inr here ↦
        let full : length (first_ones (suc n)) ≡ suc n =
        omega (arith, as_many n here, length-append (first_ones n) (option_list (option_map (entry_in n) (run_event r plan until all_kept n))), one_at (entry_in n) (run_event r plan until all_kept n) here) in
        record { most = omega arith; same = ap first_ones (sym full); none = ap (λ (k : ℕ). run_event r plan until all_kept k) full ∙ none }
  ]

  module _ (budget : ℕ) (opens : OpensInOrder plan) where
    -- these entries are those of the whole run, or of as many events as the budget
    pub all_of : (xs : List Entry) → xs ≡ first_ones (length xs) → run_event r plan until all_kept (length xs) ≡ None → length xs ≤ budget → AreAll r plan until budget xs
    all_of xs first none few = record {
      few = few;
      first = prefix_cut r plan until budget opens xs xs refl first few;
      no_more = finished_cut r plan until budget opens xs xs refl none few;
    }

    pub budget_of : (xs : List Entry) → xs ≡ first_ones (length xs) → length xs ≡ budget → IsSome (run_event r plan until all_kept budget) → AreBudget r plan until budget xs
    budget_of xs first full some = record {
      full = full;
      first = prefix_cut r plan until budget opens xs xs refl first (omega arith);
      more = over_cut r plan until budget opens some;
    }

    -- a part of the first records is a part of what is due
    pub part_due : (names : Names) (n : ℕ) (o m : Option (List ℕ)) → n ≤ budget → AppendsPrefix (entries_text names (first_ones n)) o m → IsPartWritten r plan names until budget o m
    part_due names n o m few part =
        let more = more_entries n (budget - n) budget (omega (arith, few)) in
        let all : first_ones budget ≡ first_ones n ++ more.0 = more.1 in
        let longer : AppendsPrefix (entries_text names (first_ones budget)) o m =
        subst (λ (t : List ℕ). AppendsPrefix t o m) (sym (ap (entries_text names) all ∙ entries_both names (first_ones n) more.0)) (part_longer _ (entries_text names more.0) o m part) in
        elim (option_cases (run_event r plan until all_kept budget)) [
          | inl none ↦ let s = settled budget none in inl (record {
            entries = first_ones budget;
            all = all_of (first_ones budget) s.same s.none s.most;
            text = rw trace_is (part_longer _ (end_line until (plan.before + length (first_ones budget))) o m longer);
          })
          | inr some ↦ let full = as_many budget some in inr (record {
            entries = first_ones budget;
            are = budget_of (first_ones budget) (ap first_ones (sym full)) full some;
            text = longer;
          })
        ]
