-- A run on timelines has one outcome, but for the timeline at which a budget ends, and what stands in its middle begins
-- that outcome.
use Rattle.std.proofs.Common.{ℕ, zero, suc, ◌≡◌, ◌<◌, ◌≤◌, ◌+◌, inl, inr, ◌∙◌, sym, ap, subst, Bool, List, [], ◌++◌, append_assoc, length, arith}
use Rattle.std.proofs.lemmas.Grind.{flat_map-append}
use Rattle.event_order.specs.declared.key.Key.{Key}
use Rattle.event_order.specs.Machine.{within}
use Rattle.event_order.proofs.Steps.{difference, lt_or_ge, lt_or_same}
use Rattle.net_graph.specs.declared.fault.ShapeFault.TheVariants as shape_fault
use Rattle.ssf_model.specs.declared.event.Event.{Event}
use Rattle.ssf_model.specs.declared.event.Entry.{Entry}
use Rattle.ssf_model.specs.declared.event.Names.{Names}
use Rattle.ssf_model.specs.declared.plan.Plan.{Plan}
use Rattle.ssf_model.specs.Reaction.{Reaction}
use Rattle.ssf_model.specs.Run.{States, opening, run_entries, entries_from, world_after}
use Rattle.ssf_model.specs.Scene.{Scene}
use Rattle.ssf_model.specs.Truth.{IsLeastFrom, IsWindow, next_window}
use Rattle.run_laws.proofs.Continuing.{entries_go_on}
use Rattle.alignment.specs.declared.labels.Mode.{Mode}
use Rattle.alignment.specs.Alignment.{timeline_count}
use Rattle.alignment.proofs.Lawful.{alignment_one}
use Rattle.trace_writer.specs.Trace.{end_line, entries_text, record_text, trace_text}
use Rattle.core_traces.specs.Records.{AreEntriesBelow}
use Rattle.core_traces.specs.Kept.{run_on}
use Rattle.core_traces.specs.Ends.{AreWindows}
use Rattle.core_traces.proofs.Records.{one_below, one_all, below_first}
use Rattle.core_traces.proofs.Ends.{one_budget, not_few}
use Rattle.ssfnet_top.specs.declared.refusal.Refusal.TheVariants as refusal
use Rattle.ssfnet_top.specs.Outcome.{Due, done_with, refused, told_if, IsWithinOn, IsOverOn, HasTimelines, HasTooMany, IsDueOn, IsMidwayOn}
use Rattle.ssfnet_top.specs.Agreeing.{EndTogether, Agree, Begins}

-- windows, whatever the run is

module _ {X E : Type 0} (s : Scene X E) where
  least_one : (v m k : ℕ) → IsLeastFrom s v m → IsLeastFrom s v k → m ≡ k
  least_one v m k a b =
      let one = a.least b.number b.event b.is (omega (arith, b.from, b.at)) in
      let two = b.least a.number a.event a.is (omega (arith, a.from, a.at)) in
      omega (arith, one, two, a.at, b.at)

  window_one : (k v x u y : ℕ) → IsWindow s k v x → IsWindow s k u y → (v ≡ u) × (x ≡ y)
  window_one zero v x u y a b = (omega (arith, a.0, b.0), omega (arith, a.1, b.1))
  window_one (suc k) v x u y (u1, m1, before1, least1, is1) (u2, m2, before2, least2, is2) =
      let before : v ≡ u = (window_one k u1 v u2 u before1 before2).1 in
      let least : m1 ≡ m2 = least_one u m1 m2 (subst (λ n. IsLeastFrom s n m1) before least1) least2 in
      (before, is1 ∙ ap (next_window s.net.lookahead s.until) least ∙ sym is2)

  window_at_number : (k j v x : ℕ) → j ≤ k → IsWindow s k v x → (u : ℕ) × (y : ℕ) × IsWindow s j u y
  window_at_number zero j v x l w = (v, x, subst (λ n. IsWindow s n v x) (let none : 0 ≡ j = omega (arith, l) in none) w)
  window_at_number (suc k) j v x l w = elim (lt_or_same j (suc k) l) [
    | inl less ↦ window_at_number k j w.0 v (omega (arith, less)) w.2
    | inr same ↦ (v, x, subst (λ n. IsWindow s n v x) (sym same) w)
  ]

  no_more_windows : (count last many end : ℕ) → AreWindows s count last → AreWindows s many end → count < many → ⊥
  no_more_windows count last many end p q less =
      let later = window_at_number many (suc count) q.before end less q.window in
      let least = later.2.3 in
      let one = window_one count later.2.0 later.0 p.before last later.2.2 p.window in
      let same = one.1 in
      let from = least.from in
      let at = least.at in
      let over = p.over least.number least.event least.is in
      omega (arith, same, from, at, over)

  one_windows : (count last many end : ℕ) → AreWindows s count last → AreWindows s many end → (count ≡ many) × (last ≡ end)
  one_windows count last many end p q = elim (lt_or_ge count many) [
    | inl less ↦ absurd (no_more_windows count last many end p q less)
    | inr more ↦ elim (lt_or_same many count more) [
      | inl less ↦ absurd (no_more_windows many end count last q p less)
      | inr same ↦ (sym same, (window_one count p.before last q.before end p.window (subst (λ n. IsWindow s n q.before end) same q.window)).1)
    ]
  ]

-- the records before a time begin those before a later one

module _ {B S P : Type 0} (r : Reaction S P) (plan : Plan B S P) (until : ℕ) (kept : Key → Bool) where
  earlier_first : (f h : ℕ) (es ds : List Entry) → f ≤ h → AreEntriesBelow r plan until kept f es → AreEntriesBelow r plan until kept h ds → (rest : List Entry) × (es ++ rest ≡ ds)
  earlier_first f h es ds l p q = elim (lt_or_ge q.count p.count) [
    | inl less ↦ absurd (let e = p.each q.count less in let late = q.next e.0 e.1 in let early = e.2 in omega arith)
    | inr more ↦ (let d = difference p.count q.count more in
        let rest : List Entry = entries_from r plan.mappings until kept (world_after r plan until kept p.count) d.0 in
        (rest, ap (λ xs. xs ++ rest) p.are ∙ (sym (entries_go_on r plan.mappings until kept (opening plan) p.count d.0) ∙ (ap (λ (n : ℕ). run_entries r plan until kept n) (sym d.1) ∙ sym q.are))))
  ]

text_of_first : (names : Names) (es rest : List Entry) → entries_text names es ++ entries_text names rest ≡ entries_text names (es ++ rest)
unfolding entries_text
text_of_first names es rest = sym (flat_map-append (record_text names) es rest)

begins_text : (names : Names) (es ds : List Entry) → (rest : List Entry) × (es ++ rest ≡ ds) → Begins (entries_text names es) (entries_text names ds)
begins_text names es ds (rest, is) = (entries_text names rest, text_of_first names es rest ∙ ap (λ xs. entries_text names xs) is)

begins_trace : (names : Names) (es ds : List Entry) (until count : ℕ) → (rest : List Entry) × (es ++ rest ≡ ds) → Begins (entries_text names es) (trace_text names ds until count)
unfolding trace_text
begins_trace names es ds until count rest =
    let text = begins_text names es ds rest in
    (text.0 ++ end_line until count, sym (append_assoc (entries_text names es) text.0 (end_line until count)) ∙ ap (λ t. t ++ end_line until count) text.1)

begins_there : (text whole out : List ℕ) → Begins text whole → out ≡ whole → Begins text out
begins_there text whole out (rest, is) same = (rest, is ∙ sym same)

module _ {B S P : Type 0} (r : Reaction S P) (plan : Plan B S P) (names : Names) (nets : List ℕ) (mode : Mode) (threshold until budget : ℕ) where
  abbrev on : List ℕ → Scene (States B S P) (Event P)
  on lines = run_on r plan lines threshold until (within budget)

  low : budget ≤ budget
  low = omega arith

  -- there are not both few timelines and too many
  few_or_many : (due : Due) → HasTimelines plan nets mode → HasTooMany plan nets mode due → ⊥
  few_or_many due (lines, aligned, few) many =
      let same : timeline_count lines ≡ timeline_count many.lines = ap timeline_count (alignment_one plan nets mode lines many.lines aligned many.aligned) in
      let more = many.many in
      omega (arith, same, few, more)

  many_once : (due other : Due) → HasTooMany plan nets mode due → HasTooMany plan nets mode other → due ≡ other
  many_once due other p q =
      p.none ∙ (ap (λ (ls : List ℕ). refused (refusal.Shape (shape_fault.TooManyTimelines (timeline_count ls))) []) (alignment_one plan nets mode p.lines q.lines p.aligned q.aligned) ∙ sym q.none)

  module _ (wanted : Bool) (due other : Due) (there : HasTimelines plan nets mode) where
    abbrev told : List Entry → ℕ → ℕ → Due
    told entries crossed last = done_with (told_if wanted entries crossed last) (trace_text names entries until (plan.before + length entries))

    within_once : IsWithinOn r plan names nets mode threshold until budget wanted due → IsWithinOn r plan names nets mode threshold until budget wanted other → due ≡ other
    within_once p q =
        let entries : p.entries ≡ q.entries = one_all r plan until (within budget) p.entries q.entries (p.all budget low) (q.all budget low) in
        let windows = one_windows (on there.0) p.crossed p.last q.crossed q.last (p.windows there.0 budget there.1 low) (q.windows there.0 budget there.1 low) in
        p.whole ∙ (ap (λ (es : List Entry). told es p.crossed p.last) entries ∙ (ap (λ (n : ℕ). told q.entries n p.last) windows.0 ∙ (ap (λ (n : ℕ). told q.entries q.crossed n) windows.1 ∙ sym q.whole)))

    over_agree : IsOverOn r plan names nets mode threshold until budget due → IsOverOn r plan names nets mode threshold until budget other → EndTogether due other
    over_agree p q =
        let below : p.below ≡ q.below = one_budget (on there.0) budget p.timeline q.timeline p.below q.below (p.ends there.0 budget there.1 low) (q.ends there.0 budget there.1 low) in
        let here : AreEntriesBelow r plan until (within budget) q.below p.entries = subst (λ (f : ℕ). AreEntriesBelow r plan until (within budget) f p.entries) below (p.before budget low) in
        let entries : p.entries ≡ q.entries = one_below r plan until (within budget) q.below p.entries q.entries here (q.before budget low) in
        record {
          one = p.timeline;
          two = q.timeline;
          budget = budget;
          below = q.below;
          text = entries_text names q.entries;
          first = p.first ∙ (ap (λ (f : ℕ). refused (refusal.TimelineBudget p.timeline budget f) (entries_text names p.entries)) below
              ∙ ap (λ (es : List Entry). refused (refusal.TimelineBudget p.timeline budget q.below) (entries_text names es)) entries);
          second = q.first;
        }

    not_both : IsWithinOn r plan names nets mode threshold until budget wanted due → IsOverOn r plan names nets mode threshold until budget other → ⊥
    not_both p q = not_few (on there.0) budget q.timeline q.below (p.few there.0 budget there.1 low) (q.ends there.0 budget there.1 low)

  module _ (wanted : Bool) (due other : Due) where
    pub agree_on : IsDueOn r plan names nets mode threshold until budget wanted due → IsDueOn r plan names nets mode threshold until budget wanted other → Agree due other
    agree_on (inl (there, inl p)) (inl (here, inl q)) = inl (within_once wanted due other there p q)
    agree_on (inl (there, inl p)) (inl (here, inr q)) = absurd (not_both wanted due other there p q)
    agree_on (inl (there, inr p)) (inl (here, inl q)) = absurd (not_both wanted other due there q p)
    agree_on (inl (there, inr p)) (inl (here, inr q)) = inr (over_agree wanted due other there p q)
    agree_on (inl (there, p)) (inr q) = absurd (few_or_many other there q)
    agree_on (inr p) (inl (here, q)) = absurd (few_or_many due here p)
    agree_on (inr p) (inr q) = inl (many_once due other p q)

  module _ (wanted : Bool) (below : ℕ) (text : List ℕ) (due : Due) (m : IsMidwayOn r plan names nets mode threshold until budget below text) where
    begins_whole : IsWithinOn r plan names nets mode threshold until budget wanted due → Begins (entries_text names m.entries) due.out
    begins_whole p =
        begins_there (entries_text names m.entries) (trace_text names p.entries until (plan.before + length p.entries)) due.out
        (begins_trace names m.entries p.entries until (plan.before + length p.entries) (below_first r plan until (within budget) below m.entries p.entries (m.before budget low) (p.all budget low)))
        (ap (λ (d : Due). d.out) p.whole)

    begins_first : IsOverOn r plan names nets mode threshold until budget due → Begins (entries_text names m.entries) due.out
    begins_first p =
        let there = m.few in
        let ends = p.ends there.0 budget there.1 low in
        let late = m.in_budget there.0 budget there.1 low p.timeline ends.number ends.event ends.own in
        let at = ends.at in
        let order : below ≤ p.below = omega (arith, late, at) in
        begins_there (entries_text names m.entries) (entries_text names p.entries) due.out
        (begins_text names m.entries p.entries (earlier_first r plan until (within budget) below p.below m.entries p.entries order (m.before budget low) (p.before budget low)))
        (ap (λ (d : Due). d.out) p.first)

    begins_in : IsDueOn r plan names nets mode threshold until budget wanted due → Begins (entries_text names m.entries) due.out
    begins_in (inl (there, inl p)) = begins_whole p
    begins_in (inl (there, inr p)) = begins_first p
    begins_in (inr p) = absurd (few_or_many due m.few p)

    pub begins_on : IsDueOn r plan names nets mode threshold until budget wanted due → Begins text due.out
    begins_on p = subst (λ (t : List ℕ). Begins t due.out) (sym m.text_is) (begins_in p)
