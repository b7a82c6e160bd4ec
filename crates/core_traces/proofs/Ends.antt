-- How a run ends: where the barrier has ended, and where a budget does.
use Rattle.std.proofs.Common.{◌≡◌, ℕ, zero, suc, ◌+◌, ◌<◌, ◌≤◌, Bool, true, false, List, [], ◌∷◌, length, refl, sym, ap, ◌∙◌, subst, inl, inr, arith, eqb-true, Some, slice_get, length-append}
use Rattle.event_order.specs.declared.key.Key.{Key}
use Rattle.event_order.proofs.Local.{share_own, share_same}
use Rattle.event_order.proofs.Pending.{test_cases}
use Rattle.event_order.proofs.Steps.{lt_or_ge, lt_or_same, difference}
use Rattle.ssf_model.specs.declared.event.Event.{Event}
use Rattle.ssf_model.specs.declared.event.Entry.{Entry}
use Rattle.ssf_model.specs.declared.plan.Plan.{Plan}
use Rattle.ssf_model.specs.Reaction.{Reaction, Validity, KeepsValid, LatestTime}
use Rattle.ssf_model.specs.Deliver.{IsModest}
use Rattle.ssf_model.specs.Run.{States, Fits}
use Rattle.ssf_model.specs.Scene.{Scene, Net, scene_of, event_at, time_of}
use Rattle.ssf_model.specs.Truth.{is_on_line, line_events, AreFew, IsWindow}
use Rattle.sync_rules.specs.Shared.{IsShared}
use Rattle.sync_rules.specs.Sound.{IsOwnEvent}
use Rattle.sync_rules.proofs.Runs.{some_or_none}
use Rattle.sync_rules.proofs.Windows.{window_one, window_most}
use Rattle.sync_rules.proofs.Wholes.{line_grows}
use Rattle.timeline.specs.View.{TimelineOf}
use Rattle.timeline.specs.Holding.{low_in}
use Rattle.timeline.specs.Sound.{HasNext}
use Rattle.timeline.proofs.Free.{over_is}
use Rattle.core_rules.specs.Cores.{CoreView}
use Rattle.core_rules.specs.Reading.{least_low_in, safe_bound_in, BudgetEndsIn}
use Rattle.core_rules.proofs.Parts.{timeline_known, timeline_there}
use Rattle.core_rules.proofs.Reading.{ended_reached, safe_reached, budget_event, budget_bound, budget_least}
use Rattle.core_traces.specs.Records.{AreEntriesBelow, AreAllEntries}
use Rattle.core_traces.specs.Kept.{IsCoreFrom}
use Rattle.core_traces.specs.Ends.{AreWindows, IsInBudget, EndsBudget}
use Rattle.core_traces.proofs.Records.{is_there}
use Rattle.core_traces.proofs.Runs.{time_is}
use Rattle.core_traces.proofs.Keeps.{on_own}

module _ {B S P : Type 0} where
  low_above : (end n : ℕ) (ts : List (TimelineOf B S P)) → n ≤ end → ((i : ℕ) (t : TimelineOf B S P) → slice_get ts i ≡ Some t → n ≤ low_in t) → n ≤ least_low_in end ts
  low_above end n [] top all = top
  low_above end n (u ∷ us) top all = (let here = all 0 u refl in let rest = low_above end n us top (λ i t found. all (suc i) t found) in omega (arith, here, rest))

-- ---- runs alone

module _ {X E : Type 0} (s : Scene X E) where
  no_later : (i n k : ℕ) → n ≤ k → ((j : ℕ) (e : E) → n ≤ j → event_at s j ≡ Some e → is_on_line s i e ≡ false) → line_events s i k ≡ line_events s i n
  no_later i n k l none =
      let d = difference n k l in
      ap (line_events s i) d.1 ∙ share_same s.machine s.until s.kept s.opening (is_on_line s i) d.0 n (λ j e from below is. none j e from is)

  pub one_budget : (budget i j f h : ℕ) → EndsBudget s budget i f → EndsBudget s budget j h → f ≡ h
  one_budget budget i j f h p q =
      let up = p.least j q.number q.event q.own in
      let down = q.least i p.number p.event p.own in
      let first = p.at in
      let second = q.at in
      omega (arith, up, down, first, second)

  none_past : (budget i k : ℕ) (e : E) → AreFew s budget → IsOwnEvent s i budget k e → ⊥
  none_past budget i k e few own =
      let next = share_own s.machine s.until s.kept s.opening (is_on_line s i) k e own.is own.own in
      let long = ap length next in
      let parts = length-append (line_events s i k) (e ∷ []) in
      let count = own.count in
      let most = few i (suc k) in
      omega (arith, long, parts, count, most)

  pub not_few : (budget i f : ℕ) → AreFew s budget → EndsBudget s budget i f → ⊥
  not_few budget i f few p = none_past budget i p.number p.event few p.own

  pub few_in_budget : (budget f : ℕ) → AreFew s budget → IsInBudget s budget f
  few_in_budget budget f few j k e own = absurd (none_past budget j k e few own)

  module _ (sh : IsShared s) where
    -- a run that has a window has all before it
    window_at_number : (k j v x : ℕ) → j ≤ k → IsWindow s k v x → (u : ℕ) × (y : ℕ) × IsWindow s j u y
    window_at_number zero j v x l w = (v, x, subst (λ n. IsWindow s n v x) (let none : 0 ≡ j = omega (arith, l) in none) w)
    window_at_number (suc k) j v x l w = elim (lt_or_same j (suc k) l) [
      | inl less ↦ window_at_number k j w.0 v (omega (arith, less)) w.2
      | inr same ↦ (v, x, subst (λ n. IsWindow s n v x) (sym same) w)
    ]

    no_more_windows : (count last many end : ℕ) → AreWindows s count last → AreWindows s many end → count < many → ⊥
    no_more_windows count last many end p q less =
        let later = window_at_number many (suc count) q.before end less q.window in
        let least = later.2.3 in
        let one = window_one s sh count later.2.0 later.0 p.before last later.2.2 p.window in
        let same = one.1 in
        let from = least.from in
        let at = least.at in
        let over = p.over least.number least.event least.is in
        omega (arith, same, from, at, over)

    pub one_windows : (count last many end : ℕ) → AreWindows s count last → AreWindows s many end → (count ≡ many) × (last ≡ end)
    one_windows count last many end p q = elim (lt_or_ge count many) [
      | inl less ↦ absurd (no_more_windows count last many end p q less)
      | inr more ↦ elim (lt_or_same many count more) [
        | inl less ↦ absurd (no_more_windows many end count last q p less)
        | inr same ↦ (sym same, (window_one s sh count p.before last q.before end p.window (subst (λ n. IsWindow s n q.before end) same q.window)).1)
      ]
    ]

-- ---- the parts of a run

module _ {B S P : Type 0} (r : Reaction S P) (valid : Validity S) (carried : P → Type 0) (law : KeepsValid valid carried r) (modest : IsModest valid carried r)
    (plan : Plan B S P) (until : ℕ) (in_time : until ≤ LatestTime) (fits : Fits valid carried plan) (kept : Key → Bool) (line : ℕ → ℕ) (net : Net)
    (budget : ℕ) (core : CoreView B S P) (g : ℕ) (q : IsCoreFrom plan line (scene_of r plan until kept line net) budget core g) where
  abbrev s : Scene (States B S P) (Event P)
  s = scene_of r plan until kept line net

  module _ (ended : core.barrier.ended ≡ true) where
    all_reached : (j : ℕ) (e : Event P) → event_at s j ≡ Some e → j < q.at (s.line e)
    all_reached j e is = ended_reached r valid carried law modest plan until in_time fits kept line net core q.at q.before (on_own r valid carried law modest plan until in_time fits kept line net budget core g q) q.sound ended j e is

    -- all timelines stand in the last window
    past_window : core.barrier.window ≤ safe_bound_in core
    past_window =
        let top = window_most s q.run.shared core.barrier.round q.before core.barrier.window q.sound.all.barrier.window in
        let end = q.sound.until in
        low_above (core.until + 1) core.barrier.window core.timelines (omega (arith, top, end))
        (λ i t own. q.reported i t own (q.sound.all.barrier.all_in ended i (timeline_known plan line s core q.at q.before q.sound i t own)))

    pub ended_windows : AreWindows s core.barrier.round core.barrier.window
    ended_windows = record { before = q.before; window = q.sound.all.barrier.window; over = q.sound.all.barrier.over ended }

    pub ended_whole : (es : List Entry) → AreEntriesBelow r plan until kept (safe_bound_in core) es → AreAllEntries r plan until kept es
    ended_whole es p = record {
      count = p.count;
      are = p.are;
      each = λ k l. (let e = p.each k l in is_there (event_at s k) e.0 e.1);
      no_more = elim (some_or_none (event_at s p.count)) [
        | inr none ↦ none
        | inl e ↦ absurd (let late = p.next e.0 e.1 in
            let early = q.sound.all.barrier.over ended p.count e.0 e.1 in
            let time = time_is r plan until kept line net e.0 in
            let past = past_window in
            omega (arith, late, early, time, past))
      ];
    }

  -- where all events of the run are executed
  module _ (reached : (j : ℕ) (e : Event P) → event_at s j ≡ Some e → j < q.at (s.line e)) where
    none_on : (i n : ℕ) → ((j : ℕ) (e : Event P) → n ≤ j → event_at s j ≡ Some e → s.line e ≡ i → ⊥) → (j : ℕ) (e : Event P) → n ≤ j → event_at s j ≡ Some e → is_on_line s i e ≡ false
    none_on i n none j e from is = elim (test_cases (is_on_line s i e)) [
      | inl t ↦ absurd (none j e from is (eqb-true (s.line e) i t))
      | inr f ↦ f
    ]

    -- a timeline that is there has its events before its moment, and one that is not has none
    few_there : (i n : ℕ) → i < s.net.timelines → length (line_events s i n) ≤ budget
    few_there i n known =
        let found = timeline_there plan line s core q.at q.before q.sound i known in
        let part = q.sound.each i found.0 found.1 in
        let executed = part.sound.counted.executed in
        let few = part.sound.counted.few in
        let own = part.budget in
        let top = q.most in
        elim (lt_or_ge (q.at i) n) [
          | inr before ↦ (let up = line_grows s i n (q.at i) before in omega (arith, executed, few, own, top, up))
          | inl after ↦ (let same = ap length (no_later s i (q.at i) n (omega (arith, after)) (none_on i (q.at i) (λ j e from is on. (
              let done = reached j e is in
              let here : j < q.at i = subst (λ k. j < q.at k) on done in
              omega (arith, here, from))))) in
              omega (arith, executed, few, own, top, same))
        ]

    few_else : (i n : ℕ) → s.net.timelines ≤ i → length (line_events s i n) ≤ budget
    few_else i n unknown =
        let same : length (line_events s i n) ≡ 0 = ap length (no_later s i 0 n (omega arith) (none_on i 0 (λ j e from is on. (
        let placed = q.run.shared.placed j e is in
        let there : i < s.net.timelines = subst (λ k. k < s.net.timelines) on placed in
        omega (arith, there, unknown))))) in
        omega (arith, same)

    pub reached_few : AreFew s budget
    reached_few i n = elim (lt_or_ge i s.net.timelines) [ inl known ↦ few_there i n known | inr unknown ↦ few_else i n unknown ]

  pub ended_few : core.barrier.ended ≡ true → AreFew s budget
  ended_few ended = reached_few (λ j e is. all_reached ended j e is)

  -- an event before the safe bound is executed, and no timeline executes more than the budget
  pub safe_in_budget : IsInBudget s budget (safe_bound_in core)
  safe_in_budget j k e own = elim (lt_or_ge (time_of s e) (safe_bound_in core)) [
    | inr late ↦ late
    | inl early ↦ absurd (
        let on = on_own r valid carried law modest plan until in_time fits kept line net budget core g q in
        let there : s.line e ≡ j = eqb-true (s.line e) j own.own in
        let done : k < q.at (s.line e) = safe_reached r valid carried law modest plan until in_time fits kept line net core q.at q.before on q.sound k e own.is early in
        let here : k < q.at j = subst (λ i. k < q.at i) there done in
        let known : j < s.net.timelines = subst (λ i. i < s.net.timelines) there (q.run.shared.placed k e own.is) in
        let found = timeline_there plan line s core q.at q.before q.sound j known in
        let part = q.sound.each j found.0 found.1 in
        let executed = part.sound.counted.executed in
        let few = part.sound.counted.few in
        let top = q.most in
        let most = part.budget in
        let count = own.count in
        let next = ap length (share_own s.machine s.until s.kept s.opening (is_on_line s j) k e own.is own.own) in
        let parts = length-append (line_events s j k) (e ∷ []) in
        let up = line_grows s j (suc k) (q.at j) here in
        omega (arith, executed, few, top, most, count, next, parts, up))
  ]

  pub budget_ends : (i : ℕ) → BudgetEndsIn core i → EndsBudget s budget i (safe_bound_in core)
  budget_ends i b =
      let next : HasNext b.timeline = (over_is b.timeline b.over).0 in
      let on = on_own r valid carried law modest plan until in_time fits kept line net budget core g q in
      let own = budget_event r valid carried law modest plan until in_time fits kept line net core q.at q.before on q.sound i b next.event next.rest next.is in
      let bound = budget_bound r valid carried law modest plan until in_time fits kept line net core q.at q.before on q.sound i b next.event next.rest next.is in
      let time = time_is r plan until kept line net next.event in
      record {
        number = own.0;
        event = next.event;
        own = subst (λ n. IsOwnEvent s i n own.0 next.event) q.most own.1;
        at = time ∙ sym bound;
        least = λ j k e of. (let low = budget_least r valid carried law modest plan until in_time fits kept line net core q.at q.before on q.sound i b next.event next.rest next.is j k e (subst (λ n. IsOwnEvent s j n k e) (sym q.most) of) in
            let at = time_is r plan until kept line net e in
            omega (arith, low, at, bound));
      }
