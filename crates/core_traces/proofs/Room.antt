-- Histories can be merged: they are few and short enough, and the entities of their entries have names.
use Rattle.std.proofs.Common.{◌≡◌, ℕ, zero, suc, ◌+◌, ◌-◌, ◌<◌, ◌≤◌, Bool, true, List, [], ◌∷◌, length, refl, sym, ap, subst, inl, inr, arith, Some, slice_get, slice_index, length-append}
use Rattle.std.specs.List.{All}
use Rattle.event_order.specs.declared.key.Key.{Key}
use Rattle.event_order.specs.Pending.{Among}
use Rattle.event_order.proofs.Steps.{lt_or_ge}
use Rattle.ssf_model.specs.declared.event.Event.{Event}
use Rattle.ssf_model.specs.declared.event.Entry.{Entry}
use Rattle.ssf_model.specs.declared.event.Names.{Names}
use Rattle.ssf_model.specs.declared.plan.Plan.{Plan}
use Rattle.ssf_model.specs.Reaction.{Reaction, Validity, KeepsValid, LatestTime}
use Rattle.ssf_model.specs.Deliver.{IsModest}
use Rattle.ssf_model.specs.Run.{States, Fits, timers_of, run_entries}
use Rattle.ssf_model.specs.Scene.{Scene}
use Rattle.ssf_model.specs.Truth.{is_on_line, all_entries}
use Rattle.ssf_model.proofs.Histories.{among_told, told_among}
use Rattle.run_laws.proofs.Histories.{run_is_all}
use Rattle.run_health.specs.Healthy.{MostEvents}
use Rattle.run_health.proofs.Staying.{entries_named}
use Rattle.alignment.specs.declared.labels.Mode.{Mode}
use Rattle.alignment.specs.Alignment.{IsAlignment, line_of, timeline_count}
use Rattle.trace_writer.specs.Merging.{CanMerge}
use Rattle.trace_writer.specs.Report.{events_of}
use Rattle.core_rules.specs.Cores.{CoreView}
use Rattle.core_rules.proofs.Lists.{map_length}
use Rattle.core_traces.specs.Kept.{run_on, history_in, histories_of, IsCoreFrom}
use Rattle.core_traces.proofs.Lists.{in_order, in_events, events_most}
use Rattle.core_traces.proofs.Keeps.{on_own, as_executed}
use Rattle.core_traces.proofs.Merging.{IsOf, history_of, history_rises, on_line}

-- ---- how many timelines there are

-- the timeline of an entity has a number no greater than the entity's
line_low : {B S P : Type 0} (plan : Plan B S P) (nets : List ℕ) (mode : Mode) (lines : List ℕ) → IsAlignment plan nets mode lines
    → (most e : ℕ) → e < most → e < length lines → line_of lines e ≤ e
line_low plan nets mode lines aligned zero e l known = absurd (omega arith)
line_low plan nets mode lines aligned (suc most) e l known = elim (lt_or_ge 0 (line_of lines e)) [
  | inr none ↦ omega (arith, none)
  | inl some ↦ (let i : ℕ = line_of lines e - 1 in
      let less : i < line_of lines e = omega arith in
      let d = aligned.numbered e i known less in
      let before = d.1 in
      let low = line_low plan nets mode lines aligned most d.0 (omega (arith, before, l)) (omega (arith, before, known)) in
      let same = d.2 in
      omega (arith, before, low, same, some))
]

count_low : (lines : List ℕ) (most : ℕ) → ((e : ℕ) → e < length lines → slice_index lines e < most) → timeline_count lines ≤ most
count_low [] most low = omega arith
count_low (i ∷ is) most low =
    let rest = count_low is most (λ e l. low (suc e) (omega (arith, l))) in
    let here : i < most = low 0 (omega arith) in
    omega (arith, rest, here)

pub few_timelines : {B S P : Type 0} (plan : Plan B S P) (nets : List ℕ) (mode : Mode) (lines : List ℕ) → IsAlignment plan nets mode lines → timeline_count lines ≤ length plan.entities
few_timelines plan nets mode lines aligned =
    let size = aligned.entities in
    count_low lines (length plan.entities) (λ e l. (let low = line_low plan nets mode lines aligned (length lines) e l l in omega (arith, low, size, l)))

-- ---- an element of a list of which all is told

named_among : (Q : Entry → Type 0) (xs : List Entry) (x : Entry) → All Q xs → Among x xs → Q x
named_among Q [] x all a = absurd a
named_among Q (y ∷ ys) x all (inl same) = subst Q (sym same) (all 0 y (omega arith))
named_among Q (y ∷ ys) x all (inr a) = named_among Q ys x (λ k d l. all (suc k) d (omega (arith, l))) a

among_at : (hs : List (List Entry)) (h : List Entry) → Among h hs → (i : ℕ) × (slice_get hs i ≡ Some h)
among_at [] h a = absurd a
among_at (k ∷ hs) h (inl same) = (0, ap (λ (z : List Entry). Some z) (sym same))
among_at (k ∷ hs) h (inr a) = (let rest = among_at hs h a in (suc rest.0, rest.1))

module _ {B S P : Type 0} (r : Reaction S P) (valid : Validity S) (carried : P → Type 0) (law : KeepsValid valid carried r) (modest : IsModest valid carried r)
    (plan : Plan B S P) (until : ℕ) (in_time : until ≤ LatestTime) (fits : Fits valid carried plan) (kept : Key → Bool) (nets : List ℕ) (mode : Mode) (lines : List ℕ) (threshold : ℕ)
    (aligned : IsAlignment plan nets mode lines) (budget : ℕ) (most : budget ≤ MostEvents) (core : CoreView B S P) (g : ℕ)
    (q : IsCoreFrom plan (line_of lines) (run_on r plan lines threshold until kept) budget core g) where
  abbrev s : Scene (States B S P) (Event P)
  s = run_on r plan lines threshold until kept

  abbrev hs : List (List Entry)
  hs = histories_of core

  is_of : (i : ℕ) (h : List Entry) → slice_get hs i ≡ Some h → IsOf r valid carried law modest plan until in_time fits kept (line_of lines) s.net budget core g q i h
  is_of i h got = history_of r valid carried law modest plan until in_time fits kept (line_of lines) s.net budget core g q i h got

  short : (i : ℕ) (h : List Entry) → slice_get hs i ≡ Some h → length h ≤ 1000000000000
  short i h got =
      let one = is_of i h got in
      let part = q.sound.each i one.timeline one.own in
      let executed = as_executed r valid carried law modest plan until in_time fits kept (line_of lines) s.net core q.at q.before (on_own r valid carried law modest plan until in_time fits kept (line_of lines) s.net budget core g q) q.sound i one.timeline one.own in
      let parts = length-append one.holds.given_up h in
      let whole = ap length one.holds.whole in
      let few : one.timeline.executed ≤ one.timeline.budget = part.sound.counted.few in
      let top = part.budget in
      let end = q.most in
      let low : budget ≤ 1000000000000 = most in
      omega (arith, executed, parts, whole, few, top, end, low)

  few : length (events_of hs) < 18446744073709551616
  few =
      let all = events_most hs short in
      let size : length hs ≡ length core.timelines = map_length history_in core.timelines in
      let timelines : length core.timelines ≡ timeline_count lines = q.sound.timelines in
      let low = few_timelines plan nets mode lines aligned in
      let top : length plan.entities + length (timers_of plan.entities) + length plan.mappings ≤ 262144 = fits.wired.most in
      omega (arith, all, size, timelines, low, top)

  named : (x : Entry) → Among x (events_of hs) → x.entity < length plan.entities
  named x a =
      let m = in_events hs x a in
      let on = on_line r valid carried law modest plan until in_time fits kept (line_of lines) s.net budget core g q m.index m.history x m.at m.among in
      let t = among_told s (is_on_line s m.index) (q.at m.index) x on in
      let there : Among x (all_entries s (q.at m.index)) = subst (λ y. Among y (all_entries s (q.at m.index))) (sym t.told) (told_among s (λ e. true) (q.at m.index) t.number t.event t.below t.is refl) in
      named_among (λ y. y.entity < length plan.entities) (run_entries r plan until kept (q.at m.index)) x (entries_named r valid carried law modest plan until in_time fits kept (q.at m.index))
      (subst (λ xs. Among x xs) (sym (run_is_all r plan until kept (line_of lines) s.net (q.at m.index))) there)

  pub can_merge : (names : Names) → length names.names ≡ length plan.entities → CanMerge names hs
  can_merge names size = record {
    order = λ h a. (let i = among_at hs h a in in_order h (history_rises r valid carried law modest plan until in_time fits kept (line_of lines) s.net budget core g q i.0 h i.1));
    few = few;
    named = λ x a. (let there = named x a in omega (arith, there, size));
  }
