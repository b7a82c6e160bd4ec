-- What histories have before a time, in key order, are the next entries of the run.
use Rattle.std.proofs.Common.{◌≡◌, ◌⊎◌, ℕ, ◌<◌, ◌≤◌, Bool, true, nat_lt, List, [], ◌++◌, refl, sym, ap, ◌∙◌, subst, inl, inr, arith, eq-eqb, eqb-true, Some, option_map, slice_get}
use Rattle.std.proofs.lemmas.Bool.{ltb-true, lt-ltb}
use Rattle.event_order.specs.declared.key.Key.{Key}
use Rattle.event_order.specs.Pending.{Among, IsRising, IsApart}
use Rattle.event_order.proofs.Order.{earlier}
use Rattle.event_order.proofs.Pending.{append_among, among_append_left, among_append_right, filter_among, among_filter, put_all_among, among_put_all_self, put_all_rises, filter_apart}
use Rattle.event_order.proofs.Steps.{lt_or_ge}
use Rattle.ssf_model.specs.declared.event.Event.{Event}
use Rattle.ssf_model.specs.declared.event.Entry.{Entry}
use Rattle.ssf_model.specs.declared.plan.Plan.{Plan}
use Rattle.ssf_model.specs.Reaction.{Reaction, Validity, KeepsValid, LatestTime}
use Rattle.ssf_model.specs.Deliver.{IsModest}
use Rattle.ssf_model.specs.Run.{States, Fits}
use Rattle.ssf_model.specs.Scene.{Scene, Net, scene_of, world_at}
use Rattle.ssf_model.specs.Truth.{is_on_line, all_entries, line_entries, HasReached, IsMerged, IsCut}
use Rattle.ssf_model.proofs.Histories.{IsToldBy, among_told, told_among}
use Rattle.run_laws.proofs.Histories.{run_is_all, run_rises, line_rises, merged_is_run}
use Rattle.run_laws.proofs.Opens.{fits_open}
use Rattle.sync_rules.specs.Shared.{IsShared}
use Rattle.sync_rules.proofs.Runs.{one_key, event_arisen}
use Rattle.sync_rules.proofs.Windows.{cut_at}
use Rattle.timeline.specs.View.{TimelineOf}
use Rattle.trace_writer.specs.Merging.{merged, entries_before}
use Rattle.trace_writer.specs.Report.{events_of}
use Rattle.core_rules.specs.Cores.{CoreView}
use Rattle.core_rules.specs.Reading.{safe_bound_in}
use Rattle.core_rules.proofs.Lists.{get_map}
use Rattle.core_rules.proofs.Parts.{timeline_there}
use Rattle.core_rules.proofs.Reading.{safe_reached}
use Rattle.core_traces.specs.Records.{AreEntriesBelow}
use Rattle.core_traces.specs.Kept.{AreKept, IsCoreFrom, history_in, histories_of}
use Rattle.core_traces.proofs.Lists.{key_in, map_there, rising_rest, rising_both, IsIn, in_events, events_in, events_apart}
use Rattle.core_traces.proofs.Runs.{keyed, entry_time, below_cut, moment, moment_below}
use Rattle.core_traces.proofs.Keeps.{on_own}

-- an entry of some was given up or is kept, and what is kept is one of them
given_or_kept : (g : ℕ) (entries hist : List Entry) (k : AreKept g entries hist) (x : Entry) → Among x entries → Among x k.given_up ⊎ Among x hist
given_or_kept g entries hist k x a = append_among x k.given_up hist (subst (λ xs. Among x xs) (sym k.whole) a)

kept_among : (g : ℕ) (entries hist : List Entry) → AreKept g entries hist → (x : Entry) → Among x hist → Among x entries
kept_among g entries hist k x a = subst (λ xs. Among x xs) k.whole (among_append_right x k.given_up hist a)

kept_rises : (g : ℕ) (entries hist : List Entry) → AreKept g entries hist → IsRising key_in entries → IsRising key_in hist
kept_rises g entries hist k rises = rising_rest k.given_up hist (subst (λ xs. IsRising key_in xs) (sym k.whole) rises)

module _ {B S P : Type 0} (r : Reaction S P) (valid : Validity S) (carried : P → Type 0) (law : KeepsValid valid carried r) (modest : IsModest valid carried r)
    (plan : Plan B S P) (until : ℕ) (in_time : until ≤ LatestTime) (fits : Fits valid carried plan) (kept : Key → Bool) (line : ℕ → ℕ) (net : Net)
    (budget : ℕ) (core : CoreView B S P) (g : ℕ) (q : IsCoreFrom plan line (scene_of r plan until kept line net) budget core g) where
  abbrev s : Scene (States B S P) (Event P)
  s = scene_of r plan until kept line net

  sh : IsShared s
  sh = q.run.shared

  abbrev at : ℕ → ℕ
  at = q.at

  abbrev hs : List (List Entry)
  hs = histories_of core

  rises_on : (i : ℕ) → IsRising key_in (line_entries s i (at i))
  rises_on i = line_rises r plan until kept line net (fits_open valid carried plan fits) i (at i)

  -- ---- what histories have

  -- history i has entries of timeline i alone, in key order
  pub record IsOf (i : ℕ) (h : List Entry) : Type 0 where
    pub holds : AreKept g (line_entries s i (at i)) h
    pub timeline : TimelineOf B S P
    pub own : slice_get core.timelines i ≡ Some timeline
    pub is : timeline.history ≡ h

  pub history_of : (i : ℕ) (h : List Entry) → slice_get hs i ≡ Some h → IsOf i h
  history_of i h got =
      let found = map_there history_in core.timelines i h got in
      record {
        holds = subst (λ (xs : List Entry). AreKept g (line_entries s i (at i)) xs) found.2 (q.keeps i found.0 found.1);
        timeline = found.0;
        own = found.1;
        is = found.2;
      }

  pub history_rises : (i : ℕ) (h : List Entry) → slice_get hs i ≡ Some h → IsRising key_in h
  history_rises i h got = kept_rises g (line_entries s i (at i)) h (history_of i h got).holds (rises_on i)

  pub on_line : (i : ℕ) (h : List Entry) (x : Entry) → slice_get hs i ≡ Some h → Among x h → Among x (line_entries s i (at i))
  on_line i h x got a = kept_among g (line_entries s i (at i)) h (history_of i h got).holds x a

  history_at : (i : ℕ) (t : TimelineOf B S P) → slice_get core.timelines i ≡ Some t → slice_get hs i ≡ Some t.history
  history_at i t own = get_map history_in core.timelines i ∙ ap (option_map history_in) own

  -- entries of two timelines have two keys
  one_timeline : (i j : ℕ) (h k : List Entry) (x y : Entry) → slice_get hs i ≡ Some h → slice_get hs j ≡ Some k → Among x h → Among y k → x.key ≡ y.key → i ≡ j
  one_timeline i j h k x y here there a b same =
      let e : IsToldBy s (is_on_line s i) (at i) x = among_told s (is_on_line s i) (at i) x (on_line i h x here a) in
      let d : IsToldBy s (is_on_line s j) (at j) y = among_told s (is_on_line s j) (at j) y (on_line j k y there b) in
      let first : x.key ≡ s.machine.key e.event = ap key_in e.told ∙ keyed r plan until kept line net (world_at s e.number).state e.event in
      let second : y.key ≡ s.machine.key d.event = ap key_in d.told ∙ keyed r plan until kept line net (world_at s d.number).state d.event in
      let one : e.event ≡ d.event = one_key s sh e.event d.event (event_arisen s sh e.number e.event e.is) (event_arisen s sh d.number d.event d.is) (sym first ∙ (same ∙ second)) in
      sym (eqb-true (s.line e.event) i e.passes) ∙ (ap s.line one ∙ eqb-true (s.line d.event) j d.passes)

  all_apart : IsApart key_in (events_of hs)
  all_apart = events_apart hs history_rises one_timeline

  -- ---- what is merged

  module _ (f : ℕ) where
    abbrev early : List Entry
    early = entries_before f (events_of hs)

    merged_rises : IsRising key_in (merged hs f)
    merged_rises = put_all_rises key_in early [] tt (filter_apart key_in (λ (x : Entry). nat_lt x.key.time f) (events_of hs) all_apart) (λ x y a b e. absurd b)

    pub record IsMergedFrom (x : Entry) : Type 0 where
      pub from : IsIn hs x
      pub before : x.key.time < f

    merged_from : (x : Entry) → Among x (merged hs f) → IsMergedFrom x
    merged_from x a = elim (put_all_among key_in x early [] a) [
      | inl b ↦ (let p = filter_among (λ (y : Entry). nat_lt y.key.time f) x (events_of hs) b in record { from = in_events hs x p.among; before = ltb-true x.key.time f p.passes })
      | inr none ↦ absurd none
    ]

    to_merged : (i : ℕ) (h : List Entry) (x : Entry) → slice_get hs i ≡ Some h → Among x h → x.key.time < f → Among x (merged hs f)
    to_merged i h x got a low = among_put_all_self key_in x early [] (among_filter (λ (y : Entry). nat_lt y.key.time f) x (events_of hs) (events_in hs i h x got a) (lt-ltb x.key.time f low))

  -- ---- behind the entries before g

  module _ (f : ℕ) (es : List Entry) (order : g ≤ f) (reached : HasReached s f at) (p : AreEntriesBelow r plan until kept g es) where
    cut : IsCut s g p.count
    cut = below_cut r plan until kept line net sh g es p

    es_are : es ≡ all_entries s p.count
    es_are = p.are ∙ run_is_all r plan until kept line net p.count

    told_first : (x : Entry) → Among x es → IsToldBy s (λ e. true) p.count x
    told_first x a = among_told s (λ e. true) p.count x (subst (λ xs. Among x xs) es_are a)

    first_low : (x : Entry) → Among x es → x.key.time < g
    first_low x a =
        let t = told_first x a in
        let low = cut.early t.number t.event t.is t.below in
        let time = entry_time r plan until kept line net x t.number t.event t.told in
        omega (arith, low, time)

    merged_late : (x : Entry) → Among x (merged hs f) → g ≤ x.key.time
    merged_late x a = (let m = (merged_from f x a).from in (history_of m.index m.history m.at).holds.from x m.among)

    first_on : (x : Entry) → Among x es → (i : ℕ) × Among x (line_entries s i (at i)) × (x.key.time < f)
    first_on x a =
        let t = told_first x a in
        let low = cut.early t.number t.event t.is t.below in
        let i : ℕ = s.line t.event in
        let there = told_among s (is_on_line s i) (at i) t.number t.event (reached t.number t.event t.is (omega (arith, low, order))) t.is (eq-eqb i i refl) in
        let early = first_low x a in
        (i, subst (λ y. Among y (line_entries s i (at i))) (sym t.told) there, omega (arith, early, order))

    merged_on : (x : Entry) → Among x (merged hs f) → (i : ℕ) × Among x (line_entries s i (at i)) × (x.key.time < f)
    merged_on x a = (let m = merged_from f x a in (m.from.index, on_line m.from.index m.from.history x m.from.at m.from.among, m.before))

    -- what was given up is among the first entries
    given_first : (i : ℕ) (x : Entry) → Among x (line_entries s i (at i)) → x.key.time < g → Among x es
    given_first i x a low =
        let t = among_told s (is_on_line s i) (at i) x a in
        let time = entry_time r plan until kept line net x t.number t.event t.told in
        let before : t.number < p.count = elim (lt_or_ge t.number p.count) [ inl l ↦ l | inr l ↦ absurd (let late = cut.late t.number t.event t.is l in omega (arith, late, low, time)) ] in
        subst (λ xs. Among x xs) (sym es_are) (subst (λ y. Among y (all_entries s p.count)) (sym t.told) (told_among s (λ e. true) p.count t.number t.event before t.is refl))

    on_whole : (x : Entry) (i : ℕ) → Among x (line_entries s i (at i)) → x.key.time < f → Among x (es ++ merged hs f)
    on_whole x i a low =
        let t = among_told s (is_on_line s i) (at i) x a in
        let known : i < s.net.timelines = subst (λ n. n < s.net.timelines) (eqb-true (s.line t.event) i t.passes) (sh.placed t.number t.event t.is) in
        let found = timeline_there plan line s core at q.before q.sound i known in
        let k : AreKept g (line_entries s i (at i)) found.0.history = q.keeps i found.0 found.1 in
        elim (given_or_kept g (line_entries s i (at i)) found.0.history k x a) [
          | inl given ↦ among_append_left x es (merged hs f) (given_first i x a (k.before x given))
          | inr here ↦ among_append_right x es (merged hs f) (to_merged f i found.0.history x (history_at i found.0 found.1) here low)
        ]

    are_merged : IsMerged s f at (es ++ merged hs f)
    are_merged = record {
      rising = rising_both es (merged hs f) (subst (λ xs. IsRising key_in xs) (sym es_are) (run_rises r plan until kept line net (fits_open valid carried plan fits) p.count)) (merged_rises f)
          (λ x y a b. earlier x.key y.key (let low = first_low x a in let late = merged_late y b in omega (arith, low, late)));
      from = λ x a. elim (append_among x es (merged hs f) a) [ inl b ↦ first_on x b | inr b ↦ merged_on x b ];
      whole = on_whole;
    }

    pub reached_records : AreEntriesBelow r plan until kept f (es ++ merged hs f)
    reached_records =
        let c = cut_at s sh f in
        let m = moment s f c.0 c.1 in
        moment_below r plan until kept line net f m.0 (es ++ merged hs f) m.1
        (merged_is_run r plan until kept line net (fits_open valid carried plan fits) f m.0 at (es ++ merged hs f) m.1.cut reached are_merged ∙ sym (run_is_all r plan until kept line net m.0))

  pub next_records : (f : ℕ) (es : List Entry) → g ≤ f → f ≤ safe_bound_in core → AreEntriesBelow r plan until kept g es → AreEntriesBelow r plan until kept f (es ++ merged hs f)
  next_records f es order safe p = reached_records f es order
      (λ j e is early. safe_reached r valid carried law modest plan until in_time fits kept line net core at q.before (on_own r valid carried law modest plan until in_time fits kept line net budget core g q) q.sound j e is (omega (arith, early, safe)))
      p
