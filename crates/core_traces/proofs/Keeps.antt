-- What timelines keep of the run's entries, at first, after steps, and where entries are given up.
use Rattle.std.proofs.Common.{◌≡◌, ℕ, ◌+◌, ◌<◌, ◌≤◌, min, Bool, nat_le, List, [], ◌∷◌, ◌++◌, length, map, refl, sym, ap, ◌∙◌, subst, inl, inr, arith, eqb-true, Some, slice_get, append-nil, append_assoc, length-append}
use Rattle.std.specs.List.{filter}
use Rattle.event_order.specs.declared.key.Key.{Key}
use Rattle.event_order.specs.Pending.{Among, IsRising}
use Rattle.event_order.proofs.Pending.{append_among, filter_among}
use Rattle.event_order.proofs.Steps.{lt_or_ge, difference, le_true}
use Rattle.ssf_model.specs.declared.event.Event.{Event}
use Rattle.ssf_model.specs.declared.event.Entry.{Entry}
use Rattle.ssf_model.specs.declared.plan.Plan.{Plan}
use Rattle.ssf_model.specs.Reaction.{Reaction, Validity, KeepsValid, LatestTime}
use Rattle.ssf_model.specs.Deliver.{IsModest}
use Rattle.ssf_model.specs.Run.{States, Fits}
use Rattle.ssf_model.specs.Scene.{Scene, Net, scene_of, time_of}
use Rattle.ssf_model.specs.Truth.{is_on_line, line_entries}
use Rattle.run_laws.proofs.Histories.{line_rises}
use Rattle.run_laws.proofs.Opens.{fits_open}
use Rattle.sync_rules.specs.Parts.{Line, CoreOf}
use Rattle.sync_rules.specs.Bounds.{low_of}
use Rattle.timeline.specs.View.{TimelineOf}
use Rattle.timeline.specs.Holding.{low_in}
use Rattle.timeline.specs.Moving.{without}
use Rattle.timeline.specs.Sound.{IsRunOnLines}
use Rattle.core_rules.specs.Cores.{CoreView, core_as, IsPartOf, IsSoundFor}
use Rattle.core_rules.specs.Stepping.{without_below}
use Rattle.core_rules.specs.Leading.{LeadsTo}
use Rattle.core_rules.specs.Reading.{least_low_in, safe_bound_in}
use Rattle.core_rules.proofs.Lists.{one_of}
use Rattle.core_rules.proofs.Parts.{timeline_known, timeline_there, line_here}
use Rattle.core_rules.proofs.Reading.{low_told, safe_same, safe_reached}
use Rattle.core_rules.proofs.Leads.{given_up_stays}
use Rattle.core_traces.specs.Kept.{AreKept, IsKeptFrom, AreInWindow, IsCoreFrom, HaveGrown}
use Rattle.core_traces.proofs.Lists.{key_in, no_items, same_parts, map_there, rising_rest, IsSplitAt, split_at}
use Rattle.core_traces.proofs.Runs.{IsToldFrom, IsLonger, longer, as_long, entry_time}
use Rattle.core_traces.proofs.Steps.{AreIn, steps_in, steps_safe}

-- ---- one history

-- a history that has grown by as many entries as there are more of the timeline's events, all of them from g on
module _ {X E : Type 0} (s : Scene X E) (i a b g : ℕ) (hist more next given : List Entry) where
  kept_on : AreKept g (line_entries s i a) hist → next ≡ hist ++ more → given ++ next ≡ line_entries s i b
      → length (line_entries s i b) ≡ length (line_entries s i a) + length more → ((x : Entry) → IsToldFrom s (is_on_line s i) a x → g ≤ x.key.time) → AreKept g (line_entries s i b) next
  kept_on k grown whole long late = elim (lt_or_ge b a) [
    | inr up ↦ (let d = difference a b up in
        let q : IsLonger s (is_on_line s i) a d.0 = longer s (is_on_line s i) a d.0 in
        let all : line_entries s i b ≡ k.given_up ++ (hist ++ q.rest) =
        ap (line_entries s i) d.1 ∙ (q.whole ∙ (ap (λ xs. xs ++ q.rest) (sym k.whole) ∙ append_assoc k.given_up hist q.rest)) in
        let both : given ++ (hist ++ more) ≡ k.given_up ++ (hist ++ q.rest) = ap (λ xs. given ++ xs) (sym grown) ∙ (whole ∙ all) in
        let first = length-append given (hist ++ more) in
        let second = length-append hist more in
        let third = length-append k.given_up hist in
        let sum = ap length (ap (λ xs. given ++ xs) (sym grown) ∙ whole) in
        let before = ap length k.whole in
        let size : length given ≡ length k.given_up = omega (arith, first, second, third, sum, before, long) in
        let same : hist ++ more ≡ hist ++ q.rest = (same_parts given (hist ++ more) k.given_up (hist ++ q.rest) size both).1 in
        let is : next ≡ hist ++ q.rest = grown ∙ same in
        record {
          given_up = k.given_up;
          whole = ap (λ xs. k.given_up ++ xs) is ∙ sym all;
          before = k.before;
          from = λ x among. elim (append_among x hist q.rest (subst (λ xs. Among x xs) is among)) [ inl old ↦ k.from x old | inr new ↦ late x (q.each x new) ];
        })
    | inl down ↦ (let d = difference b a (omega arith) in
        let q : IsLonger s (is_on_line s i) b d.0 = longer s (is_on_line s i) b d.0 in
        let all : line_entries s i a ≡ line_entries s i b ++ q.rest = ap (line_entries s i) d.1 ∙ q.whole in
        let sum = ap length all in
        let parts = length-append (line_entries s i b) q.rest in
        let no_rest : q.rest ≡ [] = no_items q.rest (omega (arith, sum, parts, long)) in
        let no_more : more ≡ [] = no_items more (omega (arith, sum, parts, long)) in
        let entries : line_entries s i a ≡ line_entries s i b = all ∙ (ap (λ xs. line_entries s i b ++ xs) no_rest ∙ append-nil (line_entries s i b)) in
        let is : hist ≡ next = sym (grown ∙ (ap (λ xs. hist ++ xs) no_more ∙ append-nil hist)) in
        subst (λ (xs : List Entry). AreKept g xs next) entries (subst (λ (xs : List Entry). AreKept g (line_entries s i a) xs) is k))
  ]

-- the entries of a history from a later time on
kept_later : (g below : ℕ) (entries hist : List Entry) → g ≤ below → IsRising key_in entries → AreKept g entries hist → AreKept below entries (filter (λ (x : Entry). nat_le below x.key.time) hist)
kept_later g below entries hist order rising k =
    let rises : IsRising key_in hist = rising_rest k.given_up hist (subst (λ xs. IsRising key_in xs) (sym k.whole) rising) in
    let q : IsSplitAt below hist = split_at below hist rises in
    let last : List Entry = filter (λ (x : Entry). nat_le below x.key.time) hist in
    record {
      given_up = k.given_up ++ q.low;
      whole = append_assoc k.given_up q.low last ∙ (ap (λ xs. k.given_up ++ xs) q.whole ∙ k.whole);
      before = λ x a. elim (append_among x k.given_up q.low a) [ inl b ↦ (let early = k.before x b in omega arith) | inr b ↦ q.before x b ];
      from = λ x a. le_true below x.key.time (filter_among (λ (y : Entry). nat_le below y.key.time) x hist a).passes;
    }

-- ---- all parts

module _ {B S P : Type 0} where
  -- giving up entries lowers no bound
  low_without : (below end : ℕ) (ts : List (TimelineOf B S P)) → least_low_in end (map (without below) ts) ≡ least_low_in end ts
  low_without below end [] = refl
  low_without below end (t ∷ ts) = ap (λ n. min (low_in t) n) (low_without below end ts)

module _ {B S P : Type 0} (r : Reaction S P) (valid : Validity S) (carried : P → Type 0) (law : KeepsValid valid carried r) (modest : IsModest valid carried r)
    (plan : Plan B S P) (until : ℕ) (in_time : until ≤ LatestTime) (fits : Fits valid carried plan) (kept : Key → Bool) (line : ℕ → ℕ) (net : Net) where
  abbrev s : Scene (States B S P) (Event P)
  s = scene_of r plan until kept line net

  -- what timelines that have reported stand in, as the rules see it
  module _ (core : CoreView B S P) (at : ℕ → ℕ) (v : ℕ) (on : IsRunOnLines plan line core.budget s) (sound : IsSoundFor plan line s core at v) where
    low_here : (i : ℕ) (t : TimelineOf B S P) → slice_get core.timelines i ≡ Some t → low_in t ≡ low_of s i ((core_as s.net at core).lines i)
    low_here i t own = low_told r valid carried law modest plan until in_time fits kept line net core at v on sound i t own ∙ ap (low_of s i) (sym (line_here plan line s core at v sound i t own))

    in_rules : AreInWindow core → AreIn s on.shared core.budget (core_as s.net at core)
    in_rules all i known told =
        let found = timeline_there plan line s core at v sound i known in
        let low = all i found.0 found.1 told in
        let same = low_here i found.0 found.1 in
        omega (arith, low, same)

    in_parts : AreIn s on.shared core.budget (core_as s.net at core) → AreInWindow core
    in_parts all i t own told =
        let low = all i (timeline_known plan line s core at v sound i t own) told in
        let same = low_here i t own in
        omega (arith, low, same)

    -- a timeline has as many entries as it has executed events
    pub as_executed : (i : ℕ) (t : TimelineOf B S P) → slice_get core.timelines i ≡ Some t → length (line_entries s i (at i)) ≡ t.executed
    as_executed i t own = as_long s (is_on_line s i) (at i) ∙ sym (sound.each i t own).sound.counted.executed

    -- what a timeline has not executed is at the safe bound or later
    pub told_late : (i : ℕ) (x : Entry) → IsToldFrom s (is_on_line s i) (at i) x → safe_bound_in core ≤ x.key.time
    told_late i x q =
        let time = entry_time r plan until kept line net x q.number q.event q.told in
        let own : s.line q.event ≡ i = eqb-true (s.line q.event) i q.passes in
        let from = q.from in
        elim (lt_or_ge (time_of s q.event) (safe_bound_in core)) [
          | inr late ↦ omega (arith, late, time)
          | inl early ↦ absurd (let done = safe_reached r valid carried law modest plan until in_time fits kept line net core at v on sound q.number q.event q.is early in
              let here : q.number < at i = subst (λ n. q.number < at n) own done in omega (arith, here, from))
        ]

    -- ---- steps

    module _ (after : CoreView B S P) (n : ℕ) (l : LeadsTo plan line s core at n after) where
      pub on_after : IsRunOnLines plan line after.budget s
      on_after = subst (λ m. IsRunOnLines plan line m s) (sym l.budget) on

      pub led_safe : safe_bound_in core ≤ safe_bound_in after
      led_safe =
          let one = safe_same r valid carried law modest plan until in_time fits kept line net core at v on sound in
          let two = safe_same r valid carried law modest plan until in_time fits kept line net after l.next l.before on_after l.sound in
          let up = steps_safe s on.shared core.budget n v (core_as s.net at core) (core_as s.net l.next after) sound.all l.steps in
          omega (arith, one, two, up)

    -- ---- what is kept of entries from a time on

    module _ (g : ℕ) (keeps : IsKeptFrom s core at g) where
      -- by later parts of the run, whose histories have grown
      pub grown_kept : g ≤ safe_bound_in core → (after : CoreView B S P) (next : ℕ → ℕ) (w : ℕ) → IsSoundFor plan line s after next w → HaveGrown core after → IsKeptFrom s after next g
      grown_kept low after next w there grown i u got =
          let known = timeline_known plan line s after next w there i u got in
          let found = timeline_there plan line s core at v sound i known in
          let t : TimelineOf B S P = found.0 in
          let more = grown i t found.1 in
          let same : more.0 ≡ u = one_of more.0 u (sym more.1 ∙ got) in
          let history : u.history ≡ t.history ++ more.2 = ap (λ (z : TimelineOf B S P). z.history) (sym same) ∙ more.3 in
          let executed : u.executed ≡ t.executed + length more.2 = ap (λ (z : TimelineOf B S P). z.executed) (sym same) ∙ more.4 in
          let part : IsPartOf plan line s after i (next i) u = there.each i u got in
          let first = as_executed i t found.1 in
          let second = as_long s (is_on_line s i) (next i) ∙ sym part.sound.counted.executed in
          kept_on s i (at i) (next i) g t.history more.2 u.history part.sound.given_up (keeps i t found.1) history part.sound.history
          (omega (arith, first, second, executed))
          (λ x told. (let late = told_late i x told in omega (arith, late, low)))

      -- and where the entries before a later time are given up
      module _ (below : ℕ) (order : g ≤ below) where
        abbrev left : CoreView B S P
        left = without_below below core

        pub stays : LeadsTo plan line s core at 0 left
        stays = given_up_stays r valid carried law modest plan until in_time fits kept line net core at v on sound below

        -- each timeline stands where it stood
        same_moment : (i : ℕ) (t : TimelineOf B S P) → slice_get core.timelines i ≡ Some t → (u : TimelineOf B S P) → slice_get left.timelines i ≡ Some u → at i ≡ stays.next i
        same_moment i t own u got =
            ap (λ (l : Line (Event P)). l.moment) (sym (line_here plan line s core at v sound i t own))
            ∙ (ap (λ (c : CoreOf (Event P)). (c.lines i).moment) stays.steps
            ∙ ap (λ (l : Line (Event P)). l.moment) (line_here plan line s left stays.next stays.before stays.sound i u got))

        pub left_kept : IsKeptFrom s left stays.next below
        left_kept i u got =
            let found = map_there (without below) core.timelines i u got in
            let t : TimelineOf B S P = found.0 in
            let rising : IsRising key_in (line_entries s i (at i)) = line_rises r plan until kept line net (fits_open valid carried plan fits) i (at i) in
            let history : filter (λ (x : Entry). nat_le below x.key.time) t.history ≡ u.history = ap (λ (z : TimelineOf B S P). z.history) found.2 in
            subst (λ (xs : List Entry). AreKept below (line_entries s i (stays.next i)) xs) history
            (subst (λ n. AreKept below (line_entries s i n) (filter (λ (x : Entry). nat_le below x.key.time) t.history)) (same_moment i t found.1 u got)
            (kept_later g below (line_entries s i (at i)) t.history order rising (keeps i t found.1)))

        pub left_safe : below ≤ safe_bound_in core → below ≤ safe_bound_in left
        left_safe safe = subst (λ n. below ≤ n) (sym (low_without below (core.until + 1) core.timelines)) safe

  module _ (budget : ℕ) (core : CoreView B S P) (g : ℕ) (q : IsCoreFrom plan line s budget core g) where
    pub on_own : IsRunOnLines plan line core.budget s
    on_own = subst (λ n. IsRunOnLines plan line n s) (sym q.most) q.run

    -- ---- steps

    module _ (after : CoreView B S P) (n : ℕ) (l : LeadsTo plan line s core q.at n after) where
      pub leads_safe : safe_bound_in core ≤ safe_bound_in after
      leads_safe = led_safe core q.at q.before on_own q.sound after n l

      leads_in : AreInWindow after
      leads_in = in_parts after l.next l.before (on_after core q.at q.before on_own q.sound after n l) l.sound
          (steps_in s q.run.shared core.budget n q.before (core_as s.net q.at core) (core_as s.net l.next after) q.sound.all l.steps (in_rules core q.at q.before on_own q.sound q.reported))

      pub leads_on : HaveGrown core after → IsCoreFrom plan line s budget after g
      leads_on grown = record {
        run = q.run;
        at = l.next;
        before = l.before;
        sound = l.sound;
        most = l.budget ∙ q.most;
        keeps = grown_kept core q.at q.before on_own q.sound g q.keeps q.safe after l.next l.before l.sound grown;
        reported = leads_in;
        safe = (let low = q.safe in let up = leads_safe in omega (arith, low, up));
      }

    -- ---- entries that are given up

    module _ (below : ℕ) (order : g ≤ below) (safe : below ≤ safe_bound_in core) where
      abbrev given_up : LeadsTo plan line s core q.at 0 (without_below below core)
      given_up = stays core q.at q.before on_own q.sound g q.keeps below order

      left_in : AreInWindow (without_below below core)
      left_in i u got told =
          let found = map_there (without below) core.timelines i u got in
          let low = q.reported i found.0 found.1 told in
          let same : low_in found.0 ≡ low_in u = ap low_in found.2 in
          omega (arith, low, same)

      pub gives_up : IsCoreFrom plan line s budget (without_below below core) below
      gives_up = record {
        run = q.run;
        at = given_up.next;
        before = given_up.before;
        sound = given_up.sound;
        most = q.most;
        keeps = left_kept core q.at q.before on_own q.sound g q.keeps below order;
        reported = left_in;
        safe = left_safe core q.at q.before on_own q.sound g q.keeps below order safe;
      }
