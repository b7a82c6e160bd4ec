-- How a run by workers goes on from one piece of its trace to the next. The laws of pieces of a trace are taken as they are
-- told.
use Rattle.std.proofs.Common.{◌≡◌, ℕ, ◌+◌, ◌≤◌, Bool, true, false, List, [], ◌∷◌, ◌++◌, length, min, Option, Some, None, is_some, Result, Err, refl, sym, ap, ◌∙◌, subst, inl, arith, append_assoc, length-append}
use Rattle.std.proofs.lemmas.List.{append-nil}
use Rattle.event_order.specs.declared.key.Key.{Key}
use Rattle.event_order.specs.Machine.{within}
use Rattle.sim_base.specs.Outside.{Appends, AppendsPrefix}
use Rattle.ssf_model.specs.declared.event.Event.{Event}
use Rattle.ssf_model.specs.declared.event.Entry.{Entry}
use Rattle.ssf_model.specs.declared.event.Names.{Names}
use Rattle.ssf_model.specs.declared.plan.Plan.{Plan}
use Rattle.ssf_model.specs.Reaction.{Reaction, Validity, LatestTime}
use Rattle.ssf_model.specs.Run.{Fits, States}
use Rattle.ssf_model.specs.Scene.{Net, Scene, scene_of, event_at}
use Rattle.ssf_model.specs.Truth.{AreFew}
use Rattle.run_health.specs.Healthy.{MostEvents}
use Rattle.sync_facts.specs.Nets.{net_of}
use Rattle.sync_rules.proofs.Windows.{window_most}
use Rattle.sync_rules.proofs.Runs.{in_time as event_in_time}
use Rattle.alignment.specs.declared.labels.Mode.{Mode}
use Rattle.alignment.specs.Alignment.{IsAlignment, line_of, timeline_count}
use Rattle.alignment.proofs.Lawful.{alignment_one}
use Rattle.trace_writer.specs.Trace.{entries_text}
use Rattle.trace_writer.specs.Report.{Totals, totals_of}
use Rattle.trace_writer.specs.Merging.{CanMerge, merged}
use Rattle.trace_writer.proofs.Writing.{appends_then}
use Rattle.trace_writer.specs.declared.merging.MergeFault.{MergeFault}
use Rattle.trace_writer.specs.declared.merging.MergeFault.TheVariants.{WriteFault}
use Rattle.trace_writer.specs.contracts.merging.MergeFault as merge_fault
use Rattle.std.specs.contracts.result.Result as result_of
use denote.Builtin.{unit}
use borrow.Enum.Total.{values_d}
use Rattle.timeline.specs.View.{TimelineOf}
use Rattle.timeline.specs.Sound.{IsRunOnLines}
use Rattle.core_rules.specs.Cores.{CoreView, IsCoreOfRun, IsSoundFor}
use Rattle.core_rules.specs.Stepping.{without_below}
use Rattle.core_rules.specs.Reading.{safe_bound_in, least_low_in, BudgetEndsIn}
use Rattle.core_rules.proofs.Crosses.{window_round}
use Rattle.core_traces.specs.Records.{AreEntriesBelow, AreAllEntries}
use Rattle.core_traces.specs.Kept.{run_on, histories_of, AreSoundFrom, OfEachSoundFrom, HaveGrown}
use Rattle.core_traces.specs.Ends.{AreWindows, IsInBudget, EndsBudget}
use Rattle.core_traces.proofs.Runs.{time_is}
use Rattle.core_traces.proofs.Ends.{few_in_budget}
use Rattle.share_rules.specs.Gathered.{IsOfSame}
use Rattle.share_rules.specs.Runs.{OfItsRuns}
use Rattle.sync_core.specs.Driving.{EndsFirstAt}
use Rattle.step_run.specs.Telling.{MostCounted, Told, IsTallied}
use Rattle.step_run.specs.Endings.{AreRecordsBelow, AreAllRecords, IsWrittenBelow, IsPartWritten}
use Rattle.step_run.specs.Going.{Task, Output, IsGiven, IsWhole, IsOver, IsHalted}
use Rattle.step_run.proofs.Beginning.{on_lines}
use Rattle.step_run.proofs.Going.{text_goes_on, text_is_cut}
use Rattle.worker_pool.specs.declared.pool.PoolEnd.{PoolEnd}
use Rattle.worker_pool.specs.declared.pool.PoolEnd.TheVariants as pool
use Rattle.worker_pool.specs.Carried.{AreSince}
use Rattle.worker_run.specs.Working.{IfStopped}
use Rattle.worker_run.specs.Going.{KeepsFrom, IsUnderWay, IsStopped, HasAdvanced, IfFurther, IfOver, IfOn, IsCaused, has_finished, piece_bound, piece_left, outcome}

tally_goes_on : (a b c : Totals) (xs ys : List Entry) → IsTallied a b xs → IsTallied b c ys → IsTallied a c (xs ++ ys)
tally_goes_on a b c xs ys p q told first = q (told ++ xs) (p told first) ∙ ap totals_of (append_assoc told xs ys)

count_goes_on : (count more : ℕ) (xs ys : List Entry) → count ≡ min (length xs) MostCounted → more ≡ min (count + length ys) MostCounted → more ≡ min (length (xs ++ ys)) MostCounted
count_goes_on count more xs ys p q = omega (arith, length-append xs ys)

some_there : {T : Type 0} (o : Option T) → is_some o ≡ true → (x : T) × (o ≡ Some x)
some_there None there = absurd (cc)
some_there (Some x) there = (x, refl)

-- no lower bound is after the end
low_most : {B S P : Type 0} (end : ℕ) (ts : List (TimelineOf B S P)) → least_low_in end ts ≤ end
low_most end [] = omega arith
low_most end (t ∷ ts) = let rest = low_most end ts in omega (arith, rest)

module _ {B S P : Type 0} (valid : B → Validity S) (carried : B → P → Type 0) (reaction : B → Reaction S P) where
  -- ---- the laws

  pub record AreLaws : Type 0 where
    pub keep : (b : B) → OfEachSoundFrom {B = B} (valid b) (carried b) (reaction b) (λ plan line s budget core g.
        (after : CoreView B S P) (at : ℕ → ℕ) (v : ℕ) → IsSoundFor plan line s after at v → after.budget ≡ core.budget → HaveGrown core after
        → safe_bound_in core ≤ safe_bound_in after → AreSoundFrom plan line s budget after g)
    pub give : (b : B) → OfEachSoundFrom {B = B} (valid b) (carried b) (reaction b) (λ plan line s budget core g.
        (below : ℕ) → g ≤ below → below ≤ safe_bound_in core → AreSoundFrom plan line s budget (without_below below core) below)
    pub can : (b : B) (plan : Plan B S P) (nets : List ℕ) (mode : Mode) (lines : List ℕ) (threshold until budget g : ℕ) (kept : Key → Bool) (core : CoreView B S P) (names : Names)
        → Fits (valid b) (carried b) plan → IsAlignment plan nets mode lines → until ≤ LatestTime → budget ≤ MostEvents
        → AreSoundFrom plan (line_of lines) (run_on (reaction b) plan lines threshold until kept) budget core g
        → length names.names ≡ length plan.entities → CanMerge names (histories_of core)
    pub next : (b : B) → OfEachSoundFrom {B = B} (valid b) (carried b) (reaction b) (λ plan line s budget core g.
        (f : ℕ) (entries : List Entry) → g ≤ f → f ≤ safe_bound_in core → AreEntriesBelow (reaction b) plan s.until s.kept g entries
        → AreEntriesBelow (reaction b) plan s.until s.kept f (entries ++ merged (histories_of core) f))
    pub whole : (b : B) → OfEachSoundFrom {B = B} (valid b) (carried b) (reaction b) (λ plan line s budget core g.
        core.barrier.ended ≡ true → (entries : List Entry) → AreEntriesBelow (reaction b) plan s.until s.kept g entries
        → AreAllEntries (reaction b) plan s.until s.kept (entries ++ merged (histories_of core) (s.until + 1)))
    pub few : (b : B) → OfEachSoundFrom {B = B} (valid b) (carried b) (reaction b) (λ plan line s budget core g. core.barrier.ended ≡ true → AreFew s budget)
    pub windows : (b : B) → OfEachSoundFrom {B = B} (valid b) (carried b) (reaction b) (λ plan line s budget core g.
        core.barrier.ended ≡ true → AreWindows s core.barrier.round core.barrier.window)
    pub within : (b : B) → OfEachSoundFrom {B = B} (valid b) (carried b) (reaction b) (λ plan line s budget core g. IsInBudget s budget (safe_bound_in core))
    pub budget_ends : (b : B) → OfEachSoundFrom {B = B} (valid b) (carried b) (reaction b) (λ plan line s budget core g.
        (i : ℕ) → BudgetEndsIn core i → EndsBudget s budget i (safe_bound_in core))

  -- ---- what workers leave

  -- they have carried these parts on to those
  pub record AreCarried (core after : CoreView B S P) : Type 0 where
    pub sound : OfItsRuns (valid core.behaviour) (carried core.behaviour) (reaction core.behaviour) core (λ plan line s. (at : ℕ → ℕ) × (v : ℕ) × IsSoundFor plan line s after at v)
    pub same : IsOfSame core after
    pub since : AreSince core after
    pub safe : safe_bound_in core ≤ safe_bound_in after

  grown : (core after : CoreView B S P) → AreSince core after → HaveGrown core after
  grown core after since i t is =
      let here = since i t is in
      let has = here.2 in
      (here.0, here.1, has.more, has.history, has.executed)

  -- all entries are before a tick after the end
  all_below : (b : B) (plan : Plan B S P) (until : ℕ) (kept : Key → Bool) (line : ℕ → ℕ) (net : Net) (budget : ℕ) → IsRunOnLines plan line budget (scene_of (reaction b) plan until kept line net)
      → (entries : List Entry) → AreAllEntries (reaction b) plan until kept entries → AreEntriesBelow (reaction b) plan until kept (until + 1) entries
  all_below b plan until kept line net budget run entries all =
      let s = scene_of (reaction b) plan until kept line net in
      record {
        count = all.count;
        are = all.are;
        each = λ k l.
            let there = some_there (event_at s k) (all.each k l) in
            let early = event_in_time s run.shared k there.0 there.1 in
            let time = time_is (reaction b) plan until kept line net there.0 in
            (there.0, there.1, omega (arith, early, time));
        next = λ e is. absurd (let none = all.no_more in let both = sym is ∙ none in cc);
      }

  module _ (laws : AreLaws) (names : Names) (until : ℕ) (task : Task B S P) (given : IsGiven (valid task.plan.behaviour) (carried task.plan.behaviour) names until task) where
    abbrev own : B
    own = task.plan.behaviour

    abbrev net : ℕ → Net
    net most = net_of task.plan (line_of task.lines) (timeline_count task.lines) task.threshold

    abbrev the_run : ℕ → Scene (States B S P) (Event P)
    the_run most = run_on (reaction own) task.plan task.lines task.threshold until (within most)

    at_own : (core after : CoreView B S P) (from : ℕ) → KeepsFrom (reaction own) until task core from
        → OfItsRuns (valid core.behaviour) (carried core.behaviour) (reaction core.behaviour) core (λ plan line s. (at : ℕ → ℕ) × (v : ℕ) × IsSoundFor plan line s after at v)
        → OfItsRuns (valid own) (carried own) (reaction own) core (λ plan line s. (at : ℕ → ℕ) × (v : ℕ) × IsSoundFor plan line s after at v)
    at_own core after from keeps sound =
        let here = keeps task.budget (omega arith) in
        subst (λ d. OfItsRuns (valid d) (carried d) (reaction d) core (λ plan line s. (at : ℕ → ℕ) × (v : ℕ) × IsSoundFor plan line s after at v)) here.sound.kept.behaviour sound

    module _ (core mid : CoreView B S P) (from : ℕ) (keeps : KeepsFrom (reaction own) until task core from) (carry : AreCarried core mid) where
      pub keeps_on : KeepsFrom (reaction own) until task mid from
      keeps_on most low =
          let here = keeps most low in
          let run : IsRunOnLines task.plan (line_of task.lines) core.budget (the_run most) = subst (λ n. IsRunOnLines task.plan (line_of task.lines) n (the_run most)) (sym here.most) here.run in
          let later = at_own core mid from keeps carry.sound task.plan until (within most) (line_of task.lines) (net most) given.fits given.in_time here.at here.before run here.sound in
          laws.keep own task.plan until (within most) (line_of task.lines) (net most) given.fits given.in_time task.budget core from here
          mid later.0 later.1 later.2 carry.same.budget (grown core mid carry.since) carry.safe

      pub bound_on : from ≤ safe_bound_in mid
      bound_on = (keeps_on task.budget (omega arith)).safe

      -- it is at most a tick after the end
      pub bound_in_time : safe_bound_in mid ≤ until + 1
      bound_in_time =
          let here = keeps_on task.budget (omega arith) in
          let last : mid.until ≡ until = here.sound.until in
          let most = low_most (mid.until + 1) mid.timelines in
          omega (arith, last, most)

      pub keeps_less : KeepsFrom (reaction own) until task (without_below (safe_bound_in mid) mid) (safe_bound_in mid)
      keeps_less most low =
          laws.give own task.plan until (within most) (line_of task.lines) (net most) given.fits given.in_time task.budget mid from (keeps_on most low)
          (safe_bound_in mid) bound_on (omega arith)

      pub next_records : (entries : List Entry) → AreRecordsBelow (reaction own) task.plan until task.budget from entries
          → AreRecordsBelow (reaction own) task.plan until task.budget (safe_bound_in mid) (entries ++ merged (histories_of mid) (safe_bound_in mid))
      next_records entries before most low =
          laws.next own task.plan until (within most) (line_of task.lines) (net most) given.fits given.in_time task.budget mid from (keeps_on most low)
          (safe_bound_in mid) entries bound_on (omega arith) (before most low)

      pub whole_records : mid.barrier.ended ≡ true → (entries : List Entry) → AreRecordsBelow (reaction own) task.plan until task.budget from entries
          → AreAllRecords (reaction own) task.plan until task.budget (entries ++ merged (histories_of mid) (until + 1))
      whole_records ended entries before most low =
          laws.whole own task.plan until (within most) (line_of task.lines) (net most) given.fits given.in_time task.budget mid from (keeps_on most low) ended entries (before most low)

      pub whole_below : mid.barrier.ended ≡ true → (entries : List Entry) → AreRecordsBelow (reaction own) task.plan until task.budget from entries
          → AreRecordsBelow (reaction own) task.plan until task.budget (until + 1) (entries ++ merged (histories_of mid) (until + 1))
      whole_below ended entries before most low =
          all_below own task.plan until (within most) (line_of task.lines) (net most) task.budget (keeps_on most low).run _ (whole_records ended entries before most low)

      pub few_on : mid.barrier.ended ≡ true → (most : ℕ) → task.budget ≤ most → AreFew (the_run most) task.budget
      few_on ended most low =
          laws.few own task.plan until (within most) (line_of task.lines) (net most) given.fits given.in_time task.budget mid from (keeps_on most low) ended

      pub windows_on : mid.barrier.ended ≡ true → (most : ℕ) → task.budget ≤ most → AreWindows (the_run most) mid.barrier.round mid.barrier.window
      windows_on ended most low =
          laws.windows own task.plan until (within most) (line_of task.lines) (net most) given.fits given.in_time task.budget mid from (keeps_on most low) ended

      pub budget_on : (i : ℕ) → BudgetEndsIn mid i → (most : ℕ) → task.budget ≤ most → EndsBudget (the_run most) task.budget i (safe_bound_in mid)
      budget_on i ends most low =
          laws.budget_ends own task.plan until (within most) (line_of task.lines) (net most) given.fits given.in_time task.budget mid from (keeps_on most low) i ends

      pub within_on : (most : ℕ) → task.budget ≤ most → IsInBudget (the_run most) task.budget (safe_bound_in mid)
      within_on most low =
          laws.within own task.plan until (within most) (line_of task.lines) (net most) given.fits given.in_time task.budget mid from (keeps_on most low)

      pub sound_on : (lines : List ℕ) (most : ℕ) → IsAlignment task.plan task.nets task.mode lines → task.budget ≤ most
          → (at : ℕ → ℕ) × (before : ℕ) × IsSoundFor task.plan (line_of lines) (run_on (reaction own) task.plan lines task.threshold until (within most)) mid at before
      sound_on lines most aligned low =
          let here = keeps_on most low in
          subst (λ ls. (at : ℕ → ℕ) × (before : ℕ) × IsSoundFor task.plan (line_of ls) (run_on (reaction own) task.plan ls task.threshold until (within most)) mid at before)
          (alignment_one task.plan task.nets task.mode task.lines lines given.aligned aligned) (here.at, here.before, here.sound)

      pub can_merge : CanMerge names (histories_of mid)
      can_merge =
          laws.can own task.plan task.nets task.mode task.lines task.threshold until task.budget from (within task.budget) mid names given.fits given.aligned given.in_time given.most
          (keeps_on task.budget (omega arith)) given.named

    -- ---- where it goes on: the number of timelines, the barrier's round, and that the parts are those of a run

    module _ (core : CoreView B S P) (from : ℕ) (keeps : KeepsFrom (reaction own) until task core from) where
      pub lines_are : length core.timelines ≡ timeline_count task.lines
      lines_are = (keeps task.budget (omega arith)).sound.timelines

      pub round_low : core.barrier.round ≤ until + 1
      round_low =
          let here = keeps task.budget (omega arith) in
          let window = here.sound.all.barrier.window in
          let low = window_round (the_run task.budget) here.run.shared core.barrier.round here.before core.barrier.window window in
          let high = window_most (the_run task.budget) here.run.shared core.barrier.round here.before core.barrier.window window in
          omega arith

      pub of_run : IsCoreOfRun (valid core.behaviour) (carried core.behaviour) (reaction core.behaviour) core
      of_run =
          let here = keeps task.budget (omega arith) in
          let kept = within task.budget in
          let line = line_of task.lines in
          let n = net task.budget in
          let last : until ≡ core.until = sym here.sound.until in
          let most : task.budget ≡ core.budget = sym here.most in
          let run : IsRunOnLines task.plan line core.budget (scene_of (reaction own) task.plan core.until kept line n) =
          subst (λ m. IsRunOnLines task.plan line m (scene_of (reaction own) task.plan core.until kept line n)) most
          (subst (λ u. IsRunOnLines task.plan line task.budget (scene_of (reaction own) task.plan u kept line n)) last here.run) in
          let sound : IsSoundFor task.plan line (scene_of (reaction own) task.plan core.until kept line n) core here.at here.before =
          subst (λ u. IsSoundFor task.plan line (scene_of (reaction own) task.plan u kept line n) core here.at here.before) last here.sound in
          let in_time : core.until ≤ LatestTime = (let low = given.in_time in omega arith) in
          let all : IsCoreOfRun (valid own) (carried own) (reaction own) core = record {
            plan = task.plan;
            line = line;
            net = n;
            kept = kept;
            fits = given.fits;
            in_time = in_time;
            run = run;
            at = here.at;
            before = here.before;
            sound = sound;
          } in
          subst (λ d. IsCoreOfRun (valid d) (carried d) (reaction d) core) (sym here.sound.kept.behaviour) all

    pub same_many : (core mid : CoreView B S P) (from : ℕ) (keeps : KeepsFrom (reaction own) until task core from) (carry : AreCarried core mid) → length mid.timelines ≡ length core.timelines
    same_many core mid from keeps carry = lines_are mid from (keeps_on core mid from keeps carry) ∙ sym (lines_are core from keeps)

    -- ---- a piece

    module _ (core mid : CoreView B S P) (told : Told) (first now : Output) (under : IsUnderWay (reaction own) names until task core told first now) (carry : AreCarried core mid) where
      -- ---- up to the safe bound

      abbrev piece : List Entry
      piece = merged (histories_of mid) (safe_bound_in mid)

      below_now : AreRecordsBelow (reaction own) task.plan until task.budget (safe_bound_in mid) (under.entries ++ piece)
      below_now = next_records core mid told.below under.keeps carry under.entries under.before

      pub goes_further : (more : Told) (then : Output) → more.below ≡ safe_bound_in mid → more.count ≡ min (told.count + length piece) MostCounted → Appends (entries_text names piece) now.held then.held → IsTallied now.tally then.tally piece
          → IsUnderWay (reaction own) names until task (without_below (safe_bound_in mid) mid) more first then
      goes_further more then at counted text tallied = record {
        entries = under.entries ++ piece;
        keeps = subst (λ f. KeepsFrom (reaction own) until task (without_below (safe_bound_in mid) mid) f) (sym at) (keeps_less core mid told.below under.keeps carry);
        before = subst (λ f. AreRecordsBelow (reaction own) task.plan until task.budget f (under.entries ++ piece)) (sym at) below_now;
        counted = count_goes_on told.count more.count under.entries piece under.counted counted;
        text = text_goes_on names under.entries piece first.held now.held then.held under.text text;
        tallied = tally_goes_on first.tally now.tally then.tally under.entries piece under.tallied tallied;
      }

      pub is_below : (then : Output) → Appends (entries_text names piece) now.held then.held
          → IsWrittenBelow (reaction own) task.plan names until task.budget (safe_bound_in mid) first.held then.held
      is_below then text = record {
        entries = under.entries ++ piece;
        are = below_now;
        text = text_goes_on names under.entries piece first.held now.held then.held under.text text;
      }

      pub is_over : (i : ℕ) → EndsFirstAt mid i → (then : Output) → Appends (entries_text names piece) now.held then.held
          → IsOver (reaction own) names until task i (safe_bound_in mid) first then
      is_over i ends then text = record {
        written = is_below then text;
        ends = budget_on core mid told.below under.keeps carry i ends.here;
        stopped = record {
          core = mid;
          first = ends;
          has_budget = (keeps_on core mid told.below under.keeps carry task.budget (omega arith)).most;
          sound = sound_on core mid told.below under.keeps carry;
        };
      }

      pub is_halted : (then : Output) → Appends (entries_text names piece) now.held then.held → IsHalted (reaction own) names until task (safe_bound_in mid) first then
      is_halted then text = record {
        inside = bound_in_time core mid told.below under.keeps carry;
        written = is_below then text;
        in_budget = within_on core mid told.below under.keeps carry;
      }

      pub is_stopped : (then : Output) → Appends (entries_text names piece) now.held then.held → IsStopped (reaction own) names until task (safe_bound_in mid) first then
      is_stopped then text = record {
        halted = is_halted then text;
        safe = record {
          core = mid;
          bound = refl;
          has_budget = (keeps_on core mid told.below under.keeps carry task.budget (omega arith)).most;
          sound = sound_on core mid told.below under.keeps carry;
        };
      }

      is_cut : (then : Output) → AppendsPrefix (entries_text names piece) now.held then.held
          → IsPartWritten (reaction own) task.plan names task.nets task.mode task.threshold until task.budget first.held then.held
      is_cut then text = inl (record {
        below = safe_bound_in mid;
        inside = bound_in_time core mid told.below under.keeps carry;
        in_budget = on_lines (reaction own) until task given.aligned (λ s. IsInBudget s task.budget (safe_bound_in mid)) (within_on core mid told.below under.keeps carry);
        entries = under.entries ++ piece;
        are = below_now;
        text = text_is_cut names under.entries piece first.held now.held then.held under.text text;
      })

      -- nothing of the piece was written
      pub is_as_before : (then : Output) → Appends [] now.held then.held → IsHalted (reaction own) names until task told.below first then
      is_as_before then text = record {
        inside = (let here = under.keeps task.budget (omega arith) in
            let last : core.until ≡ until = here.sound.until in
            let top = here.safe in
            let most = low_most (core.until + 1) core.timelines in
            omega (arith, last, top, most));
        written = record {
          entries = under.entries;
          are = under.before;
          text = subst (λ t. Appends t first.held then.held) (append-nil (entries_text names under.entries)) (appends_then _ _ first.held now.held then.held under.text text);
        };
        in_budget = λ most low j k e past.
            let here = under.keeps most low in
            let top = here.safe in
            let late = laws.within own task.plan until (within most) (line_of task.lines) (net most) given.fits given.in_time task.budget core told.below here j k e past in
            omega (arith, top, late);
      }

      -- ---- up to the end

      module _ (ended : mid.barrier.ended ≡ true) where
        abbrev last_piece : List Entry
        last_piece = merged (histories_of mid) (until + 1)

        below_end : AreRecordsBelow (reaction own) task.plan until task.budget (until + 1) (under.entries ++ last_piece)
        below_end = whole_below core mid told.below under.keeps carry ended under.entries under.before

        pub is_whole : (more : Told) (then : Output) → more.below ≡ until + 1 → more.count ≡ min (told.count + length last_piece) MostCounted
            → Appends (entries_text names last_piece) now.held then.held → IsTallied now.tally then.tally last_piece
            → IsWhole (reaction own) names until task more mid.barrier.round mid.barrier.window first then
        is_whole more then at counted text tallied = record {
          entries = under.entries ++ last_piece;
          inside = omega (arith, at);
          before = subst (λ f. AreRecordsBelow (reaction own) task.plan until task.budget f (under.entries ++ last_piece)) (sym at) below_end;
          all = whole_records core mid told.below under.keeps carry ended under.entries under.before;
          counted = count_goes_on told.count more.count under.entries last_piece under.counted counted;
          text = text_goes_on names under.entries last_piece first.held now.held then.held under.text text;
          tallied = tally_goes_on first.tally now.tally then.tally under.entries last_piece under.tallied tallied;
          shared = λ most low. (keeps_on core mid told.below under.keeps carry most low).run.shared;
          few = few_on core mid told.below under.keeps carry ended;
          windows = windows_on core mid told.below under.keeps carry ended;
        }

        few_in : (most : ℕ) → task.budget ≤ most → IsInBudget (the_run most) task.budget (until + 1)
        few_in most low = few_in_budget (the_run most) task.budget (until + 1) (few_on core mid told.below under.keeps carry ended most low)

        is_last_cut : (then : Output) → AppendsPrefix (entries_text names last_piece) now.held then.held
            → IsPartWritten (reaction own) task.plan names task.nets task.mode task.threshold until task.budget first.held then.held
        is_last_cut then text = inl (record {
          below = until + 1;
          inside = omega arith;
          in_budget = on_lines (reaction own) until task given.aligned (λ s. IsInBudget s task.budget (until + 1)) few_in;
          entries = under.entries ++ last_piece;
          are = below_end;
          text = text_is_cut names under.entries last_piece first.held now.held then.held under.text text;
        })

      -- ---- what comes of how workers ended

      abbrev written : Bool → List Entry
      written last = merged (histories_of mid) (piece_bound last until mid)

      pub record IsPiece (last : Bool) (after : CoreView B S P) (more : Told) (then : Output) : Type 0 where
        pub left : after ≡ piece_left last mid
        pub at : more.below ≡ piece_bound last until mid
        pub counted : more.count ≡ min (told.count + length (written last)) MostCounted
        pub text : Appends (entries_text names (written last)) now.held then.held
        pub tallied : IsTallied now.tally then.tally (written last)

      pub has_advanced : (after : CoreView B S P) (more : Told) (then : Output) (end : PoolEnd) → IsPiece (has_finished end) after more then
          → (end ≡ pool.Finished → mid.barrier.ended ≡ true) → ((i : ℕ) → end ≡ pool.OverBudget i → (mid.barrier.ended ≡ false) × EndsFirstAt mid i)
          → HasAdvanced (reaction own) names until task after more first then (outcome end more.below)
      has_advanced after more then pool.Finished p finished over =
          subst (λ (c : CoreView B S P). IsWhole (reaction own) names until task more c.barrier.round c.barrier.window first then) (sym p.left)
          (is_whole (finished refl) more then p.at p.counted p.text p.tallied)
      has_advanced after more then (pool.Stopped worker) p finished over =
          subst (λ f. IsStopped (reaction own) names until task f first then) (sym p.at) (is_stopped then p.text)
      has_advanced after more then (pool.OverBudget i) p finished over =
          subst (λ f. IsOver (reaction own) names until task i f first then) (sym p.at) (is_over i (over i refl).1 then p.text)
      has_advanced after more then pool.Memory p finished over =
          subst (λ f. IsHalted (reaction own) names until task f first then) (sym p.at) (is_halted then p.text)
      has_advanced after more then pool.Crossed p finished over =
          subst (λ (c : CoreView B S P). IsUnderWay (reaction own) names until task c more first then) (sym p.left)
          (goes_further more then p.at p.counted p.text p.tallied)

      pub is_part : (then : Output) (end : PoolEnd) → (end ≡ pool.Finished → mid.barrier.ended ≡ true) → AppendsPrefix (entries_text names (written (has_finished end))) now.held then.held
          → IsPartWritten (reaction own) task.plan names task.nets task.mode task.threshold until task.budget first.held then.held
      is_part then pool.Finished finished text = is_last_cut (finished refl) then text
      is_part then (pool.Stopped worker) finished text = is_cut then text
      is_part then (pool.OverBudget i) finished text = is_cut then text
      is_part then pool.Memory finished text = is_cut then text
      is_part then pool.Crossed finished text = is_cut then text

-- ---- of any end

pub if_further : (end : PoolEnd) (below : ℕ) (P : Type 0) → (end ≡ pool.Crossed → P) → IfFurther (outcome end below) P
if_further pool.Finished below P h = tt
if_further (pool.Stopped worker) below P h = tt
if_further (pool.OverBudget i) below P h = tt
if_further pool.Memory below P h = tt
if_further pool.Crossed below P h = h refl

pub has_no_fault : (faults faults' : ℕ) (end : PoolEnd) (below : ℕ) → IfOver (outcome end below) (λ over. IsCaused faults faults' over)
has_no_fault faults faults' pool.Finished below = tt
has_no_fault faults faults' (pool.Stopped worker) below = tt
has_no_fault faults faults' (pool.OverBudget i) below = tt
has_no_fault faults faults' pool.Memory below = tt
has_no_fault faults faults' pool.Crossed below = tt

pub stopped_by : (end : PoolEnd) (below : ℕ) (Q : ℕ → Type 0) → ((worker : ℕ) → end ≡ pool.Stopped worker → Q worker) → IfOver (outcome end below) (λ over. IfStopped over (λ worker bound. Q worker))
stopped_by pool.Finished below Q h = tt
stopped_by (pool.Stopped worker) below Q h = h worker refl
stopped_by (pool.OverBudget i) below Q h = tt
stopped_by pool.Memory below Q h = tt
stopped_by pool.Crossed below Q h = tt

-- where no gate has stopped a worker
pub is_on : (end : PoolEnd) (below : ℕ) (P : Type 0) → (((worker : ℕ) → end ≡ pool.Stopped worker → ⊥) → P) → IfOn (outcome end below) P
is_on pool.Finished below P h = h (λ worker is. absurd (cc))
is_on (pool.Stopped worker) below P h = tt
is_on (pool.OverBudget i) below P h = h (λ worker is. absurd (cc))
is_on pool.Memory below P h = tt
is_on pool.Crossed below P h = h (λ worker is. absurd (cc))

-- a refusal's fault, as it is read off the answer
pub fault_is : (r : Result (Unit {0}) MergeFault) (e f : MergeFault) → r ≡ Err e → (values_d (result_of.enum unit merge_fault.the_row) 1 (WriteFault, tt) r).0 ≡ f → r ≡ Err f
fault_is r e f is read =
    let same : (values_d (result_of.enum unit merge_fault.the_row) 1 (WriteFault, tt) r).0 ≡ e = ap {B = MergeFault} (λ x. (values_d (result_of.enum unit merge_fault.the_row) 1 (WriteFault, tt) x).0) is in
    is ∙ ap (λ x. Err x) (sym same ∙ read)

-- where it goes on the piece was given up
pub left_behind : {B S P : Type 0} (end : PoolEnd) (mid after : CoreView B S P) → after ≡ piece_left (has_finished end) mid → end ≡ pool.Crossed → after ≡ without_below (safe_bound_in mid) mid
left_behind end mid after left is = left ∙ ap (λ e. piece_left (has_finished e) mid) is
