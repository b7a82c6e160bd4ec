-- How a run by steps goes on from one piece of its trace to the next. The laws of pieces of a trace are taken as they are
-- told.
use Rattle.std.proofs.Common.{◌≡◌, ℕ, ◌+◌, ◌<◌, ◌≤◌, Bool, true, false, List, [], ◌∷◌, ◌++◌, length, min, map, Option, Some, refl, sym, ap, ◌∙◌, subst, inl, arith, append_assoc, length-append, Result, Ok, Err, IfOk, ◌↔◌}
use Rattle.std.proofs.lemmas.Option.{slice_get_within, slice_get-get_or}
use Rattle.std.proofs.lemmas.Grind.{flat_map-append}
use Rattle.event_order.specs.declared.key.Key.{Key}
use Rattle.event_order.specs.Machine.{within}
use Rattle.sim_base.specs.Outside.{Appends, AppendsPrefix}
use Rattle.ssf_model.specs.declared.event.Entry.{Entry}
use Rattle.ssf_model.specs.declared.event.Names.{Names}
use Rattle.ssf_model.specs.declared.plan.Plan.{Plan}
use Rattle.ssf_model.specs.Reaction.{Reaction, Validity, LatestTime}
use Rattle.ssf_model.specs.Run.{Fits}
use Rattle.ssf_model.specs.Scene.{Net, scene_of}
use Rattle.ssf_model.specs.Truth.{AreFew}
use Rattle.run_health.specs.Healthy.{MostEvents}
use Rattle.sync_facts.specs.Nets.{net_of}
use Rattle.sync_rules.proofs.Windows.{window_most}
use Rattle.alignment.specs.declared.labels.Mode.{Mode}
use Rattle.alignment.specs.Alignment.{IsAlignment, line_of, timeline_count}
use Rattle.alignment.proofs.Lawful.{alignment_one}
use Rattle.trace_writer.specs.Trace.{entries_text, record_text}
use Rattle.trace_writer.specs.Report.{Totals, totals_of}
use Rattle.trace_writer.specs.Merging.{CanMerge, HasRoom, Room, merged}
use Rattle.trace_writer.proofs.Writing.{appends_then, prefix_then}
use Rattle.timeline.specs.Sound.{IsRunOnLines}
use Rattle.core_rules.specs.Cores.{CoreView, IsCoreOfRun, IsSoundFor}
use Rattle.core_rules.specs.Stepping.{without_below}
use Rattle.core_rules.specs.Leading.{AreCoreSteps}
use Rattle.core_rules.specs.Reading.{safe_bound_in, least_low_in, BudgetEndsIn}
use Rattle.core_rules.proofs.Crosses.{window_round}
use Rattle.core_rules.proofs.Lists.{map_length}
use Rattle.timeline.specs.Moving.{without}
use Rattle.timeline.specs.Holding.{low_in}
use Rattle.timeline.specs.View.{TimelineOf}
use Rattle.sync_steps.specs.declared.steps.Step.{Step}
use Rattle.core_traces.specs.Records.{AreEntriesBelow, AreAllEntries}
use Rattle.core_traces.specs.Kept.{run_on, histories_of, IsCoreFrom, OfEachCoreFrom, HaveGrown}
use Rattle.core_traces.specs.Ends.{AreWindows, IsInBudget, EndsBudget}
use Rattle.sim_base.specs.declared.outside.Memory.{Memory as NoMemory}
use Rattle.sync_core.specs.declared.driving.DriveEnd.{DriveEnd}
use Rattle.sync_core.specs.declared.driving.DriveEnd.TheVariants as drive
use Rattle.sync_core.specs.declared.driving.Driven.{Driven}
use Rattle.sync_core.specs.Driving.{IsOnward, EndsFirstAt, AreTries}
use Rattle.step_run.specs.Telling.{MostCounted, Told, IsTallied}
use Rattle.step_run.specs.Endings.{AreRecordsBelow, AreAllRecords, IsWrittenBelow, IsPartWritten}
use Rattle.step_run.specs.Going.{Task, Output, IsGiven, KeepsFrom, IsUnderWay, IsWhole, IsOver, IsHalted, HasAdvanced, HasCause, IfFurther, IsDrivenOn, outcome_at, outcome}
use Rattle.step_run.proofs.Beginning.{on_lines}
use Rattle.step_run.specs.declared.running.Advanced.{Advanced}
use Rattle.step_run.specs.declared.running.Advanced.TheVariants.{Further, Whole, Ended}

-- ---- texts and tallies

pub texts_join : (names : Names) (xs ys : List Entry) → entries_text names (xs ++ ys) ≡ entries_text names xs ++ entries_text names ys
unfolding entries_text
texts_join names xs ys = flat_map-append (record_text names) xs ys

pub text_goes_on : (names : Names) (xs ys : List Entry) (old mid new : Option (List ℕ)) → Appends (entries_text names xs) old mid → Appends (entries_text names ys) mid new → Appends (entries_text names (xs ++ ys)) old new
text_goes_on names xs ys old mid new p q = subst (λ t. Appends t old new) (sym (texts_join names xs ys)) (appends_then _ _ old mid new p q)

none_behind : (xs : List ℕ) → xs ++ [] ≡ xs
none_behind [] = refl
none_behind (x ∷ xs) = ap (λ ys. x ∷ ys) (none_behind xs)

pub text_is_cut : (names : Names) (xs ys : List Entry) (old mid new : Option (List ℕ)) → Appends (entries_text names xs) old mid → AppendsPrefix (entries_text names ys) mid new → AppendsPrefix (entries_text names (xs ++ ys)) old new
text_is_cut names xs ys old mid new p q =
    subst (λ t. AppendsPrefix t old new) (ap (λ t. entries_text names xs ++ t) (none_behind (entries_text names ys)) ∙ sym (texts_join names xs ys))
    (prefix_then (entries_text names xs) (entries_text names ys) [] old mid new p q)

tally_goes_on : (a b c : Totals) (xs ys : List Entry) → IsTallied a b xs → IsTallied b c ys → IsTallied a c (xs ++ ys)
tally_goes_on a b c xs ys p q told first = q (told ++ xs) (p told first) ∙ ap totals_of (append_assoc told xs ys)

count_goes_on : (count more : ℕ) (xs ys : List Entry) → count ≡ min (length xs) MostCounted → more ≡ min (count + length ys) MostCounted → more ≡ min (length (xs ++ ys)) MostCounted
count_goes_on count more xs ys p q = omega (arith, length-append xs ys)

-- no lower bound is after the end
low_most : {B S P : Type 0} (end : ℕ) (ts : List (TimelineOf B S P)) → least_low_in end ts ≤ end
low_most end [] = omega arith
low_most end (t ∷ ts) = let rest = low_most end ts in omega (arith, rest)

module _ {B S P : Type 0} (valid : B → Validity S) (carried : B → P → Type 0) (reaction : B → Reaction S P) where
  -- ---- the laws

  pub record AreLaws : Type 0 where
    pub keep : (b : B) → OfEachCoreFrom {B = B} (valid b) (carried b) (reaction b) (λ plan line s budget core g.
        (after : CoreView B S P) → AreCoreSteps (valid b) (carried b) (reaction b) core after → HaveGrown core after → IsCoreFrom plan line s budget after g)
    pub safe : (b : B) → OfEachCoreFrom {B = B} (valid b) (carried b) (reaction b) (λ plan line s budget core g.
        (after : CoreView B S P) → AreCoreSteps (valid b) (carried b) (reaction b) core after → safe_bound_in core ≤ safe_bound_in after)
    pub give : (b : B) → OfEachCoreFrom {B = B} (valid b) (carried b) (reaction b) (λ plan line s budget core g.
        (below : ℕ) → g ≤ below → below ≤ safe_bound_in core → IsCoreFrom plan line s budget (without_below below core) below)
    pub can : (b : B) (plan : Plan B S P) (nets : List ℕ) (mode : Mode) (lines : List ℕ) (threshold until budget g : ℕ) (kept : Key → Bool) (core : CoreView B S P) (names : Names)
        → Fits (valid b) (carried b) plan → IsAlignment plan nets mode lines → until ≤ LatestTime → budget ≤ MostEvents
        → IsCoreFrom plan (line_of lines) (run_on (reaction b) plan lines threshold until kept) budget core g
        → length names.names ≡ length plan.entities → CanMerge names (histories_of core)
    pub next : (b : B) → OfEachCoreFrom {B = B} (valid b) (carried b) (reaction b) (λ plan line s budget core g.
        (f : ℕ) (entries : List Entry) → g ≤ f → f ≤ safe_bound_in core → AreEntriesBelow (reaction b) plan s.until s.kept g entries
        → AreEntriesBelow (reaction b) plan s.until s.kept f (entries ++ merged (histories_of core) f))
    pub whole : (b : B) → OfEachCoreFrom {B = B} (valid b) (carried b) (reaction b) (λ plan line s budget core g.
        core.barrier.ended ≡ true → (entries : List Entry) → AreEntriesBelow (reaction b) plan s.until s.kept (safe_bound_in core) entries
        → AreAllEntries (reaction b) plan s.until s.kept entries)
    pub few : (b : B) → OfEachCoreFrom {B = B} (valid b) (carried b) (reaction b) (λ plan line s budget core g. core.barrier.ended ≡ true → AreFew s budget)
    pub windows : (b : B) → OfEachCoreFrom {B = B} (valid b) (carried b) (reaction b) (λ plan line s budget core g.
        core.barrier.ended ≡ true → AreWindows s core.barrier.round core.barrier.window)
    pub budget_ends : (b : B) → OfEachCoreFrom {B = B} (valid b) (carried b) (reaction b) (λ plan line s budget core g.
        (i : ℕ) → BudgetEndsIn core i → EndsBudget s budget i (safe_bound_in core))
    pub within : (b : B) → OfEachCoreFrom {B = B} (valid b) (carried b) (reaction b) (λ plan line s budget core g. IsInBudget s budget (safe_bound_in core))

  -- ---- steps

  -- steps lead from these parts to those, and histories have grown
  pub record AreDriven (core after : CoreView B S P) : Type 0 where
    pub steps : AreCoreSteps (valid core.behaviour) (carried core.behaviour) (reaction core.behaviour) core after
    pub onward : IsOnward core after

  grown : (core after : CoreView B S P) → IsOnward core after → HaveGrown core after
  grown core after on i t is =
      let inside : i < length after.timelines = (let here = slice_get_within core.timelines i t is in let many = on.grown.many in omega arith) in
      let found = slice_get-get_or after.timelines i t inside in
      let has = on.grown.each i t _ is found in
      (_, found, has.more, has.history, has.executed)

  module _ (laws : AreLaws) (names : Names) (until : ℕ) (task : Task B S P) (given : IsGiven (valid task.plan.behaviour) (carried task.plan.behaviour) names until task) where
    abbrev own : B
    own = task.plan.behaviour

    abbrev net : ℕ → Net
    net most = net_of task.plan (line_of task.lines) (timeline_count task.lines) task.threshold

    at_own : (core after : CoreView B S P) (from : ℕ) → KeepsFrom (reaction own) until task core from
        → AreCoreSteps (valid core.behaviour) (carried core.behaviour) (reaction core.behaviour) core after → AreCoreSteps (valid own) (carried own) (reaction own) core after
    at_own core after from keeps steps =
        let here = keeps task.budget (omega arith) in
        subst (λ d. AreCoreSteps (valid d) (carried d) (reaction d) core after) here.sound.kept.behaviour steps

    module _ (core mid : CoreView B S P) (from : ℕ) (keeps : KeepsFrom (reaction own) until task core from) (driven : AreDriven core mid) where
      pub keeps_on : KeepsFrom (reaction own) until task mid from
      keeps_on most low =
          laws.keep own task.plan until (within most) (line_of task.lines) (net most) given.fits given.in_time task.budget core from (keeps most low)
          mid (at_own core mid from keeps driven.steps) (grown core mid driven.onward)

      pub bound_on : from ≤ safe_bound_in mid
      bound_on =
          let here = keeps task.budget (omega arith) in
          let rises = laws.safe own task.plan until (within task.budget) (line_of task.lines) (net task.budget) given.fits given.in_time task.budget core from here mid (at_own core mid from keeps driven.steps) in
          let safe = here.safe in
          omega arith

      -- it is at most a tick after the end
      pub bound_in_time : safe_bound_in mid ≤ until + 1
      bound_in_time =
          let here = keeps_on task.budget (omega arith) in
          let last : mid.until ≡ until = here.sound.until in
          let most = low_most (mid.until + 1) mid.timelines in
          omega (arith, last, most)

      pub keeps_less : KeepsFrom (reaction own) until task (without_below (safe_bound_in mid) mid) (safe_bound_in mid)
      keeps_less most low =
          laws.give own task.plan until (within most) (line_of task.lines) (net most) given.fits given.in_time task.budget mid from (keeps_on most low)
          (safe_bound_in mid) bound_on (omega arith)

      pub next_records : (entries : List Entry) → AreRecordsBelow (reaction own) task.plan until task.budget from entries
          → AreRecordsBelow (reaction own) task.plan until task.budget (safe_bound_in mid) (entries ++ merged (histories_of mid) (safe_bound_in mid))
      next_records entries before most low =
          laws.next own task.plan until (within most) (line_of task.lines) (net most) given.fits given.in_time task.budget mid from (keeps_on most low)
          (safe_bound_in mid) entries bound_on (omega arith) (before most low)

      pub whole_records : mid.barrier.ended ≡ true → (entries : List Entry) → AreRecordsBelow (reaction own) task.plan until task.budget (safe_bound_in mid) entries
          → AreAllRecords (reaction own) task.plan until task.budget entries
      whole_records ended entries before most low =
          laws.whole own task.plan until (within most) (line_of task.lines) (net most) given.fits given.in_time task.budget mid from (keeps_on most low) ended entries (before most low)

      pub few_on : mid.barrier.ended ≡ true → (most : ℕ) → task.budget ≤ most → AreFew (run_on (reaction own) task.plan task.lines task.threshold until (within most)) task.budget
      few_on ended most low =
          laws.few own task.plan until (within most) (line_of task.lines) (net most) given.fits given.in_time task.budget mid from (keeps_on most low) ended

      pub windows_on : mid.barrier.ended ≡ true → (most : ℕ) → task.budget ≤ most
          → AreWindows (run_on (reaction own) task.plan task.lines task.threshold until (within most)) mid.barrier.round mid.barrier.window
      windows_on ended most low =
          laws.windows own task.plan until (within most) (line_of task.lines) (net most) given.fits given.in_time task.budget mid from (keeps_on most low) ended

      pub budget_on : (i : ℕ) → BudgetEndsIn mid i → (most : ℕ) → task.budget ≤ most
          → EndsBudget (run_on (reaction own) task.plan task.lines task.threshold until (within most)) task.budget i (safe_bound_in mid)
      budget_on i ends most low =
          laws.budget_ends own task.plan until (within most) (line_of task.lines) (net most) given.fits given.in_time task.budget mid from (keeps_on most low) i ends

      pub within_on : (most : ℕ) → task.budget ≤ most
          → IsInBudget (run_on (reaction own) task.plan task.lines task.threshold until (within most)) task.budget (safe_bound_in mid)
      within_on most low =
          laws.within own task.plan until (within most) (line_of task.lines) (net most) given.fits given.in_time task.budget mid from (keeps_on most low)

      pub can_merge : CanMerge names (histories_of mid)
      can_merge =
          laws.can own task.plan task.nets task.mode task.lines task.threshold until task.budget from (within task.budget) mid names given.fits given.aligned given.in_time given.most
          (keeps_on task.budget (omega arith)) given.named

    -- ---- where it goes on: the number of timelines, the barrier's round, and that the parts are those of a run

    module _ (core : CoreView B S P) (from : ℕ) (keeps : KeepsFrom (reaction own) until task core from) where
      pub lines_are : length core.timelines ≡ timeline_count task.lines
      lines_are = (keeps task.budget (omega arith)).sound.timelines

      pub round_low : core.barrier.round ≤ until + 1
      round_low =
          let here = keeps task.budget (omega arith) in
          let s = run_on (reaction own) task.plan task.lines task.threshold until (within task.budget) in
          let window = here.sound.all.barrier.window in
          let low = window_round s here.run.shared core.barrier.round here.before core.barrier.window window in
          let high = window_most s here.run.shared core.barrier.round here.before core.barrier.window window in
          omega arith

      pub of_run : IsCoreOfRun (valid core.behaviour) (carried core.behaviour) (reaction core.behaviour) core
      of_run =
          let here = keeps task.budget (omega arith) in
          let kept = within task.budget in
          let line = line_of task.lines in
          let n = net task.budget in
          let last : until ≡ core.until = sym here.sound.until in
          let most : task.budget ≡ core.budget = sym here.most in
          let run : IsRunOnLines task.plan line core.budget (scene_of (reaction own) task.plan core.until kept line n) =
          subst (λ m. IsRunOnLines task.plan line m (scene_of (reaction own) task.plan core.until kept line n)) most
          (subst (λ u. IsRunOnLines task.plan line task.budget (scene_of (reaction own) task.plan u kept line n)) last here.run) in
          let sound : IsSoundFor task.plan line (scene_of (reaction own) task.plan core.until kept line n) core here.at here.before =
          subst (λ u. IsSoundFor task.plan line (scene_of (reaction own) task.plan u kept line n) core here.at here.before) last here.sound in
          let in_time : core.until ≤ LatestTime = (let low = given.in_time in omega arith) in
          let all : IsCoreOfRun (valid own) (carried own) (reaction own) core = record {
            plan = task.plan;
            line = line;
            net = n;
            kept = kept;
            fits = given.fits;
            in_time = in_time;
            run = run;
            at = here.at;
            before = here.before;
            sound = sound;
          } in
          subst (λ d. IsCoreOfRun (valid d) (carried d) (reaction d) core) (sym here.sound.kept.behaviour) all

    -- ---- a piece

    module _ (core mid : CoreView B S P) (told : Told) (first now : Output) (under : IsUnderWay (reaction own) names until task core told first now) (driven : AreDriven core mid) where
      abbrev piece : List Entry
      piece = merged (histories_of mid) (safe_bound_in mid)

      below_now : AreRecordsBelow (reaction own) task.plan until task.budget (safe_bound_in mid) (under.entries ++ piece)
      below_now = next_records core mid told.below under.keeps driven under.entries under.before

      below_then : (more : Told) → more.below ≡ safe_bound_in mid → AreRecordsBelow (reaction own) task.plan until task.budget more.below (under.entries ++ piece)
      below_then more at = subst (λ f. AreRecordsBelow (reaction own) task.plan until task.budget f (under.entries ++ piece)) (sym at) below_now

      pub goes_further : (more : Told) (then : Output) → more.below ≡ safe_bound_in mid → more.count ≡ min (told.count + length piece) MostCounted → Appends (entries_text names piece) now.held then.held → IsTallied now.tally then.tally piece
          → IsUnderWay (reaction own) names until task (without_below (safe_bound_in mid) mid) more first then
      goes_further more then at counted text tallied = record {
        entries = under.entries ++ piece;
        keeps = subst (λ f. KeepsFrom (reaction own) until task (without_below (safe_bound_in mid) mid) f) (sym at) (keeps_less core mid told.below under.keeps driven);
        before = below_then more at;
        counted = count_goes_on told.count more.count under.entries piece under.counted counted;
        text = text_goes_on names under.entries piece first.held now.held then.held under.text text;
        tallied = tally_goes_on first.tally now.tally then.tally under.entries piece under.tallied tallied;
      }

      pub is_whole : mid.barrier.ended ≡ true → (more : Told) (then : Output) → more.below ≡ safe_bound_in mid → more.count ≡ min (told.count + length piece) MostCounted
          → Appends (entries_text names piece) now.held then.held → IsTallied now.tally then.tally piece
          → IsWhole (reaction own) names until task more mid.barrier.round mid.barrier.window first then
      is_whole ended more then at counted text tallied = record {
        entries = under.entries ++ piece;
        inside = (let low = bound_in_time core mid told.below under.keeps driven in omega (arith, at, low));
        before = below_then more at;
        all = whole_records core mid told.below under.keeps driven ended (under.entries ++ piece) below_now;
        counted = count_goes_on told.count more.count under.entries piece under.counted counted;
        text = text_goes_on names under.entries piece first.held now.held then.held under.text text;
        tallied = tally_goes_on first.tally now.tally then.tally under.entries piece under.tallied tallied;
        shared = λ most low. (keeps_on core mid told.below under.keeps driven most low).run.shared;
        few = few_on core mid told.below under.keeps driven ended;
        windows = windows_on core mid told.below under.keeps driven ended;
      }

      pub is_below : (then : Output) → Appends (entries_text names piece) now.held then.held
          → IsWrittenBelow (reaction own) task.plan names until task.budget (safe_bound_in mid) first.held then.held
      is_below then text = record {
        entries = under.entries ++ piece;
        are = below_now;
        text = text_goes_on names under.entries piece first.held now.held then.held under.text text;
      }

      pub is_over : (i : ℕ) → EndsFirstAt mid i → (then : Output) → Appends (entries_text names piece) now.held then.held
          → IsOver (reaction own) names until task i (safe_bound_in mid) first then
      is_over i ends then text = record {
        written = is_below then text;
        ends = budget_on core mid told.below under.keeps driven i ends.here;
        stopped = record {
          core = mid;
          first = ends;
          has_budget = (keeps_on core mid told.below under.keeps driven task.budget (omega arith)).most;
          sound = λ lines most aligned low.
              let here = keeps_on core mid told.below under.keeps driven most low in
              subst (λ ls. (at : ℕ → ℕ) × (before : ℕ) × IsSoundFor task.plan (line_of ls) (run_on (reaction own) task.plan ls task.threshold until (within most)) mid at before)
              (alignment_one task.plan task.nets task.mode task.lines lines given.aligned aligned) (here.at, here.before, here.sound);
        };
      }

      pub is_halted : (then : Output) → Appends (entries_text names piece) now.held then.held → IsHalted (reaction own) names until task (safe_bound_in mid) first then
      is_halted then text = record {
        inside = bound_in_time core mid told.below under.keeps driven;
        written = is_below then text;
        in_budget = within_on core mid told.below under.keeps driven;
      }

      pub is_cut : (then : Output) → AppendsPrefix (entries_text names piece) now.held then.held
          → IsPartWritten (reaction own) task.plan names task.nets task.mode task.threshold until task.budget first.held then.held
      is_cut then text = inl (record {
        below = safe_bound_in mid;
        inside = bound_in_time core mid told.below under.keeps driven;
        in_budget = on_lines (reaction own) until task given.aligned (λ s. IsInBudget s task.budget (safe_bound_in mid)) (within_on core mid told.below under.keeps driven);
        entries = under.entries ++ piece;
        are = below_now;
        text = text_is_cut names under.entries piece first.held now.held then.held under.text text;
      })

      -- nothing of the piece was written
      pub is_as_before : (then : Output) → Appends [] now.held then.held → IsHalted (reaction own) names until task told.below first then
      is_as_before then text = record {
        inside = (let here = under.keeps task.budget (omega arith) in
            let last : core.until ≡ until = here.sound.until in
            let top = here.safe in
            let most = low_most (core.until + 1) core.timelines in
            omega (arith, last, top, most));
        written = record {
          entries = under.entries;
          are = under.before;
          text = subst (λ t. Appends t first.held then.held) (none_behind (entries_text names under.entries)) (appends_then _ _ first.held now.held then.held under.text text);
        };
        in_budget = λ most low j k e past.
            let here = under.keeps most low in
            let top = here.safe in
            let late = laws.within own task.plan until (within most) (line_of task.lines) (net most) given.fits given.in_time task.budget core told.below here j k e past in
            omega (arith, top, late);
      }

      -- ---- what comes of the steps

      pub record IsPiece (after : CoreView B S P) (more : Told) (then : Output) : Type 0 where
        pub given_up : after ≡ without_below (safe_bound_in mid) mid
        pub at : more.below ≡ safe_bound_in mid
        pub counted : more.count ≡ min (told.count + length piece) MostCounted
        pub text : Appends (entries_text names piece) now.held then.held
        pub tallied : IsTallied now.tally then.tally piece

      pub has_advanced : (after : CoreView B S P) (more : Told) (then : Output) → IsPiece after more then
          → (end : Result Driven NoMemory) → IfOk end (λ d. (d.end ≡ drive.Finished) ↔ (mid.barrier.ended ≡ true))
          → IfOk end (λ d. (i : ℕ) → (d.end ≡ drive.OverBudget i) ↔ ((mid.barrier.ended ≡ false) × EndsFirstAt mid i))
          → HasAdvanced (reaction own) names until task after more first then (outcome end more.below)
      has_advanced after more then p (Err memory) finished over =
          subst (λ f. IsHalted (reaction own) names until task f first then) (sym p.at) (is_halted then p.text)
      has_advanced after more then p (Ok d) finished over = by_end d.end d.used finished over
        where
          by_end : (e : DriveEnd) (used : ℕ) → ((e ≡ drive.Finished) ↔ (mid.barrier.ended ≡ true)) → ((i : ℕ) → (e ≡ drive.OverBudget i) ↔ ((mid.barrier.ended ≡ false) × EndsFirstAt mid i))
              → HasAdvanced (reaction own) names until task after more first then (outcome_at e used more.below)
          by_end drive.Finished used fin ov =
              subst (λ (c : CoreView B S P). IsWhole (reaction own) names until task more c.barrier.round c.barrier.window first then) (sym p.given_up)
              (is_whole (fin.0 refl) more then p.at p.counted p.text p.tallied)
          by_end (drive.OverBudget i) used fin ov =
              subst (λ f. IsOver (reaction own) names until task i f first then) (sym p.at)
              (is_over i ((ov i).0 refl).1 then p.text)
          by_end drive.Crossed used fin ov =
              subst (λ (c : CoreView B S P). IsUnderWay (reaction own) names until task c more first then) (sym p.given_up)
              (goes_further more then p.at p.counted p.text p.tallied)

-- what is given up changes no lower bound
low_stays : {B S P : Type 0} (end below : ℕ) (ts : List (TimelineOf B S P)) → least_low_in end (map (without below) ts) ≡ least_low_in end ts
low_stays end below [] = refl
low_stays end below (t ∷ ts) = ap (λ n. min (low_in t) n) (low_stays end below ts)

pub bound_stays : {B S P : Type 0} (mid after : CoreView B S P) (below : ℕ) → after ≡ without_below below mid → safe_bound_in mid ≡ safe_bound_in after
bound_stays mid after below is = sym (ap (λ (c : CoreView _ _ _). safe_bound_in c) is ∙ low_stays (mid.until + 1) below mid.timelines)

pub driven_on : {B S P : Type 0} (r : Reaction S P) (last : ℕ) (schedule : List Step) (used : ℕ) (core mid after : CoreView B S P) (below : ℕ)
    → (tries : ℕ) × (used ≡ min tries (length schedule)) × AreTries r (Some last) tries schedule core mid → after ≡ without_below below mid → IsDrivenOn r last schedule used core after below
driven_on r last schedule used core mid after below (tries, is, made) given_up = record { tries = tries; between = mid; used_is = is; made = made; given_up = given_up }

pub if_further : (end : Result Driven NoMemory) (below : ℕ) (P : ℕ → Type 0) → IfOk end (λ d. d.end ≡ drive.Crossed → P d.used) → IfFurther (outcome end below) P
if_further (Err memory) below P h = tt
if_further (Ok d) below P h = further_at d.end d.used h
  where
    further_at : (e : DriveEnd) (used : ℕ) → (e ≡ drive.Crossed → P used) → IfFurther (outcome_at e used below) P
    further_at drive.Finished used h = tt
    further_at (drive.OverBudget i) used h = tt
    further_at drive.Crossed used h = h refl

pub if_always : (a : Advanced) (P : ℕ → Type 0) → ((used : ℕ) → P used) → IfFurther a P
if_always (Further used) P h = h used
if_always Whole P h = tt
if_always (Ended end) P h = tt

pub if_ok_each : {T E : Type 0} (r : Result T E) (P Q : T → Type 0) → ((x : T) → P x → Q x) → IfOk r P → IfOk r Q
if_ok_each (Ok x) P Q f h = f x h
if_ok_each (Err e) P Q f h = tt

pub has_no_fault : (faults faults' : ℕ) (end : Result Driven NoMemory) (below : ℕ) → HasCause faults faults' (outcome end below)
has_no_fault faults faults' (Err memory) below = tt
has_no_fault faults faults' (Ok d) below = by_end d.end d.used
  where
    by_end : (e : DriveEnd) (used : ℕ) → HasCause faults faults' (outcome_at e used below)
    by_end drive.Finished used = tt
    by_end (drive.OverBudget i) used = tt
    by_end drive.Crossed used = tt

pub room_on : {B S P : Type 0} (names : Names) (core mid after : CoreView B S P) (old new : Room) (f : ℕ) → HasRoom names (length core.timelines) old → length mid.timelines ≡ length core.timelines
    → after ≡ without_below f mid → old.line ≤ new.line → old.places ≤ new.places → HasRoom names (length after.timelines) new
room_on names core mid after old new f room many is line places =
    let all : length after.timelines ≡ length mid.timelines = ap (λ (c : CoreView _ _ _). length c.timelines) is ∙ map_length (without f) mid.timelines in
    let lines = room.line in
    let spots = room.places in
    record { line = omega arith; places = omega arith }
