-- Parts of which nothing is told of the timelines that have reported: as if none had reported.
use Rattle.std.proofs.Common.{◌≡◌, ℕ, zero, suc, ◌+◌, ◌<◌, ◌≤◌, Bool, true, false, List, [], ◌∷◌, ◌++◌, length, replicate, refl, sym, ap, ◌∙◌, subst, inl, inr, arith, Option, Some, None, slice_get}
use Rattle.event_order.specs.declared.key.Key.{Key}
use Rattle.ssf_model.specs.declared.event.Event.{Event}
use Rattle.ssf_model.specs.declared.event.Entry.{Entry}
use Rattle.ssf_model.specs.declared.plan.Plan.{Plan}
use Rattle.ssf_model.specs.Reaction.{Reaction, Validity, KeepsValid, LatestTime}
use Rattle.ssf_model.specs.Deliver.{IsModest}
use Rattle.ssf_model.specs.Run.{States, Fits}
use Rattle.ssf_model.specs.Scene.{Scene, Net, scene_of, event_at}
use Rattle.ssf_model.specs.Truth.{AreFew}
use Rattle.sync_rules.proofs.Runs.{some_or_none, in_time as event_in_time}
use Rattle.timeline.specs.View.{TimelineOf}
use Rattle.timeline.specs.Sound.{IsRunOnLines}
use Rattle.trace_writer.specs.Merging.{merged}
use Rattle.sync_steps.specs.Sounds.{has_least, barrier_as}
use Rattle.core_rules.specs.Cores.{CoreView, IsSoundFor}
use Rattle.core_rules.specs.Stepping.{without_below}
use Rattle.core_rules.specs.Leading.{LeadsTo, AreCoreSteps}
use Rattle.core_rules.specs.Reading.{least_low_in, safe_bound_in}
use Rattle.core_rules.proofs.Parts.{part_stays}
use Rattle.core_rules.proofs.Reading.{ended_reached}
use Rattle.core_traces.specs.Records.{AreEntriesBelow, AreAllEntries}
use Rattle.core_traces.specs.Kept.{histories_of, AreSoundFrom, IsCoreFrom, HaveGrown}
use Rattle.core_traces.specs.Ends.{AreWindows}
use Rattle.core_traces.proofs.Records.{is_there}
use Rattle.core_traces.proofs.Runs.{time_is}
use Rattle.core_traces.proofs.Keeps.{led_safe, grown_kept, stays, left_kept, left_safe}
use Rattle.core_traces.proofs.Merging.{reached_records}
use Rattle.core_traces.proofs.Ends.{reached_few}

none_told : (n i : ℕ) → has_least (slice_get (replicate n None) i) ≡ false
none_told zero i = refl
none_told (suc n) zero = refl
none_told (suc n) (suc i) = none_told n i

none_many : (n : ℕ) (o : Option ℕ) → length (replicate n o) ≡ n
none_many zero o = refl
none_many (suc n) o = (let rest = none_many n o in ap (λ k. suc k) rest)

-- the parts where the barrier has no reports of its round
abbrev pub without_reports : {B S P : Type 0} → CoreView B S P → CoreView B S P
without_reports core = record core { barrier = record core.barrier { reports = replicate (length core.barrier.reports) None; ended = false } }

module _ {B S P : Type 0} (plan : Plan B S P) (line : ℕ → ℕ) (s : Scene (States B S P) (Event P)) (core : CoreView B S P) (at : ℕ → ℕ) (v : ℕ) (sound : IsSoundFor plan line s core at v) where
  none_reported : (i : ℕ) → (barrier_as (without_reports core).barrier).reported i ≡ true → ⊥
  none_reported i told = (let none : false ≡ true = sym (none_told (length core.barrier.reports) i) ∙ told in cc)

  unreported_sound : IsSoundFor plan line s (without_reports core) at v
  unreported_sound = record {
    kept = record { behaviour = sound.kept.behaviour; before = sound.kept.before; starts = sound.kept.starts };
    until = sound.until;
    timelines = sound.timelines;
    mails = sound.mails;
    each = λ i t own. (let old = sound.each i t own in part_stays plan line s core (without_reports core) i (at i) t old refl refl old.mail);
    barrier = record {
      until = sound.barrier.until;
      lookahead = sound.barrier.lookahead;
      timelines = none_many (length core.barrier.reports) None ∙ sound.barrier.timelines;
      rising = sound.barrier.rising;
      crosses = sound.barrier.crosses;
      only = sound.barrier.only;
      counts = sound.barrier.counts;
      sent = sound.barrier.sent;
    };
    ends = sound.ends;
    all = record {
      lines = sound.all.lines;
      mails = sound.all.mails;
      barrier = record {
        window = sound.all.barrier.window;
        at = sound.all.barrier.at;
        cut = sound.all.barrier.cut;
        counts = sound.all.barrier.counts;
        reports = λ i known told. absurd (none_reported i told);
        all_in = λ ended. absurd (let none : false ≡ true = ended in cc);
        over = λ ended. absurd (let none : false ≡ true = ended in cc);
      };
      posted = sound.all.posted;
      taken = sound.all.taken;
      entered = sound.all.entered;
      done = sound.all.done;
      reported = λ i known told. absurd (none_reported i told);
    };
  }

module _ {B S P : Type 0} where
  low_top : (end : ℕ) (ts : List (TimelineOf B S P)) → least_low_in end ts ≤ end
  low_top end [] = omega arith
  low_top end (t ∷ ts) = (let rest = low_top end ts in omega (arith, rest))

module _ {B S P : Type 0} (r : Reaction S P) (valid : Validity S) (carried : P → Type 0) (law : KeepsValid valid carried r) (modest : IsModest valid carried r)
    (plan : Plan B S P) (until : ℕ) (in_time : until ≤ LatestTime) (fits : Fits valid carried plan) (kept : Key → Bool) (line : ℕ → ℕ) (net : Net)
    (budget : ℕ) (core : CoreView B S P) (g : ℕ) where
  abbrev s : Scene (States B S P) (Event P)
  s = scene_of r plan until kept line net

  pub from_core : IsCoreFrom plan line s budget core g → AreSoundFrom plan line s budget core g
  from_core q = record { run = q.run; at = q.at; before = q.before; sound = q.sound; most = q.most; keeps = q.keeps; safe = q.safe }

  module _ (q : AreSoundFrom plan line s budget core g) where
    -- all that is said of parts that keep entries holds as if no timeline had reported
    pub as_from : IsCoreFrom plan line s budget (without_reports core) g
    as_from = record {
      run = q.run;
      at = q.at;
      before = q.before;
      sound = unreported_sound plan line s core q.at q.before q.sound;
      most = q.most;
      keeps = q.keeps;
      reported = λ i t own told. absurd (let none : false ≡ true = sym (none_told (length core.barrier.reports) i) ∙ told in cc);
      safe = q.safe;
    }

    on : IsRunOnLines plan line core.budget s
    on = subst (λ n. IsRunOnLines plan line n s) (sym q.most) q.run

    -- ---- later parts

    pub grown_from : (after : CoreView B S P) (next : ℕ → ℕ) (w : ℕ) → IsSoundFor plan line s after next w → after.budget ≡ core.budget → HaveGrown core after → safe_bound_in core ≤ safe_bound_in after
        → AreSoundFrom plan line s budget after g
    grown_from after next w sound most grown up = record {
      run = q.run;
      at = next;
      before = w;
      sound = sound;
      most = most ∙ q.most;
      keeps = grown_kept r valid carried law modest plan until in_time fits kept line net core q.at q.before on q.sound g q.keeps q.safe after next w sound grown;
      safe = (let low = q.safe in omega (arith, low, up));
    }

    module _ (after : CoreView B S P) (steps : AreCoreSteps valid carried r core after) where
      lead : (n : ℕ) × LeadsTo plan line s core q.at n after
      lead = steps plan until kept line net fits in_time q.at q.before on q.sound

      pub steps_low : safe_bound_in core ≤ safe_bound_in after
      steps_low = led_safe r valid carried law modest plan until in_time fits kept line net core q.at q.before on q.sound after lead.0 lead.1

      pub steps_from : HaveGrown core after → AreSoundFrom plan line s budget after g
      steps_from grown = grown_from after lead.1.next lead.1.before lead.1.sound lead.1.budget grown steps_low

    pub left_from : (below : ℕ) → g ≤ below → below ≤ safe_bound_in core → AreSoundFrom plan line s budget (without_below below core) below
    left_from below order safe = record {
      run = q.run;
      at = (stays r valid carried law modest plan until in_time fits kept line net core q.at q.before on q.sound g q.keeps below order).next;
      before = (stays r valid carried law modest plan until in_time fits kept line net core q.at q.before on q.sound g q.keeps below order).before;
      sound = (stays r valid carried law modest plan until in_time fits kept line net core q.at q.before on q.sound g q.keeps below order).sound;
      most = q.most;
      keeps = left_kept r valid carried law modest plan until in_time fits kept line net core q.at q.before on q.sound g q.keeps below order;
      safe = left_safe r valid carried law modest plan until in_time fits kept line net core q.at q.before on q.sound g q.keeps below order safe;
    }

    -- ---- where the barrier has ended

    module _ (ended : core.barrier.ended ≡ true) where
      reached : (j : ℕ) (e : Event P) → event_at s j ≡ Some e → j < q.at (s.line e)
      reached j e is = ended_reached r valid carried law modest plan until in_time fits kept line net core q.at q.before on q.sound ended j e is

      pub all_windows : AreWindows s core.barrier.round core.barrier.window
      all_windows = record { before = q.before; window = q.sound.all.barrier.window; over = q.sound.all.barrier.over ended }

      pub all_few : AreFew s budget
      unfolding as_from
      all_few = reached_few r valid carried law modest plan until in_time fits kept line net budget (without_reports core) g as_from reached

      pub all_whole : (es : List Entry) → AreEntriesBelow r plan until kept g es → AreAllEntries r plan until kept (es ++ merged (histories_of core) (until + 1))
      unfolding as_from
      all_whole es p =
          let low = q.safe in
          let top = low_top (core.until + 1) core.timelines in
          let end = q.sound.until in
          let below : AreEntriesBelow r plan until kept (until + 1) (es ++ merged (histories_of core) (until + 1)) =
          reached_records r valid carried law modest plan until in_time fits kept line net budget (without_reports core) g as_from (until + 1) es (omega (arith, low, top, end)) (λ j e is early. reached j e is) p in
          record {
            count = below.count;
            are = below.are;
            each = λ k l. (let e = below.each k l in is_there (event_at s k) e.0 e.1);
            no_more = elim (some_or_none (event_at s below.count)) [
              | inr none ↦ none
              | inl e ↦ absurd (let late = below.next e.0 e.1 in
                  let early = event_in_time s q.run.shared below.count e.0 e.1 in
                  let time = time_is r plan until kept line net e.0 in
                  omega (arith, late, early, time))
            ];
          }
