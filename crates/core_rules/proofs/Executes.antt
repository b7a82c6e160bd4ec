-- The steps on one timeline alone: it executes, is spent, or enters a window; and its report to the barrier.
use Rattle.std.proofs.Common.{◌≡◌, ℕ, suc, ◌<◌, List, [], ◌∷◌, length, refl, sym, ap, ◌∙◌, subst, arith, Some, slice_get}
use Rattle.event_order.specs.declared.key.Key.{Key}
use Rattle.ssf_model.specs.declared.event.Event.{Event}
use Rattle.ssf_model.specs.declared.plan.Plan.{Plan}
use Rattle.ssf_model.specs.Run.{States}
use Rattle.ssf_model.specs.Scene.{Scene, world_at, event_at, time_of}
use Rattle.sync_rules.specs.Parts.{Line, BarrierOf, CoreOf, put_at}
use Rattle.sync_rules.specs.Bounds.{bound_of}
use Rattle.sync_rules.specs.Shared.{IsShared}
use Rattle.sync_rules.specs.Sound.{HasDone, IsSoundCore}
use Rattle.sync_rules.specs.Steps.{CanExecute, CanEnter, CanReport, IsStep, executed_line, entered_line, executed_core, entered_core, reported_core, reported_barrier}
use Rattle.sync_rules.specs.Steps.IsStep.{executes, enters, reports}
use Rattle.sync_rules.proofs.Bounds.{put_here, put_else}
use Rattle.sync_rules.proofs.Cores.{step_keeps}
use Rattle.timeline_parts.specs.Tables.{numbers_of}
use Rattle.timeline.specs.View.{TimelineOf, key_of}
use Rattle.timeline.specs.Holding.{bound_in, ahead_in}
use Rattle.timeline.specs.Moving.{entered_at}
use Rattle.timeline.specs.Lines.{line_of}
use Rattle.timeline.specs.Sound.{IsSoundTimeline}
use Rattle.timeline.proofs.Free.{IsFree}
use Rattle.timeline.proofs.TellsBounds.{bound_is}
use Rattle.timeline.proofs.Moved.{enters_line, spent_sound}
use Rattle.barrier_window.specs.BarrierFields.{BarrierFields}
use Rattle.barrier_window.specs.Crossings.{latest_of, with_report}
use Rattle.sync_steps.specs.Between.{counts_in}
use Rattle.sync_steps.specs.Sounds.{barrier_as, IsBarrierFor}
use Rattle.sync_steps.proofs.SoundPairs.{entry_may, entry_keeps, report_enabled, report_as}
use Rattle.core_rules.specs.Cores.{CoreView, core_as, IsBarrierOf, IsPartOf, IsSoundFor}
use Rattle.core_rules.specs.Stepping.{with_timeline, with_barrier, IsSpentIn, IsEnteredIn, IsReportedIn}
use Rattle.core_rules.specs.Leading.{LeadsTo}
use Rattle.core_rules.proofs.Lists.{set_length}
use Rattle.core_rules.proofs.Closures.{put_same}
use Rattle.core_rules.proofs.Parts.{lines_put, mail_moves, part_stays, part_moves, each_put, timeline_known, line_here}

module _ {B S P : Type 0} (plan : Plan B S P) (line : ℕ → ℕ) (s : Scene (States B S P) (Event P)) (keys : s.machine.key ≡ key_of) (sh : IsShared s)
    (core : CoreView B S P) (at : ℕ → ℕ) (v : ℕ) (sound : IsSoundFor plan line s core at v) where
  abbrev before : CoreOf (Event P)
  before = core_as s.net at core

  time_is : (e : Event P) → time_of s e ≡ e.key.time
  time_is e = ap (λ (key : Event P → Key). (key e).time) keys

  -- ---- one step of the rules leads on

  pub step_leads : (after : CoreView B S P) (later : ℕ → ℕ) → after.budget ≡ core.budget
      → IsStep s core.budget before (core_as s.net later after)
      → ((w : ℕ) → IsSoundCore s w (core_as s.net later after) → IsSoundFor plan line s after later w)
      → LeadsTo plan line s core at 1 after
  step_leads after later budget step whole =
      let kept = step_keeps s sh v before sound.all core.budget (core_as s.net later after) step in
      record { budget = budget; next = later; before = kept.0; sound = whole kept.0 kept.1; steps = (core_as s.net later after, step, refl) }

  -- where one timeline became another one, and all else stays
  pub line_whole : (i : ℕ) (t next : TimelineOf B S P) (later : ℕ → ℕ) → slice_get core.timelines i ≡ Some t → IsPartOf plan line s (with_timeline i next core) i (later i) next
      → ((k : ℕ) → (k ≡ i → ⊥) → later k ≡ at k)
      → (w : ℕ) → IsSoundCore s w (core_as s.net later (with_timeline i next core)) → IsSoundFor plan line s (with_timeline i next core) later w
  line_whole i t next later own part there w all = record {
    kept = record { behaviour = sound.kept.behaviour; before = sound.kept.before; starts = sound.kept.starts };
    until = sound.until;
    timelines = set_length core.timelines i next ∙ sound.timelines;
    mails = sound.mails;
    each = each_put plan line s core (with_timeline i next core) later i t next own refl part others;
    barrier = sound.barrier;
    ends = sound.ends;
    all = all;
  }
    where
      others : (k : ℕ) (u : TimelineOf B S P) → (k ≡ i → ⊥) → slice_get core.timelines k ≡ Some u → IsPartOf plan line s (with_timeline i next core) k (later k) u
      others k u differ got =
          let old = sound.each k u got in
          part_stays plan line s core (with_timeline i next core) k (later k) u (subst (λ m. IsPartOf plan line s core k m u) (sym (there k differ)) old) refl refl old.mail

  line_eq : (i m : ℕ) (t next : TimelineOf B S P) (later : ℕ → ℕ) → slice_get core.timelines i ≡ Some t → later i ≡ m → ((k : ℕ) → (k ≡ i → ⊥) → later k ≡ at k) → (l : Line (Event P)) → line_of m next ≡ l
      → core_as s.net later (with_timeline i next core) ≡ record { lines = put_at i l before.lines; mails = before.mails; barrier = before.barrier }
  line_eq i m t next later own here there l is =
      ap (λ (f : ℕ → Line (Event P)). record { lines = f; mails = before.mails; barrier = before.barrier })
      (lines_put core.timelines i t next own at later m here there ∙ ap (λ (z : Line (Event P)). put_at i z before.lines) is)

  -- ---- execute

  -- with event number n of the run, which is e
  pub execute_leads : (i n : ℕ) (e : Event P) (rest : List (Event P)) (t next : TimelineOf B S P) → slice_get core.timelines i ≡ Some t → t.pending ≡ e ∷ rest → IsFree t e rest
      → event_at s n ≡ Some e → line_of (suc n) next ≡ executed_line s i n (s.machine.writes (world_at s n).state e) rest (line_of (at i) t)
      → IsSoundTimeline plan line s i (suc n) next
      → next.budget ≡ t.budget → next.ins ≡ t.ins → next.in_ends ≡ t.in_ends → next.outs ≡ t.outs → numbers_of next.out_ends ≡ numbers_of t.out_ends
      → LeadsTo plan line s core at 1 (with_timeline i next core)
  execute_leads i n e rest t next own first free is line_is stays most ins in_ends outs out_ends =
      let known : i < s.net.timelines = timeline_known plan line s core at v sound i t own in
      let here : before.lines i ≡ line_of (at i) t = line_here plan line s core at v sound i t own in
      let part : IsPartOf plan line s core i (at i) t = sound.each i t own in
      let ws : List (Event P) = s.machine.writes (world_at s n).state e in
      let later : ℕ → ℕ = put_at i (suc n) at in
      let moment : later i ≡ suc n = put_here i (suc n) at in
      let there : (k : ℕ) → (k ≡ i → ⊥) → later k ≡ at k = λ k differ. put_else i k (suc n) at differ in
      let time : time_of s e ≡ e.key.time = time_is e in
      let bound : bound_in t ≡ bound_of s.net i (before.lines i) = bound_is s.net sh.joining i t part.sound.order.in_ends part.sound.placed (at i) ∙ ap (bound_of s.net i) (sym here) in
      let end = part.sound.until in
      let early = free.in_time in
      let below = free.below in
      let few = free.few in
      let budget = part.budget in
      let count : (before.lines i).executed ≡ t.executed = ap (λ (l : Line (Event P)). l.executed) here in
      let may : CanExecute s core.budget i (before.lines i) = record {
        head = e;
        rest = rest;
        is = ap (λ (l : Line (Event P)). l.pending) here ∙ first;
        in_time = omega (arith, early, time, end);
        below = omega (arith, below, time, bound);
        few = omega (arith, few, count, budget);
      } in
      let eq : core_as s.net later (with_timeline i next core) ≡ executed_core s i n ws rest before =
      line_eq i (suc n) t next later own moment there (executed_line s i n ws rest (before.lines i)) (line_is ∙ ap (executed_line s i n ws rest) (sym here)) in
      step_leads (with_timeline i next core) later refl (executes i n known may is eq)
      (line_whole i t next later own (next_part i n t next later own moment stays most ins in_ends outs out_ends) there)
    where
      next_part : (i n : ℕ) (t next : TimelineOf B S P) (later : ℕ → ℕ) → slice_get core.timelines i ≡ Some t → later i ≡ suc n → IsSoundTimeline plan line s i (suc n) next
          → next.budget ≡ t.budget → next.ins ≡ t.ins → next.in_ends ≡ t.in_ends → next.outs ≡ t.outs → numbers_of next.out_ends ≡ numbers_of t.out_ends
          → IsPartOf plan line s (with_timeline i next core) i (later i) next
      next_part i n t next later own moment stays most ins in_ends outs out_ends =
          let part : IsPartOf plan line s core i (at i) t = sound.each i t own in
          subst (λ m. IsPartOf plan line s (with_timeline i next core) i m next) (sym moment)
          (part_moves plan line s core (with_timeline i next core) i (at i) (suc n) t next part stays most ins in_ends outs out_ends refl refl
          (λ mail got. mail_moves mail t next ins in_ends (part.mail mail got)))

  -- ---- spent

  pub spent_leads : (i : ℕ) (after : CoreView B S P) → IsSpentIn i core after → LeadsTo plan line s core at 0 after
  spent_leads i after q =
      subst (λ (z : CoreView B S P). LeadsTo plan line s core at 0 z) (sym q.is) (record {
        budget = refl;
        next = at;
        before = v;
        sound = line_whole i q.timeline q.next at q.own (next_part q) (λ k differ. refl) v (subst (λ (z : CoreOf (Event P)). IsSoundCore s v z) (same q) sound.all);
        steps = same q;
      })
    where
      same_line : (q : IsSpentIn i core after) → line_of (at i) q.next ≡ before.lines i
      same_line q = ap (line_of (at i)) q.spent ∙ sym (line_here plan line s core at v sound i q.timeline q.own)

      same : (q : IsSpentIn i core after) → before ≡ core_as s.net at (with_timeline i q.next core)
      same q = sym (line_eq i (at i) q.timeline q.next at q.own refl (λ k differ. refl) (before.lines i) (same_line q)
          ∙ ap (λ (f : ℕ → Line (Event P)). record { lines = f; mails = before.mails; barrier = before.barrier }) (put_same i before.lines))

      next_part : (q : IsSpentIn i core after) → IsPartOf plan line s (with_timeline i q.next core) i (at i) q.next
      next_part q =
          let part : IsPartOf plan line s core i (at i) q.timeline = sound.each i q.timeline q.own in
          let stays = spent_sound plan line s keys sh i (at i) q.timeline part.sound q.next q.free q.spent q.order in
          part_moves plan line s core (with_timeline i q.next core) i (at i) (at i) q.timeline q.next part stays
          (ap (λ (z : TimelineOf B S P). z.budget) q.spent) (ap (λ (z : TimelineOf B S P). z.ins) q.spent) (ap (λ (z : TimelineOf B S P). z.in_ends) q.spent)
          (ap (λ (z : TimelineOf B S P). z.outs) q.spent) (ap (λ (z : TimelineOf B S P). numbers_of z.out_ends) q.spent) refl refl
          (λ mail got. mail_moves mail q.timeline q.next (ap (λ (z : TimelineOf B S P). z.ins) q.spent) (ap (λ (z : TimelineOf B S P). z.in_ends) q.spent) (part.mail mail got))

  -- ---- enter

  pub enter_leads : (i : ℕ) (after : CoreView B S P) → IsEnteredIn i core after → LeadsTo plan line s core at 1 after
  enter_leads i after q =
      let t : TimelineOf B S P = q.timeline in
      let next : TimelineOf B S P = entered_at core.barrier.window t in
      let known : i < s.net.timelines = timeline_known plan line s core at v sound i t q.own in
      let here : before.lines i ≡ line_of (at i) t = line_here plan line s core at v sound i t q.own in
      let part : IsPartOf plan line s core i (at i) t = sound.each i t q.own in
      let may : CanEnter s.net i (before.lines i) before.barrier =
      subst (λ (l : Line (Event P)). CanEnter s.net i l before.barrier) (sym here) (entry_may plan line s keys sh i (at i) t part.sound core.barrier sound.barrier.rising sound.barrier.counts part.places q.may) in
      let eq : core_as s.net at (with_timeline i next core) ≡ entered_core s i before =
      line_eq i (at i) t next at q.own refl (λ k differ. refl) (entered_line s core.barrier.window (before.lines i))
      (enters_line plan line s keys sh i (at i) t part.sound core.barrier.window ∙ ap (entered_line s core.barrier.window) (sym here)) in
      subst (λ (z : CoreView B S P). LeadsTo plan line s core at 1 z) (sym q.is)
      (step_leads (with_timeline i next core) at refl (enters i known may eq) (line_whole i t next at q.own (next_part q) (λ k differ. refl)))
    where
      next_part : (q : IsEnteredIn i core after) → IsPartOf plan line s (with_timeline i (entered_at core.barrier.window q.timeline) core) i (at i) (entered_at core.barrier.window q.timeline)
      next_part q =
          let t : TimelineOf B S P = q.timeline in
          let part : IsPartOf plan line s core i (at i) t = sound.each i t q.own in
          let done : HasDone s i v (line_of (at i) t) =
          subst (λ (l : Line (Event P)). HasDone s i v l) (line_here plan line s core at v sound i t q.own) (sound.all.done i (timeline_known plan line s core at v sound i t q.own)) in
          let stays = entry_keeps plan line s keys sh i (at i) t part.sound core.barrier sound.barrier.rising sound.barrier.counts part.places v sound.all.barrier done q.may in
          part_moves plan line s core (with_timeline i (entered_at core.barrier.window t) core) i (at i) (at i) t (entered_at core.barrier.window t) part stays refl refl refl refl refl refl refl
          (λ mail got. mail_moves mail t (entered_at core.barrier.window t) refl refl (part.mail mail got))

  -- ---- another barrier

  pub barrier_whole : (b : BarrierFields) → b.channels ≡ core.barrier.channels → IsBarrierOf s b
      → (w : ℕ) → IsSoundCore s w (core_as s.net at (with_barrier b core)) → IsSoundFor plan line s (with_barrier b core) at w
  barrier_whole b channels barrier w all = record {
    kept = record { behaviour = sound.kept.behaviour; before = sound.kept.before; starts = sound.kept.starts };
    until = sound.until;
    timelines = sound.timelines;
    mails = sound.mails;
    each = λ k u got. (let old = sound.each k u got in part_stays plan line s core (with_barrier b core) k (at k) u old refl channels old.mail);
    barrier = barrier;
    ends = sound.ends;
    all = all;
  }

  -- ---- report

  latest_long : (ps : List (ℕ × ℕ)) (cs ns : List ℕ) → length ns ≡ length cs → length (latest_of ps cs ns) ≡ length cs
  latest_long ps [] ns h = refl
  latest_long ps (c ∷ cs) [] h = h
  latest_long ps (c ∷ cs) (n ∷ ns) h = (let rest = latest_long ps cs ns (omega arith) in ap (λ k. suc k) rest)

  pub barrier_for : (i : ℕ) (t : TimelineOf B S P) → slice_get core.timelines i ≡ Some t → IsBarrierFor s i t core.barrier
  barrier_for i t own = record {
    ends = (sound.each i t own).ends;
    each = sound.barrier.sent;
    crosses = sound.barrier.crosses;
    known = subst (λ n. i < n) (sym sound.barrier.timelines) (timeline_known plan line s core at v sound i t own);
  }

  pub report_leads : (i : ℕ) (after : CoreView B S P) → IsReportedIn i core after → LeadsTo plan line s core at 1 after
  report_leads i after q =
      let t : TimelineOf B S P = q.timeline in
      let b : BarrierFields = with_report i (ahead_in t) (counts_in t) core.barrier in
      let known : i < s.net.timelines = timeline_known plan line s core at v sound i t q.own in
      let here : before.lines i ≡ line_of (at i) t = line_here plan line s core at v sound i t q.own in
      let part : IsPartOf plan line s core i (at i) t = sound.each i t q.own in
      let joins : IsBarrierFor s i t core.barrier = barrier_for i t q.own in
      let may : CanReport s i (before.lines i) before.barrier =
      subst (λ (l : Line (Event P)). CanReport s i l before.barrier) (sym here) (report_enabled plan line s keys sh i (at i) t part.sound joins.ends core.barrier joins.each joins.crosses joins.known q.may) in
      let told : barrier_as b ≡ reported_barrier s i (before.lines i) before.barrier =
      report_as plan line s keys sh i (at i) t part.sound joins.ends core.barrier joins.each joins.crosses joins.known ∙ ap (λ (l : Line (Event P)). reported_barrier s i l before.barrier) (sym here) in
      let eq : core_as s.net at (with_barrier b core) ≡ reported_core s i before = ap (λ (z : BarrierOf). record { lines = before.lines; mails = before.mails; barrier = z }) told in
      subst (λ (z : CoreView B S P). LeadsTo plan line s core at 1 z) (sym q.is)
      (step_leads (with_barrier b core) at refl (reports i known may eq) (barrier_whole b refl (next_barrier t)))
    where
      next_barrier : (t : TimelineOf B S P) → IsBarrierOf s (with_report i (ahead_in t) (counts_in t) core.barrier)
      next_barrier t = record {
        until = sound.barrier.until;
        lookahead = sound.barrier.lookahead;
        timelines = set_length core.barrier.reports i (Some (ahead_in t)) ∙ sound.barrier.timelines;
        rising = sound.barrier.rising;
        crosses = sound.barrier.crosses;
        only = sound.barrier.only;
        counts = sound.barrier.counts;
        sent = latest_long (counts_in t) core.barrier.channels core.barrier.sent sound.barrier.sent;
      }
