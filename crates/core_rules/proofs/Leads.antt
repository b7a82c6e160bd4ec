-- A step that was made leads where steps of the rules lead.
use Rattle.std.proofs.Common.{◌≡◌, ℕ, ◌+◌, ◌≤◌, Bool, refl, sym, ap, ◌∙◌, subst, Option, Some, None, option_map, slice_get}
use mathlib.Core.Path.{fun_ext}
use Rattle.event_order.specs.declared.key.Key.{Key}
use Rattle.event_order.specs.Pending.{IsRising}
use Rattle.ssf_model.specs.declared.event.Event.{Event}
use Rattle.ssf_model.specs.declared.event.Entry.{Entry}
use Rattle.ssf_model.specs.declared.plan.Plan.{Plan}
use Rattle.ssf_model.specs.Reaction.{Reaction, Validity, KeepsValid, LatestTime}
use Rattle.ssf_model.specs.Deliver.{IsModest}
use Rattle.ssf_model.specs.Run.{States, Fits}
use Rattle.ssf_model.specs.Scene.{Scene, Net, scene_of}
use Rattle.ssf_model.specs.Truth.{IsNext}
use Rattle.run_laws.proofs.Histories.{line_rises}
use Rattle.run_laws.proofs.Opens.{fits_open}
use Rattle.sync_rules.specs.Parts.{Line, CoreOf}
use Rattle.sync_rules.specs.Sound.{IsSoundCore}
use Rattle.timeline_parts.specs.Tables.{numbers_of}
use Rattle.timeline_parts.proofs.Sending.{numbers_all_put}
use Rattle.timeline.specs.View.{TimelineOf, key_of}
use Rattle.timeline.specs.Executing.{written_in}
use Rattle.timeline.specs.Moving.{without}
use Rattle.timeline.specs.Sound.{IsRunOnLines}
use Rattle.timeline.proofs.Free.{free_of}
use Rattle.timeline.proofs.Executed.{keys, next, step_line, step_sound}
use Rattle.timeline.proofs.Moved.{given_up_sound, history_rises}
use Rattle.sync_steps.specs.declared.steps.Step.{Step}
use Rattle.sync_steps.specs.declared.steps.Step.TheVariants.{Execute, Post, Take, Enter, Report, Cross}
use Rattle.core_rules.specs.Cores.{CoreView, line_or, core_as, IsPartOf, IsSoundFor, IsCoreOfRun}
use Rattle.core_rules.specs.Stepping.{IsExecutedIn, IsSpentIn, IsMade, without_below}
use Rattle.core_rules.specs.Leading.{AreSteps, IsCountOf, LeadsTo, AreCoreSteps}
use Rattle.core_rules.proofs.Lists.{get_map, map_length, one_of, none_some}
use Rattle.core_rules.proofs.Closures.{steps_join}
use Rattle.core_rules.proofs.Parts.{mail_moves, part_moves}
use Rattle.core_rules.proofs.Executes.{execute_leads, spent_leads, enter_leads, report_leads}
use Rattle.core_rules.proofs.Posts.{post_leads}
use Rattle.core_rules.proofs.Takes.{take_leads}
use Rattle.core_rules.proofs.Crosses.{cross_leads}

mapped : {T U : Type 0} (f : T → U) (o : Option T) (u : U) → option_map f o ≡ Some u → (t : T) × (o ≡ Some t) × (f t ≡ u)
mapped f None u h = absurd (none_some u h)
mapped f (Some t) u h = (t, refl, one_of (f t) u h)

module _ {B S P : Type 0} (r : Reaction S P) (valid : Validity S) (carried : P → Type 0) (law : KeepsValid valid carried r) (modest : IsModest valid carried r)
    (plan : Plan B S P) (until : ℕ) (in_time : until ≤ LatestTime) (fits : Fits valid carried plan) (kept : Key → Bool) (line : ℕ → ℕ) (net : Net) where
  abbrev s : Scene (States B S P) (Event P)
  s = scene_of r plan until kept line net

  key_is : s.machine.key ≡ key_of
  key_is = keys r valid carried law modest plan until in_time fits kept line net

  module _ (core : CoreView B S P) (at : ℕ → ℕ) (v : ℕ) (on : IsRunOnLines plan line core.budget s) (sound : IsSoundFor plan line s core at v) where
    executed : (i : ℕ) (after : CoreView B S P) → IsExecutedIn r i core after → LeadsTo plan line s core at 1 after
    executed i after q =
        let t : TimelineOf B S P = q.timeline in
        let part : IsPartOf plan line s core i (at i) t = sound.each i t q.own in
        let here : IsRunOnLines plan line t.budget s = subst (λ n. IsRunOnLines plan line n s) (sym part.budget) on in
        let event : IsNext s i (at i) q.run.event = next r valid carried law modest plan until in_time fits kept line net i (at i) t here part.sound q.run.event q.run.rest q.run.first q.free in
        let is = q.run.is in
        subst (λ (z : CoreView B S P). LeadsTo plan line s core at 1 z) (sym q.is)
        (execute_leads plan line s key_is on.shared core at v sound i (event.wait + at i) q.run.event q.run.rest t q.next q.own q.run.first (free_of t q.run.event q.run.rest q.run.first q.free) event.is
        (step_line r valid carried law modest plan until in_time fits kept line net i (at i) t here part.sound q.run.event q.run.rest q.run.first q.free q.next q.run.entity q.run.at q.next.spare is)
        (step_sound r valid carried law modest plan until in_time fits kept line net i (at i) t here part.sound q.run.event q.run.rest q.run.first q.free q.next q.run.entity q.run.at q.next.spare is)
        (ap (λ (z : TimelineOf B S P). z.budget) is) (ap (λ (z : TimelineOf B S P). z.ins) is) (ap (λ (z : TimelineOf B S P). z.in_ends) is) (ap (λ (z : TimelineOf B S P). z.outs) is)
        (ap (λ (z : TimelineOf B S P). numbers_of z.out_ends) is ∙ numbers_all_put (written_in r t q.run.event q.run.entity) t.out_ends))

    -- a step that was made is as many steps of the rules as it may be
    pub made_leads : (step : Step) (after : CoreView B S P) → IsMade r step core after → (n : ℕ) × IsCountOf step n × LeadsTo plan line s core at n after
    made_leads (Execute i) after q = (1, refl, executed i after q)
    made_leads (Post i c) after q = (1, refl, post_leads plan line s key_is on.shared core at v sound i c after q)
    made_leads (Take i) after q = take_leads plan line s key_is on.shared core at v sound i after q
    made_leads (Enter i) after q = (1, refl, enter_leads plan line s key_is on.shared core at v sound i after q)
    made_leads (Report i) after q = (1, refl, report_leads plan line s key_is on.shared core at v sound i after q)
    made_leads Cross after q = (1, refl, cross_leads plan line s key_is on.shared in_time core at v sound after q)

    pub spent_stays : (i : ℕ) (after : CoreView B S P) → IsSpentIn i core after → LeadsTo plan line s core at 0 after
    spent_stays i after q = spent_leads plan line s key_is on.shared core at v sound i after q

    -- ---- entries that are given up

    module _ (below : ℕ) where
      line_left : (m : ℕ) (o : Option (TimelineOf B S P)) → line_or m (option_map (without below) o) ≡ line_or m o
      line_left m None = refl
      line_left m (Some t) = refl

      same_line : (k : ℕ) → (core_as s.net at core).lines k ≡ (core_as s.net at (without_below below core)).lines k
      same_line k = sym (ap (line_or (at k)) (get_map (without below) core.timelines k) ∙ line_left (at k) (slice_get core.timelines k))

      same : core_as s.net at core ≡ core_as s.net at (without_below below core)
      same = ap (λ (f : ℕ → Line (Event P)). record { lines = f; mails = (core_as s.net at core).mails; barrier = (core_as s.net at core).barrier }) (fun_ext same_line)

      left_part : (k : ℕ) (u : TimelineOf B S P) → slice_get (without_below below core).timelines k ≡ Some u → IsPartOf plan line s (without_below below core) k (at k) u
      left_part k u got =
          let q = mapped (without below) (slice_get core.timelines k) u (sym (get_map (without below) core.timelines k) ∙ got) in
          let t : TimelineOf B S P = q.0 in
          let part : IsPartOf plan line s core k (at k) t = sound.each k t q.1 in
          let rises : IsRising (λ (e : Entry). e.key) t.history =
          history_rises plan line s key_is on.shared k (at k) t part.sound (line_rises r plan until kept line net (fits_open valid carried plan fits) k (at k)) in
          subst (λ (z : TimelineOf B S P). IsPartOf plan line s (without_below below core) k (at k) z) q.2
          (part_moves plan line s core (without_below below core) k (at k) (at k) t (without below t) part (given_up_sound plan line s key_is on.shared k (at k) t part.sound below rises)
          refl refl refl refl refl refl refl (λ mail its. mail_moves mail t (without below t) refl refl (part.mail mail its)))

      pub given_up_stays : LeadsTo plan line s core at 0 (without_below below core)
      given_up_stays = record {
        budget = refl;
        next = at;
        before = v;
        sound = record {
          kept = record { behaviour = sound.kept.behaviour; before = sound.kept.before; starts = sound.kept.starts };
          until = sound.until;
          timelines = map_length (without below) core.timelines ∙ sound.timelines;
          mails = sound.mails;
          each = left_part;
          barrier = sound.barrier;
          ends = sound.ends;
          all = subst (λ (z : CoreOf (Event P)). IsSoundCore s v z) same sound.all;
        };
        steps = same;
      }

    -- ---- one after the other

    pub leads_on : (n k : ℕ) (between after : CoreView B S P) → (a : LeadsTo plan line s core at n between) → LeadsTo plan line s between a.next k after → LeadsTo plan line s core at (n + k) after
    leads_on n k between after a b = record {
      budget = b.budget ∙ a.budget;
      next = b.next;
      before = b.before;
      sound = b.sound;
      steps = steps_join s core.budget n k (core_as s.net at core) (core_as s.net a.next between) (core_as s.net b.next after) a.steps
          (subst (λ m. AreSteps s m k (core_as s.net a.next between) (core_as s.net b.next after)) a.budget b.steps);
    }

-- ---- for each run

module _ {B S P : Type 0} (r : Reaction S P) (valid : Validity S) (carried : P → Type 0) (law : KeepsValid valid carried r) (modest : IsModest valid carried r) where
  pub none_joins : (core : CoreView B S P) → AreCoreSteps valid carried r core core
  none_joins core plan until kept line net fits in_time at v on sound = (0, record { budget = refl; next = at; before = v; sound = sound; steps = refl })

  pub steps_joined : (core between after : CoreView B S P) → AreCoreSteps valid carried r core between → AreCoreSteps valid carried r between after → AreCoreSteps valid carried r core after
  steps_joined core between after a b plan until kept line net fits in_time at v on sound =
      let s : Scene (States B S P) (Event P) = scene_of r plan until kept line net in
      let p = a plan until kept line net fits in_time at v on sound in
      let first : LeadsTo plan line s core at p.0 between = p.1 in
      let there : IsRunOnLines plan line between.budget s = subst (λ n. IsRunOnLines plan line n s) (sym first.budget) on in
      let q = b plan until kept line net fits in_time first.next first.before there first.sound in
      (p.0 + q.0, leads_on r valid carried law modest plan until in_time fits kept line net core at v on sound p.0 q.0 between after first q.1)

  -- the parts of a run stay those of a run
  pub run_stays : (core after : CoreView B S P) → AreCoreSteps valid carried r core after → IsCoreOfRun valid carried r core → IsCoreOfRun valid carried r after
  run_stays core after steps q =
      let s : Scene (States B S P) (Event P) = scene_of r q.plan core.until q.kept q.line q.net in
      let p = steps q.plan core.until q.kept q.line q.net q.fits q.in_time q.at q.before q.run q.sound in
      let next : LeadsTo q.plan q.line s core q.at p.0 after = p.1 in
      let end : core.until ≡ after.until = sym next.sound.until in
      record {
        plan = q.plan;
        line = q.line;
        net = q.net;
        kept = q.kept;
        fits = q.fits;
        in_time = subst (λ u. u ≤ LatestTime) end q.in_time;
        run = subst (λ n. IsRunOnLines q.plan q.line n (scene_of r q.plan after.until q.kept q.line q.net)) (sym next.budget)
            (subst (λ u. IsRunOnLines q.plan q.line core.budget (scene_of r q.plan u q.kept q.line q.net)) end q.run);
        at = next.next;
        before = next.before;
        sound = subst (λ u. IsSoundFor q.plan q.line (scene_of r q.plan u q.kept q.line q.net) after next.next next.before) end next.sound;
      }
