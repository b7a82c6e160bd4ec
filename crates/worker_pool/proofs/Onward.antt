-- What steps that were made one after the other leave of all parts.
use Rattle.std.proofs.Common.{◌≡◌, ℕ, zero, suc, ◌<◌, ◌≤◌, ◌⊎◌, Bool, true, nat_eq, List, [], ◌∷◌, ◌++◌, length, refl, sym, ap, ◌∙◌, subst, inl, inr, arith, eqb-true, Option, Some, slice_get, set, append_assoc, append-nil, length-append}
use Rattle.event_order.specs.declared.key.Key.{Key}
use Rattle.event_order.proofs.Local.{share_own}
use Rattle.event_order.proofs.Pending.{test_cases}
use Rattle.ssf_model.specs.declared.event.Event.{Event}
use Rattle.ssf_model.specs.declared.plan.Plan.{Plan}
use Rattle.ssf_model.specs.Reaction.{Reaction, Validity, KeepsValid, LatestTime}
use Rattle.ssf_model.specs.Deliver.{IsModest}
use Rattle.ssf_model.specs.Run.{States, Fits}
use Rattle.ssf_model.specs.Scene.{Scene, Net, scene_of}
use Rattle.ssf_model.specs.Truth.{is_on_line, line_events}
use Rattle.sync_rules.specs.Parts.{CoreOf}
use Rattle.sync_rules.specs.Bounds.{low_of, safe_bound}
use Rattle.sync_rules.specs.Shared.{IsShared}
use Rattle.sync_rules.specs.Sound.{IsSoundCore, IsOwnEvent}
use Rattle.sync_rules.proofs.Cores.{step_keeps}
use Rattle.sync_rules.proofs.Wholes.{step_low, step_safe, line_grows}
use Rattle.timeline.specs.View.{TimelineOf}
use Rattle.timeline.specs.Holding.{low_in}
use Rattle.timeline.specs.Sound.{HasNext, IsRunOnLines}
use Rattle.timeline.proofs.Free.{over_is}
use Rattle.appointments.specs.Mails.{Mails, mail_at}
use Rattle.appointments.specs.Posts.{taken_parcel}
use Rattle.sync_steps.specs.declared.steps.Step.{Step}
use Rattle.sync_steps.specs.declared.steps.Step.TheVariants.{Execute, Post, Take, Enter, Report, Cross}
use Rattle.sync_steps.specs.Between.{taken_all, taken_on}
use Rattle.core_rules.specs.Cores.{CoreView, core_as, IsPartOf, IsSoundFor, IsCoreOfRun}
use Rattle.core_rules.specs.Leading.{AreSteps, LeadsTo, AreCoreSteps}
use Rattle.core_rules.specs.Reading.{safe_bound_in, BudgetEndsIn}
use Rattle.core_rules.specs.Stepping.{is_enabled, IsMade, IsSpentIn}
use Rattle.core_rules.proofs.Lists.{not_equal, get_known, one_of, set_here, set_there}
use Rattle.core_rules.proofs.Leads.{run_stays}
use Rattle.core_rules.proofs.Parts.{line_here}
use Rattle.core_rules.proofs.Reading.{low_told, safe_same, ended_reached, budget_event}
use Rattle.sync_core.specs.Driving.{IsTried, AreTries, AreTriesUpTo, IsOnward}
use Rattle.share_rules.specs.Home.{IsSince}
use Rattle.share_rules.proofs.Closes.{together, run_still, since_key, safe_rises}
use Rattle.worker_pool.specs.Carried.{AreSince, AreGathered, AreCarriedOn}

-- ---- the mappings of timelines stay

module _ {B S P : Type 0} where
  -- each timeline is there, with the same mappings from others
  abbrev pub HaveTheirIns : CoreView B S P → CoreView B S P → Type 0
  HaveTheirIns core after = (i : ℕ) (t : TimelineOf B S P) → slice_get core.timelines i ≡ Some t → (u : TimelineOf B S P) × (slice_get after.timelines i ≡ Some u) × (u.ins ≡ t.ins)

  same_ins : (core after : CoreView B S P) → after.timelines ≡ core.timelines → HaveTheirIns core after
  same_ins core after same i t own = (t, ap (λ ts. slice_get ts i) same ∙ own, refl)

  ins_join : (core between after : CoreView B S P) → HaveTheirIns core between → HaveTheirIns between after → HaveTheirIns core after
  ins_join core between after a b i t own =
      let one = a i t own in
      let two = b i one.0 one.1 in
      (two.0, two.1, two.2 ∙ one.2)

  set_ins : (core after : CoreView B S P) (i : ℕ) (t next : TimelineOf B S P) → slice_get core.timelines i ≡ Some t → next.ins ≡ t.ins → after.timelines ≡ set core.timelines i next → HaveTheirIns core after
  set_ins core after i t next own same is k u at = elim (test_cases (nat_eq k i)) [
    | inl e ↦ (let place : k ≡ i = eqb-true k i e in
        let one : u ≡ t = one_of u t (sym at ∙ (ap (slice_get core.timelines) place ∙ own)) in (
          next,
          ap (λ ts. slice_get ts k) is ∙ (ap (slice_get (set core.timelines i next)) place ∙ set_here core.timelines i next (get_known core.timelines i t own)),
          same ∙ ap (λ (x : TimelineOf B S P). x.ins) (sym one),
        ))
    | inr f ↦ (u, ap (λ ts. slice_get ts k) is ∙ (set_there core.timelines i k next (get_known core.timelines i t own) (not_equal k i f) ∙ at), refl)
  ]

  taken_ins : (mail : Mails P) (cs : List ℕ) (t : TimelineOf B S P) → (taken_all mail cs t).ins ≡ t.ins
  taken_ins mail [] t = refl
  taken_ins mail (c ∷ cs) t = taken_ins mail cs (taken_on c (taken_parcel (mail_at mail c)) t)

  made_ins : (r : Reaction S P) (step : Step) (core after : CoreView B S P) → IsMade r step core after → HaveTheirIns core after
  made_ins r (Execute i) core after q = set_ins core after i q.timeline q.next q.own (ap (λ (x : TimelineOf B S P). x.ins) q.run.is) (ap (λ (k : CoreView B S P). k.timelines) q.is)
  made_ins r (Post i c) core after q = set_ins core after i q.timeline q.next q.own (ap (λ (x : TimelineOf B S P). x.ins) q.posted.timeline) (ap (λ (k : CoreView B S P). k.timelines) q.is)
  made_ins r (Take i) core after q =
      set_ins core after i q.timeline q.next q.own (ap (λ (x : TimelineOf B S P). x.ins) q.taken.timeline ∙ taken_ins q.mail q.mail.channels q.timeline) (ap (λ (k : CoreView B S P). k.timelines) q.is)
  made_ins r (Enter i) core after q = set_ins core after i q.timeline _ q.own refl (ap (λ (k : CoreView B S P). k.timelines) q.is)
  made_ins r (Report i) core after q = same_ins core after (ap (λ (k : CoreView B S P). k.timelines) q.is)
  made_ins r Cross core after q = same_ins core after (ap (λ (k : CoreView B S P). k.timelines) q.is)

  tried_ins : (r : Reaction S P) (step : Step) (core after : CoreView B S P) → IsTried r step core after → HaveTheirIns core after
  tried_ins r step core after q = elim (test_cases (is_enabled core step)) [
    | inl t ↦ made_ins r step core after (q.made t)
    | inr f ↦ same_ins core after (ap (λ (k : CoreView B S P). k.timelines) (q.passed f))
  ]

  pub tries_ins : (r : Reaction S P) (last : Option ℕ) (n : ℕ) (steps : List Step) (core after : CoreView B S P) → AreTries r last n steps core after → HaveTheirIns core after
  tries_ins r last zero steps core after is = same_ins core after (ap (λ (k : CoreView B S P). k.timelines) (sym is))
  tries_ins r last (suc n) [] core after q = ins_join core q.0 after (made_ins r q.2.step core q.0 q.2.made) (tries_ins r last n [] q.0 after q.3)
  tries_ins r last (suc n) (step ∷ steps) core after q = ins_join core q.0 after (tried_ins r step core q.0 q.2) (tries_ins r last n steps q.0 after q.3)

  left_ins : (between after : CoreView B S P) → (after ≡ between) ⊎ ((i : ℕ) × IsSpentIn i between after) → HaveTheirIns between after
  left_ins between after (inl same) = same_ins between after (ap (λ (k : CoreView B S P). k.timelines) same)
  left_ins between after (inr q) =
      set_ins between after q.0 q.1.timeline q.1.next q.1.own (ap (λ (x : TimelineOf B S P). x.ins) q.1.spent) (ap (λ (k : CoreView B S P). k.timelines) q.1.is)

  pub stopped_ins : (r : Reaction S P) (last : Option ℕ) (steps : List Step) (core after : CoreView B S P) → AreTriesUpTo r last steps core after → HaveTheirIns core after
  stopped_ins r last steps core after q = ins_join core q.between after (tries_ins r last q.count steps core q.between q.tries) (left_ins q.between after q.left)

-- ---- no bound falls

module _ {X E : Type 0} (s : Scene X E) (sh : IsShared s) (budget : ℕ) where
  steps_low : (n v : ℕ) (t after : CoreOf E) → IsSoundCore s v t → AreSteps s budget n t after → (i : ℕ) → low_of s i (t.lines i) ≤ low_of s i (after.lines i)
  steps_low zero v t after sound is i = subst (λ (u : CoreOf E). low_of s i (t.lines i) ≤ low_of s i (u.lines i)) is (omega arith)
  steps_low (suc n) v t after sound steps i =
      let next = step_keeps s sh v t sound budget steps.0 steps.1 in
      let first = step_low s sh v t sound budget steps.0 steps.1 i in
      let rest = steps_low n next.0 steps.0 after next.1 steps.2 i in
      omega (arith, first, rest)

  steps_safe : (n v : ℕ) (t after : CoreOf E) → IsSoundCore s v t → AreSteps s budget n t after → safe_bound s t.lines ≤ safe_bound s after.lines
  steps_safe zero v t after sound is = subst (λ (u : CoreOf E). safe_bound s t.lines ≤ safe_bound s u.lines) is (omega arith)
  steps_safe (suc n) v t after sound steps =
      let next = step_keeps s sh v t sound budget steps.0 steps.1 in
      let first = step_safe s sh v t sound budget steps.0 steps.1 in
      let rest = steps_safe n next.0 steps.0 after next.1 steps.2 in
      omega (arith, first, rest)

module _ {B S P : Type 0} (r : Reaction S P) (valid : Validity S) (carried : P → Type 0) (law : KeepsValid valid carried r) (modest : IsModest valid carried r)
    (plan : Plan B S P) (until : ℕ) (in_time : until ≤ LatestTime) (fits : Fits valid carried plan) (kept : Key → Bool) (line : ℕ → ℕ) (net : Net)
    (core : CoreView B S P) (at : ℕ → ℕ) (v : ℕ) (on : IsRunOnLines plan line core.budget (scene_of r plan until kept line net)) (sound : IsSoundFor plan line (scene_of r plan until kept line net) core at v) where
  abbrev s : Scene (States B S P) (Event P)
  s = scene_of r plan until kept line net

  module _ (after : CoreView B S P) (n : ℕ) (l : LeadsTo plan line s core at n after) where
    on_after : IsRunOnLines plan line after.budget s
    on_after = subst (λ m. IsRunOnLines plan line m s) (sym l.budget) on

    led_safe : safe_bound_in core ≤ safe_bound_in after
    led_safe =
        let one = safe_same r valid carried law modest plan until in_time fits kept line net core at v on sound in
        let two = safe_same r valid carried law modest plan until in_time fits kept line net after l.next l.before on_after l.sound in
        let up = steps_safe s on.shared core.budget n v (core_as s.net at core) (core_as s.net l.next after) sound.all l.steps in
        omega (arith, one, two, up)

    led_low : (i : ℕ) (t u : TimelineOf B S P) → slice_get core.timelines i ≡ Some t → slice_get after.timelines i ≡ Some u → low_in t ≤ low_in u
    led_low i t u own got =
        let one : low_in t ≡ low_of s i ((core_as s.net at core).lines i) =
        low_told r valid carried law modest plan until in_time fits kept line net core at v on sound i t own ∙ ap (low_of s i) (sym (line_here plan line s core at v sound i t own)) in
        let two : low_in u ≡ low_of s i ((core_as s.net l.next after).lines i) =
        low_told r valid carried law modest plan until in_time fits kept line net after l.next l.before on_after l.sound i u got ∙ ap (low_of s i) (sym (line_here plan line s after l.next l.before l.sound i u got)) in
        let up = steps_low s on.shared core.budget n v (core_as s.net at core) (core_as s.net l.next after) sound.all l.steps i in
        omega (arith, one, two, up)

  -- where the barrier has ended the budget ends nowhere
  ended_in : core.barrier.ended ≡ true → (i : ℕ) → BudgetEndsIn core i → ⊥
  ended_in ended i q =
      let t : TimelineOf B S P = q.timeline in
      let next : HasNext t = (over_is t q.over).0 in
      let found = budget_event r valid carried law modest plan until in_time fits kept line net core at v on sound i q next.event next.rest next.is in
      let own : IsOwnEvent s i core.budget found.0 next.event = found.1 in
      let here : s.line next.event ≡ i = eqb-true (s.line next.event) i own.own in
      let reached : found.0 < at (s.line next.event) = ended_reached r valid carried law modest plan until in_time fits kept line net core at v on sound ended found.0 next.event own.is in
      let before : found.0 < at i = subst (λ n. found.0 < at n) here reached in
      let more : line_events s i (suc found.0) ≡ line_events s i found.0 ++ next.event ∷ [] = share_own s.machine s.until s.kept s.opening (is_on_line s i) found.0 next.event own.is own.own in
      let long = ap length more in
      let parts = length-append (line_events s i found.0) (next.event ∷ []) in
      let grown = line_grows s i (suc found.0) (at i) (omega (arith, before)) in
      let part : IsPartOf plan line s core i (at i) t = sound.each i t q.own in
      let executed = part.sound.counted.executed in
      let few = part.sound.counted.few in
      let budget = part.budget in
      let count = own.count in
      omega (arith, long, parts, grown, executed, few, budget, count)

-- ---- all together

module _ {B S P : Type 0} where
  pub since_join : (core between after : CoreView B S P) → AreSince core between → AreSince between after → AreSince core after
  since_join core between after a b i old own =
      let one = a i old own in
      let two = b i one.0 one.1 in
      (two.0, two.1, joined old one.0 two.0 one.2 two.2)
    where
      joined : (x y z : TimelineOf B S P) → IsSince x y → IsSince y z → IsSince x z
      joined x y z p q = record {
        ins = q.ins ∙ p.ins;
        low = (let one = p.low in let two = q.low in omega (arith, one, two));
        more = p.more ++ q.more;
        history = q.history ∙ (ap (λ l. l ++ q.more) p.history ∙ append_assoc x.history p.more q.more);
        executed = (let one = p.executed in let two = q.executed in let long = length-append p.more q.more in omega (arith, one, two, long));
      }

module _ {B S P : Type 0} (r : Reaction S P) (valid : Validity S) (carried : P → Type 0) (law : KeepsValid valid carried r) (modest : IsModest valid carried r) where
  pub carried_by_steps : (core after : CoreView B S P) → IsCoreOfRun valid carried r core → AreCoreSteps valid carried r core after → IsOnward core after → HaveTheirIns core after
      → AreCarriedOn valid carried r core after
  carried_by_steps core after run steps onward ins =
      let q = steps run.plan core.until run.kept run.line run.net run.fits run.in_time run.at run.before run.run run.sound in
      record {
        run = run_stays r valid carried law modest core after steps run;
        same = record { behaviour = onward.behaviour; ends = onward.ends; until = onward.until; budget = onward.budget; before = onward.before; starts = onward.starts };
        sound = λ plan until kept line net fits in_time at v on sound. (let p = steps plan until kept line net fits in_time at v on sound in (p.1.next, p.1.before, p.1.sound));
        since = λ i old own. (let u = ins i old own in
            let grown = onward.grown.each i old u.0 own u.1 in (
              u.0,
              u.1,
              record {
                ins = u.2;
                low = led_low r valid carried law modest run.plan core.until run.in_time run.fits run.kept run.line run.net core run.at run.before run.run run.sound after q.0 q.1 i old u.0 own u.1;
                more = grown.more;
                history = grown.history;
                executed = grown.executed;
              },
            ));
        safe = led_safe r valid carried law modest run.plan core.until run.in_time run.fits run.kept run.line run.net core run.at run.before run.run run.sound after q.0 q.1;
      }

  pub carried_here : (core : CoreView B S P) → IsCoreOfRun valid carried r core → AreCarriedOn valid carried r core core
  carried_here core run = record {
    run = run;
    same = record { behaviour = refl; ends = refl; until = refl; budget = refl; before = refl; starts = refl };
    sound = λ plan until kept line net fits in_time at v on sound. (at, v, sound);
    since = λ i old own. (old, own, record { ins = refl; low = omega arith; more = []; history = sym (append-nil old.history); executed = omega arith });
    safe = omega arith;
  }

  pub ended_within : (core : CoreView B S P) → IsCoreOfRun valid carried r core → core.barrier.ended ≡ true → (i : ℕ) → BudgetEndsIn core i → ⊥
  ended_within core run = ended_in r valid carried law modest run.plan core.until run.in_time run.fits run.kept run.line run.net core run.at run.before run.run run.sound

module _ {B S P : Type 0} (valid : Validity S) (carried : P → Type 0) (r : Reaction S P) where
  pub carried_join : (core between after : CoreView B S P) → AreCarriedOn valid carried r core between → AreCarriedOn valid carried r between after → AreCarriedOn valid carried r core after
  carried_join core between after a b = record {
    run = b.run;
    same = record {
      behaviour = b.same.behaviour ∙ a.same.behaviour;
      ends = b.same.ends ∙ a.same.ends;
      until = b.same.until ∙ a.same.until;
      budget = b.same.budget ∙ a.same.budget;
      before = b.same.before ∙ a.same.before;
      starts = b.same.starts ∙ a.same.starts;
    };
    sound = λ plan until kept line net fits in_time at v on sound. (let p = a.sound plan until kept line net fits in_time at v on sound in
        let there = subst (λ n. IsRunOnLines plan line n (scene_of r plan until kept line net)) (sym a.same.budget) on in
        b.sound plan until kept line net fits in_time p.0 p.1 there p.2);
    since = since_join core between after a.since b.since;
    safe = (let one = a.safe in let two = b.safe in omega (arith, one, two));
  }

  -- parts that were gathered have gone on
  pub carried_by_gathering : (core after : CoreView B S P) → IsCoreOfRun valid carried r core → AreGathered valid carried r core after → AreCarriedOn valid carried r core after
  carried_by_gathering core after run q = record {
    run = run_still valid carried r core after q.counts q.home q.same run;
    same = q.same;
    sound = together valid carried r core after q.counts q.home q.same;
    since = since_key valid carried r core after q.counts q.home;
    safe = safe_rises valid carried r core after q.counts q.home q.same;
  }

-- and then they have gone on again
module _ {B S P : Type 0} (valid : B → Validity S) (carried : B → P → Type 0) (reaction : B → Reaction S P) where
  pub carried_twice : (core between after : CoreView B S P) → AreCarriedOn (valid core.behaviour) (carried core.behaviour) (reaction core.behaviour) core between
      → AreCarriedOn (valid between.behaviour) (carried between.behaviour) (reaction between.behaviour) between after → AreCarriedOn (valid core.behaviour) (carried core.behaviour) (reaction core.behaviour) core after
  carried_twice core between after a b =
      carried_join (valid core.behaviour) (carried core.behaviour) (reaction core.behaviour) core between after a
      (subst (λ d. AreCarriedOn (valid d) (carried d) (reaction d) between after) a.same.behaviour b)
