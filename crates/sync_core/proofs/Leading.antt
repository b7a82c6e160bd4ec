-- Where a step leads, whatever it answers.
use Rattle.std.proofs.Common.{ℕ, ◌≡◌, ◌+◌, ◌≤◌, ◌∙◌, refl, sym, ap, subst, arith, List, map, Result, Ok, Err}
use Rattle.std.specs.Prelude.{OnErr}
use Rattle.ssf_model.specs.Reaction.{Reaction, Validity, KeepsValid}
use Rattle.ssf_model.specs.Deliver.{IsModest}
use Rattle.event_order.specs.Pending.{Among}
use Rattle.timeline.specs.View.{TimelineOf}
use Rattle.timeline.specs.Holding.{low_in}
use Rattle.timeline.specs.Moving.{without}
use Rattle.sync_steps.specs.declared.steps.Stepped.{Stepped}
use Rattle.sync_steps.specs.declared.steps.Stepped.TheVariants.{Did, NotEnabled}
use Rattle.sync_steps.specs.declared.steps.Step.{Step}
use Rattle.sync_steps.specs.declared.steps.Step.TheVariants.{Execute, Post, Take, Enter, Report, Cross}
use Rattle.core_rules.specs.Cores.{CoreView, IsCoreOfRun}
use Rattle.core_rules.specs.Leading.{AreCoreSteps}
use Rattle.core_rules.specs.Stepping.{IsMade, IsSpentIn, without_below}
use Rattle.core_rules.proofs.Leads.{made_leads, spent_stays, given_up_stays, none_joins, run_stays}
use Rattle.core_rules.specs.Reading.{safe_bound_in}
use Rattle.sync_core.specs.Steps.{IsRefused}
use Rattle.sync_core.proofs.Lists.{least_low_each}

module _ {B S P : Type 0} (r : Reaction S P) (R : CoreView B S P → CoreView B S P → Type 0)
    (makes : (step : Step) (core after : CoreView B S P) → IsMade r step core after → R core after)
    (spends : (i : ℕ) (core after : CoreView B S P) → IsSpentIn i core after → R core after)
    (stays : (core : CoreView B S P) → R core core) where
  kept_leads : (core after : CoreView B S P) → after ≡ core → R core after
  kept_leads core after same = subst (λ (a : CoreView B S P). R core a) (sym same) (stays core)

  refused_leads : (step : Step) (core after : CoreView B S P) → IsRefused step core after → R core after
  refused_leads (Execute i) core after q = spends i core after q
  refused_leads (Post i c) core after q = kept_leads core after q
  refused_leads (Take i) core after q = kept_leads core after q
  refused_leads (Enter i) core after q = kept_leads core after q
  refused_leads (Report i) core after q = kept_leads core after q
  refused_leads Cross core after q = kept_leads core after q

  pub step_leads : {E : Type 0} (step : Step) (core after : CoreView B S P) (result : Result Stepped E) → (result ≡ Ok Did → IsMade r step core after) → (result ≡ Ok NotEnabled → after ≡ core)
      → OnErr result (IsRefused step core after) → R core after
  step_leads step core after (Ok Did) made kept refused = makes step core after (made refl)
  step_leads step core after (Ok NotEnabled) made kept refused = kept_leads core after (kept refl)
  step_leads step core after (Err e) made kept refused = refused_leads step core after refused

module _ {B S P : Type 0} where
  made_behaviour : (r : Reaction S P) (step : Step) (core after : CoreView B S P) → IsMade r step core after → after.behaviour ≡ core.behaviour
  made_behaviour r (Execute i) core after q = ap (λ (x : CoreView B S P). x.behaviour) q.is
  made_behaviour r (Post i c) core after q = ap (λ (x : CoreView B S P). x.behaviour) q.is
  made_behaviour r (Take i) core after q = ap (λ (x : CoreView B S P). x.behaviour) q.is
  made_behaviour r (Enter i) core after q = ap (λ (x : CoreView B S P). x.behaviour) q.is
  made_behaviour r (Report i) core after q = ap (λ (x : CoreView B S P). x.behaviour) q.is
  made_behaviour r Cross core after q = ap (λ (x : CoreView B S P). x.behaviour) q.is

  -- and the behaviour stays
  pub step_behaviour : {E : Type 0} (r : Reaction S P) (step : Step) (core after : CoreView B S P) (result : Result Stepped E) → (result ≡ Ok Did → IsMade r step core after)
      → (result ≡ Ok NotEnabled → after ≡ core) → OnErr result (IsRefused step core after) → after.behaviour ≡ core.behaviour
  step_behaviour r step core after result made kept refused =
      step_leads r (λ c a. a.behaviour ≡ c.behaviour) (made_behaviour r) (λ i c a q. ap (λ (x : CoreView B S P). x.behaviour) q.is) (λ c. refl) step core after result made kept refused

module _ {B S P : Type 0} (r : Reaction S P) (valid : Validity S) (carried : P → Type 0) (law : KeepsValid valid carried r) (modest : IsModest valid carried r) where
  -- where a step leads, steps of the rules do
  pub step_core_steps : {E : Type 0} (step : Step) (core after : CoreView B S P) (result : Result Stepped E) → (result ≡ Ok Did → IsMade r step core after) → (result ≡ Ok NotEnabled → after ≡ core)
      → OnErr result (IsRefused step core after) → AreCoreSteps valid carried r core after
  step_core_steps step core after result made kept refused =
      step_leads r (AreCoreSteps valid carried r)
      (λ st c a q plan until keep line net fits in_time at v on sound.
      let m = made_leads r valid carried law modest plan until in_time fits keep line net c at v on sound st a q in (m.0, m.2))
      (λ i c a q plan until keep line net fits in_time at v on sound. (0, spent_stays r valid carried law modest plan until in_time fits keep line net c at v on sound i a q))
      (λ c. none_joins r valid carried law modest c)
      step core after result made kept refused

  -- so the parts stay those of a run
  pub step_of_run : {E : Type 0} (step : Step) (core after : CoreView B S P) (result : Result Stepped E) → (result ≡ Ok Did → IsMade r step core after) → (result ≡ Ok NotEnabled → after ≡ core)
      → OnErr result (IsRefused step core after) → IsCoreOfRun valid carried r core → IsCoreOfRun valid carried r after
  step_of_run step core after result made kept refused q =
      run_stays r valid carried law modest core after (step_core_steps step core after result made kept refused) q

module _ {B S P : Type 0} (reaction : B → Reaction S P) (valid : B → Validity S) (carried : B → P → Type 0) (law : (b : B) → KeepsValid (valid b) (carried b) (reaction b))
    (modest : (b : B) → IsModest (valid b) (carried b) (reaction b)) where
  -- the parts stay those of a run where entries are given up
  pub given_of_run : (below : ℕ) (core after : CoreView B S P) → after ≡ without_below below core → IsCoreOfRun (valid core.behaviour) (carried core.behaviour) (reaction core.behaviour) core
      → IsCoreOfRun (valid after.behaviour) (carried after.behaviour) (reaction after.behaviour) after
  given_of_run below core after is q =
      let b = core.behaviour in
      let there : IsCoreOfRun (valid b) (carried b) (reaction b) (without_below below core) =
      run_stays (reaction b) (valid b) (carried b) (law b) (modest b) core (without_below below core)
      (λ plan until keep line net fits in_time at v on sound. (0, given_up_stays (reaction b) (valid b) (carried b) (law b) (modest b) plan until in_time fits keep line net core at v on sound below)) q in
      subst (λ (k : CoreView B S P). IsCoreOfRun (valid k.behaviour) (carried k.behaviour) (reaction k.behaviour) k) (sym is) there

module _ {B S P : Type 0} where
  pub given_outside : (inner core : CoreView B S P) (ts : List (TimelineOf B S P)) (below : ℕ) → inner ≡ core → ts ≡ map (without below) inner.timelines → record inner { timelines = ts } ≡ without_below below core
  given_outside inner core ts below same is = ap (λ (us : List (TimelineOf B S P)). record inner { timelines = us }) is ∙ ap (without_below below) same

  pub bound_each : (inner core : CoreView B S P) (below : ℕ) (t : TimelineOf B S P) → inner ≡ core → below ≤ safe_bound_in core → Among t inner.timelines → below ≤ low_in t
  bound_each inner core below t same low a =
      let least = least_low_each inner.timelines (inner.until + 1) t a in
      let here : below ≤ safe_bound_in inner = subst (λ (k : CoreView B S P). below ≤ safe_bound_in k) (sym same) low in
      omega (arith, least, here)
