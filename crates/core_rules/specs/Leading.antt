-- Where steps of the rules lead, for each run for which the parts were sound.
use Rattle.std.specs.Prelude.{ℕ, zero, suc, ◌≡◌, ◌<◌, ◌≤◌}
use Rattle.ssf_model.specs.declared.event.Event.{Event}
use Rattle.ssf_model.specs.declared.plan.Plan.{Plan}
use Rattle.ssf_model.specs.Reaction.{Reaction, Validity}
use Rattle.ssf_model.specs.Run.{States}
use Rattle.ssf_model.specs.Runs.{OfEachFittingRun}
use Rattle.ssf_model.specs.Scene.{Scene}
use Rattle.sync_rules.specs.Parts.{CoreOf}
use Rattle.sync_rules.specs.Bounds.{IsInto, IsOutOf}
use Rattle.sync_rules.specs.Steps.{CanExecute, CanPost, CanTake, CanEnter, CanReport, CanCross, IsStep}
use Rattle.sync_steps.specs.declared.steps.Step.{Step}
use Rattle.sync_steps.specs.declared.steps.Step.TheVariants.{Execute, Post, Take, Enter, Report, Cross}
use Rattle.timeline.specs.Sound.{IsRunOnLines}
use Rattle.core_rules.specs.Cores.{CoreView, core_as, IsSoundFor}

-- n steps of the rules lead from the parts before to the parts t
abbrev pub AreSteps : {X E : Type 0} → Scene X E → ℕ → ℕ → CoreOf E → CoreOf E → Type 0
AreSteps s budget zero before t = before ≡ t
AreSteps {X} {E} s budget (suc n) before t = (between : CoreOf E) × IsStep s budget before between × AreSteps s budget n between t

-- the rules let the step be made. A timeline takes its mail where some channel has something for it
abbrev pub MayStep : {X E : Type 0} → Scene X E → ℕ → CoreOf E → Step → Type 0
MayStep s budget t (Execute i) = (i < s.net.timelines) × CanExecute s budget i (t.lines i)
MayStep s budget t (Post i c) = IsOutOf s.net i c × CanPost s i c (t.lines i) (t.mails c)
MayStep s budget t (Take i) = (c : ℕ) × IsInto s.net i c × CanTake c (t.lines i) (t.mails c)
MayStep s budget t (Enter i) = (i < s.net.timelines) × CanEnter s.net i (t.lines i) t.barrier
MayStep s budget t (Report i) = (i < s.net.timelines) × CanReport s i (t.lines i) t.barrier
MayStep s budget t Cross = CanCross s.net.timelines t.barrier

-- how many steps of the rules a step on all parts makes: one, or, where a timeline takes its mail, one for each channel
-- that has something for it
abbrev pub IsCountOf : Step → ℕ → Type 0
IsCountOf (Execute i) n = n ≡ 1
IsCountOf (Post i c) n = n ≡ 1
IsCountOf (Take i) n = 1 ≤ n
IsCountOf (Enter i) n = n ≡ 1
IsCountOf (Report i) n = n ≡ 1
IsCountOf Cross n = n ≡ 1

module _ {B S P : Type 0} where
  -- n steps of the rules lead from the parts, where timeline i stands at the moment `at i`, to parts that are sound again
  pub record LeadsTo (plan : Plan B S P) (line : ℕ → ℕ) (s : Scene (States B S P) (Event P)) (core : CoreView B S P) (at : ℕ → ℕ) (n : ℕ) (after : CoreView B S P) : Type 0 where
    pub budget : after.budget ≡ core.budget
    pub next : ℕ → ℕ
    pub before : ℕ
    pub sound : IsSoundFor plan line s after next before
    pub steps : AreSteps s core.budget n (core_as s.net at core) (core_as s.net next after)

  -- for each run for which the parts are sound: a step leads to the parts `after`, and any number of steps do
  abbrev pub IsCoreStep : Validity S → (P → Type 0) → Reaction S P → Step → CoreView B S P → CoreView B S P → Type 0
  IsCoreStep valid carried r step core after = OfEachFittingRun valid carried r (λ plan line s. (at : ℕ → ℕ) (v : ℕ)
      → IsRunOnLines plan line core.budget s → IsSoundFor plan line s core at v → (n : ℕ) × IsCountOf step n × LeadsTo plan line s core at n after)

  abbrev pub AreCoreSteps : Validity S → (P → Type 0) → Reaction S P → CoreView B S P → CoreView B S P → Type 0
  AreCoreSteps valid carried r core after = OfEachFittingRun valid carried r (λ plan line s. (at : ℕ → ℕ) (v : ℕ)
      → IsRunOnLines plan line core.budget s → IsSoundFor plan line s core at v → (n : ℕ) × LeadsTo plan line s core at n after)
