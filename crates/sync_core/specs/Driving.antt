-- Steps that are made one after the other, up to an end.
use Rattle.std.specs.Prelude.{ℕ, zero, suc, ◌≡◌, ◌+◌, ◌<◌, ◌⊎◌, true, false, List, [], ◌∷◌, ◌++◌, length, Option, Some, None, slice_get}
use Rattle.ssf_model.specs.declared.event.Entry.{Entry}
use Rattle.ssf_model.specs.Reaction.{Reaction}
use Rattle.timeline.specs.View.{TimelineOf}
use Rattle.sync_steps.specs.declared.steps.Step.{Step}
use Rattle.core_rules.specs.Cores.{CoreView}
use Rattle.core_rules.specs.Stepping.{is_enabled, IsMade, IsSpentIn}
use Rattle.core_rules.specs.Reading.{BudgetEndsIn}
use Rattle.sync_core.specs.Steps.{enabled_steps}

module _ {B S P : Type 0} where
  -- ---- ends

  -- i is the least timeline at which the budget ends
  pub record EndsFirstAt (core : CoreView B S P) (i : ℕ) : Type 0 where
    pub here : BudgetEndsIn core i
    pub least : (j : ℕ) → j < i → BudgetEndsIn core j → ⊥

  -- the round is the one up to which is driven, if there is one
  abbrev pub HasCome : Option ℕ → CoreView B S P → Type 0
  HasCome None core = ⊥
  HasCome (Some round) core = core.barrier.round ≡ round

  -- driving goes on: the barrier has not ended, the budget ends at no timeline, and the round is not that one
  pub record GoesOn (last : Option ℕ) (core : CoreView B S P) : Type 0 where
    pub running : core.barrier.ended ≡ false
    pub within : (i : ℕ) → BudgetEndsIn core i → ⊥
    pub short : HasCome last core → ⊥

  -- ---- steps

  -- the step was made if it was enabled, and else passed over
  pub record IsTried (r : Reaction S P) (step : Step) (core after : CoreView B S P) : Type 0 where
    pub made : is_enabled core step ≡ true → IsMade r step core after
    pub passed : is_enabled core step ≡ false → after ≡ core

  -- the first of the enabled steps was made
  pub record IsFirstMade (r : Reaction S P) (core after : CoreView B S P) : Type 0 where
    pub step : Step
    pub first : slice_get (enabled_steps core) 0 ≡ Some step
    pub made : IsMade r step core after

  -- so many steps, each where driving goes on: those of the schedule are tried in order, and then the first enabled ones are made
  abbrev pub AreTries : Reaction S P → Option ℕ → ℕ → List Step → CoreView B S P → CoreView B S P → Type 0
  AreTries r last zero steps core after = core ≡ after
  AreTries r last (suc n) [] core after = (between : CoreView B S P) × GoesOn last core × IsFirstMade r core between × AreTries r last n [] between after
  AreTries r last (suc n) (step ∷ steps) core after = (between : CoreView B S P) × GoesOn last core × IsTried r step core between × AreTries r last n steps between after

  -- and then there was no memory: where a timeline was to execute, it is spent, and else nothing has changed
  pub record AreTriesUpTo (r : Reaction S P) (last : Option ℕ) (steps : List Step) (core after : CoreView B S P) : Type 0 where
    pub count : ℕ
    pub between : CoreView B S P
    pub tries : AreTries r last count steps core between
    pub left : (after ≡ between) ⊎ ((i : ℕ) × IsSpentIn i between after)

  -- ---- what grows

  -- a timeline has executed more, and has the entries of this at the end of its history
  pub record HasGrown (t after : TimelineOf B S P) : Type 0 where
    pub more : List Entry
    pub history : after.history ≡ t.history ++ more
    pub executed : after.executed ≡ t.executed + length more

  -- the timelines are as many, and each has grown
  pub record HaveGrown (ts after : List (TimelineOf B S P)) : Type 0 where
    pub many : length after ≡ length ts
    pub each : (i : ℕ) (t next : TimelineOf B S P) → slice_get ts i ≡ Some t → slice_get after i ≡ Some next → HasGrown t next

  -- the parts have gone on: timelines have grown, and what no step changes is as it was
  pub record IsOnward (core after : CoreView B S P) : Type 0 where
    pub grown : HaveGrown core.timelines after.timelines
    pub behaviour : after.behaviour ≡ core.behaviour
    pub ends : after.ends ≡ core.ends
    pub until : after.until ≡ core.until
    pub budget : after.budget ≡ core.budget
    pub before : after.before ≡ core.before
    pub starts : after.starts ≡ core.starts
