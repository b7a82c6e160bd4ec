-- Of which steps a turn is made, and how many events they execute.
use Rattle.std.proofs.Common.{◌≡◌, ℕ, ◌+◌, ◌≤◌, inl, inr, refl, sym, subst, arith, List, Some, slice_get}
use Rattle.std.proofs.lemmas.List.Elements.{All-nil}
use Rattle.plan_shares.specs.declared.crosses.CrossEnd.{CrossEnd}
use Rattle.core_rules.specs.Cores.{CoreView}
use Rattle.sync_steps.specs.declared.steps.Step.{Step}
use Rattle.sync_steps.specs.declared.steps.Step.TheVariants.{Execute, Post, Take, Enter, Report, Cross}
use Rattle.worker_hands.specs.declared.hand.Made.{Made}
use Rattle.worker_hands.specs.Hands.{HandView, IsAsked}
use Rattle.worker_hands.specs.Asked.{AreOf, runs_in}
use Rattle.worker_turns.specs.Turning.{IsOfTurn, AreAll, AreSteps}
use Rattle.worker_turns.proofs.Lists.{asked_more, asked_then, asked_nothing, runs_of_both, all_wider, all_of_both}

module _ {B S P : Type 0} (key : CoreView B S P) (i : ℕ) where
  pub is_taking : IsOfTurn key i (Take i)
  is_taking = inr (inl refl)

  pub is_posting : (k : ℕ) (end : CrossEnd) → slice_get key.ends k ≡ Some end → end.sender ≡ i → IsOfTurn key i (Post i end.channel)
  is_posting k end is sender = inr (inr (inl (record { k = k; end = end; is = is; sender = sender; post = refl })))

  pub is_entering : IsOfTurn key i (Enter i)
  is_entering = inr (inr (inr (inl refl)))

  pub is_reporting : IsOfTurn key i (Report i)
  is_reporting = inr (inr (inr (inr (inl refl))))

  pub is_crossing : IsOfTurn key i Cross
  is_crossing = inr (inr (inr (inr (inr refl))))

  -- nothing was asked
  pub steps_none : (most : ℕ) (h : HandView) → IsAsked h h (AreSteps key most i)
  steps_none most h = asked_nothing h (AreSteps key most i) (record { all = All-nil (λ m. IsOfTurn key i m.step); runs = omega arith })

  -- one step was asked for, again and again, and no event was executed
  pub steps_of : (step : Step) → IsOfTurn key i step → (old new : HandView) → IsAsked old new (λ made. AreOf step made × (runs_in made ≡ 0)) → IsAsked old new (AreSteps key 0 i)
  steps_of step of old new = asked_more old new (λ made. AreOf step made × (runs_in made ≡ 0)) (AreSteps key 0 i) (λ made q. record {
    all = all_wider (λ s. s ≡ step) (IsOfTurn key i) (λ s is. subst (λ x. IsOfTurn key i x) (sym is) of) made q.0;
    runs = (let none = q.1 in omega arith);
  })

  -- one after the other, while no event was executed
  pub still_then : (h0 h1 h2 : HandView) → IsAsked h0 h1 (AreSteps key 0 i) → IsAsked h1 h2 (AreSteps key 0 i) → IsAsked h0 h2 (AreSteps key 0 i)
  still_then h0 h1 h2 = asked_then h0 h1 h2 (AreSteps key 0 i) (AreSteps key 0 i) (AreSteps key 0 i) (λ xs ys p q. record {
    all = all_of_both (IsOfTurn key i) xs ys p.all q.all;
    runs = (let both = runs_of_both xs ys in let one = p.runs in let two = q.runs in omega arith);
  })

  -- at the barrier
  pub entered_reported : (h0 h1 h2 : HandView) → IsAsked h0 h1 (λ made. AreOf (Enter i) made × (runs_in made ≡ 0)) → IsAsked h1 h2 (λ made. AreOf (Report i) made × (runs_in made ≡ 0)) → IsAsked h0 h2 (AreSteps key 0 i)
  entered_reported h0 h1 h2 enters reports = still_then h0 h1 h2 (steps_of (Enter i) is_entering h0 h1 enters) (steps_of (Report i) is_reporting h1 h2 reports)

  pub entered_crossed : (h0 h1 h2 h3 : HandView) → IsAsked h0 h1 (λ made. AreOf (Enter i) made × (runs_in made ≡ 0)) → IsAsked h1 h2 (λ made. AreOf (Report i) made × (runs_in made ≡ 0)) → IsAsked h2 h3 (λ made. AreOf Cross made × (runs_in made ≡ 0))
      → IsAsked h0 h3 (AreSteps key 0 i)
  entered_crossed h0 h1 h2 h3 enters reports crosses = still_then h0 h2 h3 (entered_reported h0 h1 h2 enters reports) (steps_of Cross is_crossing h2 h3 crosses)

  -- ---- while events are left to be executed

  -- steps of timeline i, by which the events left went down
  pub record AreDown (left after : ℕ) (made : List Made) : Type 0 where
    pub all : AreAll (IsOfTurn key i) made
    pub runs : runs_in made + after ≤ left

  pub down_still : (left : ℕ) (old new : HandView) → IsAsked old new (AreSteps key 0 i) → IsAsked old new (AreDown left left)
  down_still left old new = asked_more old new (AreSteps key 0 i) (AreDown left left) (λ made q. record { all = q.all; runs = (let none = q.runs in omega arith) })

  pub down_runs : (left after : ℕ) (old new : HandView) → IsAsked old new (λ made. AreOf (Execute i) made × (runs_in made + after ≡ left)) → IsAsked old new (AreDown left after)
  down_runs left after old new = asked_more old new (λ made. AreOf (Execute i) made × (runs_in made + after ≡ left)) (AreDown left after) (λ made q. record {
    all = all_wider (λ s. s ≡ Execute i) (IsOfTurn key i) (λ s is. inl is) made q.0;
    runs = (let sum = q.1 in omega arith);
  })

  pub down_then : (a b c : ℕ) (h0 h1 h2 : HandView) → IsAsked h0 h1 (AreDown a b) → IsAsked h1 h2 (AreDown b c) → IsAsked h0 h2 (AreDown a c)
  down_then a b c h0 h1 h2 = asked_then h0 h1 h2 (AreDown a b) (AreDown b c) (AreDown a c) (λ xs ys p q. record {
    all = all_of_both (IsOfTurn key i) xs ys p.all q.all;
    runs = (let both = runs_of_both xs ys in let one = p.runs in let two = q.runs in omega arith);
  })

  pub down_all : (most last : ℕ) (old new : HandView) → IsAsked old new (AreDown most last) → IsAsked old new (AreSteps key most i)
  down_all most last old new = asked_more old new (AreDown most last) (AreSteps key most i) (λ made q. record { all = q.all; runs = (let sum = q.runs in omega arith) })

  -- ---- the parts of a turn: it takes its mail, executes, meets the barrier, executes, and posts
  module _ (most left last : ℕ) (h0 h1 h2 : HandView) (takes : IsAsked h0 h1 (AreSteps key 0 i)) (runs : IsAsked h1 h2 (λ made. AreOf (Execute i) made × (runs_in made + left ≡ most))) where
    down_once : IsAsked h0 h2 (AreDown most left)
    down_once = down_then most most left h0 h1 h2 (down_still most h0 h1 takes) (down_runs most left h1 h2 runs)

    pub executed_once : IsAsked h0 h2 (AreSteps key most i)
    executed_once = down_all most left h0 h2 down_once

    module _ (h3 : HandView) (meets : IsAsked h2 h3 (AreSteps key 0 i)) where
      down_met : IsAsked h0 h3 (AreDown most left)
      down_met = down_then most left left h0 h2 h3 down_once (down_still left h2 h3 meets)

      pub met_then : IsAsked h0 h3 (AreSteps key most i)
      met_then = down_all most left h0 h3 down_met

      module _ (h4 : HandView) (again : IsAsked h3 h4 (λ made. AreOf (Execute i) made × (runs_in made + last ≡ left))) where
        down_twice : IsAsked h0 h4 (AreDown most last)
        down_twice = down_then most left last h0 h3 h4 down_met (down_runs left last h3 h4 again)

        pub executed_twice : IsAsked h0 h4 (AreSteps key most i)
        executed_twice = down_all most last h0 h4 down_twice

        pub posted_then : (h5 : HandView) → IsAsked h4 h5 (AreSteps key 0 i) → IsAsked h0 h5 (AreSteps key most i)
        posted_then h5 posts = down_all most last h0 h5 (down_then most last last h0 h4 h5 down_twice (down_still last h4 h5 posts))

  pub taken_only : (most : ℕ) (old new : HandView) → IsAsked old new (AreSteps key 0 i) → IsAsked old new (AreSteps key most i)
  taken_only most old new takes = down_all most most old new (down_still most old new takes)
