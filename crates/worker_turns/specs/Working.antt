-- When a worker has done what there was to do for a timeline.
use Rattle.std.specs.Prelude.{ℕ, ◌≡◌, ◌<◌, ◌≤◌, ◌⊎◌, Some, List, slice_get}
use Rattle.turn_table.specs.declared.view.View.{View}
use Rattle.turn_table.specs.Views.{lost}
use Rattle.plan_shares.specs.declared.crosses.CrossEnd.{CrossEnd}
use Rattle.sync_steps.specs.declared.steps.Step.TheVariants.{Post, Take, Enter, Report, Cross}
use Rattle.core_rules.specs.Cores.{CoreView}
use Rattle.share_rules.specs.Places.{count_of, mail_place, barrier_place}
use Rattle.worker_hands.specs.declared.hand.Made.{Made}
use Rattle.worker_hands.specs.Asked.{last_answer, WasNotEnabled, IsSpentOn, IsUncrossed}

-- a try for the turn of the place was lost
abbrev pub HasLost : View → View → ℕ → Type 0
HasLost v w p = lost v p < lost w p

module _ {B S P : Type 0} (key : CoreView B S P) where
  -- a worker has done what there was to do for timeline i: where it did not lose a try for its mail, the mail of a receiver or
  -- the barrier, each step of the timeline on that part was not enabled at the last
  pub record IsWorked (most i : ℕ) (v w : View) (made : List Made) : Type 0 where
    pub take : HasLost v w (mail_place key i) ⊎ WasNotEnabled (Take i) made
    pub posts : (k : ℕ) (end : CrossEnd) → slice_get key.ends k ≡ Some end → end.sender ≡ i → HasLost v w (mail_place key end.receiver) ⊎ WasNotEnabled (Post i end.channel) made
    pub barrier : HasLost v w (barrier_place key) ⊎ (WasNotEnabled (Enter i) made × (WasNotEnabled (Report i) made × IsUncrossed (last_answer Cross made)))
    pub executed : IsSpentOn most i made

  -- tries were lost, and none for a timeline's place
  pub record HasLostMore (v w : View) : Type 0 where
    pub rises : (p : ℕ) → lost v p ≤ lost w p
    pub own : (p : ℕ) → p < count_of key → lost w p ≡ lost v p
