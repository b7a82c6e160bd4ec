-- Parts of a run as a list of values.
use Rattle.std.specs.Prelude.{ℕ, ◌≡◌, ◌+◌, ◌<◌, ◌≤◌, List, [], ◌∷◌, ◌++◌, map, length, Some, slice_get}
use Rattle.barrier_window.specs.BarrierFields.{BarrierFields}
use Rattle.appointments.specs.Mails.{Mails}
use Rattle.timeline.specs.View.{TimelineOf}
use Rattle.share_turns.specs.declared.share.Share.{Share}
use Rattle.share_turns.specs.declared.share.Share.TheVariants.{Timeline, Mail, Barrier}
use Rattle.share_turns.specs.Shares.{IsTimeline, IsMail, IsBarrier}

module _ {B S P : Type 0} where
  abbrev pub of_timelines : List (TimelineOf B S P) → List (Share B S P)
  of_timelines timelines = map Timeline timelines

  abbrev pub of_mails : List (Mails P) → List (Share B S P)
  of_mails mails = map Mail mails

  -- timelines, then mails, then the barrier
  abbrev pub laid_out : List (TimelineOf B S P) → List (Mails P) → BarrierFields → List (Share B S P)
  laid_out timelines mails barrier = of_timelines timelines ++ (of_mails mails ++ Barrier barrier ∷ [])

  -- the law holds of the last n of these values
  abbrev pub LastAre : (Share B S P → Type 0) → ℕ → List (Share B S P) → Type 0
  LastAre law n values = (p : ℕ) (x : Share B S P) → slice_get values p ≡ Some x → length values ≤ p + n → law x

  -- these are n timelines, their mails and the barrier
  pub record AreLaid (n : ℕ) (values : List (Share B S P)) : Type 0 where
    pub long : length values ≡ n + n + 1
    pub timelines : (p : ℕ) (x : Share B S P) → slice_get values p ≡ Some x → p < n → IsTimeline x
    pub mails : (p : ℕ) (x : Share B S P) → slice_get values p ≡ Some x → n ≤ p → p < n + n → IsMail x
    pub barrier : (p : ℕ) (x : Share B S P) → slice_get values p ≡ Some x → p ≡ n + n → IsBarrier x
