-- Parts that were gathered are in order.
use Rattle.std.proofs.Common.{◌≡◌, ℕ, ◌≤◌, map, sym, subst, Some, slice_get}
use Rattle.ssf_model.specs.Reaction.{Reaction, Validity, LatestTime}
use Rattle.timeline_parts.specs.Tables.{AreRising}
use Rattle.timeline.specs.View.{TimelineOf}
use Rattle.core_rules.specs.Cores.{CoreView, channel_in, IsCoreOfRun}
use Rattle.share_rules.specs.Places.{shares_of}
use Rattle.share_rules.specs.Home.{AreAtHome}
use Rattle.share_rules.specs.Gathered.{IsOfSame}
use Rattle.share_rules.proofs.Closes.{run_still}

module _ {B S P : Type 0} (valid : Validity S) (carried : P → Type 0) (r : Reaction S P) (key core : CoreView B S P) (same : IsOfSame key core) (run : IsCoreOfRun valid carried r key) where
  pub still_in_time : core.until ≤ LatestTime
  still_in_time = subst (λ u. u ≤ LatestTime) (sym same.until) run.in_time

  pub still_rising : AreRising (map channel_in core.ends)
  still_rising = subst (λ es. AreRising (map channel_in es)) (sym same.ends) run.sound.ends.rising

  pub same_until : (f : ℕ → ℕ) → AreAtHome valid carried r key f (shares_of core) → (i : ℕ) (t : TimelineOf B S P) → slice_get core.timelines i ≡ Some t → t.until ≡ core.until
  same_until f home i t own = (let still : IsCoreOfRun valid carried r core = run_still valid carried r key core f home same run in (still.sound.each i t own).sound.until)
