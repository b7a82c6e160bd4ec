-- What comes of parts where they are put together again, and how workers have ended.
use Rattle.std.proofs.Common.{◌≡◌, ℕ, ◌<◌, length, refl, sym, subst, arith}
use Rattle.ssf_model.specs.Reaction.{Reaction, Validity}
use Rattle.core_rules.specs.Cores.{CoreView, IsCoreOfRun}
use Rattle.sync_core.specs.Cores.{IsOrdered}
use Rattle.share_rules.proofs.Closes.{timeline_home}
use Rattle.share_rules.proofs.Gathering.{still_in_time, still_rising, same_until}
use Rattle.worker_pool.specs.declared.pool.PoolEnd.{PoolEnd}
use Rattle.worker_pool.specs.declared.pool.PoolEnd.TheVariants.{Finished, Stopped, OverBudget, Memory, Crossed}
use Rattle.worker_pool.specs.Carried.{AreGathered, AreCarriedOn}
use Rattle.worker_pool.specs.Ends.{IsTrueEnd, AreNotStopped, IsStopFirst}
use Rattle.worker_pool.proofs.Onward.{carried_by_gathering}

-- where no worker was stopped, and the end says so
pub not_stopped : (stopped : ℕ → Type 0) (end : PoolEnd) → IsStopFirst stopped end → ((w : ℕ) → end ≡ Stopped w → ⊥) → AreNotStopped stopped
not_stopped stopped Finished q none = q
not_stopped stopped (Stopped w) q none = λ k s. none w refl
not_stopped stopped (OverBudget i) q none = q
not_stopped stopped Memory q none = q
not_stopped stopped Crossed q none = q

module _ {B S P : Type 0} where
  -- an end that no gate made, where no worker was stopped
  pub no_stop : (stopped : ℕ → Type 0) (last : ℕ) (core : CoreView B S P) (end : PoolEnd) → IsTrueEnd (λ w. ⊥) last core end → AreNotStopped stopped → IsStopFirst stopped end
  no_stop stopped last core Finished q none = none
  no_stop stopped last core (Stopped w) q none = absurd q
  no_stop stopped last core (OverBudget i) q none = none
  no_stop stopped last core Memory q none = none
  no_stop stopped last core Crossed q none = none

  -- an end that no gate made is one where some gate may have been closed
  pub any_end : (stopped : ℕ → Type 0) (last : ℕ) (core : CoreView B S P) (end : PoolEnd) → IsTrueEnd (λ w. ⊥) last core end → IsTrueEnd stopped last core end
  any_end stopped last core Finished q = q
  any_end stopped last core (Stopped w) q = absurd q
  any_end stopped last core (OverBudget i) q = q
  any_end stopped last core Memory q = q
  any_end stopped last core Crossed q = q

  pub few_timelines : (valid : Validity S) (carried : P → Type 0) (r : Reaction S P) (core : CoreView B S P) (most : ℕ) → IsCoreOfRun valid carried r core → length core.barrier.reports < most → length core.timelines < most
  few_timelines valid carried r core most run few = (let one = run.sound.timelines in let two = run.sound.barrier.timelines in omega (arith, one, two, few))

  pub ordered_again : (valid : Validity S) (carried : P → Type 0) (r : Reaction S P) (key core : CoreView B S P) → IsCoreOfRun valid carried r key → AreGathered valid carried r key core → IsOrdered core
  ordered_again valid carried r key core run q = record {
    until = still_in_time valid carried r key core q.same run;
    rising = still_rising valid carried r key core q.same run;
    each = λ i t own. record { last = same_until valid carried r key core q.same run q.counts q.home i t own; crosses = (timeline_home valid carried r key core q.counts q.home i t own).0.crosses };
  }

module _ {B S P : Type 0} (valid : B → Validity S) (carried : B → P → Type 0) (reaction : B → Reaction S P) (core key after result : CoreView B S P) (out : key ≡ core) (back : result ≡ after)
    (run : IsCoreOfRun (valid core.behaviour) (carried core.behaviour) (reaction core.behaviour) core) (q : AreGathered (valid key.behaviour) (carried key.behaviour) (reaction key.behaviour) key after) where
  gathered_core : AreGathered (valid core.behaviour) (carried core.behaviour) (reaction core.behaviour) core after
  gathered_core = subst (λ (k : CoreView B S P). AreGathered (valid k.behaviour) (carried k.behaviour) (reaction k.behaviour) k after) out q

  pub in_order : IsOrdered after
  in_order = ordered_again (valid core.behaviour) (carried core.behaviour) (reaction core.behaviour) core after run gathered_core

  on_after : AreCarriedOn (valid core.behaviour) (carried core.behaviour) (reaction core.behaviour) core after
  on_after = carried_by_gathering (valid core.behaviour) (carried core.behaviour) (reaction core.behaviour) core after run gathered_core

  pub on_core : AreCarriedOn (valid core.behaviour) (carried core.behaviour) (reaction core.behaviour) core result
  on_core = subst (λ (k : CoreView B S P). AreCarriedOn (valid core.behaviour) (carried core.behaviour) (reaction core.behaviour) core k) (sym back) on_after

  pub few_core : (most : ℕ) → length after.barrier.reports < most → length result.timelines < most
  few_core most few = subst (λ (k : CoreView B S P). length k.timelines < most) (sym back) (few_timelines (valid core.behaviour) (carried core.behaviour) (reaction core.behaviour) after most on_after.run few)
