-- Steps of the rules lower no safe bound, and leave each timeline that has reported in the barrier's window.
use Rattle.std.proofs.Common.{◌≡◌, ℕ, zero, suc, ◌<◌, ◌≤◌, true, false, nat_eq, sym, ap, ◌∙◌, subst, inl, inr, arith, eqb-true}
use Rattle.event_order.proofs.Pending.{test_cases}
use Rattle.event_order.proofs.Steps.{lt_or_ge}
use Rattle.ssf_model.specs.Scene.{Scene}
use Rattle.sync_rules.specs.Parts.{BarrierOf, CoreOf}
use Rattle.sync_rules.specs.Bounds.{low_of, safe_bound}
use Rattle.sync_rules.specs.Shared.{IsShared}
use Rattle.sync_rules.specs.Sound.{IsSoundCore}
use Rattle.sync_rules.specs.Steps.{IsStep, IsCrossing, least_report, ended_barrier}
use Rattle.sync_rules.specs.Steps.IsStep.{executes, posts, takes, enters, reports, crosses}
use Rattle.sync_rules.proofs.Wholes.{step_low, step_safe}
use Rattle.core_rules.specs.Leading.{AreSteps}
use Rattle.sync_rules.proofs.Cores.{step_keeps}

module _ {X E : Type 0} (s : Scene X E) (sh : IsShared s) (budget : ℕ) where
  abbrev pub AreIn : CoreOf E → Type 0
  AreIn t = (i : ℕ) → i < s.net.timelines → t.barrier.reported i ≡ true → t.barrier.window ≤ low_of s i (t.lines i)

  -- where the barrier stays as it is
  still : (v : ℕ) (t after : CoreOf E) → IsSoundCore s v t → (step : IsStep s budget t after) → t.barrier ≡ after.barrier → AreIn t → AreIn after
  still v t after sound step same all i known told =
      let before : t.barrier.reported i ≡ true = subst (λ (b : BarrierOf). b.reported i ≡ true) (sym same) told in
      let low = all i known before in
      let up = step_low s sh v t sound budget after step i in
      let window = ap (λ (b : BarrierOf). b.window) same in
      omega (arith, low, up, window)

  module _ (v : ℕ) (t after : CoreOf E) (sound : IsSoundCore s v t) (all : AreIn t) where
    after_crossing : (b : BarrierOf) → IsCrossing s t.barrier b → (i : ℕ) → i < s.net.timelines → b.reported i ≡ true → b.window ≤ low_of s i (t.lines i)
    after_crossing b crossing i known told = elim (lt_or_ge s.until (least_report s.until t.barrier.least s.net.timelines)) [
      | inl late ↦ (let same : b ≡ ended_barrier t.barrier = crossing.ends late in
          let before : t.barrier.reported i ≡ true = subst (λ (c : BarrierOf). c.reported i ≡ true) same told in
          let low = all i known before in
          let window = ap (λ (c : BarrierOf). c.window) same in
          omega (arith, low, window))
      | inr early ↦ absurd (let none : b.reported i ≡ false = (crossing.goes_on early).reported i known in let both : true ≡ false = sym told ∙ none in cc)
    ]

    stays_in : IsStep s budget t after → AreIn after
    stays_in (executes k n known may is same) = still v t after sound (executes k n known may is same) (ap (λ (u : CoreOf E). u.barrier) (sym same)) all
    stays_in (posts c cross may same) = still v t after sound (posts c cross may same) (ap (λ (u : CoreOf E). u.barrier) (sym same)) all
    stays_in (takes c cross may same) = still v t after sound (takes c cross may same) (ap (λ (u : CoreOf E). u.barrier) (sym same)) all
    stays_in (enters k known may same) = still v t after sound (enters k known may same) (ap (λ (u : CoreOf E). u.barrier) (sym same)) all
    stays_in (reports k known may same) = subst AreIn (sym same) (λ i there told. elim (test_cases (nat_eq i k)) [
      | inl t1 ↦ (let one : i ≡ k = eqb-true i k t1 in subst (λ n. t.barrier.window ≤ low_of s n (t.lines n)) (sym one) may.low)
      | inr f ↦ all i there (let before : t.barrier.reported i ≡ true = rw f at told in before)
    ])
    stays_in (crosses b may crossing same) = subst AreIn (sym same) (after_crossing b crossing)

  -- ---- some steps

  pub steps_in : (n v : ℕ) (t after : CoreOf E) → IsSoundCore s v t → AreSteps s budget n t after → AreIn t → AreIn after
  steps_in zero v t after sound is all = subst AreIn is all
  steps_in (suc n) v t after sound steps all =
      let next = step_keeps s sh v t sound budget steps.0 steps.1 in
      steps_in n next.0 steps.0 after next.1 steps.2 (stays_in v t steps.0 sound all steps.1)

  pub steps_safe : (n v : ℕ) (t after : CoreOf E) → IsSoundCore s v t → AreSteps s budget n t after → safe_bound s t.lines ≤ safe_bound s after.lines
  steps_safe zero v t after sound is = subst (λ (u : CoreOf E). safe_bound s t.lines ≤ safe_bound s u.lines) is (omega arith)
  steps_safe (suc n) v t after sound steps =
      let next = step_keeps s sh v t sound budget steps.0 steps.1 in
      let first = step_safe s sh v t sound budget steps.0 steps.1 in
      let rest = steps_safe n next.0 steps.0 after next.1 steps.2 in
      omega (arith, first, rest)
