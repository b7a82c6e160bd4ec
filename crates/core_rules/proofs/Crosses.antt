-- The barrier is crossed.
use Rattle.std.proofs.Common.{◌≡◌, ℕ, zero, suc, ◌+◌, ◌<◌, ◌≤◌, ◌⊎◌, Bool, true, false, not, nat_le, ◌&&◌, List, [], ◌∷◌, length, replicate, refl, sym, ap, ◌∙◌, subst, inl, inr, arith, Option, Some, None, is_none, slice_get}
use Rattle.event_order.proofs.Pending.{test_cases}
use Rattle.event_order.proofs.Steps.{lt_or_ge, le_true, le_test}
use Rattle.sim_base.specs.MemoryObjects.{risen}
use Rattle.ssf_model.specs.declared.event.Event.{Event}
use Rattle.ssf_model.specs.declared.plan.Plan.{Plan}
use Rattle.ssf_model.specs.Reaction.{LatestTime}
use Rattle.ssf_model.specs.Run.{States}
use Rattle.ssf_model.specs.Scene.{Scene}
use Rattle.ssf_model.specs.Truth.{IsWindow, next_window}
use Rattle.sync_rules.specs.Parts.{CoreOf}
use Rattle.sync_rules.specs.Shared.{IsShared}
use Rattle.sync_rules.specs.Steps.{CanCross, IsCrossing, IsNextRound}
use Rattle.sync_rules.specs.Steps.{least_report as least_by_rule}
use Rattle.sync_rules.specs.Steps.IsStep.{crosses}
use Rattle.sync_rules.proofs.Windows.{window_later, window_most}
use Rattle.sync_rules.proofs.Reports.{report_below, report_cases}
use Rattle.timeline.specs.View.{key_of}
use Rattle.barrier_window.specs.BarrierFields.{BarrierFields}
use Rattle.barrier_window.specs.Crossings.{first_without, least_report, crossing_at, crossing, crossed_to, after_crossing}
use Rattle.barrier_window.specs.declared.barrier.Crossing.{Crossing}
use Rattle.sync_steps.specs.Sounds.{has_least, least_in, barrier_as}
use Rattle.core_rules.specs.Cores.{CoreView, core_as, IsBarrierOf, IsSoundFor}
use Rattle.core_rules.specs.Stepping.{with_barrier, IsCrossedIn}
use Rattle.core_rules.specs.Leading.{LeadsTo}
use Rattle.core_rules.proofs.Executes.{step_leads, barrier_whole}

-- ---- reports

-- all have reported
pub all_told : (xs : List (Option ℕ)) (from i : ℕ) → first_without from xs ≡ None → i < length xs → has_least (slice_get xs i) ≡ true
all_told [] from i none h = absurd (omega arith)
all_told (None ∷ xs) from i none h = absurd (cc)
all_told (Some m ∷ xs) from zero none h = refl
all_told (Some m ∷ xs) from (suc i) none h = all_told xs (from + 1) i none (omega arith)

pub none_without : (xs : List (Option ℕ)) (from : ℕ) → ((i : ℕ) → i < length xs → has_least (slice_get xs i) ≡ true) → first_without from xs ≡ None
none_without [] from all = refl
none_without (None ∷ xs) from all = absurd (let told : false ≡ true = all 0 (omega arith) in cc)
none_without (Some m ∷ xs) from all = none_without xs (from + 1) (λ i h. all (suc i) (omega arith))

least_top : (end : ℕ) (xs : List (Option ℕ)) → least_report end xs ≤ end
least_top end [] = omega arith
least_top end (None ∷ xs) = least_top end xs
least_top end (Some m ∷ xs) = (let rest = least_top end xs in omega arith)

least_below : (end : ℕ) (xs : List (Option ℕ)) (i : ℕ) → has_least (slice_get xs i) ≡ true → least_report end xs ≤ least_in (slice_get xs i)
least_below end [] i told = absurd (cc)
least_below end (None ∷ xs) zero told = absurd (cc)
least_below end (None ∷ xs) (suc i) told = least_below end xs i told
least_below end (Some m ∷ xs) zero told = omega arith
least_below end (Some m ∷ xs) (suc i) told = (let rest = least_below end xs i told in omega arith)

least_cases : (end : ℕ) (xs : List (Option ℕ)) → (least_report end xs ≡ end) ⊎ ((i : ℕ) × (i < length xs) × (least_report end xs ≡ least_in (slice_get xs i)))
least_cases end [] = inl refl
least_cases end (None ∷ xs) = elim (least_cases end xs) [
  | inl e ↦ inl e
  | inr q ↦ inr (suc q.0, (let below = q.1 in omega arith), q.2)
]
least_cases end (Some m ∷ xs) = elim (lt_or_ge (least_report end xs) m) [
  | inr more ↦ inr (0, omega arith, omega (arith, more))
  | inl less ↦ elim (least_cases end xs) [
    | inl e ↦ inl (omega (arith, less, e))
    | inr q ↦ inr (suc q.0, (let below = q.1 in omega arith), (let is = q.2 in omega (arith, less, is)))
  ]
]

rule_top : (until : ℕ) (least : ℕ → ℕ) (n : ℕ) → least_by_rule until least n ≤ until + 1
rule_top until least zero = omega arith
rule_top until least (suc n) = (let rest = rule_top until least n in omega arith)

-- the least report is that of the rules
pub least_same : (until : ℕ) (xs : List (Option ℕ)) → ((i : ℕ) → i < length xs → has_least (slice_get xs i) ≡ true)
    → least_report (until + 1) xs ≡ least_by_rule until (λ i. least_in (slice_get xs i)) (length xs)
least_same until xs all =
    let low : least_report (until + 1) xs ≤ least_by_rule until (λ i. least_in (slice_get xs i)) (length xs) = elim (report_cases until (λ i. least_in (slice_get xs i)) (length xs)) [
      | inl e ↦ (let top = least_top (until + 1) xs in omega arith)
      | inr q ↦ (let below = least_below (until + 1) xs q.0 (all q.0 q.1) in let is = q.2 in omega arith)
    ] in
    let high : least_by_rule until (λ i. least_in (slice_get xs i)) (length xs) ≤ least_report (until + 1) xs = elim (least_cases (until + 1) xs) [
      | inl e ↦ (let top = rule_top until (λ i. least_in (slice_get xs i)) (length xs) in omega arith)
      | inr q ↦ (let below = report_below until (λ i. least_in (slice_get xs i)) (length xs) q.0 q.1 in let is = q.2 in omega arith)
    ] in
    omega (arith, low, high)

none_told : (n i : ℕ) → has_least (slice_get (replicate n None) i) ≡ false
none_told zero i = refl
none_told (suc n) zero = refl
none_told (suc n) (suc i) = none_told n i

none_many : (n : ℕ) (o : Option ℕ) → length (replicate n o) ≡ n
none_many zero o = refl
none_many (suc n) o = (let rest = none_many n o in ap (λ k. suc k) rest)

-- ---- crossings

pub not_true : (b : Bool) → not b ≡ true → b ≡ false
not_true true h = absurd (cc)
not_true false h = refl

pub and_both : (a b : Bool) → (a && b) ≡ true → (a ≡ true) × (b ≡ true)
and_both true b h = (refl, h)
and_both false b h = absurd (cc)

pub none_of : {T : Type 0} (o : Option T) → is_none o ≡ true → o ≡ None
none_of None h = refl
none_of (Some x) h = absurd (cc)

crossing_is : (b : BarrierFields) → b.ended ≡ false → first_without 0 b.reports ≡ None → crossing b ≡ crossing_at b (least_report (b.until + 1) b.reports)
unfolding crossing
crossing_is b ended none = rw (ended, none) refl

crossed_as : (b : BarrierFields) (least : ℕ) → least ≤ b.until → after_crossing (crossing_at b least) b ≡ crossed_to (next_window b.lookahead b.until least) b
crossed_as b least h = (let t : nat_le least b.until ≡ true = le_test least b.until h in rw t refl)

not_le : (a b : ℕ) → b < a → nat_le a b ≡ false
not_le a b h = elim (test_cases (nat_le a b)) [ inl t ↦ absurd (let low = le_true a b t in omega arith) | inr f ↦ f ]

ended_as : (b : BarrierFields) (least : ℕ) → b.until < least → after_crossing (crossing_at b least) b ≡ record b { ended = true }
ended_as b least h = (let f : nat_le least b.until ≡ false = not_le least b.until h in rw f refl)

module _ {X E : Type 0} (s : Scene X E) (sh : IsShared s) where
  -- a window is at its number or later
  pub window_round : (k v x : ℕ) → IsWindow s k v x → k ≤ x
  window_round zero v x w = omega arith
  window_round (suc k) v x w = (let before = window_round k w.0 v w.2 in let later = window_later s sh k v x w in omega arith)

module _ {B S P : Type 0} (plan : Plan B S P) (line : ℕ → ℕ) (s : Scene (States B S P) (Event P)) (keys : s.machine.key ≡ key_of) (sh : IsShared s) (in_time : s.until ≤ LatestTime)
    (core : CoreView B S P) (at : ℕ → ℕ) (v : ℕ) (sound : IsSoundFor plan line s core at v) where
  abbrev before : CoreOf (Event P)
  before = core_as s.net at core

  abbrev b : BarrierFields
  b = core.barrier

  abbrev least : ℕ
  least = least_report (b.until + 1) b.reports

  abbrev ruled : ℕ
  ruled = least_by_rule s.until before.barrier.least s.net.timelines

  round_risen : risen b.round ≡ suc b.round
  round_risen =
      let window = sound.all.barrier.window in
      let low = window_round s sh b.round v b.window window in
      let high = window_most s sh b.round v b.window window in
      omega (arith, low, high, in_time)

  module _ (after : CoreView B S P) (q : IsCrossedIn core after) where
    goes_on : b.ended ≡ false
    goes_on = not_true b.ended (and_both (not b.ended) (is_none (first_without 0 b.reports)) q.may).0

    none_left : first_without 0 b.reports ≡ None
    none_left = none_of (first_without 0 b.reports) (and_both (not b.ended) (is_none (first_without 0 b.reports)) q.may).1

    all_in : (i : ℕ) → i < s.net.timelines → before.barrier.reported i ≡ true
    all_in i known = all_told b.reports 0 i none_left (subst (λ n. i < n) (sym sound.barrier.timelines) known)

    may : CanCross s.net.timelines before.barrier
    may = record { goes_on = goes_on; all_in = all_in }

    least_is : least ≡ ruled
    least_is =
        let until = sound.barrier.until in
        let many = sound.barrier.timelines in
        least_same b.until b.reports (λ i h. all_told b.reports 0 i none_left h)
        ∙ (ap (λ u. least_by_rule u before.barrier.least (length b.reports)) until ∙ ap (least_by_rule s.until before.barrier.least) many)

    abbrev next : BarrierFields
    next = after_crossing (crossing b) b

    next_is : next ≡ after_crossing (crossing_at b least) b
    next_is = ap (λ (c : Crossing). after_crossing c b) (crossing_is b goes_on none_left)

    ends_as : s.until < ruled → next ≡ record b { ended = true }
    ends_as late = (let until = sound.barrier.until in let is = least_is in next_is ∙ ended_as b least (omega (arith, late, until, is)))

    goes_as : ruled ≤ s.until → next ≡ crossed_to (next_window b.lookahead b.until least) b
    goes_as early = (let until = sound.barrier.until in let is = least_is in next_is ∙ crossed_as b least (omega (arith, early, until, is)))

    window_is : next_window b.lookahead b.until least ≡ next_window s.net.lookahead s.until ruled
    window_is =
        ap (λ l. next_window l b.until least) sound.barrier.lookahead
        ∙ (ap (λ u. next_window s.net.lookahead u least) sound.barrier.until ∙ ap (next_window s.net.lookahead s.until) least_is)

    next_round : IsNextRound s ruled before.barrier (barrier_as (crossed_to (next_window b.lookahead b.until least) b))
    next_round = record {
      round = round_risen;
      window = window_is;
      counts = λ c cross. refl;
      reported = λ i known. none_told (length b.reports) i;
      ended = goes_on;
    }

    crossing_here : IsCrossing s before.barrier (barrier_as next)
    crossing_here = record {
      ends = λ late. ap barrier_as (ends_as late);
      goes_on = λ early. subst (λ (z : BarrierFields). IsNextRound s ruled before.barrier (barrier_as z)) (sym (goes_as early)) next_round;
    }

    -- ---- the barrier is still that of the run

    ended_of : IsBarrierOf s (record b { ended = true })
    ended_of = record {
      until = sound.barrier.until;
      lookahead = sound.barrier.lookahead;
      timelines = sound.barrier.timelines;
      rising = sound.barrier.rising;
      crosses = sound.barrier.crosses;
      only = sound.barrier.only;
      counts = sound.barrier.counts;
      sent = sound.barrier.sent;
    }

    crossed_of : (window : ℕ) → IsBarrierOf s (crossed_to window b)
    crossed_of window = record {
      until = sound.barrier.until;
      lookahead = sound.barrier.lookahead;
      timelines = none_many (length b.reports) None ∙ sound.barrier.timelines;
      rising = sound.barrier.rising;
      crosses = sound.barrier.crosses;
      only = sound.barrier.only;
      counts = sound.barrier.sent;
      sent = sound.barrier.sent;
    }

    next_of : IsBarrierOf s next × (next.channels ≡ b.channels)
    next_of = elim (lt_or_ge s.until ruled) [
      | inl late ↦ (subst (λ (z : BarrierFields). IsBarrierOf s z) (sym (ends_as late)) ended_of, ap (λ (z : BarrierFields). z.channels) (ends_as late))
      | inr early ↦ (subst (λ (z : BarrierFields). IsBarrierOf s z) (sym (goes_as early)) (crossed_of (next_window b.lookahead b.until least)), ap (λ (z : BarrierFields). z.channels) (goes_as early))
    ]

    pub cross_leads : LeadsTo plan line s core at 1 after
    cross_leads = subst (λ (z : CoreView B S P). LeadsTo plan line s core at 1 z) (sym q.is)
        (step_leads plan line s keys sh core at v sound (with_barrier next core) at refl (crosses (barrier_as next) may crossing_here refl)
        (barrier_whole plan line s keys sh core at v sound next next_of.1 next_of.0))
