-- Which plans open in order.
use Rattle.std.proofs.Common.{◌≡◌, ℕ, zero, suc, ◌+◌, ◌<◌, ◌≤◌, List, ◌++◌, map, length, replicate, get_or, refl, sym, ap, subst, inl, inr, arith}
use Rattle.std.specs.List.{range_with_len}
use Rattle.std.specs.declared.cmp.Ordering.{Ordering}
use Rattle.std.specs.declared.cmp.Ordering.TheVariants.{Less, Equal}
use Rattle.std.specs.Ordering.{nat_cmp, is_lt, ordering_then}
use Rattle.std.proofs.lemmas.Grind.{common_steps}
use Rattle.std.proofs.lemmas.List.{get_or-replicate, get_or_append_left, length-replicate}
use Rattle.event_order.specs.Order.{IsBefore, comes_before}
use Rattle.event_order.specs.Pending.{Among, IsRising}
use Rattle.ssf_model.specs.declared.event.Event.{Event}
use Rattle.ssf_model.specs.declared.plan.Plan.{Plan}
use Rattle.ssf_model.specs.Reaction.{Validity, Each}
use Rattle.ssf_model.specs.Drafts.{Draft, planned, start, all_timers}
use Rattle.ssf_model.specs.Run.{Fits, IsPending, counts_of}
use Rattle.run_laws.specs.Openings.{OpensInOrder}
use Rattle.ssf_model.proofs.Lists.{each_of}

pub fits_open : {B S P : Type 0} (valid : Validity S) (carried : P → Type 0) (plan : Plan B S P) → Fits valid carried plan → OpensInOrder plan
fits_open valid carried plan fits = record {
  rising = fits.opened.rising;
  rounds = each_of (IsPending carried plan) (λ e. e.key.round ≡ 0) plan.events (λ e p. p.round) fits.opened.pending;
  numbers = each_of (IsPending carried plan) (λ e. e.key.number < counts_of plan.counts e.key.channel) plan.events (λ e p. p.number) fits.opened.pending;
}

less_first : (x y : ℕ) (r : Ordering) → x < y → ordering_then (nat_cmp x y) r ≡ Less
less_first x y r h = grind (arith, common_steps)

module _ (P : Type 0) where
  earlier_start : (i c : ℕ) → i < c → IsBefore (start {P = P} i).key (start {P = P} c).key
  unfolding comes_before
  earlier_start i c h = ap is_lt (less_first i c Equal h)

  start_above : (a n : ℕ) (y : Event P) → Among y (map start (range_with_len a n)) → (c : ℕ) × (y ≡ start c) × (a ≤ c)
  start_above a zero y h = absurd h
  start_above a (suc n) y (inl e) = (a, e, omega arith)
  start_above a (suc n) y (inr h) = let k = start_above (a + 1) n y h in (k.0, k.1, omega (arith, k.2))

  starts_rise : (a n : ℕ) → IsRising (λ (e : Event P). e.key) (map start (range_with_len a n))
  starts_rise a zero = tt
  starts_rise a (suc n) = (
    (λ y h. let k = start_above (a + 1) n y h in subst (λ (e : Event P). IsBefore (start {P = P} a).key e.key) (sym k.1) (earlier_start a k.0 (omega (arith, k.2)))),
    starts_rise (a + 1) n,
  )

  start_rounds : (a n : ℕ) → Each (λ (e : Event P). e.key.round ≡ 0) (map start (range_with_len a n))
  start_rounds a zero = tt
  start_rounds a (suc n) = (refl, start_rounds (a + 1) n)

  start_counted : (m c : ℕ) (others : List ℕ) → c < m → 0 < get_or (replicate m 1 ++ others) c 0
  start_counted m c others h =
      let l : c < length (replicate {A = ℕ} m 1) = omega (arith, length-replicate {A = ℕ} m 1) in
      omega (arith, get_or_append_left {A = ℕ} (replicate m 1) others 0 c l, get_or-replicate {A = ℕ} m c 1 0 h)

  start_numbers : (m : ℕ) (others : List ℕ) (a n : ℕ) → a + n ≤ m →
      Each (λ (e : Event P). e.key.number < counts_of (replicate m 1 ++ others) e.key.channel) (map start (range_with_len a n))
  start_numbers m others a zero h = tt
  start_numbers m others a (suc n) h = (start_counted m a others (omega arith), start_numbers m others (a + 1) n (omega arith))

pub planned_open : {B S P : Type 0} (d : Draft B S) → OpensInOrder {B = B} {S = S} {P = P} (planned d)
unfolding planned
planned_open {P = P} d =
    let n = length d.entities in
    record {
      rising = starts_rise P 0 n;
      rounds = start_rounds P 0 n;
      numbers = start_numbers P n (replicate (all_timers d.entities + length d.mappings) 0) 0 n (omega arith);
    }
