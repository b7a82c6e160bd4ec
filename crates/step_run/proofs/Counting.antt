-- A run has few events where its timelines have few.
use Rattle.std.proofs.Common.{◌≡◌, ℕ, zero, suc, ◌*◌, ◌<◌, ◌≤◌, length, Option, Some, None, IsSome, refl, ap, arith, ⊎_elim}
use Rattle.std.proofs.lemmas.Bool.{eq-eqb, cases_lt}
use Rattle.std.proofs.Math.Nat.{mul-le-mul_left}
use Rattle.event_order.proofs.Local.{share_own}
use Rattle.event_order.proofs.Shares.{one_more}
use Rattle.ssf_model.specs.Scene.{Scene, event_at}
use Rattle.ssf_model.specs.Truth.{is_on_line, line_events, AreFew}
use Rattle.sync_rules.specs.Measure.{sum_below}
use Rattle.sync_rules.specs.Shared.{IsShared}
use Rattle.sync_rules.proofs.Wholes.{line_grows}

sum_most : (f g : ℕ → ℕ) (n : ℕ) → ((i : ℕ) → i < n → f i ≤ g i) → sum_below f n ≤ sum_below g n
sum_most f g zero h = omega arith
sum_most f g (suc n) h = (let before = sum_most f g n (λ i l. h i (omega arith)) in let here = h n (omega arith) in omega arith)

sum_less : (f g : ℕ → ℕ) (n k : ℕ) → ((i : ℕ) → i < n → f i ≤ g i) → k < n → f k < g k → sum_below f n < sum_below g n
sum_less f g zero k h l less = absurd (omega arith)
sum_less f g (suc n) k h l less = ⊎_elim
    (λ (early : k < n). let before = sum_less f g n k (λ i m. h i (omega arith)) early less in let here = h n (omega arith) in omega arith)
    (λ (late : n ≤ k). let same : k ≡ n = omega arith in let before = sum_most f g n (λ i m. h i (omega arith)) in
    let here : f n < g n = omega (arith, less, ap f same, ap g same) in omega arith)
    (cases_lt k n)

sum_bound : (f : ℕ → ℕ) (n most : ℕ) → ((i : ℕ) → f i ≤ most) → sum_below f n ≤ n * most
sum_bound f zero most h = omega arith
sum_bound f (suc n) most h = (let before = sum_bound f n most h in let here = h n in omega arith)

some_of : {T : Type 0} (o : Option T) → IsSome o → (x : T) × (o ≡ Some x)
some_of None some = absurd (cc)
some_of (Some x) some = (x, refl)

module _ {X E : Type 0} (s : Scene X E) (sh : IsShared s) where
  counted_on : (n : ℕ) → ((k : ℕ) → k < n → IsSome (event_at s k)) → n ≤ sum_below (λ i. length (line_events s i n)) s.net.timelines
  counted_on zero all = omega arith
  counted_on (suc n) all =
      let before = counted_on n (λ k l. all k (omega arith)) in
      let found = some_of (event_at s n) (all n (omega arith)) in
      let e = found.0 in
      let i = s.line e in
      let own = share_own s.machine s.until s.kept s.opening (is_on_line s i) n e found.1 (eq-eqb i i refl) in
      let more : length (line_events s i n) < length (line_events s i (suc n)) = omega (arith, ap (λ es. length es) own, one_more (line_events s i n) e) in
      let less = sum_less (λ j. length (line_events s j n)) (λ j. length (line_events s j (suc n))) s.net.timelines i
      (λ j l. line_grows s j n (suc n) (omega arith)) (sh.placed n e found.1) more in
      omega arith

  pub few_in_all : (budget n : ℕ) → AreFew s budget → ((k : ℕ) → k < n → IsSome (event_at s k)) → n ≤ s.net.timelines * budget
  few_in_all budget n few all =
      omega (arith, counted_on n all, sum_bound (λ i. length (line_events s i n)) s.net.timelines budget (λ i. few i n))

-- so it is below 2^63
pub few_enough : (n timelines budget : ℕ) → n ≤ timelines * budget → timelines ≤ 4096 → budget ≤ 1000000000000 → n ≤ 4096000000000000
few_enough n timelines budget h few low =
    let most : timelines * budget ≤ timelines * 1000000000000 = mul-le-mul_left timelines low in
    omega arith
