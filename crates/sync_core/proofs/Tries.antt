-- Steps one after the other, up to an end.
use Rattle.std.proofs.Common.{ℕ, zero, suc, ◌≡◌, ◌+◌, ◌-◌, ◌<◌, ◌≤◌, ◌↔◌, inl, inr, min, nat_lt, cond, Bool, true, false, refl, sym, ap, ◌∙◌, subst, arith, lt-ltb, List, [], ◌∷◌, length, drop, Option, Some, None, slice_get, Result, Ok, Err}
use Rattle.std.specs.Prelude.{OnErr, IfOk, IfSome}
use Rattle.std.specs.List.{filter}
use Rattle.std.proofs.lemmas.Bool.{le-ltb, cases_lt}
use Rattle.event_order.proofs.Pending.{test_cases}
use Rattle.ssf_model.specs.Reaction.{Reaction, Validity, KeepsValid}
use Rattle.ssf_model.specs.Deliver.{IsModest}
use Rattle.barrier_window.specs.BarrierFields.{BarrierFields}
use Rattle.barrier_window.specs.declared.barrier.Crossing.{Crossing}
use Rattle.barrier_window.specs.declared.barrier.Crossing.TheVariants.{Crossed as WasCrossed, Waiting, Ended}
use Rattle.barrier_window.specs.Crossings.{after_crossing, crossing}
use Rattle.sync_steps.specs.declared.steps.Step.{Step}
use Rattle.sync_steps.specs.declared.steps.Step.TheVariants.{Execute, Post, Take, Enter, Report, Cross}
use Rattle.core_rules.specs.Cores.{CoreView, IsCoreOfRun}
use Rattle.core_rules.specs.Leading.{AreCoreSteps}
use Rattle.core_rules.specs.Stepping.{is_enabled, IsMade, with_barrier}
use Rattle.core_rules.specs.Reading.{BudgetEndsIn}
use Rattle.core_rules.specs.Ending.{steps_left}
use Rattle.core_rules.proofs.Leads.{none_joins, steps_joined}
use Rattle.core_rules.proofs.Ending.{made_leaves_less}
use Rattle.sync_core.specs.declared.driving.CoreEnd.TheVariants.{OverBudget as CoreOverBudget}
use Rattle.sync_core.specs.declared.driving.Driven.{Driven}
use Rattle.sync_core.specs.declared.driving.DriveEnd.{DriveEnd}
use Rattle.sync_core.specs.declared.driving.DriveEnd.TheVariants.{Finished, OverBudget, Crossed}
use Rattle.sync_core.specs.Steps.{all_steps}
use Rattle.sync_core.specs.Driving.{EndsFirstAt, HasCome, GoesOn, IsTried, AreTries, AreTriesUpTo, IsOnward}
use Rattle.sync_core.specs.Choosing.{last_round, IsNotPast, IsDue, IsNextStep, IsNextTry, IsLeft}
use Rattle.sync_core.proofs.Onward.{none_onward, more_onward}

-- ---- lists

module _ {A : Type 0} where
  drop_past : (xs : List A) (n : ℕ) → drop (min n (length xs)) xs ≡ drop n xs
  drop_past [] n = drop_none (min n 0) ∙ sym (drop_none n)
    where
      drop_none : (k : ℕ) → drop {A = A} k [] ≡ []
      drop_none zero = refl
      drop_none (suc k) = refl
  drop_past (x ∷ xs) zero = let e : min 0 (suc (length xs)) ≡ 0 = omega arith in ap (λ k. drop k (x ∷ xs)) e
  drop_past (x ∷ xs) (suc n) = let e : min (suc n) (suc (length xs)) ≡ suc (min n (length xs)) = omega arith in ap (λ k. drop k (x ∷ xs)) e ∙ drop_past xs n

  drop_one : (xs : List A) (n : ℕ) → drop (suc n) xs ≡ drop 1 (drop n xs)
  drop_one [] zero = refl
  drop_one [] (suc n) = refl
  drop_one (x ∷ xs) zero = refl
  drop_one (x ∷ xs) (suc n) = drop_one xs n

  drop_rest : (xs : List A) (n : ℕ) → drop (n + 1) xs ≡ drop 1 (drop n xs)
  drop_rest xs n = let e : n + 1 ≡ suc n = omega arith in ap (λ k. drop k xs) e ∙ drop_one xs n

  some_left : (xs : List A) (n : ℕ) (y : A) (ys : List A) → drop n xs ≡ y ∷ ys → n < length xs
  some_left [] zero y ys h = absurd (cc)
  some_left [] (suc n) y ys h = absurd (cc)
  some_left (x ∷ xs) zero y ys h = omega arith
  some_left (x ∷ xs) (suc n) y ys h = let rest = some_left xs n y ys h in omega arith

crossed_round : (b : BarrierFields) (c : Crossing) → (after_crossing c b).round ≤ b.round + 1
crossed_round b (WasCrossed w) = omega arith
crossed_round b (Waiting i) = omega arith
crossed_round b Ended = omega arith

first_passes : (p : Step → Bool) (xs : List Step) (x : Step) → slice_get (filter p xs) 0 ≡ Some x → p x ≡ true
first_passes p [] x h = absurd (cc)
first_passes p (y ∷ ys) x h = elim (test_cases (p y)) [
  | inl t ↦ let here : Some y ≡ Some x = rw t at h in let same : y ≡ x = cc in subst (λ z. p z ≡ true) same t
  | inr f ↦ first_passes p ys x (rw f at h)
]

used_more : (used count size next : ℕ) → used ≡ min count size → next ≡ used + cond (nat_lt used size) 1 0 → next ≡ min (count + 1) size
used_more used count size next is then = elim (cases_lt used size) [
  | inl l ↦ let t : nat_lt used size ≡ true = lt-ltb used size l in let more : next ≡ used + 1 = then ∙ ap (λ b. used + cond b 1 0) t in omega (arith, is, more, l)
  | inr g ↦ let f : nat_lt used size ≡ false = le-ltb used size g in let more : next ≡ used + 0 = then ∙ ap (λ b. used + cond b 1 0) f in omega (arith, is, more, g)
]

pub on_err : {T E : Type 0} (result : Result T E) (p : Type 0) → p → OnErr result p
on_err (Ok x) p h = tt
on_err (Err e) p h = h

-- ---- ends

module _ {B S P : Type 0} where
  same_first : (core : CoreView B S P) (i j : ℕ) → EndsFirstAt core i → EndsFirstAt core j → i ≡ j
  same_first core i j a b = elim (cases_lt i j) [
    | inl l ↦ absurd (b.least i l a.here)
    | inr g ↦ elim (cases_lt j i) [
      | inl l ↦ absurd (a.least j l b.here)
      | inr h ↦ omega arith
    ]
  ]

  pub due_over : (last : Option ℕ) (core : CoreView B S P) (end : DriveEnd) → IsDue last core end → (HasCome last core → (i : ℕ) → BudgetEndsIn core i → ⊥)
      → (i : ℕ) → (end ≡ OverBudget i) ↔ ((core.barrier.ended ≡ false) × EndsFirstAt core i)
  due_over last core Finished due apart i = (λ e. absurd (cc), λ q. let f = q.0 in absurd (cc))
  due_over last core (OverBudget j) due apart i = (λ e. let same : j ≡ i = cc in (due.0, subst (EndsFirstAt core) same due.1), λ q. ap OverBudget (same_first core j i due.1 q.1))
  due_over last core Crossed due apart i = (λ e. absurd (cc), λ q. absurd (apart due.1 i q.1.here))

  pub due_crossed : (last : Option ℕ) (core : CoreView B S P) (end : DriveEnd) → IsDue last core end → (HasCome last core → (i : ℕ) → BudgetEndsIn core i → ⊥)
      → (end ≡ Crossed) ↔ ((core.barrier.ended ≡ false) × HasCome last core)
  due_crossed last core Finished due apart = (λ e. absurd (cc), λ q. let f = q.0 in absurd (cc))
  due_crossed last core (OverBudget j) due apart = (λ e. absurd (cc), λ q. absurd (apart q.1 j due.1.here))
  due_crossed last core Crossed due apart = (λ e. due, λ q. refl)

  pub drive_over : (core : CoreView B S P) (j : ℕ) (end : DriveEnd) → end ≡ OverBudget j → IsDue None core end → (i : ℕ) → (CoreOverBudget j ≡ CoreOverBudget i) ↔ ((core.barrier.ended ≡ false) × EndsFirstAt core i)
  drive_over core j end is told i =
      let due = subst (λ e. IsDue None core e) is told in
      (λ e. let same : j ≡ i = cc in (due.0, subst (EndsFirstAt core) same due.1), λ q. ap CoreOverBudget (same_first core j i due.1 q.1))

  pub some_over : {E : Type 0} (last : Option ℕ) (core : CoreView B S P) (result : Result Driven E) → IfOk result (λ d. IsDue last core d.end) → (HasCome last core → (i : ℕ) → BudgetEndsIn core i → ⊥)
      → IfOk result (λ d. (i : ℕ) → (d.end ≡ OverBudget i) ↔ ((core.barrier.ended ≡ false) × EndsFirstAt core i))
  some_over last core (Ok d) due apart = due_over last core d.end due apart
  some_over last core (Err e) due apart = tt

  pub some_crossed : {E : Type 0} (round : ℕ) (core : CoreView B S P) (result : Result Driven E) → IfOk result (λ d. IsDue (Some round) core d.end) → (HasCome (Some round) core → (i : ℕ) → BudgetEndsIn core i → ⊥)
      → IfOk result (λ d. (d.end ≡ Crossed) ↔ ((core.barrier.ended ≡ false) × (core.barrier.round ≡ round)))
  some_crossed round core (Ok d) due apart = due_crossed (Some round) core d.end due apart
  some_crossed round core (Err e) due apart = tt

  -- ---- rounds

  -- a step that is no crossing leaves the round
  round_kept : (core after : CoreView B S P) → after.barrier.round ≡ core.barrier.round → after.barrier.round ≤ core.barrier.round + 1
  round_kept core after e = omega (arith, e)

  made_round : (r : Reaction S P) (step : Step) (core after : CoreView B S P) → IsMade r step core after → after.barrier.round ≤ core.barrier.round + 1
  made_round r (Execute i) core after q = round_kept core after (ap (λ (k : CoreView B S P). k.barrier.round) q.is)
  made_round r (Post i c) core after q = round_kept core after (ap (λ (k : CoreView B S P). k.barrier.round) q.is)
  made_round r (Take i) core after q = round_kept core after (ap (λ (k : CoreView B S P). k.barrier.round) q.is)
  made_round r (Enter i) core after q = round_kept core after (ap (λ (k : CoreView B S P). k.barrier.round) q.is)
  made_round r (Report i) core after q = round_kept core after (ap (λ (k : CoreView B S P). k.barrier.round) q.is)
  made_round r Cross core after q =
      subst (λ (k : CoreView B S P). k.barrier.round ≤ core.barrier.round + 1) (sym q.is) (crossed_round core.barrier (crossing core.barrier))

  pub begin_short : (core : CoreView B S P) (crossings : Option ℕ) → IsNotPast (last_round core.barrier.round crossings) core
  begin_short core None = tt
  begin_short core (Some n) = omega arith

  pub begin_differs : (core : CoreView B S P) (crossings : Option ℕ) → IfSome crossings (λ n. 1 ≤ n) → HasCome (last_round core.barrier.round crossings) core → ⊥
  begin_differs core None some come = come
  begin_differs core (Some n) some come = absurd (omega (arith, come, some))

  come_before : (last : Option ℕ) (core after : CoreView B S P) → after.barrier.round ≡ core.barrier.round → HasCome last after → HasCome last core
  come_before None core after e h = h
  come_before (Some round) core after e h = sym e ∙ h

  ends_before : (b : BarrierFields) (core after : CoreView B S P) → after ≡ with_barrier b core → (i : ℕ) → BudgetEndsIn after i → BudgetEndsIn core i
  ends_before b core after is i q = let p = subst (λ (k : CoreView B S P). BudgetEndsIn k i) is q in record { timeline = p.timeline; own = p.own; over = p.over; least = p.least }

  -- the budget does not end where the barrier was just crossed
  pub made_apart : (r : Reaction S P) (last : Option ℕ) (step : Step) (core after : CoreView B S P) → GoesOn last core → IsMade r step core after → HasCome last after → (i : ℕ) → BudgetEndsIn after i → ⊥
  made_apart r last (Execute k) core after on q come i end = on.short (come_before last core after (ap (λ (k : CoreView B S P). k.barrier.round) q.is) come)
  made_apart r last (Post k c) core after on q come i end = on.short (come_before last core after (ap (λ (k : CoreView B S P). k.barrier.round) q.is) come)
  made_apart r last (Take k) core after on q come i end = on.short (come_before last core after (ap (λ (k : CoreView B S P). k.barrier.round) q.is) come)
  made_apart r last (Enter k) core after on q come i end = on.short (come_before last core after (ap (λ (k : CoreView B S P). k.barrier.round) q.is) come)
  made_apart r last (Report k) core after on q come i end = on.short (come_before last core after (ap (λ (k : CoreView B S P). k.barrier.round) q.is) come)
  made_apart r last Cross core after on q come i end = on.within i (ends_before _ core after q.is i end)

  made_short : (last : Option ℕ) (core after : CoreView B S P) → GoesOn last core → IsNotPast last core → after.barrier.round ≤ core.barrier.round + 1 → IsNotPast last after
  made_short None core after on short up = tt
  made_short (Some round) core after on short up = less_or core.barrier.round round short up on.short
    where
      less_or : (a b : ℕ) → a ≤ b → after.barrier.round ≤ a + 1 → (a ≡ b → ⊥) → after.barrier.round ≤ b
      less_or a b le by differ = elim (cases_lt a b) [ inl l ↦ omega arith | inr g ↦ let same : a ≡ b = omega arith in absurd (differ same) ]

  -- ---- one step

  -- the step that was tried is the next one
  pub next_tried : (r : Reaction S P) (steps : List Step) (step : Step) (core after : CoreView B S P) → IsNextStep steps core step → IsTried r step core after → IsNextTry r steps core after
  next_tried r [] step core after next tried = record { step = step; first = next; made = tried.made (first_passes (is_enabled core) (all_steps core) step next) }
  next_tried r (s ∷ steps) step core after next tried = subst (λ x. IsTried r x core after) next tried

  -- ---- on the way

  -- so many steps were tried from the parts `first` on, of which the scheduled ones are used
  pub record OnTheWay (valid : Validity S) (carried : P → Type 0) (r : Reaction S P) (last : Option ℕ) (schedule : List Step) (used : ℕ) (first now : CoreView B S P) : Type 0 where
    pub count : ℕ
    pub used_is : used ≡ min count (length schedule)
    pub joins : (n : ℕ) (after : CoreView B S P) → AreTries r last n (drop count schedule) now after → AreTries r last (count + n) schedule first after
    pub onward : IsOnward first now
    pub steps : AreCoreSteps valid carried r first now
    pub apart : HasCome last now → (i : ℕ) → BudgetEndsIn now i → ⊥
    pub short : IsNotPast last now

  one_more : (r : Reaction S P) (last : Option ℕ) (n : ℕ) (steps : List Step) (core between after : CoreView B S P) → GoesOn last core → IsNextTry r steps core between → AreTries r last n (drop 1 steps) between after → AreTries r last (suc n) steps core after
  one_more r last n [] core between after on tried rest = (between, on, tried, rest)
  one_more r last n (s ∷ steps) core between after on tried rest = (between, on, tried, rest)

  tried_apart : (r : Reaction S P) (last : Option ℕ) (steps : List Step) (core after : CoreView B S P) → GoesOn last core → IsNextTry r steps core after → HasCome last after → (i : ℕ) → BudgetEndsIn after i → ⊥
  tried_apart r last [] core after on q = made_apart r last q.step core after on q.made
  tried_apart r last (s ∷ steps) core after on q = elim (test_cases (is_enabled core s)) [
    | inl t ↦ made_apart r last s core after on (q.made t)
    | inr f ↦ λ come i end. on.within i (subst (λ (k : CoreView B S P). BudgetEndsIn k i) (q.passed f) end)
  ]

  tried_round : (r : Reaction S P) (steps : List Step) (core after : CoreView B S P) → IsNextTry r steps core after → after.barrier.round ≤ core.barrier.round + 1
  tried_round r [] core after q = made_round r q.step core after q.made
  tried_round r (s ∷ steps) core after q = elim (test_cases (is_enabled core s)) [
    | inl t ↦ made_round r s core after (q.made t)
    | inr f ↦ round_kept core after (ap (λ (k : CoreView B S P). k.barrier.round) (q.passed f))
  ]

module _ {B S P : Type 0} (r : Reaction S P) (valid : Validity S) (carried : P → Type 0) (law : KeepsValid valid carried r) (modest : IsModest valid carried r) where
  pub begin_stopped : (last : Option ℕ) (schedule : List Step) (core : CoreView B S P) → AreTriesUpTo r last schedule core core
  begin_stopped last schedule core = record { count = 0; between = core; tries = refl; left = inl refl }

  pub way_begins : (last : Option ℕ) (schedule : List Step) (core : CoreView B S P) → IsNotPast last core → (HasCome last core → ⊥) → OnTheWay valid carried r last schedule 0 core core
  way_begins last schedule core short differs = record {
    count = 0;
    used_is = omega arith;
    joins = λ n after h. let e : 0 + n ≡ n = omega arith in subst (λ k. AreTries r last k schedule core after) (sym e) h;
    onward = none_onward core;
    steps = none_joins r valid carried law modest core;
    apart = λ come i end. differs come;
    short = short;
  }

  pub way_goes_on : (last : Option ℕ) (schedule : List Step) (used next : ℕ) (first now after : CoreView B S P) → OnTheWay valid carried r last schedule used first now → GoesOn last now
      → next ≡ used + cond (nat_lt used (length schedule)) 1 0 → IsNextTry r (drop used schedule) now after → IsOnward now after → AreCoreSteps valid carried r now after
      → OnTheWay valid carried r last schedule next first after
  way_goes_on last schedule used next first now after way on more tried onward steps =
      let place : drop used schedule ≡ drop way.count schedule = ap (λ k. drop k schedule) way.used_is ∙ drop_past schedule way.count in
      let there : IsNextTry r (drop way.count schedule) now after = subst (λ l. IsNextTry r l now after) place tried in
      record {
        count = way.count + 1;
        used_is = used_more used way.count (length schedule) next way.used_is more;
        joins = λ n end h.
            let e : way.count + suc n ≡ (way.count + 1) + n = omega arith in
            subst (λ k. AreTries r last k schedule first end) e
            (way.joins (suc n) end (one_more r last n (drop way.count schedule) now after end on there (subst (λ l. AreTries r last n l after end) (drop_rest schedule way.count) h)));
        onward = more_onward first now after way.onward onward;
        steps = steps_joined r valid carried law modest first now after way.steps steps;
        apart = tried_apart r last (drop used schedule) now after on tried;
        short = made_short last now after on way.short (tried_round r (drop used schedule) now after tried);
      }

  way_tries : (last : Option ℕ) (schedule : List Step) (used : ℕ) (first now : CoreView B S P) → (way : OnTheWay valid carried r last schedule used first now) → AreTries r last way.count schedule first now
  way_tries last schedule used first now way =
      let e : way.count + 0 ≡ way.count = omega arith in
      subst (λ k. AreTries r last k schedule first now) e (way.joins 0 now refl)

  pub way_driven : (last : Option ℕ) (schedule : List Step) (used : ℕ) (first now : CoreView B S P) → OnTheWay valid carried r last schedule used first now
      → (tries : ℕ) × (used ≡ min tries (length schedule)) × AreTries r last tries schedule first now
  way_driven last schedule used first now way = (way.count, way.used_is, way_tries last schedule used first now way)

  pub way_stopped : (last : Option ℕ) (schedule : List Step) (used : ℕ) (first now after : CoreView B S P) → OnTheWay valid carried r last schedule used first now → IsLeft now after → AreTriesUpTo r last schedule first after
  way_stopped last schedule used first now after way left = record { count = way.count; between = now; tries = way_tries last schedule used first now way; left = left }

  -- less is left to do
  pub way_less : (schedule : List Step) (used next : ℕ) (now after : CoreView B S P) → IsCoreOfRun valid carried r now → next ≡ used + cond (nat_lt used (length schedule)) 1 0 → IsNextTry r (drop used schedule) now after
      → steps_left after + (length schedule - next) < steps_left now + (length schedule - used)
  way_less schedule used next now after run more tried = by_left (drop used schedule) refl tried
    where
      not_less : used ≤ next
      not_less = omega (arith, more)

      by_made : (step : Step) → IsMade r step now after → steps_left after + (length schedule - next) < steps_left now + (length schedule - used)
      by_made step made = let less : steps_left after < steps_left now = made_leaves_less r valid carried law modest step now after run made in fewer (steps_left after) (steps_left now) less not_less
        where
          fewer : (a b : ℕ) → a < b → used ≤ next → a + (length schedule - next) < b + (length schedule - used)
          fewer a b l m = omega arith

      by_left : (left : List Step) → drop used schedule ≡ left → IsNextTry r left now after → steps_left after + (length schedule - next) < steps_left now + (length schedule - used)
      by_left [] is q = by_made q.step q.made
      by_left (s ∷ rest) is q = elim (test_cases (is_enabled now s)) [
        | inl t ↦ by_made s (q.made t)
        | inr f ↦
            let within = some_left schedule used s rest is in
            let on : nat_lt used (length schedule) ≡ true = lt-ltb used (length schedule) within in
            let step : next ≡ used + 1 = more ∙ ap (λ b. used + cond b 1 0) on in
            let same : steps_left after ≡ steps_left now = ap (λ (k : CoreView B S P). steps_left k) (q.passed f) in
            passed_less (steps_left after) (steps_left now) same step within
      ]
        where
          passed_less : (a b : ℕ) → a ≡ b → next ≡ used + 1 → used < length schedule → a + (length schedule - next) < b + (length schedule - used)
          passed_less a b e n l = omega arith
