-- The first of the enabled steps, by marks.
use Rattle.std.proofs.Common.{ℕ, zero, suc, ◌≡◌, ◌+◌, ◌<◌, ◌≤◌, ◌⊎◌, inl, inr, Bool, true, false, refl, sym, ap, ◌∙◌, subst, arith, List, [], ◌∷◌, ◌++◌, map, take, length, length-set, set, get_or, replicate, Option, Some, None, slice_get}
use Rattle.std.specs.List.{filter, flat_map, range_with_len, enumerate_from}
use Rattle.std.proofs.lemmas.List.{append_assoc, take_all}
use Rattle.std.proofs.lemmas.List.Elements.{filter-append}
use Rattle.std.proofs.lemmas.Option.{slice_get_within}
use Rattle.event_order.specs.Pending.{Among}
use Rattle.event_order.proofs.Pending.{test_cases}
use Rattle.marked_numbers.specs.Least.{IsMarked, IsLeast}
use Rattle.marked_numbers.proofs.Marking.{stays_marked}
use Rattle.timeline.specs.View.{TimelineOf}
use Rattle.timeline.specs.Holding.{low_in, is_over}
use Rattle.sync_steps.specs.declared.steps.Step.{Step}
use Rattle.sync_steps.specs.declared.steps.Step.TheVariants.{Execute, Take, Enter, Report, Cross}
use Rattle.core_rules.specs.Cores.{CoreView}
use Rattle.core_rules.specs.Stepping.{is_enabled}
use Rattle.core_rules.specs.Reading.{safe_bound_in, BudgetEndsIn}
use Rattle.sync_core.specs.declared.work.Kind.{Kind}
use Rattle.sync_core.specs.declared.work.Kind.TheVariants.{Executes, Posts, Takes, Enters, Reports}
use Rattle.sync_core.specs.Steps.{posts_of, numbers_in, enabled_steps}
use Rattle.sync_core.specs.Choosing.{posts_at, steps_of, all_of, Covers}
use Rattle.sync_core.proofs.Lists.{get_among, least_low_each}

-- ---- lists

module _ {A : Type 0} where
  pub first_some : (xs ys : List A) (x : A) → slice_get xs 0 ≡ Some x → slice_get (xs ++ ys) 0 ≡ Some x
  first_some [] ys x h = absurd (cc)
  first_some (z ∷ zs) ys x h = h

  pub first_none : (xs ys : List A) → slice_get xs 0 ≡ None → slice_get (xs ++ ys) 0 ≡ slice_get ys 0
  first_none [] ys h = refl
  first_none (z ∷ zs) ys h = absurd (cc)

  pub none_first : (xs : List A) → slice_get xs 0 ≡ None → xs ≡ []
  none_first [] h = refl
  none_first (z ∷ zs) h = absurd (cc)

  pub none_passes : (p : A → Bool) (xs : List A) → ((x : A) → Among x xs → p x ≡ true → ⊥) → filter p xs ≡ []
  none_passes p [] none = refl
  none_passes p (x ∷ xs) none = elim (test_cases (p x)) [
    | inl t ↦ absurd (none x (inl refl) t)
    | inr f ↦ rw f (none_passes p xs (λ y a t. none y (inr a) t))
  ]

  pub passes_none : (p : A → Bool) (xs : List A) → filter p xs ≡ [] → (x : A) → Among x xs → p x ≡ true → ⊥
  passes_none p [] none x a t = a
  passes_none p (y ∷ ys) none x a t = elim (test_cases (p y)) [
    | inl u ↦ let some : (y ∷ filter p ys) ≡ [] = rw u at none in absurd (cc)
    | inr f ↦ let rest : filter p ys ≡ [] = rw f at none in elim a [
      | inl e ↦ let u : p y ≡ true = subst (λ z. p z ≡ true) e t in absurd (cc)
      | inr b ↦ passes_none p ys rest x b t
    ]
  ]

  -- of items in a row, of which each number has some
  pub none_in : (p : A → Bool) (f : ℕ → List A) (a m : ℕ) → ((k : ℕ) → a ≤ k → k < a + m → filter p (f k) ≡ []) → filter p (flat_map f (range_with_len a m)) ≡ []
  none_in p f a zero none = refl
  none_in p f a (suc m) none =
      filter-append p (f a) (flat_map f (range_with_len (a + 1) m))
      ∙ (ap (λ l. l ++ filter p (flat_map f (range_with_len (a + 1) m))) (none a (omega arith) (omega arith))
      ∙ none_in p f (a + 1) m (λ k low high. none k (omega arith) (omega arith)))

  pub first_in : (p : A → Bool) (f : ℕ → List A) (a m n : ℕ) (x : A) → a ≤ n → n < a + m → ((k : ℕ) → a ≤ k → k < n → filter p (f k) ≡ []) → slice_get (filter p (f n)) 0 ≡ Some x
      → slice_get (filter p (flat_map f (range_with_len a m))) 0 ≡ Some x
  first_in p f a zero n x low high none here = absurd (omega arith)
  first_in p f a (suc m) n x low high none here =
      let split = filter-append p (f a) (flat_map f (range_with_len (a + 1) m)) in
      ap (λ l. slice_get l 0) split ∙ elim (same_or_later a n low) [
        | inl same ↦ first_some (filter p (f a)) (filter p (flat_map f (range_with_len (a + 1) m))) x (ap (λ k. slice_get (filter p (f k)) 0) same ∙ here)
        | inr later ↦ ap (λ l. slice_get (l ++ filter p (flat_map f (range_with_len (a + 1) m))) 0) (none a (omega arith) (omega arith))
            ∙ first_in p f (a + 1) m n x (omega arith) (omega arith) (λ k from to. none k (omega arith) to) here
      ]
    where
      same_or_later : (a n : ℕ) → a ≤ n → (a ≡ n) ⊎ (a < n)
      same_or_later zero zero h = inl refl
      same_or_later zero (suc n) h = inr (omega arith)
      same_or_later (suc a) zero h = absurd (omega arith)
      same_or_later (suc a) (suc n) h = elim (same_or_later a n (omega arith)) [ inl e ↦ inl (ap suc e) | inr l ↦ inr (omega arith) ]

  -- the first of six lists, one behind the other
  module _ (a b c d e f : List A) (x : A) where
    pub first_1 : slice_get a 0 ≡ Some x → slice_get (a ++ (b ++ (c ++ (d ++ (e ++ f))))) 0 ≡ Some x
    first_1 h = first_some a (b ++ (c ++ (d ++ (e ++ f)))) x h

    pub first_2 : slice_get a 0 ≡ None → slice_get b 0 ≡ Some x → slice_get (a ++ (b ++ (c ++ (d ++ (e ++ f))))) 0 ≡ Some x
    first_2 na h = first_none a (b ++ (c ++ (d ++ (e ++ f)))) na ∙ first_some b (c ++ (d ++ (e ++ f))) x h

    pub first_3 : slice_get a 0 ≡ None → slice_get b 0 ≡ None → slice_get c 0 ≡ Some x → slice_get (a ++ (b ++ (c ++ (d ++ (e ++ f))))) 0 ≡ Some x
    first_3 na nb h = first_none a (b ++ (c ++ (d ++ (e ++ f)))) na ∙ (first_none b (c ++ (d ++ (e ++ f))) nb ∙ first_some c (d ++ (e ++ f)) x h)

    pub first_4 : slice_get a 0 ≡ None → slice_get b 0 ≡ None → slice_get c 0 ≡ None → slice_get d 0 ≡ Some x → slice_get (a ++ (b ++ (c ++ (d ++ (e ++ f))))) 0 ≡ Some x
    first_4 na nb nc h = first_none a (b ++ (c ++ (d ++ (e ++ f)))) na ∙ (first_none b (c ++ (d ++ (e ++ f))) nb ∙ (first_none c (d ++ (e ++ f)) nc ∙ first_some d (e ++ f) x h))

    pub first_5 : slice_get a 0 ≡ None → slice_get b 0 ≡ None → slice_get c 0 ≡ None → slice_get d 0 ≡ None → slice_get e 0 ≡ Some x → slice_get (a ++ (b ++ (c ++ (d ++ (e ++ f))))) 0 ≡ Some x
    first_5 na nb nc nd h = first_none a (b ++ (c ++ (d ++ (e ++ f)))) na ∙ (first_none b (c ++ (d ++ (e ++ f))) nb ∙ (first_none c (d ++ (e ++ f)) nc ∙ (first_none d (e ++ f) nd ∙ first_some e f x h)))

  pub first_6 : (a b c d e f : List A) → slice_get a 0 ≡ None → slice_get b 0 ≡ None → slice_get c 0 ≡ None → slice_get d 0 ≡ None → slice_get e 0 ≡ None → slice_get (a ++ (b ++ (c ++ (d ++ (e ++ f))))) 0 ≡ slice_get f 0
  first_6 a b c d e f na nb nc nd ne = first_none a (b ++ (c ++ (d ++ (e ++ f)))) na ∙ (first_none b (c ++ (d ++ (e ++ f))) nb ∙ (first_none c (d ++ (e ++ f)) nc ∙ (first_none d (e ++ f) nd ∙ first_none e f ne)))

-- the first item of which the test holds
pub first_found : {A X : Type 0} (p : X → Bool) (f : A → X) (xs : List A) (i : ℕ) (x : A) → filter p (map f (take i xs)) ≡ [] → i < length xs → x ≡ get_or xs i x → p (f x) ≡ true → slice_get (filter p (map f xs)) 0 ≡ Some (f x)
first_found p f [] i x none h is on = absurd (omega arith)
first_found p f (y ∷ ys) zero x none h is on = let t : p (f y) ≡ true = subst (λ z. p (f z) ≡ true) is on in rw t (ap (λ z. Some (f z)) (sym is))
first_found p f (y ∷ ys) (suc i) x none h is on = elim (test_cases (p (f y))) [
  | inl t ↦ let some : (f y ∷ filter p (map f (take i ys))) ≡ [] = rw t at none in absurd (cc)
  | inr u ↦ rw u (first_found p f ys i x (rw u at none) (omega arith) is on)
]

pub first_passed : {A X : Type 0} (p : X → Bool) (f : A → X) (xs : List A) (i : ℕ) → filter p (map f (take i xs)) ≡ [] → length xs ≤ i → slice_get (filter p (map f xs)) 0 ≡ None
first_passed p f xs i none h = ap (λ l. slice_get (filter p (map f l)) 0) (sym (take_all i xs h)) ∙ ap (λ l. slice_get l 0) none

-- ---- marks

pub marked_count : List Bool → ℕ
marked_count [] = 0
marked_count (true ∷ ms) = suc (marked_count ms)
marked_count (false ∷ ms) = marked_count ms

pub fewer_marked : (ms : List Bool) (n : ℕ) → IsMarked ms n → marked_count (set ms n false) < marked_count ms
unfolding marked_count
fewer_marked [] n h = absurd (cc)
fewer_marked (true ∷ ms) zero h = omega arith
fewer_marked (false ∷ ms) zero h = absurd (cc)
fewer_marked (true ∷ ms) (suc n) h = let rest = fewer_marked ms n h in omega arith
fewer_marked (false ∷ ms) (suc n) h = fewer_marked ms n h

pub all_marked : (n i : ℕ) → i < n → IsMarked (replicate n true) i
all_marked zero i h = absurd (omega arith)
all_marked (suc n) zero h = refl
all_marked (suc n) (suc i) h = all_marked n i (omega arith)

six : (p : Step → Bool) (xs ps ts es rs cs : List Step) → filter p (xs ++ ps ++ ts ++ es ++ rs ++ cs) ≡ filter p xs ++ (filter p ps ++ (filter p ts ++ (filter p es ++ (filter p rs ++ filter p cs))))
six p xs ps ts es rs cs = simp (append_assoc, filter-append)

-- ---- the steps of a kind

module _ {B S P : Type 0} where
  pub not_marked : (kind : Kind) (core : CoreView B S P) (marks : List Bool) (i : ℕ) → Covers kind core marks → (IsMarked marks i → ⊥) → filter (is_enabled core) (steps_of kind core i) ≡ []
  not_marked kind core marks i q none = none_passes (is_enabled core) (steps_of kind core i) (λ step a t. none (q.known i step a t))

  -- a timeline that has no enabled step loses its mark
  pub covers_less : (kind : Kind) (core : CoreView B S P) (marks : List Bool) (i : ℕ) → Covers kind core marks → slice_get (filter (is_enabled core) (steps_of kind core i)) 0 ≡ None → Covers kind core (set marks i false)
  covers_less kind core marks i q none = record {
    many = length-set marks i false ∙ q.many;
    known = λ k step a t. stays_marked marks i k false (λ same. passes_none (is_enabled core) (steps_of kind core i) (none_first (filter (is_enabled core) (steps_of kind core i)) none) step (subst (λ n. Among step (steps_of kind core n)) same a) t) (q.known k step a t);
  }

  pub least_first : (kind : Kind) (core : CoreView B S P) (marks : List Bool) (i : ℕ) (step : Step) → Covers kind core marks → IsLeast marks i → slice_get (filter (is_enabled core) (steps_of kind core i)) 0 ≡ Some step
      → slice_get (filter (is_enabled core) (all_of kind core)) 0 ≡ Some step
  least_first kind core marks i step q least here =
      let within = slice_get_within marks i true least.marked in
      first_in (is_enabled core) (steps_of kind core) 0 (length core.timelines) i step (omega arith) (omega (arith, within, q.many))
      (λ k low high. not_marked kind core marks k q (λ m. least.least k high m)) here

  pub no_first : (kind : Kind) (core : CoreView B S P) (marks : List Bool) → Covers kind core marks → ((k : ℕ) → IsMarked marks k → ⊥) → slice_get (filter (is_enabled core) (all_of kind core)) 0 ≡ None
  no_first kind core marks q none =
      ap (λ l. slice_get l 0) (none_in (is_enabled core) (steps_of kind core) 0 (length core.timelines) (λ k low high. not_marked kind core marks k q (λ m. none k m)))

  -- ---- all kinds

  executes_are : (core : CoreView B S P) (ns : List ℕ) → flat_map (steps_of Executes core) ns ≡ map Execute ns
  executes_are core [] = refl
  executes_are core (n ∷ ns) = ap (λ l. Execute n ∷ l) (executes_are core ns)

  takes_are : (core : CoreView B S P) (ns : List ℕ) → flat_map (steps_of Takes core) ns ≡ map Take ns
  takes_are core [] = refl
  takes_are core (n ∷ ns) = ap (λ l. Take n ∷ l) (takes_are core ns)

  enters_are : (core : CoreView B S P) (ns : List ℕ) → flat_map (steps_of Enters core) ns ≡ map Enter ns
  enters_are core [] = refl
  enters_are core (n ∷ ns) = ap (λ l. Enter n ∷ l) (enters_are core ns)

  reports_are : (core : CoreView B S P) (ns : List ℕ) → flat_map (steps_of Reports core) ns ≡ map Report ns
  reports_are core [] = refl
  reports_are core (n ∷ ns) = ap (λ l. Report n ∷ l) (reports_are core ns)

  posts_from : (core : CoreView B S P) (a : ℕ) (ts : List (TimelineOf B S P)) → ((k : ℕ) → slice_get core.timelines (a + k) ≡ slice_get ts k)
      → flat_map (steps_of Posts core) (range_with_len a (length ts)) ≡ flat_map posts_of (enumerate_from a ts)
  posts_from core a [] same = refl
  posts_from core a (t ∷ ts) same =
      let first : a + 0 ≡ a = omega arith in
      let own : slice_get core.timelines a ≡ Some t = ap (λ n. slice_get core.timelines n) (sym first) ∙ same 0 in
      let here : steps_of Posts core a ≡ posts_of (a, t) = ap (posts_at a) own in
      ap (λ l. l ++ flat_map (steps_of Posts core) (range_with_len (a + 1) (length ts))) here
      ∙ ap (λ l. posts_of (a, t) ++ l) (posts_from core (a + 1) ts (λ k. let next : (a + 1) + k ≡ a + suc k = omega arith in ap (λ n. slice_get core.timelines n) next ∙ same (suc k)))

  posts_are : (core : CoreView B S P) → all_of Posts core ≡ flat_map posts_of (enumerate_from 0 core.timelines)
  posts_are core = posts_from core 0 core.timelines (λ k. let same : 0 + k ≡ k = omega arith in ap (λ n. slice_get core.timelines n) same)

  -- the enabled steps, kind by kind
  pub enabled_by_kinds : (core : CoreView B S P) → enabled_steps core
      ≡ filter (is_enabled core) (all_of Executes core) ++ (filter (is_enabled core) (all_of Posts core) ++ (filter (is_enabled core) (all_of Takes core)
      ++ (filter (is_enabled core) (all_of Enters core) ++ (filter (is_enabled core) (all_of Reports core) ++ filter (is_enabled core) (Cross ∷ [])))))
  enabled_by_kinds core =
      let p = is_enabled core in
      let ns = numbers_in core in
      six p (map Execute ns) (flat_map posts_of (enumerate_from 0 core.timelines)) (map Take ns) (map Enter ns) (map Report ns) (Cross ∷ [])
      ∙ sym (rw (executes_are core ns, posts_are core, takes_are core ns, enters_are core ns, reports_are core ns) refl)

  abbrev pub kind_first : CoreView B S P → Kind → Option Step
  kind_first core kind = slice_get (filter (is_enabled core) (all_of kind core)) 0

  module _ (core : CoreView B S P) where
    by_kinds : slice_get (enabled_steps core) 0 ≡ slice_get (filter (is_enabled core) (all_of Executes core) ++ (filter (is_enabled core) (all_of Posts core) ++ (filter (is_enabled core) (all_of Takes core)
        ++ (filter (is_enabled core) (all_of Enters core) ++ (filter (is_enabled core) (all_of Reports core) ++ filter (is_enabled core) (Cross ∷ [])))))) 0
    by_kinds = ap (λ l. slice_get l 0) (enabled_by_kinds core)

    pub enabled_1 : (x : Step) → kind_first core Executes ≡ Some x → slice_get (enabled_steps core) 0 ≡ Some x
    enabled_1 x h = by_kinds ∙ first_1 (filter (is_enabled core) (all_of Executes core)) (filter (is_enabled core) (all_of Posts core)) (filter (is_enabled core) (all_of Takes core)) (filter (is_enabled core) (all_of Enters core)) (filter (is_enabled core) (all_of Reports core)) (filter (is_enabled core) (Cross ∷ [])) x h

    pub enabled_2 : (x : Step) → kind_first core Executes ≡ None → kind_first core Posts ≡ Some x → slice_get (enabled_steps core) 0 ≡ Some x
    enabled_2 x a h = by_kinds ∙ first_2 (filter (is_enabled core) (all_of Executes core)) (filter (is_enabled core) (all_of Posts core)) (filter (is_enabled core) (all_of Takes core)) (filter (is_enabled core) (all_of Enters core)) (filter (is_enabled core) (all_of Reports core)) (filter (is_enabled core) (Cross ∷ [])) x a h

    pub enabled_3 : (x : Step) → kind_first core Executes ≡ None → kind_first core Posts ≡ None → kind_first core Takes ≡ Some x → slice_get (enabled_steps core) 0 ≡ Some x
    enabled_3 x a b h = by_kinds ∙ first_3 (filter (is_enabled core) (all_of Executes core)) (filter (is_enabled core) (all_of Posts core)) (filter (is_enabled core) (all_of Takes core)) (filter (is_enabled core) (all_of Enters core)) (filter (is_enabled core) (all_of Reports core)) (filter (is_enabled core) (Cross ∷ [])) x a b h

    pub enabled_4 : (x : Step) → kind_first core Executes ≡ None → kind_first core Posts ≡ None → kind_first core Takes ≡ None → kind_first core Enters ≡ Some x → slice_get (enabled_steps core) 0 ≡ Some x
    enabled_4 x a b d h = by_kinds ∙ first_4 (filter (is_enabled core) (all_of Executes core)) (filter (is_enabled core) (all_of Posts core)) (filter (is_enabled core) (all_of Takes core)) (filter (is_enabled core) (all_of Enters core)) (filter (is_enabled core) (all_of Reports core)) (filter (is_enabled core) (Cross ∷ [])) x a b d h

    pub enabled_5 : (x : Step) → kind_first core Executes ≡ None → kind_first core Posts ≡ None → kind_first core Takes ≡ None → kind_first core Enters ≡ None → kind_first core Reports ≡ Some x → slice_get (enabled_steps core) 0 ≡ Some x
    enabled_5 x a b d e h = by_kinds ∙ first_5 (filter (is_enabled core) (all_of Executes core)) (filter (is_enabled core) (all_of Posts core)) (filter (is_enabled core) (all_of Takes core)) (filter (is_enabled core) (all_of Enters core)) (filter (is_enabled core) (all_of Reports core)) (filter (is_enabled core) (Cross ∷ [])) x a b d e h

    pub enabled_6 : kind_first core Executes ≡ None → kind_first core Posts ≡ None → kind_first core Takes ≡ None → kind_first core Enters ≡ None → kind_first core Reports ≡ None
        → slice_get (enabled_steps core) 0 ≡ slice_get (filter (is_enabled core) (Cross ∷ [])) 0
    enabled_6 a b d e f = by_kinds ∙ first_6 (filter (is_enabled core) (all_of Executes core)) (filter (is_enabled core) (all_of Posts core)) (filter (is_enabled core) (all_of Takes core)) (filter (is_enabled core) (all_of Enters core)) (filter (is_enabled core) (all_of Reports core)) (filter (is_enabled core) (Cross ∷ [])) a b d e f

  -- ---- from the parts as a core has them inside

  pub own_is : (inner core : CoreView B S P) (i : ℕ) (u t : TimelineOf B S P) → inner ≡ core → slice_get inner.timelines i ≡ Some u → slice_get core.timelines i ≡ Some t → u ≡ t
  own_is inner core i u t same one two =
      let here : slice_get core.timelines i ≡ Some u = subst (λ (k : CoreView B S P). slice_get k.timelines i ≡ Some u) same one in
      one_of (sym here ∙ two)
    where
      one_of : Some u ≡ Some t → u ≡ t
      one_of h = cc

  pub number_inside : (inner core : CoreView B S P) (i : ℕ) → inner ≡ core → i < length core.timelines → i < length inner.timelines
  number_inside inner core i same h = subst (λ (k : CoreView B S P). i < length k.timelines) (sym same) h

  pub ends_not_at : (core : CoreView B S P) (i : ℕ) (t : TimelineOf B S P) (bound : ℕ) → slice_get core.timelines i ≡ Some t → bound ≡ safe_bound_in core → (is_over t ≡ true → low_in t ≡ bound → ⊥) → BudgetEndsIn core i → ⊥
  ends_not_at core i t bound own is none q =
      let same : q.timeline ≡ t = own_is core core i q.timeline t refl q.own own in
      none (subst (λ u. is_over u ≡ true) same q.over) (subst (λ u. low_in u ≡ bound) same (q.least ∙ sym is))

  pub inside_at : (inner core : CoreView B S P) (i : ℕ) (t : TimelineOf B S P) → inner ≡ core → slice_get inner.timelines i ≡ Some t → slice_get core.timelines i ≡ Some t
  inside_at inner core i t same own = subst (λ (k : CoreView B S P). slice_get k.timelines i ≡ Some t) same own

  -- where a timeline's lower bound is before all those of timelines whose budget is spent, the budget ends at none
  pub ends_nowhere : (core : CoreView B S P) (over k : ℕ) (t : TimelineOf B S P) → slice_get core.timelines k ≡ Some t → low_in t < over
      → ((i : ℕ) (u : TimelineOf B S P) → slice_get core.timelines i ≡ Some u → is_over u ≡ true → over ≤ low_in u) → (i : ℕ) → BudgetEndsIn core i → ⊥
  ends_nowhere core over k t own low all i q =
      let least = least_low_each core.timelines (core.until + 1) t (get_among core.timelines k t own) in
      let high = all i q.timeline q.own q.over in
      absurd (omega (arith, least, high, low, q.least))

  pub past_all : (core : CoreView B S P) (n i : ℕ) → length core.timelines ≤ n → ((k : ℕ) → k < n → BudgetEndsIn core k → ⊥) → BudgetEndsIn core i → ⊥
  past_all core n i h none q = let within = slice_get_within core.timelines i q.timeline q.own in none i (omega (arith, within, h)) q
