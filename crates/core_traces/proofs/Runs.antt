-- The run of a plan as a scene: the entries of a timeline by the events that tell them, and moments of times.
use Rattle.std.proofs.Common.{◌≡◌, ℕ, zero, suc, ◌+◌, ◌<◌, ◌≤◌, Bool, true, cond, List, [], ◌∷◌, ◌++◌, length, refl, sym, ap, ◌∙◌, subst, inl, inr, arith, Option, Some, None, slice_get, zero-add, suc-add, append-nil, append_assoc, length-append}
use Rattle.std.specs.List.{filter, flat_map}
use Rattle.std.proofs.lemmas.List.Elements.{filter-append}
use Rattle.event_order.specs.declared.key.Key.{Key}
use Rattle.event_order.specs.Pending.{Among}
use Rattle.event_order.specs.Machine.{option_list}
use Rattle.event_order.specs.Machine.{first_events}
use Rattle.event_order.proofs.Pending.{test_cases, append_among}
use Rattle.event_order.proofs.Steps.{lt_or_same, before_end}
use Rattle.ssf_model.specs.declared.event.Event.{Event}
use Rattle.ssf_model.specs.declared.event.Entry.{Entry}
use Rattle.ssf_model.specs.declared.entity.Entity.{Entity}
use Rattle.ssf_model.specs.declared.plan.Plan.{Plan}
use Rattle.ssf_model.specs.Reaction.{Reaction}
use Rattle.ssf_model.specs.Run.{States, machine_of, entry_by, run_entries}
use Rattle.ssf_model.specs.Scene.{Scene, Net, scene_of, world_at, event_at, time_of}
use Rattle.ssf_model.specs.Truth.{entries_that, IsCut}
use Rattle.sync_rules.specs.Shared.{IsShared}
use Rattle.sync_rules.proofs.Runs.{some_or_none, one_event, times}
use Rattle.core_traces.specs.Records.{AreEntriesBelow}

module _ {X E : Type 0} (s : Scene X E) where
  -- ---- what later events tell

  -- the entry of event number j, at or after number n
  pub record IsToldFrom (test : E → Bool) (n : ℕ) (x : Entry) : Type 0 where
    pub number : ℕ
    pub event : E
    pub from : n ≤ number
    pub is : event_at s number ≡ Some event
    pub passes : test event ≡ true
    pub told : x ≡ s.entry (world_at s number).state event

  abbrev told_of : (E → Bool) → ℕ → Option E → List Entry
  told_of test n o = flat_map (λ e. cond (test e) (s.entry (world_at s n).state e ∷ []) []) (option_list o)

  new_told : (test : E → Bool) (n k : ℕ) (o : Option E) (x : Entry) → k ≤ n → event_at s n ≡ o → Among x (told_of test n o) → IsToldFrom test k x
  new_told test n k None x l at a = absurd a
  new_told test n k (Some e) x l at a = elim (test_cases (test e)) [
    | inl t ↦ (let b : Among x (s.entry (world_at s n).state e ∷ []) = rw t at a in
        elim b [ inl is ↦ record { number = n; event = e; from = l; is = at; passes = t; told = is } | inr none ↦ absurd none ])
    | inr f ↦ (let b : Among x [] = rw f at a in absurd b)
  ]

  -- after k more events the entries are longer by what these tell
  pub record IsLonger (test : E → Bool) (n k : ℕ) : Type 0 where
    pub rest : List Entry
    pub whole : entries_that s test (k + n) ≡ entries_that s test n ++ rest
    pub each : (x : Entry) → Among x rest → IsToldFrom test n x

  pub longer : (test : E → Bool) (n k : ℕ) → IsLonger test n k
  longer test n zero = record { rest = []; whole = rw (zero-add, append-nil) refl; each = λ x a. absurd a }
  longer test n (suc k) =
      let before = longer test n k in
      let new : List Entry = told_of test (k + n) (event_at s (k + n)) in
      record {
        rest = before.rest ++ new;
        whole = rw suc-add (ap (λ xs. xs ++ new) before.whole ∙ append_assoc (entries_that s test n) before.rest new);
        each = λ x a. elim (append_among x before.rest new a) [ inl b ↦ before.each x b | inr b ↦ new_told test (k + n) n (event_at s (k + n)) x (omega arith) refl b ];
      }

  -- a timeline has as many entries as events
  one_long : (test : E → Bool) (n : ℕ) (o : Option E) → length (told_of test n o) ≡ length (filter test (option_list o))
  one_long test n None = refl
  one_long test n (Some e) = elim (test_cases (test e)) [ inl t ↦ rw t refl | inr f ↦ rw f refl ]

  pub as_long : (test : E → Bool) (n : ℕ) → length (entries_that s test n) ≡ length (filter test (first_events s.machine s.until s.kept s.opening n))
  as_long test zero = refl
  as_long test (suc n) =
      let before = as_long test n in
      let one = one_long test n (event_at s n) in
      let first = length-append (entries_that s test n) (told_of test n (event_at s n)) in
      let parts = ap length (filter-append test (first_events s.machine s.until s.kept s.opening n) (option_list (event_at s n))) in
      let second = length-append (filter test (first_events s.machine s.until s.kept s.opening n)) (filter test (option_list (event_at s n))) in
      first ∙ (omega (arith, before, one) ∙ sym (parts ∙ second))

  -- ---- moments

  -- the moment of a time, before which all events are there
  pub record IsMoment (f n : ℕ) : Type 0 where
    pub cut : IsCut s f n
    pub each : (k : ℕ) → k < n → (e : E) × (event_at s k ≡ Some e)

  event_before : (n k : ℕ) (e : E) → k < n → event_at s n ≡ Some e → (d : E) × (event_at s k ≡ Some d)
  event_before n k e l at = elim (some_or_none (event_at s k)) [
    | inl q ↦ q
    | inr none ↦ absurd (let early = before_end s.machine s.until s.kept s.opening k n e none at in omega arith)
  ]

  pub moment : (f n : ℕ) → IsCut s f n → (m : ℕ) × IsMoment f m
  moment f zero cut = (0, record { cut = cut; each = λ k l. absurd (omega arith) })
  moment f (suc n) cut = elim (some_or_none (event_at s n)) [
    | inl q ↦ (
      suc n,
      record {
        cut = cut;
        each = λ k l. elim (lt_or_same k n (omega (arith, l))) [
          | inl less ↦ event_before n k q.0 less q.1
          | inr same ↦ (q.0, subst (λ j. event_at s j ≡ Some q.0) (sym same) q.1)
        ];
      },
    )
    | inr none ↦ moment f n (record {
      early = λ j e is l. cut.early j e is (omega (arith, l));
      late = λ j e is l. elim (lt_or_same n j l) [
        | inl later ↦ cut.late j e is (omega (arith, later))
        | inr same ↦ absurd (let both : None ≡ Some e = sym none ∙ subst (λ k. event_at s k ≡ Some e) (sym same) is in cc)
      ];
    })
  ]

-- ---- the scene of a plan

module _ {B S P : Type 0} (r : Reaction S P) (plan : Plan B S P) (until : ℕ) (kept : Key → Bool) (line : ℕ → ℕ) (net : Net) where
  abbrev s : Scene (States B S P) (Event P)
  s = scene_of r plan until kept line net

  key_by : (e : Event P) (o : Option (Entity B S P)) → (entry_by r e o).key ≡ e.key
  key_by e None = refl
  key_by e (Some entity) = refl

  pub keyed : (x : States B S P) (e : Event P) → (s.entry x e).key ≡ s.machine.key e
  unfolding machine_of
  keyed x e = key_by e (slice_get x.entities e.entity)

  pub time_is : (e : Event P) → time_of s e ≡ e.key.time
  unfolding machine_of
  time_is e = refl

  pub entry_time : (x : Entry) (j : ℕ) (e : Event P) → x ≡ s.entry (world_at s j).state e → x.key.time ≡ time_of s e
  entry_time x j e told = ap (λ (y : Entry). y.key.time) told ∙ ap (λ (k : Key). k.time) (keyed (world_at s j).state e)

  -- the entries before a time end at its moment
  pub below_cut : IsShared s → (f : ℕ) (es : List Entry) (p : AreEntriesBelow r plan until kept f es) → IsCut s f p.count
  below_cut sh f es p = record {
    early = λ j e is l. (let q = p.each j l in
        let same : q.0 ≡ e = one_event s sh j q.0 e q.1 is in
        let early = q.2 in
        let time = time_is q.0 in
        subst (λ (d : Event P). time_of s d < f) same (omega (arith, early, time)));
    late = λ j e is l. elim (some_or_none (event_at s p.count)) [
      | inl q ↦ (let late = p.next q.0 q.1 in let time = time_is q.0 in let order = times s sh p.count j q.0 e l q.1 is in omega (arith, late, time, order))
      | inr none ↦ absurd (let early = before_end s.machine s.until s.kept s.opening p.count j e none is in omega arith)
    ];
  }

  -- and those up to a moment are the entries before its time
  pub moment_below : (f n : ℕ) (es : List Entry) → IsMoment s f n → es ≡ run_entries r plan until kept n → AreEntriesBelow r plan until kept f es
  moment_below f n es m are = record {
    count = n;
    are = are;
    each = λ k l. (let q = m.each k l in let early = m.cut.early k q.0 q.1 l in let time = time_is q.0 in (q.0, q.1, omega (arith, early, time)));
    next = λ e at. (let late = m.cut.late n e at (omega arith) in let time = time_is e in omega (arith, late, time));
  }
