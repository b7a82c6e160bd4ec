-- The entries of a run before a time, and all of them.
use Rattle.std.proofs.Common.{◌≡◌, subst, ℕ, zero, suc, ◌<◌, Bool, true, false, List, [], ◌∷◌, ◌++◌, length, refl, sym, ap, ◌∙◌, inl, inr, arith, Option, Some, None, option_map, is_some, length-append}
use Rattle.event_order.specs.declared.key.Key.{Key}
use Rattle.event_order.specs.Machine.{option_list}
use Rattle.event_order.proofs.Steps.{lt_or_ge, lt_or_same, difference, before_end}
use Rattle.ssf_model.specs.declared.event.Event.{Event}
use Rattle.ssf_model.specs.declared.event.Entry.{Entry}
use Rattle.ssf_model.specs.declared.plan.Plan.{Plan}
use Rattle.ssf_model.specs.Reaction.{Reaction}
use Rattle.ssf_model.specs.Run.{machine_of, opening, entry_at, entries_from, run_event, run_entries, world_after}
use Rattle.run_laws.proofs.Continuing.{entries_go_on}
use Rattle.sync_rules.proofs.Runs.{some_or_none}
use Rattle.core_traces.specs.Records.{AreEntriesBelow, AreAllEntries}

some_there : {T : Type 0} (o : Option T) → is_some o ≡ true → (x : T) × (o ≡ Some x)
some_there None h = absurd (let wrong : false ≡ true = h in cc)
some_there (Some x) h = (x, refl)

pub is_there : {T : Type 0} (o : Option T) (x : T) → o ≡ Some x → is_some o ≡ true
is_there o x at = ap is_some at

module _ {B S P : Type 0} (r : Reaction S P) (plan : Plan B S P) (until : ℕ) (kept : Key → Bool) where
  abbrev event : ℕ → Option (Event P)
  event n = run_event r plan until kept n

  abbrev entries : ℕ → List Entry
  entries n = run_entries r plan until kept n

  -- no entry is before the time 0
  pub none_below : AreEntriesBelow r plan until kept 0 []
  none_below = record { count = 0; are = refl; each = λ k l. absurd (omega arith); next = λ e at. omega arith }

  -- ---- one count

  below_count : (f : ℕ) (es ds : List Entry) (p : AreEntriesBelow r plan until kept f es) (q : AreEntriesBelow r plan until kept f ds) → p.count < q.count → ⊥
  below_count f es ds p q less =
      let e = q.each p.count less in
      let late = p.next e.0 e.1 in
      let early = e.2 in
      omega arith

  pub one_below : (f : ℕ) (es ds : List Entry) → AreEntriesBelow r plan until kept f es → AreEntriesBelow r plan until kept f ds → es ≡ ds
  one_below f es ds p q = elim (lt_or_ge p.count q.count) [
    | inl less ↦ absurd (below_count f es ds p q less)
    | inr more ↦ elim (lt_or_same q.count p.count more) [
      | inl less ↦ absurd (below_count f ds es q p less)
      | inr same ↦ p.are ∙ (ap entries (sym same) ∙ sym q.are)
    ]
  ]

  all_count : (es ds : List Entry) (p : AreAllEntries r plan until kept es) (q : AreAllEntries r plan until kept ds) → p.count < q.count → ⊥
  all_count es ds p q less =
      let e = some_there (event p.count) (q.each p.count less) in
      let both : None ≡ Some e.0 = sym p.no_more ∙ e.1 in
      cc

  pub one_all : (es ds : List Entry) → AreAllEntries r plan until kept es → AreAllEntries r plan until kept ds → es ≡ ds
  one_all es ds p q = elim (lt_or_ge p.count q.count) [
    | inl less ↦ absurd (all_count es ds p q less)
    | inr more ↦ elim (lt_or_same q.count p.count more) [
      | inl less ↦ absurd (all_count ds es q p less)
      | inr same ↦ p.are ∙ (ap entries (sym same) ∙ sym q.are)
    ]
  ]

  -- ---- how many there are

  as_many : (n : ℕ) → ((k : ℕ) → k < n → (e : Event P) × (event k ≡ Some e)) → length (entries n) ≡ n
  as_many zero all = refl
  as_many (suc n) all =
      let e = all n (omega arith) in
      let one : option_list (option_map (entry_at r (world_after r plan until kept n).state.entities) (event n)) ≡ entry_at r (world_after r plan until kept n).state.entities e.0 ∷ [] =
      ap (λ (o : Option (Event P)). option_list (option_map (entry_at r (world_after r plan until kept n).state.entities) o)) e.1 in
      let both = length-append (entries n) (option_list (option_map (entry_at r (world_after r plan until kept n).state.entities) (event n))) in
      let rest = as_many n (λ k l. all k (omega (arith, l))) in
      let long = ap length one in
      both ∙ omega (arith, rest, long)

  pub below_long : (f : ℕ) (es : List Entry) (p : AreEntriesBelow r plan until kept f es) → length es ≡ p.count
  below_long f es p = ap length p.are ∙ as_many p.count (λ k l. (let e = p.each k l in (e.0, e.1)))

  pub all_long : (es : List Entry) (p : AreAllEntries r plan until kept es) → length es ≡ p.count
  all_long es p = ap length p.are ∙ as_many p.count (λ k l. some_there (event k) (p.each k l))

  -- ---- the first of all

  pub below_first : (f : ℕ) (es ds : List Entry) → AreEntriesBelow r plan until kept f es → AreAllEntries r plan until kept ds → (rest : List Entry) × (es ++ rest ≡ ds)
  below_first f es ds p q = elim (lt_or_ge q.count p.count) [
    | inl less ↦ absurd (let e = p.each q.count less in let both : None ≡ Some e.0 = sym q.no_more ∙ e.1 in cc)
    | inr more ↦ (let d = difference p.count q.count more in
        let rest : List Entry = entries_from r plan.mappings until kept (world_after r plan until kept p.count) d.0 in
        (rest, ap (λ xs. xs ++ rest) p.are ∙ (sym (entries_go_on r plan.mappings until kept (opening plan) p.count d.0) ∙ (ap entries (sym d.1) ∙ sym q.are))))
  ]

  -- ---- a run that ends

  event_before : (n k : ℕ) (e : Event P) → k < n → event n ≡ Some e → is_some (event k) ≡ true
  event_before n k e l at = elim (some_or_none (event k)) [
    | inl q ↦ is_there (event k) q.0 q.1
    | inr none ↦ absurd (let early = before_end (machine_of {B = B} r plan.mappings) until kept (opening plan) k n e none at in omega arith)
  ]

  pub all_there : (n : ℕ) → event n ≡ None → (es : List Entry) × AreAllEntries r plan until kept es
  all_there zero none = ([], record { count = 0; are = refl; each = λ k l. absurd (omega arith); no_more = none })
  all_there (suc n) none = elim (some_or_none (event n)) [
    | inr over ↦ all_there n over
    | inl q ↦ (
      entries (suc n),
      record {
        count = suc n;
        are = refl;
        each = λ k l. elim (lt_or_same k n (omega (arith, l))) [
          | inl less ↦ event_before n k q.0 less q.1
          | inr same ↦ subst (λ j. is_some (event j) ≡ true) (sym same) (is_there (event n) q.0 q.1)
        ];
        no_more = none;
      },
    )
  ]
