-- How the entities and the counts of channels come to the lists of their timelines, one by one.
use Rattle.std.proofs.Common.{◌≡◌, ℕ, zero, suc, ◌+◌, ◌<◌, ◌≤◌, Bool, true, false, cond, nat_eq, List, [], ◌∷◌, ◌++◌, length, get_or, set, take, drop, map, slice_get, option_to_list, Some, None, refl, sym, ap, ◌∙◌, subst, inl, arith, append_assoc}
use Rattle.std.specs.List.{filter, flat_map, enumerate_from}
use Rattle.std.proofs.lemmas.List.{append-nil, map-append, take_all, take_more, set-set, get_or-set_same, set-get_or}
use Rattle.std.proofs.lemmas.List.Concat.{flat_map-append}
use Rattle.std.proofs.lemmas.List.FromFn.{length-enumerate_from, get_or-enumerate_from}
use Rattle.event_order.specs.Pending.{Among}
use Rattle.ssf_model.specs.declared.process.Process.{Process}
use Rattle.ssf_model.specs.declared.entity.Entity.{Entity}
use Rattle.ssf_model.specs.declared.plan.Mapping.{Mapping}
use Rattle.alignment.specs.Alignment.{line_of}
use Rattle.plan_shares.specs.Shares.{is_on, entities_on, timers_in, timers_on, mapped_on, counted_in}
use Rattle.plan_shares.specs.Lists.{for_each, list_at}
use Rattle.plan_shares.proofs.ForEach.{among_here, each_of, put_more, put_kept, kept_more, flat_of}

-- ---- entities

module _ {T : Type 0} where
  -- the rest of a list begins with the item at the place
  pub rest_is : (xs : List T) (k : ℕ) (x : T) (rest : List T) → drop k xs ≡ x ∷ rest → (k < length xs) × (x ≡ get_or xs k x) × (drop (k + 1) xs ≡ rest)
  rest_is [] zero x rest h = absurd (cc)
  rest_is [] (suc k) x rest h = absurd (cc)
  rest_is (y ∷ ys) zero x rest h = (omega arith, (let same : y ≡ x = cc in sym same), (let left : ys ≡ rest = cc in left))
  rest_is (y ∷ ys) (suc k) x rest h = let more = rest_is ys k x rest h in let low = more.0 in
      (omega arith, more.1, (let next : suc k + 1 ≡ suc (k + 1) = omega arith in ap (λ n. drop n (y ∷ ys)) next ∙ more.2))

  pub none_left : (xs : List T) (k : ℕ) → drop k xs ≡ [] → length xs ≤ k
  none_left [] k h = omega arith
  none_left (y ∷ ys) zero h = absurd (cc)
  none_left (y ∷ ys) (suc k) h = let rest = none_left ys k h in omega arith

  pub get_some : (xs : List T) (k : ℕ) (x : T) → k < length xs → x ≡ get_or xs k x → slice_get xs k ≡ Some x
  get_some [] k x h e = absurd (omega arith)
  get_some (y ∷ ys) zero x h e = ap (λ z. Some z) (sym e)
  get_some (y ∷ ys) (suc k) x h e = get_some ys k x (omega arith) e

  numbered_at : (es : List T) (k : ℕ) (e : T) → k < length es → e ≡ get_or es k e → (k, e) ≡ get_or (enumerate_from 0 es) k (k, e)
  numbered_at es k e h at =
      let is : get_or (enumerate_from 0 es) k (k, e) ≡ (0 + k, get_or es k e) = get_or-enumerate_from 0 es k (k, e) h in
      sym (is ∙ (ap (λ n. (n, get_or es k e)) (omega arith) ∙ ap (λ x. (k, x)) (sym at)))

  -- one entity more, which has the number k
  pub entities_more : (lines : List ℕ) (n k : ℕ) (es : List T) (e : T) (old new : List (List (ℕ × T))) (j : ℕ) → k < length es → e ≡ get_or es k e → j ≡ line_of lines k → j < n
      → old ≡ for_each n (λ i. filter (λ x. is_on lines i x.0) (take k (enumerate_from 0 es))) → new ≡ set old j (list_at old j ++ (k, e) ∷ [])
      → new ≡ for_each n (λ i. filter (λ x. is_on lines i x.0) (take (k + 1) (enumerate_from 0 es)))
  entities_more lines n k es e old new j h at line below was is =
      put_kept n j (λ i (x : ℕ × T). is_on lines i x.0) (enumerate_from 0 es) k (k, e) old new (omega (arith, length-enumerate_from 0 es)) (numbered_at es k e h at)
      (λ i. ap (λ m. nat_eq m i) (sym line)) was below is

  pub entities_all : (lines : List ℕ) (n k : ℕ) (es : List T) (old : List (List (ℕ × T))) → length es ≤ k → old ≡ for_each n (λ i. filter (λ x. is_on lines i x.0) (take k (enumerate_from 0 es))) → old ≡ for_each n (λ i. entities_on lines i es)
  entities_all lines n k es old h was = was ∙ ap (λ xs. for_each n (λ i. filter (λ (x : ℕ × T). is_on lines i x.0) xs)) (take_all k (enumerate_from 0 es) (omega (arith, length-enumerate_from 0 es)))

-- ---- timer channels

-- the timer channels, with their counts, of the first k entities that are on timeline i
abbrev pub first_timers : {B S P : Type 0} → List ℕ → List ℕ → ℕ → List (Entity B S P) → ℕ → List (ℕ × ℕ)
first_timers counts lines k es i = map (counted_in counts) (flat_map (λ x. timers_in x.1.processes) (filter (λ x. is_on lines i x.0) (take k (enumerate_from 0 es))))

module _ {B S P : Type 0} (counts lines : List ℕ) where
  one_timers : (k : ℕ) (e : Entity B S P) (xs : List (ℕ × Entity B S P)) (t : Bool)
      → map (counted_in counts) (flat_map (λ x. timers_in x.1.processes) (xs ++ cond t ((k, e) ∷ []) [])) ≡ map (counted_in counts) (flat_map (λ x. timers_in x.1.processes) xs) ++ cond t (map (counted_in counts) (timers_in e.processes)) []
  one_timers k e xs true =
      let joined : flat_map (λ (x : ℕ × Entity B S P). timers_in x.1.processes) (xs ++ (k, e) ∷ []) ≡ flat_map (λ x. timers_in x.1.processes) xs ++ timers_in e.processes
      = flat_map-append (λ (x : ℕ × Entity B S P). timers_in x.1.processes) xs ((k, e) ∷ []) ∙ ap (λ ys. flat_map (λ (x : ℕ × Entity B S P). timers_in x.1.processes) xs ++ ys) (append-nil (timers_in e.processes)) in
      ap (λ ys. map (counted_in counts) ys) joined ∙ map-append (counted_in counts) (flat_map (λ (x : ℕ × Entity B S P). timers_in x.1.processes) xs) (timers_in e.processes)
  one_timers k e xs false =
      ap (λ ys. map (counted_in counts) (flat_map (λ (x : ℕ × Entity B S P). timers_in x.1.processes) ys)) (append-nil xs) ∙ sym (append-nil (map (counted_in counts) (flat_map (λ x. timers_in x.1.processes) xs)))

  pub timers_more : (n k j : ℕ) (es : List (Entity B S P)) (e : Entity B S P) (old new : List (List (ℕ × ℕ))) → k < length es → e ≡ get_or es k e → j ≡ line_of lines k → j < n
      → old ≡ for_each n (first_timers counts lines k es) → new ≡ set old j (list_at old j ++ map (counted_in counts) (timers_in e.processes)) → new ≡ for_each n (first_timers counts lines (k + 1) es)
  timers_more n k j es e old new h at line below was is =
      put_more n j (first_timers counts lines k es) (first_timers counts lines (k + 1) es) (map (counted_in counts) (timers_in e.processes)) old new was below
      (λ i low.
      ap (λ xs. map (counted_in counts) (flat_map (λ (x : ℕ × Entity B S P). timers_in x.1.processes) xs))
      (kept_more (λ (x : ℕ × Entity B S P). is_on lines i x.0) (enumerate_from 0 es) k (k, e) (omega (arith, length-enumerate_from 0 es)) (numbered_at es k e h at))
      ∙ (one_timers k e (filter (λ x. is_on lines i x.0) (take k (enumerate_from 0 es))) (is_on lines i k)
      ∙ ap (λ m. first_timers counts lines k es i ++ cond (nat_eq m i) (map (counted_in counts) (timers_in e.processes)) []) (sym line))) is

  pub timers_all : (n k : ℕ) (es : List (Entity B S P)) (old : List (List (ℕ × ℕ))) → length es ≤ k → old ≡ for_each n (first_timers counts lines k es) → old ≡ for_each n (λ i. map (counted_in counts) (timers_on lines i es))
  timers_all n k es old h was =
      was ∙ ap (λ xs. for_each n (λ i. map (counted_in counts) (flat_map (λ (x : ℕ × Entity B S P). timers_in x.1.processes) (filter (λ x. is_on lines i x.0) xs)))) (take_all k (enumerate_from 0 es) (omega (arith, length-enumerate_from 0 es)))

-- ---- the timer channels of one entity

-- the list of timeline j has the counts of the first k processes more
abbrev pub with_timers : List ℕ → ℕ → List Process → List (List (ℕ × ℕ)) → ℕ → List (List (ℕ × ℕ))
with_timers counts j ps first k = set first j (list_at first j ++ map (counted_in counts) (timers_in (take k ps)))

timers_push : (counts : List ℕ) (ps : List Process) (k : ℕ) (p : Process) → k < length ps → p ≡ get_or ps k p
    → map (counted_in counts) (timers_in (take (k + 1) ps)) ≡ map (counted_in counts) (timers_in (take k ps)) ++ map (counted_in counts) (option_to_list p.timer)
timers_push counts ps k p h at =
    let step : take (k + 1) ps ≡ take k ps ++ p ∷ [] = take_more ps k p h ∙ ap (λ x. take k ps ++ x ∷ []) (sym at) in
    ap (λ xs. map (counted_in counts) (timers_in xs)) step
    ∙ (ap (λ xs. map (counted_in counts) xs) (flat_map-append (λ (q : Process). option_to_list q.timer) (take k ps) (p ∷ []))
    ∙ (map-append (counted_in counts) (timers_in (take k ps)) (timers_in (p ∷ []))
    ∙ ap (λ xs. map (counted_in counts) (timers_in (take k ps)) ++ map (counted_in counts) xs) (append-nil (option_to_list p.timer))))

pub timer_here : (ps : List Process) (k : ℕ) (p : Process) (c : ℕ) → k < length ps → p ≡ get_or ps k p → p.timer ≡ Some c → Among c (timers_in ps)
timer_here ps k p c h at timer = flat_of (λ (q : Process). option_to_list q.timer) c ps p (among_here ps k p h at) (subst (λ o. Among c (option_to_list o)) (sym timer) (inl refl))

pub first_process : (counts : List ℕ) (j : ℕ) (ps : List Process) (first : List (List (ℕ × ℕ))) → first ≡ with_timers counts j ps first 0
first_process counts j ps first = sym (ap (λ xs. set first j xs) (append-nil (list_at first j)) ∙ set-get_or first j [])

pub timer_more : (counts : List ℕ) (j : ℕ) (ps : List Process) (first old new : List (List (ℕ × ℕ))) (k c : ℕ) (p : Process) → j < length first → k < length ps → p ≡ get_or ps k p → p.timer ≡ Some c
    → old ≡ with_timers counts j ps first k → new ≡ set old j (list_at old j ++ counted_in counts c ∷ []) → new ≡ with_timers counts j ps first (k + 1)
timer_more counts j ps first old new k c p within h at timer was is =
    let so_far : List (ℕ × ℕ) = list_at first j ++ map (counted_in counts) (timers_in (take k ps)) in
    let here : list_at old j ≡ so_far = ap (λ xs. list_at xs j) was ∙ get_or-set_same first j so_far [] within in
    let longer : so_far ++ counted_in counts c ∷ [] ≡ list_at first j ++ map (counted_in counts) (timers_in (take (k + 1) ps)) =
    append_assoc (list_at first j) (map (counted_in counts) (timers_in (take k ps))) (counted_in counts c ∷ [])
    ∙ ap (λ xs. list_at first j ++ xs) (sym (timers_push counts ps k p h at ∙ ap (λ o. map (counted_in counts) (timers_in (take k ps)) ++ map (counted_in counts) (option_to_list o)) timer)) in
    is ∙ (ap (λ xs. set old j (xs ++ counted_in counts c ∷ [])) here ∙ (ap (λ xs. set old j xs) longer
    ∙ (ap (λ xs. set xs j (list_at first j ++ map (counted_in counts) (timers_in (take (k + 1) ps)))) was ∙ set-set first j so_far (list_at first j ++ map (counted_in counts) (timers_in (take (k + 1) ps))))))

pub untimed_more : (counts : List ℕ) (j : ℕ) (ps : List Process) (first old : List (List (ℕ × ℕ))) (k : ℕ) (p : Process) → k < length ps → p ≡ get_or ps k p → p.timer ≡ None → old ≡ with_timers counts j ps first k → old ≡ with_timers counts j ps first (k + 1)
untimed_more counts j ps first old k p h at timer was =
    let same : map (counted_in counts) (timers_in (take (k + 1) ps)) ≡ map (counted_in counts) (timers_in (take k ps)) =
    timers_push counts ps k p h at ∙ (ap (λ o. map (counted_in counts) (timers_in (take k ps)) ++ map (counted_in counts) (option_to_list o)) timer ∙ append-nil (map (counted_in counts) (timers_in (take k ps)))) in
    was ∙ ap (λ xs. set first j (list_at first j ++ xs)) (sym same)

pub all_processes : (counts : List ℕ) (j : ℕ) (ps : List Process) (first old : List (List (ℕ × ℕ))) (k : ℕ) → length ps ≤ k → old ≡ with_timers counts j ps first k → old ≡ set first j (list_at first j ++ map (counted_in counts) (timers_in ps))
all_processes counts j ps first old k h was = was ∙ ap (λ xs. set first j (list_at first j ++ map (counted_in counts) (timers_in xs))) (take_all k ps h)

-- ---- the channels of mappings

-- the lists with the channels, and their counts, of those of the first k mappings that lead from their timelines
abbrev pub with_mapped : List ℕ → List ℕ → List Mapping → List (List (ℕ × ℕ)) → ℕ → ℕ → List (ℕ × ℕ)
with_mapped counts lines ms first k i = list_at first i ++ map (counted_in counts) (mapped_on lines i (take k ms))

module _ (counts lines : List ℕ) where
  one_mapped : (m : Mapping) (xs : List Mapping) (t : Bool) → map (counted_in counts) (map (λ (y : Mapping). y.channel) (xs ++ cond t (m ∷ []) [])) ≡ map (counted_in counts) (map (λ (y : Mapping). y.channel) xs) ++ cond t (counted_in counts m.channel ∷ []) []
  one_mapped m xs true =
      ap (λ ys. map (counted_in counts) ys) (map-append (λ (y : Mapping). y.channel) xs (m ∷ [])) ∙ map-append (counted_in counts) (map (λ (y : Mapping). y.channel) xs) (m.channel ∷ [])
  one_mapped m xs false = ap (λ ys. map (counted_in counts) (map (λ (y : Mapping). y.channel) ys)) (append-nil xs) ∙ sym (append-nil (map (counted_in counts) (map (λ (y : Mapping). y.channel) xs)))

  pub mapped_more : (n k j : ℕ) (ms : List Mapping) (m : Mapping) (first old new : List (List (ℕ × ℕ))) → k < length ms → m ≡ get_or ms k m → j ≡ line_of lines m.from → j < n
      → old ≡ for_each n (with_mapped counts lines ms first k) → new ≡ set old j (list_at old j ++ counted_in counts m.channel ∷ []) → new ≡ for_each n (with_mapped counts lines ms first (k + 1))
  mapped_more n k j ms m first old new h at line below was is =
      put_more n j (with_mapped counts lines ms first k) (with_mapped counts lines ms first (k + 1)) (counted_in counts m.channel ∷ []) old new was below
      (λ i low.
      ap (λ xs. list_at first i ++ map (counted_in counts) (map (λ (y : Mapping). y.channel) xs)) (kept_more (λ (y : Mapping). is_on lines i y.from) ms k m h at)
      ∙ (ap (λ xs. list_at first i ++ xs) (one_mapped m (filter (λ y. is_on lines i y.from) (take k ms)) (is_on lines i m.from))
      ∙ (sym (append_assoc (list_at first i) (map (counted_in counts) (mapped_on lines i (take k ms))) (cond (is_on lines i m.from) (counted_in counts m.channel ∷ []) []))
      ∙ ap (λ l. with_mapped counts lines ms first k i ++ cond (nat_eq l i) (counted_in counts m.channel ∷ []) []) (sym line)))) is

  pub mapped_none : (n : ℕ) (ms : List Mapping) (first : List (List (ℕ × ℕ))) → length first ≡ n → first ≡ for_each n (with_mapped counts lines ms first 0)
  mapped_none n ms first size = each_of n (with_mapped counts lines ms first 0) first size (λ i low. sym (append-nil (list_at first i)))

  pub mapped_all : (n k : ℕ) (ms : List Mapping) (first old : List (List (ℕ × ℕ))) → length ms ≤ k → old ≡ for_each n (with_mapped counts lines ms first k) → old ≡ for_each n (λ i. list_at first i ++ map (counted_in counts) (mapped_on lines i ms))
  mapped_all n k ms first old h was = was ∙ ap (λ xs. for_each n (λ i. list_at first i ++ map (counted_in counts) (mapped_on lines i xs))) (take_all k ms h)
