-- A plan that opens where a run of it stood has the world of that run, and goes on from it.
use Rattle.std.proofs.Common.{◌≡◌, ℕ, zero, suc, ◌+◌, ◌≤◌, Bool, List, [], ◌∷◌, ◌++◌, map, length, refl, sym, ap, ◌∙◌, subst, inl, inr, arith, Option, Some, None, slice_get, get_or, length-append, zero-add, suc-add, append-nil, append_assoc}
use Rattle.std.specs.List.{range_with_len}
use Rattle.std.proofs.lemmas.List.FromFn.{get_or-map-range_with_len, length-map-range_with_len}
use Rattle.event_order.specs.declared.key.Key.{Key}
use Rattle.event_order.specs.Machine.{Machine, World, after, due, first_events, option_list}
use Rattle.event_order.proofs.Steps.{step_cases, lt_or_ge}
use Rattle.event_order.proofs.Continuing.{goes_on}
use Rattle.ssf_model.specs.declared.event.Event.{Event}
use Rattle.ssf_model.specs.declared.process.Process.{Process}
use Rattle.ssf_model.specs.declared.entity.Entity.{Entity}
use Rattle.ssf_model.specs.declared.plan.Plan.{Plan}
use Rattle.ssf_model.specs.Reaction.{Reaction, Validity, KeepsValid, LatestTime, wait_of}
use Rattle.ssf_model.specs.Deliver.{IsModest}
use Rattle.ssf_model.specs.Channels.{sent_by}
use Rattle.ssf_model.specs.Run.{States, Fits, acts_at, counts_of, machine_of, opening, run_event, run_events, run_entries, entries_from, world_after}
use Rattle.ssf_model.specs.Openings.{opened_of, opening_of, opening_after, reopened_entity, reopened_entities, reopened_processes}
use Rattle.ssf_model.proofs.Counts.{counted_is, none_sent}
use Rattle.run_laws.proofs.Continuing.{entries_go_on}
use Rattle.run_health.specs.Groups.{IsWriterOn}
use Rattle.run_health.specs.Healthy.{shape, timer_at}
use Rattle.run_health.proofs.Healths.{same_ins, same_outs, same_timers}
use Rattle.run_health.proofs.Writers.{writer_low}
use Rattle.run_health.proofs.Along.{healthy_along, all_aligned, sends_fine}
use Rattle.run_openings.specs.Again.{reopened_after}

-- ---- entities of one shape

pub processes_back : (ps qs : List Process) → map timer_at qs ≡ map timer_at ps → reopened_processes ps (map wait_of qs) (map (λ q. q.ticket) qs) ≡ qs
processes_back [] [] e = refl
processes_back [] (q ∷ qs) e = absurd (cc)
processes_back (p ∷ ps) [] e = absurd (cc)
processes_back (p ∷ ps) (q ∷ qs) e =
    let same : q.timer ≡ p.timer = cc in
    let rest : map timer_at qs ≡ map timer_at ps = cc in
    let others : List Process = reopened_processes ps (map wait_of qs) (map (λ q. q.ticket) qs) in
    ap (λ (t : Option ℕ). let own : Process = record { wait = q.wait; ticket = q.ticket; timer = t } in own ∷ others) (sym same) ∙ ap (λ (rs : List Process). q ∷ rs) (processes_back ps qs rest)

module _ {B S P : Type 0} where
  abbrev with_parts : S → List Process → List ℕ → List ℕ → Entity B S P
  with_parts state processes ins outs = record { state = state; processes = processes; in_channels = ins; out_channels = outs }

  entity_back : (e x : Entity B S P) → shape x ≡ shape e → reopened_entity e (opened_of x) ≡ x
  entity_back e x same =
      ap (λ (ps : List Process). with_parts x.state ps e.in_channels e.out_channels) (processes_back e.processes x.processes (same_timers x e same))
      ∙ (ap (λ (cs : List ℕ). with_parts x.state x.processes cs e.out_channels) (sym (same_ins x e same))
      ∙ ap (λ (cs : List ℕ). with_parts x.state x.processes x.in_channels cs) (sym (same_outs x e same)))

  pub entities_back : (es xs : List (Entity B S P)) → map shape xs ≡ map shape es → reopened_entities es (map opened_of xs) ≡ xs
  entities_back [] [] e = refl
  entities_back [] (x ∷ xs) e = absurd (cc)
  entities_back (e ∷ es) [] h = absurd (cc)
  entities_back (e ∷ es) (x ∷ xs) h =
      let same : shape x ≡ shape e = cc in
      let rest : map shape xs ≡ map shape es = cc in
      ap (λ (z : Entity B S P). z ∷ reopened_entities es (map opened_of xs)) (entity_back e x same) ∙ ap (λ (zs : List (Entity B S P)). x ∷ zs) (entities_back es xs rest)

-- ---- counts as a list and as a function

none_outside : (xs : List ℕ) (c : ℕ) → length xs ≤ c → get_or xs c 0 ≡ 0
none_outside [] c l = refl
none_outside (x ∷ xs) zero l = absurd (omega arith)
none_outside (x ∷ xs) (suc c) l = none_outside xs c (omega arith)

-- a function that is 0 from n on is its first n values read as counts
counts_back : (f : ℕ → ℕ) (n : ℕ) → ((c : ℕ) → n ≤ c → f c ≡ 0) → (c : ℕ) → counts_of (map f (range_with_len 0 n)) c ≡ f c
counts_back f n over c = elim (lt_or_ge c n) [
  | inl inside ↦ get_or-map-range_with_len f 0 n c c 0 inside (omega arith)
  | inr outside ↦ none_outside (map f (range_with_len 0 n)) c (omega (arith, length-map-range_with_len f 0 n)) ∙ sym (over c outside)
]

-- ---- the events of a run that goes on

first_go_on : {X E : Type 0} (m : Machine X E) (until : ℕ) (kept : Key → Bool) (w : World X E) (n k : ℕ) →
    first_events m until kept w (k + n) ≡ first_events m until kept w n ++ first_events m until kept (after m until kept w n) k
first_go_on m until kept w n zero = rw (zero-add, append-nil) refl
first_go_on {X} {E} m until kept w n (suc k) =
    let v = after m until kept w n in
    let next : World X E → List E = λ u. option_list (due m.key until u.pending) in
    rw suc-add (ap (λ (es : List E). es ++ next (after m until kept w (k + n))) (first_go_on m until kept w n k)
    ∙ (append_assoc (first_events m until kept w n) (first_events m until kept v k) (next (after m until kept w (k + n)))
    ∙ ap (λ (u : World X E). first_events m until kept w n ++ (first_events m until kept v k ++ next u)) (goes_on m until kept w n k)))

module _ {B S P : Type 0} (r : Reaction S P) (valid : Validity S) (carried : P → Type 0) (law : KeepsValid valid carried r) (modest : IsModest valid carried r)
    (plan : Plan B S P) (until : ℕ) (in_time : until ≤ LatestTime) (fits : Fits valid carried plan) (kept : Key → Bool) where
  -- ---- no event counts on a channel on which no entity writes

  one_unwritten : (c n : ℕ) → ((k : ℕ) → IsWriterOn plan k c → ⊥) → (e : Event P) → run_event r plan until kept n ≡ Some e → (o : Option (Entity B S P)) →
      slice_get (world_after r plan until kept n).state.entities e.entity ≡ o → (acts_at r plan.mappings (world_after r plan until kept n).state e o).counts c ≡ (world_after r plan until kept n).state.counts c
  one_unwritten c n nobody e h None at = refl
  one_unwritten c n nobody e h (Some en) at =
      let counts = (world_after r plan until kept n).state.counts in
      let none = none_sent c (sent_by r plan.mappings e en)
      (λ s a on. nobody e.entity (subst (λ d. IsWriterOn plan e.entity d) on (sends_fine r valid carried law modest plan until in_time fits kept n e h en at s a).0)) in
      counted_is counts (sent_by r plan.mappings e en) c ∙ omega arith

  unwritten_along : (c : ℕ) → ((k : ℕ) → IsWriterOn plan k c → ⊥) → (n : ℕ) → (world_after r plan until kept n).state.counts c ≡ counts_of plan.counts c
  unfolding machine_of
  unwritten_along c nobody zero = refl
  unwritten_along c nobody (suc n) =
      let v = world_after r plan until kept n in
      elim (step_cases (machine_of r plan.mappings) until kept v.state v.pending) [
        | inl t ↦ ap (λ (u : World (States B S P) (Event P)). u.state.counts c) t.next_is
            ∙ (one_unwritten c n nobody t.head t.due_is (slice_get v.state.entities t.head.entity) refl ∙ unwritten_along c nobody n)
        | inr q ↦ ap (λ (u : World (States B S P) (Event P)). u.state.counts c) q.next_is ∙ unwritten_along c nobody n
      ]

  none_over : (n c : ℕ) → length plan.counts ≤ c → (world_after r plan until kept n).state.counts c ≡ 0
  none_over n c over =
      unwritten_along c (λ k w. let low = writer_low plan fits.wired k c w in let size = fits.opened.size in omega arith) n ∙ none_outside plan.counts c over

  -- ---- the world of the run

  abbrev with_states : List (Entity B S P) → (ℕ → ℕ) → List (Event P) → World (States B S P) (Event P)
  with_states entities counts pending = record { state = record { entities = entities; counts = counts }; pending = pending }

  pub shapes_along : (n : ℕ) → map shape (world_after r plan until kept n).state.entities ≡ map shape plan.entities
  shapes_along n = (healthy_along r valid carried law modest plan until in_time fits kept (λ k. 0) (all_aligned r valid carried law modest plan until in_time fits kept plan.mappings) n).shapes

  pub counts_along : (n : ℕ) → counts_of (map (world_after r plan until kept n).state.counts (range_with_len 0 (length plan.counts))) ≡ (world_after r plan until kept n).state.counts
  counts_along n = λ i c. counts_back (world_after r plan until kept n).state.counts (length plan.counts) (none_over n) c i

  pub same_opening : (n : ℕ) → opening (reopened_after r plan until kept n) ≡ world_after r plan until kept n
  same_opening n =
      let w = world_after r plan until kept n in
      ap (λ (es : List (Entity B S P)). with_states es (counts_of (map w.state.counts (range_with_len 0 (length plan.counts)))) w.pending) (entities_back plan.entities w.state.entities (shapes_along n))
      ∙ ap (λ (counts : ℕ → ℕ). with_states w.state.entities counts w.pending) (counts_along n)

  -- ---- the run that goes on, to any end up to which the first n events are the same

  module _ (later n k : ℕ) (alike : world_after r plan until kept n ≡ world_after r plan later kept n) where
    pub worlds_from : world_after r (reopened_after r plan until kept n) later kept k ≡ world_after r plan later kept (k + n)
    worlds_from =
        ap (λ (w : World (States B S P) (Event P)). after (machine_of r plan.mappings) later kept w k) (same_opening n ∙ alike) ∙ sym (goes_on (machine_of r plan.mappings) later kept (opening plan) n k)

    pub events_from : run_event r (reopened_after r plan until kept n) later kept k ≡ run_event r plan later kept (k + n)
    events_from = ap (λ (w : World (States B S P) (Event P)). due (machine_of {B = B} r plan.mappings).key later w.pending) worlds_from

    pub entries_from_there : run_entries r plan later kept n ++ run_entries r (reopened_after r plan until kept n) later kept k ≡ run_entries r plan later kept (k + n)
    entries_from_there =
        ap (λ (w : World (States B S P) (Event P)). run_entries r plan later kept n ++ entries_from r plan.mappings later kept w k) (same_opening n ∙ alike)
        ∙ sym (entries_go_on r plan.mappings later kept (opening plan) n k)

  pub same_worlds : (n k : ℕ) → world_after r (reopened_after r plan until kept n) until kept k ≡ world_after r plan until kept (k + n)
  same_worlds n k = worlds_from until n k refl

  pub same_events : (n k : ℕ) → run_event r (reopened_after r plan until kept n) until kept k ≡ run_event r plan until kept (k + n)
  same_events n k = events_from until n k refl

  pub same_entries : (n k : ℕ) → run_entries r plan until kept n ++ run_entries r (reopened_after r plan until kept n) until kept k ≡ run_entries r plan until kept (k + n)
  same_entries n k = entries_from_there until n k refl

  -- ---- its openings

  same_before : (n k : ℕ) → (reopened_after r plan until kept n).before + length (run_events r (reopened_after r plan until kept n) until kept k) ≡ plan.before + length (run_events r plan until kept (k + n))
  same_before n k =
      let later : List (Event P) = first_events (machine_of {B = B} r plan.mappings) until kept (world_after r plan until kept n) k in
      omega (
        arith,
        ap (λ (w : World (States B S P) (Event P)). length (first_events (machine_of {B = B} r plan.mappings) until kept w k)) (same_opening n),
        ap (λ (es : List (Event P)). length es) (first_go_on (machine_of {B = B} r plan.mappings) until kept (opening plan) n k),
        length-append (run_events r plan until kept n) later,
      )

  pub same_openings : (n k : ℕ) → opening_after r (reopened_after r plan until kept n) until kept k ≡ opening_after r plan until kept (k + n)
  same_openings n k =
      let channels : ℕ = length plan.counts in
      let again : Plan B S P = reopened_after r plan until kept n in
      ap (λ (size : ℕ). opening_of size (again.before + length (run_events r again until kept k)) (world_after r again until kept k))
      (length-map-range_with_len (world_after r plan until kept n).state.counts 0 channels)
      ∙ (ap (λ (before : ℕ). opening_of channels before (world_after r again until kept k)) (same_before n k)
      ∙ ap (λ (w : World (States B S P) (Event P)). opening_of channels (plan.before + length (run_events r plan until kept (k + n))) w) (same_worlds n k))
