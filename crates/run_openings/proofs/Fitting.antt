-- A plan that opens where a run of it stood fits, where no number is too great for an opening.
use Rattle.std.proofs.Common.{◌≡◌, ℕ, suc, ◌+◌, ◌<◌, ◌≤◌, Bool, List, [], ◌∷◌, ◌++◌, map, length, refl, sym, ap, ◌∙◌, subst, inl, inr, arith, Option, Some, slice_get, option_to_list}
use Rattle.std.specs.List.{AllZip, flat_map, range_with_len}
use Rattle.std.proofs.lemmas.List.{length-map}
use Rattle.std.proofs.lemmas.List.FromFn.{length-map-range_with_len}
use Rattle.event_order.specs.declared.key.Key.{Key}
use Rattle.event_order.specs.Pending.{Among}
use Rattle.event_order.specs.Machine.{World}
use Rattle.ssf_model.specs.declared.event.Event.{Event}
use Rattle.ssf_model.specs.declared.process.Process.{Process}
use Rattle.ssf_model.specs.declared.entity.Entity.{Entity}
use Rattle.ssf_model.specs.declared.opening.Opened.{Opened}
use Rattle.ssf_model.specs.declared.plan.Plan.{Plan}
use Rattle.ssf_model.specs.Reaction.{Reaction, Validity, KeepsValid, LatestTime, Each, wait_of}
use Rattle.ssf_model.specs.Deliver.{IsModest}
use Rattle.ssf_model.specs.Entities.{IsValidEntity}
use Rattle.ssf_model.specs.Run.{States, Fits, MostTicket, IsOpen, IsPending, IsProcessOf, timers_of, world_after, run_events}
use Rattle.ssf_model.specs.Openings.{IsAsLong, IsOpeningOf, opened_of, opening_after}
use Rattle.ssf_model.proofs.Lists.{each_among, mapped_length}
use Rattle.ssf_model.proofs.Reopened.{wired_again}
use Rattle.run_laws.proofs.Opens.{fits_open}
use Rattle.run_laws.proofs.OfPlans.{plan_pending_rises}
use Rattle.run_health.specs.Healthy.{shape, timer_at, IsWaiting}
use Rattle.run_health.proofs.Healths.{same_timers}
use Rattle.run_health.proofs.Along.{healthy_along, all_aligned}
use Rattle.run_openings.specs.Again.{reopened_after}
use Rattle.run_openings.specs.Limits.{IsWithinLimits}
use Rattle.run_openings.proofs.Again.{entities_back, shapes_along, counts_along}

-- ---- lists

pub each_placed : {T : Type 0} (Q : T → Type 0) (xs : List T) → ((k : ℕ) (x : T) → slice_get xs k ≡ Some x → Q x) → Each Q xs
each_placed Q [] f = tt
each_placed Q (x ∷ xs) f = (f 0 x refl, each_placed Q xs (λ k y at. f (suc k) y at))

pub each_found : {T : Type 0} (Q : T → Type 0) (xs : List T) → ((x : T) → Among x xs → Q x) → Each Q xs
each_found Q [] f = tt
each_found Q (x ∷ xs) f = (f x (inl refl), each_found Q xs (λ y a. f y (inr a)))

-- ---- entities of one shape

timers_same : (ps qs : List Process) → map timer_at qs ≡ map timer_at ps → flat_map (λ (q : Process). option_to_list q.timer) qs ≡ flat_map (λ (p : Process). option_to_list p.timer) ps
timers_same [] [] e = refl
timers_same [] (q ∷ qs) e = absurd (cc)
timers_same (p ∷ ps) [] e = absurd (cc)
timers_same (p ∷ ps) (q ∷ qs) e =
    let same : q.timer ≡ p.timer = cc in
    let rest : map timer_at qs ≡ map timer_at ps = cc in
    let others : List ℕ = flat_map (λ (q : Process). option_to_list q.timer) qs in
    ap (λ (t : Option ℕ). option_to_list t ++ others) same ∙ ap (λ (cs : List ℕ). option_to_list p.timer ++ cs) (timers_same ps qs rest)

module _ {B S P : Type 0} where
  all_timers_same : (es xs : List (Entity B S P)) → map shape xs ≡ map shape es → timers_of xs ≡ timers_of es
  all_timers_same [] [] e = refl
  all_timers_same [] (x ∷ xs) e = absurd (cc)
  all_timers_same (e ∷ es) [] h = absurd (cc)
  all_timers_same (e ∷ es) (x ∷ xs) h =
      let same : shape x ≡ shape e = cc in
      let rest : map shape xs ≡ map shape es = cc in
      let own : List ℕ = flat_map (λ (p : Process). option_to_list p.timer) e.processes in
      ap (λ (cs : List ℕ). cs ++ timers_of xs) (timers_same e.processes x.processes (same_timers x e same)) ∙ ap (λ (cs : List ℕ). own ++ cs) (all_timers_same es xs rest)

  as_long : (e x : Entity B S P) → shape x ≡ shape e → IsAsLong e (opened_of x)
  as_long e x same =
      let size : length x.processes ≡ length e.processes = mapped_length timer_at x.processes e.processes (same_timers x e same) in
      record { waits = length-map x.processes wait_of ∙ size; tickets = length-map x.processes (λ (p : Process). p.ticket) ∙ size }

  pub all_as_long : (es xs : List (Entity B S P)) → map shape xs ≡ map shape es → AllZip IsAsLong es (map opened_of xs)
  all_as_long [] [] e = tt
  all_as_long [] (x ∷ xs) e = absurd (cc)
  all_as_long (e ∷ es) [] h = absurd (cc)
  all_as_long (e ∷ es) (x ∷ xs) h =
      let same : shape x ≡ shape e = cc in
      let rest : map shape xs ≡ map shape es = cc in
      (as_long e x same, all_as_long es xs rest)

-- ---- processes whose tickets are not too great

processes_fit : (ins : List ℕ) (ps : List Process) → Each (IsWaiting ins) ps → Each (λ ticket. ticket ≤ MostTicket) (map (λ (p : Process). p.ticket) ps) → Each (IsProcessOf ins) ps
processes_fit ins [] waiting few = tt
processes_fit ins (p ∷ ps) waiting few = (record { waits = waiting.0.waits; untimed = waiting.0.untimed; ticket = few.0 }, processes_fit ins ps waiting.1 few.1)

all_processes_fit : {B S P : Type 0} (xs : List (Entity B S P)) → Each (λ (x : Entity B S P). Each (IsWaiting x.in_channels) x.processes) xs →
    Each (λ (o : Opened B S P). Each (λ ticket. ticket ≤ MostTicket) o.tickets) (map opened_of xs) → Each (λ (x : Entity B S P). Each (IsProcessOf x.in_channels) x.processes) xs
all_processes_fit [] waiting few = tt
all_processes_fit (x ∷ xs) waiting few = (processes_fit x.in_channels x.processes waiting.0 few.0, all_processes_fit xs waiting.1 few.1)

-- ---- the plan that opens so

module _ {B S P : Type 0} (r : Reaction S P) (valid : Validity S) (carried : P → Type 0) (law : KeepsValid valid carried r) (modest : IsModest valid carried r)
    (plan : Plan B S P) (until : ℕ) (in_time : until ≤ LatestTime) (fits : Fits valid carried plan) (kept : Key → Bool) (n : ℕ) where
  abbrev here : World (States B S P) (Event P)
  here = world_after r plan until kept n

  abbrev numbers : List ℕ
  numbers = map here.state.counts (range_with_len 0 (length plan.counts))

  -- the plan with these entities in the world after n events
  abbrev plan_with : List (Entity B S P) → Plan B S P
  plan_with entities = record {
    behaviour = plan.behaviour;
    entities = entities;
    events = here.pending;
    mappings = plan.mappings;
    counts = numbers;
    before = plan.before + length (run_events r plan until kept n);
  }

  long_here : AllZip IsAsLong plan.entities (map opened_of here.state.entities)
  long_here = all_as_long plan.entities here.state.entities (shapes_along r valid carried law modest plan until in_time fits kept n)

  size_here : length numbers ≡ length here.state.entities + length (timers_of here.state.entities) + length plan.mappings
  size_here =
      let shapes = shapes_along r valid carried law modest plan until in_time fits kept n in
      let size = fits.opened.size in
      omega (
        arith,
        length-map-range_with_len here.state.counts 0 (length plan.counts),
        mapped_length shape here.state.entities plan.entities shapes,
        ap (λ (cs : List ℕ). length cs) (all_timers_same plan.entities here.state.entities shapes),
      )

  module _ (within : IsWithinLimits (opening_after r plan until kept n)) where
    pending_here : (d : Event P) → Among d here.pending → IsPending carried (plan_with here.state.entities) d
    pending_here d a =
        let h = (healthy_along r valid carried law modest plan until in_time fits kept (λ k. 0) (all_aligned r valid carried law modest plan until in_time fits kept plan.mappings) n).pending d a in
        record {
          entity = h.entity;
          on_channel = h.on_channel;
          round = each_among (λ (e : Event P). e.key.round ≡ 0) here.pending d within.rounds a;
          number = subst (λ (f : ℕ → ℕ). d.key.number < f d.key.channel) (sym (counts_along r valid carried law modest plan until in_time fits kept n)) h.number;
          time = omega (arith, h.time);
        }

    open_here : IsOpen valid carried (plan_with here.state.entities)
    open_here =
        let h = healthy_along r valid carried law modest plan until in_time fits kept (λ k. 0) (all_aligned r valid carried law modest plan until in_time fits kept plan.mappings) n in
        record {
          entities = each_placed (IsValidEntity valid) here.state.entities (λ k e at. (h.entities k e at).is_valid);
          processes = all_processes_fit here.state.entities
              (each_placed (λ (x : Entity B S P). Each (IsWaiting x.in_channels) x.processes) here.state.entities (λ k e at. (h.entities k e at).waiting)) within.tickets;
          size = size_here;
          counts = within.counts;
          before = within.events;
          rising = plan_pending_rises r plan until (fits_open valid carried plan fits) kept n;
          pending = each_found (IsPending carried (plan_with here.state.entities)) here.pending pending_here;
        }

    pub opened_again : IsOpen valid carried (reopened_after r plan until kept n)
    opened_again =
        subst (λ (es : List (Entity B S P)). IsOpen valid carried (plan_with es))
        (sym (entities_back plan.entities here.state.entities (shapes_along r valid carried law modest plan until in_time fits kept n))) open_here

    pub is_opening : IsOpeningOf valid carried plan (opening_after r plan until kept n)
    is_opening = record {
      shape = record { entities = long_here; counts = length-map-range_with_len here.state.counts 0 (length plan.counts) };
      opened = opened_again;
    }

    pub fits_again : Fits valid carried (reopened_after r plan until kept n)
    fits_again = record { wired = wired_again plan (opening_after r plan until kept n) long_here fits.wired; opened = opened_again }
