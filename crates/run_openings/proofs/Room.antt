-- How far a run takes the numbers of a plan: each event raises a ticket by at most one and a count by at most `MostSent`.
use Rattle.std.proofs.Common.{◌≡◌, ℕ, zero, suc, ◌+◌, ◌-◌, ◌*◌, ◌<◌, ◌≤◌, Bool, List, [], ◌∷◌, map, length, replicate, refl, sym, ap, subst, inl, inr, arith, cond, Option, Some, None, slice_get, slice_set, get_or, length-append}
use Rattle.std.specs.List.{range_with_len}
use Rattle.event_order.specs.declared.key.Key.{Key}
use Rattle.event_order.specs.Pending.{Among}
use Rattle.event_order.specs.Machine.{World, option_list}
use Rattle.event_order.proofs.Steps.{step_cases, provenance, event_in_time}
use Rattle.ssf_model.specs.declared.wait.Wake.{Wake}
use Rattle.ssf_model.specs.declared.wait.Kind.{Kind}
use Rattle.ssf_model.specs.declared.event.Event.{Event}
use Rattle.ssf_model.specs.declared.process.Process.{Process}
use Rattle.ssf_model.specs.declared.entity.Entity.{Entity}
use Rattle.ssf_model.specs.declared.builder.DraftEntity.{DraftEntity}
use Rattle.ssf_model.specs.declared.opening.Opened.{Opened}
use Rattle.ssf_model.specs.declared.plan.Mapping.{Mapping}
use Rattle.ssf_model.specs.declared.plan.Plan.{Plan}
use Rattle.ssf_model.specs.Reaction.{Reaction, Validity, KeepsValid, LatestTime, Each}
use Rattle.ssf_model.specs.Deliver.{IsModest, wake_of, reacted, delivered}
use Rattle.ssf_model.specs.Channels.{sent_by, delivered_to, entity_after}
use Rattle.ssf_model.specs.Drafts.{Draft, planned, first_processes, first_entities, timers, all_timers}
use Rattle.ssf_model.specs.Run.{States, Fits, IsPending, MostCount, MostTicket, acts_at, counts_of, machine_of, opening, run_event, run_events, world_after}
use Rattle.ssf_model.specs.Openings.{opened_of, opening_after}
use Rattle.ssf_model.proofs.Lists.{each_among, each_append, each_get, each_of}
use Rattle.ssf_model.proofs.Counts.{counted_is}
use Rattle.run_laws.proofs.Lawful.{has_rounds}
use Rattle.run_laws.proofs.Opens.{fits_open}
use Rattle.run_laws.proofs.OfPlans.{plan_pending_executed}
use Rattle.run_health.specs.Healthy.{MostEvents, MostSent}
use Rattle.run_health.proofs.Along.{sends_few}
use Rattle.run_openings.specs.Limits.{IsWithinLimits, HasRoomFor}
use Rattle.run_openings.proofs.Fitting.{each_found}

-- ---- lists

each_set : {T : Type 0} (Q : T → Type 0) (xs : List T) (i : ℕ) (y : T) → Each Q xs → Q y → Each Q (slice_set xs i y)
each_set Q [] i y e q = tt
each_set Q (x ∷ xs) zero y e q = (q, e.1)
each_set Q (x ∷ xs) (suc i) y e q = (e.0, each_set Q xs i y e.1 q)

each_replicate : {T : Type 0} (Q : T → Type 0) (n : ℕ) (x : T) → Q x → Each Q (replicate n x)
each_replicate Q zero x q = tt
each_replicate Q (suc n) x q = (q, each_replicate Q n x q)

each_number : (Q : ℕ → Type 0) (xs : List ℕ) (c : ℕ) → c < length xs → Each Q xs → Q (get_or xs c 0)
each_number Q [] c l e = absurd (omega arith)
each_number Q (x ∷ xs) zero l e = e.0
each_number Q (x ∷ xs) (suc c) l e = each_number Q xs c (omega arith) e.1

each_value : (Q : ℕ → Type 0) (f : ℕ → ℕ) (first n : ℕ) → ((c : ℕ) → c < first + n → Q (f c)) → Each Q (map f (range_with_len first n))
each_value Q f first zero h = tt
each_value Q f first (suc n) h = (h first (omega arith), each_value Q f (first + 1) n (λ c l. h c (omega arith)))

-- ---- tickets

abbrev Low : ℕ → Process → Type 0
Low most p = p.ticket ≤ most

abbrev AllLow : {B S P : Type 0} → ℕ → Entity B S P → Type 0
AllLow most e = Each (Low most) e.processes

all_low : {B S P : Type 0} (most next : ℕ) → most ≤ next → (xs : List (Entity B S P)) → Each (AllLow most) xs → Each (AllLow next) xs
all_low most next more xs low = each_of (AllLow most) (AllLow next) xs (λ x own. each_of (Low most) (Low next) x.processes (λ p l. omega arith) own) low

module _ {S P : Type 0} (r : Reaction S P) where
  reacted_ticket : (now i : ℕ) (s : S) (p : Process) (o : Option (Wake P)) → (reacted r now i s p o).process.ticket ≤ p.ticket + 1
  reacted_ticket now i s p None = omega arith
  reacted_ticket now i s p (Some wake) = omega arith

  module _ (most next : ℕ) (more : most + 1 ≤ next) where
    delivered_low : (now : ℕ) (kind : Kind P) (i : ℕ) (s : S) (ps : List Process) → Each (Low most) ps → Each (Low next) (delivered r now kind i s ps).processes
    delivered_low now kind i s [] low = tt
    delivered_low now kind i s (p ∷ ps) low =
        let one = reacted_ticket now i s p (wake_of kind i p) in
        let was = low.0 in
        (omega arith, delivered_low now kind (i + 1) (reacted r now i s p (wake_of kind i p)).state ps low.1)

    acted_low : {B : Type 0} (ms : List Mapping) (x : States B S P) (e : Event P) (o : Option (Entity B S P)) → slice_get x.entities e.entity ≡ o → Each (AllLow most) x.entities →
        Each (AllLow next) (acts_at r ms x e o).entities
    acted_low ms x e None at low = all_low most next (omega arith) x.entities low
    acted_low ms x e (Some en) at low =
        each_set (AllLow next) x.entities e.entity (entity_after (delivered_to r e en) en) (all_low most next (omega arith) x.entities low)
        (delivered_low e.key.time e.kind 0 en.state en.processes (each_get (AllLow most) x.entities e.entity en low at))

  low_along : {B : Type 0} (plan : Plan B S P) (until : ℕ) (kept : Key → Bool) (most : ℕ) → Each (AllLow most) plan.entities → (n : ℕ) →
      Each (AllLow (most + n)) (world_after r plan until kept n).state.entities
  unfolding machine_of
  low_along plan until kept most low zero = all_low most (most + 0) (omega arith) plan.entities low
  low_along {B} plan until kept most low (suc n) =
      let v = world_after r plan until kept n in
      let before = low_along plan until kept most low n in
      elim (step_cases (machine_of r plan.mappings) until kept v.state v.pending) [
        | inl t ↦ subst (λ (u : World (States B S P) (Event P)). Each (AllLow (most + suc n)) u.state.entities) (sym t.next_is)
            (acted_low (most + n) (most + suc n) (omega arith) plan.mappings v.state t.head (slice_get v.state.entities t.head.entity) refl before)
        | inr q ↦ subst (λ (u : World (States B S P) (Event P)). Each (AllLow (most + suc n)) u.state.entities) (sym q.next_is)
            (all_low (most + n) (most + suc n) (omega arith) v.state.entities before)
      ]

-- ---- how many events

at_most_one : {T : Type 0} (o : Option T) → length (option_list o) ≤ 1
at_most_one None = omega arith
at_most_one (Some x) = omega arith

pub few_events : {B S P : Type 0} (r : Reaction S P) (plan : Plan B S P) (until : ℕ) (kept : Key → Bool) (n : ℕ) → length (run_events r plan until kept n) ≤ n
few_events r plan until kept zero = omega arith
few_events r plan until kept (suc n) =
    omega (
      arith,
      length-append (run_events r plan until kept n) (option_list (run_event r plan until kept n)),
      at_most_one (run_event r plan until kept n),
      few_events r plan until kept n,
    )

module _ {B S P : Type 0} (r : Reaction S P) (valid : Validity S) (carried : P → Type 0) (law : KeepsValid valid carried r) (modest : IsModest valid carried r)
    (plan : Plan B S P) (until : ℕ) (in_time : until ≤ LatestTime) (fits : Fits valid carried plan) (kept : Key → Bool) where
  -- ---- counts

  one_counted : (c n : ℕ) (e : Event P) → run_event r plan until kept n ≡ Some e → (o : Option (Entity B S P)) → slice_get (world_after r plan until kept n).state.entities e.entity ≡ o →
      (acts_at r plan.mappings (world_after r plan until kept n).state e o).counts c ≤ (world_after r plan until kept n).state.counts c + MostSent
  one_counted c n e h None at = omega arith
  one_counted c n e h (Some en) at =
      omega (arith, counted_is (world_after r plan until kept n).state.counts (sent_by r plan.mappings e en) c, sends_few r valid carried law modest plan until in_time fits kept n e h en at c)

  counted_along : (c n : ℕ) → (world_after r plan until kept n).state.counts c ≤ counts_of plan.counts c + n * MostSent
  unfolding machine_of
  counted_along c zero = omega arith
  counted_along c (suc n) =
      let v = world_after r plan until kept n in
      let before = counted_along c n in
      elim (step_cases (machine_of r plan.mappings) until kept v.state v.pending) [
        | inl t ↦ omega (arith, ap (λ (u : World (States B S P) (Event P)). u.state.counts c) t.next_is, one_counted c n t.head t.due_is (slice_get v.state.entities t.head.entity) refl)
        | inr q ↦ omega (arith, ap (λ (u : World (States B S P) (Event P)). u.state.counts c) q.next_is)
      ]

  -- ---- rounds, once the run is over

  round_zero : (n : ℕ) → run_event r plan until kept n ≡ None → (d : Event P) → Among d (world_after r plan until kept n).pending → d.key.round ≡ 0
  unfolding machine_of
  round_zero n over d a = elim (provenance (machine_of {B = B} r plan.mappings) until kept (opening plan) n d a) [
    | inl first ↦ (each_among (IsPending carried plan) plan.events d fits.opened.pending first).round
    | inr s ↦ let by = s.written in
        elim ((has_rounds r plan.mappings).parented (world_after r plan until kept s.at).state by.by d tt by.among) [
          | inl later ↦ later.0
          | inr next ↦
              let due : by.by.key.time ≤ until = event_in_time (machine_of {B = B} r plan.mappings) until kept (opening plan) s.at by.by by.is in
              let same : d.key.time ≡ by.by.key.time = next.1 in
              let done = plan_pending_executed r plan until (fits_open valid carried plan fits) kept n n d (omega arith) over a (omega arith) in
              absurd (let from = done.from in let below = done.below in omega arith)
        ]
  ]

  -- ---- all of them

  tickets_opened : (xs : List (Entity B S P)) (most : ℕ) → most ≤ MostTicket → Each (AllLow most) xs → Each (λ (o : Opened B S P). Each (λ ticket. ticket ≤ MostTicket) o.tickets) (map opened_of xs)
  tickets_opened [] most few low = tt
  tickets_opened (x ∷ xs) most few low = (tickets_of x.processes low.0, tickets_opened xs most few low.1) where
    tickets_of : (ps : List Process) → Each (Low most) ps → Each (λ ticket. ticket ≤ MostTicket) (map (λ (p : Process). p.ticket) ps)
    tickets_of [] own = tt
    tickets_of (p ∷ ps) own = (let was = own.0 in omega arith, tickets_of ps own.1)

  pub within_limits : (n : ℕ) → HasRoomFor n plan → run_event r plan until kept n ≡ None → IsWithinLimits (opening_after r plan until kept n)
  within_limits n room over =
      let before = room.before in
      let low : Each (AllLow (MostTicket - n)) plan.entities =
      each_of (λ (e : Entity B S P). Each (λ (p : Process). p.ticket + n ≤ MostTicket) e.processes) (AllLow (MostTicket - n)) plan.entities
      (λ e own. each_of (λ (p : Process). p.ticket + n ≤ MostTicket) (Low (MostTicket - n)) e.processes (λ p l. omega arith) own) room.tickets in
      record {
        counts = each_value (λ count. count ≤ MostCount) (world_after r plan until kept n).state.counts 0 (length plan.counts)
            (λ c l. let few = each_number (λ count. count + n * MostSent ≤ MostCount) plan.counts c (omega arith) room.counts in omega (arith, counted_along c n));
        tickets = tickets_opened (world_after r plan until kept n).state.entities (MostTicket - n + n) (omega arith) (low_along r plan until kept (MostTicket - n) low n);
        events = omega (arith, few_events r plan until kept n);
        rounds = each_found (λ (e : Event P). e.key.round ≡ 0) (world_after r plan until kept n).pending (round_zero n over);
      }

-- ---- plans that a builder finishes

module _ (n : ℕ) (few : n ≤ MostEvents) where
  fresh_processes : (timer : ℕ) (ts : List Bool) → Each (λ (p : Process). p.ticket + n ≤ MostTicket) (first_processes timer ts)
  fresh_processes timer [] = tt
  fresh_processes timer (t ∷ ts) = (omega arith, fresh_processes (timer + cond t 1 0) ts)

  fresh_entities : (B S P : Type 0) (timer : ℕ) (ds : List (DraftEntity S)) →
      Each (λ (e : Entity B S P). Each (λ (p : Process). p.ticket + n ≤ MostTicket) e.processes) (first_entities timer ds)
  fresh_entities B S P timer [] = tt
  fresh_entities B S P timer (d ∷ ds) = (fresh_processes timer d.timed, fresh_entities B S P (timer + timers d.timed) ds)

  pub planned_room : {B S P : Type 0} (d : Draft B S) → HasRoomFor n (planned {P = P} d)
  unfolding planned
  planned_room {B} {S} {P} d = record {
    counts = each_append (λ count. count + n * MostSent ≤ MostCount) (replicate (length d.entities) 1) (replicate (all_timers d.entities + length d.mappings) 0)
        (each_replicate (λ count. count + n * MostSent ≤ MostCount) (length d.entities) 1 (omega arith))
        (each_replicate (λ count. count + n * MostSent ≤ MostCount) (all_timers d.entities + length d.mappings) 0 (omega arith));
    tickets = fresh_entities B S P (length d.entities) d.entities;
    before = omega arith;
  }
