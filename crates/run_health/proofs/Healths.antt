-- The run stays healthy from one event to the next.
use Rattle.std.proofs.Common.{◌≡◌, ℕ, zero, suc, ◌+◌, ◌*◌, ◌<◌, ◌≤◌, nat_eq, List, [], ◌∷◌, map, length, refl, sym, ap, ◌∙◌, subst, inl, inr, arith, cond, count_by, Option, Some, None, is_some, slice_get, slice_set, length-set, length-append, option_to_list, eqb-true}
use Rattle.std.specs.List.{flat_map}
use Rattle.event_order.specs.declared.key.Key.{Key}
use Rattle.event_order.specs.Pending.{Among, put_all}
use Rattle.event_order.proofs.Order.{child_cases}
use Rattle.event_order.proofs.Pending.{test_cases, put_all_among}
use Rattle.ssf_model.specs.declared.wait.Wake.{Wake}
use Rattle.ssf_model.specs.declared.wait.Kind.{Kind}
use Rattle.ssf_model.specs.declared.wait.Kind.TheVariants.{Begin, Timer, Message}
use Rattle.ssf_model.specs.declared.out.Written.TheVariants.{Channel, Timer as TimerWrite}
use Rattle.ssf_model.specs.declared.event.Event.{Event}
use Rattle.ssf_model.specs.declared.process.Process.{Process}
use Rattle.ssf_model.specs.declared.entity.Entity.{Entity}
use Rattle.ssf_model.specs.declared.plan.Mapping.{Mapping}
use Rattle.ssf_model.specs.declared.plan.Plan.{Plan}
use Rattle.ssf_model.specs.Reaction.{Reaction, Validity, KeepsValid, LatestTime, LongestDelay, Each, is_timed}
use Rattle.ssf_model.specs.Deliver.{IsModest, IsCarried, MostWrites, wake_of, reacted, delivered}
use Rattle.ssf_model.specs.Drafts.{MostChannels}
use Rattle.ssf_model.specs.Channels.{Sent, delivered_to, entity_after, sent_by, counted, numbered}
use Rattle.ssf_model.specs.Run.{MostCount, MostTicket, States, HasAt, IsEndFor, IsOnChannel, IsMappingOf, IsWired, timers_of}
use Rattle.run_health.specs.Groups.{IsWriterOn}
use Rattle.ssf_model.specs.Channels.{is_on}
use Rattle.run_health.specs.Healthy.{MostSent, Shape, shape, timer_at, IsHealthyEntity, IsHealthyEvent, IsHealthy}
use Rattle.ssf_model.proofs.Lists.{different, each_among, each_of, get_set_own, get_set_other, at_mapped, mapped_length, map_set, within_of, count_cons}
use Rattle.ssf_model.proofs.Counts.{counted_is, numbered_is, numbered_told, none_sent}
use Rattle.run_health.proofs.Delivers.{AllMoved, IsMoved, IsGivenBy, IsGiven, IsMade, IsOnOwn, given_timely, admits_from, Outcomes, outcomes}
use Rattle.run_health.proofs.Sends.{FromWrite, FromWait, sent_from, sent_count, one_channel_each}
use Rattle.run_health.proofs.Writers.{timer_some, timer_among, one_writer}

-- ---- processes that moved

moved_length : (ps qs : List Process) → AllMoved ps qs → length qs ≡ length ps
moved_length [] [] m = refl
moved_length [] (q ∷ qs) m = absurd m
moved_length (p ∷ ps) [] m = absurd m
moved_length (p ∷ ps) (q ∷ qs) m = let h = moved_length ps qs m.1 in omega arith

moved_tickets : (most : ℕ) (ps qs : List Process) → AllMoved ps qs → Each (λ p. p.ticket ≤ most) ps → Each (λ p. p.ticket ≤ most + 1) qs
moved_tickets most [] [] m e = tt
moved_tickets most [] (q ∷ qs) m e = absurd m
moved_tickets most (p ∷ ps) [] m e = absurd m
moved_tickets most (p ∷ ps) (q ∷ qs) m e = (let low = e.0 in let one = m.0.most in omega arith, moved_tickets most ps qs m.1 e.1)

moved_end : (channel ticket : ℕ) (p q : Process) → IsMoved p q → IsEndFor channel ticket p → IsEndFor channel ticket q
moved_end channel ticket p q m g = record {
  on = m.timer ∙ g.on;
  given = omega (arith, g.given, m.least);
  ends = λ e. let s : q.ticket ≡ p.ticket = omega (arith, g.given, m.least) in
      rw (m.same s) (g.ends (omega (arith, g.given, m.least)));
}

moved_get : (channel ticket j : ℕ) (ps qs : List Process) → AllMoved ps qs → HasAt ps j (IsEndFor channel ticket) → HasAt qs j (IsEndFor channel ticket)
moved_get channel ticket j [] qs m (p, is, g) = let none : None ≡ Some p = is in absurd (cc)
moved_get channel ticket j (p ∷ ps) [] m g = absurd m
moved_get channel ticket zero (p ∷ ps) (q ∷ qs) m (p', is, g) = let same : p ≡ p' = cc in (q, refl, moved_end channel ticket p q m.0 (subst (IsEndFor channel ticket) (sym same) g))
moved_get channel ticket (suc j) (p ∷ ps) (q ∷ qs) m g = moved_get channel ticket j ps qs m.1 g

-- ---- timers

module _ {S P : Type 0} (r : Reaction S P) (now : ℕ) (kind : Kind P) where
  reacted_timer : (i : ℕ) (s : S) (p : Process) (o : Option (Wake P)) → (reacted r now i s p o).process.timer ≡ p.timer
  reacted_timer i s p None = refl
  reacted_timer i s p (Some wake) = refl

  pub delivered_timers : (i : ℕ) (s : S) (ps : List Process) → map timer_at (delivered r now kind i s ps).processes ≡ map timer_at ps
  delivered_timers i s [] = refl
  delivered_timers i s (p ∷ ps) =
      let first = reacted r now i s p (wake_of kind i p) in
      let rest = delivered r now kind (i + 1) first.state ps in
      ap (λ t. t ∷ map timer_at rest.processes) (reacted_timer i s p (wake_of kind i p)) ∙ ap (λ ts. p.timer ∷ ts) (delivered_timers (i + 1) first.state ps)

pub shape_after : {B S P : Type 0} (r : Reaction S P) (e : Event P) (en : Entity B S P) → shape (entity_after (delivered_to r e en) en) ≡ shape en
unfolding shape
shape_after r e en =
    ap (λ (ts : List (Option ℕ)). let s : Shape = record { ins = en.in_channels; outs = en.out_channels; timers = ts } in s) (delivered_timers r e.key.time e.kind 0 en.state en.processes)

pub same_outs : {B S P : Type 0} (x y : Entity B S P) → shape x ≡ shape y → x.out_channels ≡ y.out_channels
unfolding shape
same_outs x y e = ap (λ (s : Shape). s.outs) e

pub same_ins : {B S P : Type 0} (x y : Entity B S P) → shape x ≡ shape y → x.in_channels ≡ y.in_channels
unfolding shape
same_ins x y e = ap (λ (s : Shape). s.ins) e

pub same_timers : {B S P : Type 0} (x y : Entity B S P) → shape x ≡ shape y → map timer_at x.processes ≡ map timer_at y.processes
unfolding shape
same_timers x y e = ap (λ (s : Shape). s.timers) e

one_of : (t : Option ℕ) → cond (is_some t) 1 0 ≡ length (option_to_list t)
one_of None = refl
one_of (Some c) = refl

-- processes whose timers are those of others
timed_count : (ps qs : List Process) → map timer_at ps ≡ map timer_at qs → count_by is_timed ps ≡ length (flat_map (λ p. option_to_list p.timer) qs)
timed_count [] [] e = refl
timed_count [] (q ∷ qs) e = absurd (cc)
timed_count (p ∷ ps) [] e = absurd (cc)
timed_count (p ∷ ps) (q ∷ qs) e =
    let same : p.timer ≡ q.timer = cc in
    let rest : map timer_at ps ≡ map timer_at qs = cc in
    let one : cond (is_timed p) 1 0 ≡ length (option_to_list q.timer) = one_of p.timer ∙ ap (λ (t : Option ℕ). length (option_to_list t)) same in
    count_cons is_timed p ps ∙ omega (arith, timed_count ps qs rest, length-append (option_to_list q.timer) (flat_map (λ p. option_to_list p.timer) qs))

part_length : {T U : Type 0} (f : T → List U) (ts : List T) (i : ℕ) (t : T) → slice_get ts i ≡ Some t → length (f t) ≤ length (flat_map f ts)
part_length f [] i t h = let none : None ≡ Some t = h in absurd (cc)
part_length f (u ∷ ts) zero t h = let same : u ≡ t = cc in rw (← same) (omega (arith, length-append (f u) (flat_map f ts)))
part_length f (u ∷ ts) (suc i) t h = omega (arith, length-append (f u) (flat_map f ts), part_length f ts i t h)

-- ---- one event

-- an event at this entity counts for its own timeline, and for that of the receiver of each of its mappings without delay
pub record IsSpending (ms : List Mapping) (spent next : ℕ → ℕ) (entity : ℕ) : Type 0 where
  pub grows : (k : ℕ) → spent k ≤ next k
  pub own : spent entity + 1 ≤ next entity
  pub passed : (m : Mapping) → Among m ms → m.delay ≡ 0 → m.from ≡ entity → spent entity + 1 ≤ next m.to

module _ {B S P : Type 0} (r : Reaction S P) (valid : Validity S) (carried : P → Type 0) (law : KeepsValid valid carried r) (modest : IsModest valid carried r)
    (plan : Plan B S P) (wired : IsWired plan) (spent : ℕ → ℕ) (x : States B S P) (e : Event P) (rest : List (Event P)) (en : Entity B S P)
    (at : slice_get x.entities e.entity ≡ Some en) (in_time : e.key.time ≤ LatestTime)
    (healthy : IsHealthy valid carried plan spent (record { state = x; pending = e ∷ rest })) where
  pub own : IsHealthyEntity valid (spent e.entity) en
  own = healthy.entities e.entity en at

  pub first : IsHealthyEvent carried plan.mappings x spent e
  first = healthy.pending e (inl refl)

  given_from : (kind : Kind P) → IsOnChannel carried x.entities plan.mappings e.entity e.key kind → IsGiven kind en.processes
  given_from Begin h = tt
  given_from (Message channel payload) h = tt
  given_from (Timer process ticket) h =
      let same : h.0.0 ≡ en = (let q : Some h.0.0 ≡ Some en = sym h.0.1 ∙ at in cc) in
      let there : HasAt en.processes process (IsEndFor e.key.channel ticket) = subst (λ (z : Entity B S P). HasAt z.processes process (IsEndFor e.key.channel ticket)) same h.0.2 in
      rw there.1 (record { given = there.2.given; present = there.2.ends })

  pub given : IsGiven e.kind en.processes
  given = given_from e.kind first.on_channel

  carries_from : (kind : Kind P) → IsOnChannel carried x.entities plan.mappings e.entity e.key kind → IsCarried carried kind
  carries_from Begin h = tt
  carries_from (Timer process ticket) h = tt
  carries_from (Message channel payload) h = h.1

  pub carries : IsCarried carried e.kind
  carries = carries_from e.kind first.on_channel

  pub done : Outcomes valid carried r law e.key.time e.kind en.in_channels en.out_channels in_time carries [] en.processes (delivered_to r e en)
  done = outcomes valid carried r law e.key.time e.kind en.in_channels en.out_channels in_time carries [] en.processes 0 en.state refl own.is_valid.state
      (admits_from e.kind [] en.processes 0 refl given)

  -- the entity as the plan has it
  pub original : (en0 : Entity B S P) × (slice_get plan.entities e.entity ≡ Some en0) × (shape en0 ≡ shape en)
  original = at_mapped shape x.entities plan.entities e.entity en healthy.shapes at

  -- each mapping on which it writes leads from its entity
  pub leads_from : (m : Mapping) (delay : ℕ) (payload : P) → Among m plan.mappings → Among (Channel m.out_channel delay payload) (delivered_to r e en).writes → m.from ≡ e.entity
  leads_from m delay payload a w =
      let owned : Among m.out_channel en.out_channels = each_among (IsOnOwn en.out_channels) (delivered_to r e en).writes (Channel m.out_channel delay payload) done.owned w in
      let mapping : IsMappingOf plan.entities m = each_among (IsMappingOf plan.entities) plan.mappings m wired.mappings a in
      wired.outs m.from e.entity m.out_channel mapping.from.0 original.0 mapping.from.1 original.1 mapping.from.2 (subst (λ cs. Among m.out_channel cs) (sym (same_outs original.0 en original.2)) owned)

  -- what goes on one channel at this event
  pub few_sent : (c : ℕ) → count_by (is_on c) (sent_by r plan.mappings e en) ≤ MostSent
  few_sent c =
      let timed = timed_count en.processes original.0.processes (sym (same_timers original.0 en original.2)) in
      let few = part_length (λ (z : Entity B S P). flat_map (λ p. option_to_list p.timer) z.processes) plan.entities e.entity original.0 original.1 in
      let h = sent_count c e.entity (delivered_to r e en).processes plan.mappings (delivered_to r e en).writes MostWrites MostChannels
      (one_channel_each plan.mappings (length plan.entities + length (timers_of plan.entities)) (length plan.mappings) wired.channels)
      (modest en.state en.in_channels en.out_channels en.processes e.key.time e.kind own.is_valid.state in_time (given_timely e.kind en.processes given) carries)
      (omega (arith, done.timers, timed, few, wired.most)) in omega arith

  unfoldable pub after_entity : Entity B S P
  after_entity = entity_after (delivered_to r e en) en

  unfoldable pub after_entities : List (Entity B S P)
  after_entities = slice_set x.entities e.entity after_entity

  same_size : length after_entities ≡ length x.entities
  unfolding after_entity after_entities
  same_size = length-set x.entities e.entity after_entity

  own_place : slice_get after_entities e.entity ≡ Some after_entity
  unfolding after_entity after_entities
  own_place = get_set_own x.entities e.entity after_entity first.entity

  -- what is sent goes on a channel of its writer, and will be pending where its channel leads
  pub record IsFineSent (s : Sent P) : Type 0 where
    pub writer : IsWriterOn plan e.entity s.channel
    pub entity : s.entity < length x.entities
    pub on_channel : (k : Key) → k.channel ≡ s.channel → k.priority ≡ s.priority → IsOnChannel carried after_entities plan.mappings s.entity k s.kind
    pub delay : s.delay ≤ 2 * LongestDelay
    pub passed : s.delay ≡ 0 → (m : Mapping) × Among m plan.mappings × (m.delay ≡ 0) × (m.from ≡ e.entity) × (m.to ≡ s.entity)

  fine_write : (s : Sent P) → FromWrite plan.mappings (delivered_to r e en).writes s → IsFineSent s
  unfolding after_entities
  fine_write s w =
      let m = w.mapping in
      let mapping : IsMappingOf plan.entities m = each_among (IsMappingOf plan.entities) plan.mappings m wired.mappings w.among in
      let made = each_among (IsMade carried (delivered_to r e en).processes) (delivered_to r e en).writes (Channel m.out_channel w.delay w.payload) done.made w.written in
      let source = leads_from m w.delay w.payload w.among w.written in
      let within : m.to < length plan.entities = within_of plan.entities m.to mapping.to.0 mapping.to.1 in
      let size = mapped_length shape x.entities plan.entities healthy.shapes in
      rw w.is (record {
        writer = inl (m, w.among, record { source = source; channel_is = refl });
        entity = omega arith;
        on_channel = λ k c q. ((m, w.among, record { on = sym c; to = refl; in_channel = refl; priority = sym q }), made.1);
        delay = omega (arith, made.0, mapping.delay);
        passed = λ none. (m, w.among, omega arith, source, refl);
      })

  fine_wait : (s : Sent P) → FromWait e.entity (delivered_to r e en).processes (delivered_to r e en).writes s → IsFineSent s
  unfolding after_entity after_entities
  fine_wait s w =
      let made = each_among (IsMade carried (delivered_to r e en).processes) (delivered_to r e en).writes (TimerWrite w.process w.delay w.ticket) done.made w.written in
      let long : 0 < w.delay = each_among (IsOnOwn en.out_channels) (delivered_to r e en).writes (TimerWrite w.process w.delay w.ticket) done.owned w.written in
      let found = timer_some (slice_get (delivered_to r e en).processes w.process) w.channel w.timer in
      let timers : map timer_at (delivered_to r e en).processes ≡ map timer_at original.0.processes =
      delivered_timers r e.key.time e.kind 0 en.state en.processes ∙ sym (same_timers original.0 en original.2) in
      let planned = at_mapped timer_at (delivered_to r e en).processes original.0.processes w.process found.0 timers found.1 in
      let gave : IsGivenBy w.ticket found.0 = rw found.1 at made.1 in
      rw w.is (record {
        writer = inr (original.0, original.1, timer_among original.0.processes w.process w.channel planned.0 planned.1 (planned.2 ∙ found.2));
        entity = first.entity;
        on_channel = λ k c q. ((after_entity, own_place, (found.0, found.1, record { on = found.2 ∙ ap (λ n. Some n) (sym c); given = gave.given; ends = gave.present })), q);
        delay = omega (arith, made.0);
        passed = λ none. absurd (omega arith);
      })

  pub fine_sent : (s : Sent P) → Among s (sent_by r plan.mappings e en) → IsFineSent s
  fine_sent s a = elim (sent_from plan.mappings e.entity (delivered_to r e en).processes (delivered_to r e en).writes s a) [
    | inl w ↦ fine_write s w
    | inr w ↦ fine_wait s w
  ]

  -- a pending end of a wait stays one
  old_on : (d : Event P) (kind : Kind P) → IsOnChannel carried x.entities plan.mappings d.entity d.key kind → IsOnChannel carried after_entities plan.mappings d.entity d.key kind
  unfolding after_entity after_entities
  old_on d Begin h = h
  old_on d (Message channel payload) h = h
  old_on d (Timer process ticket) h = (
    elim (test_cases (nat_eq e.entity d.entity)) [
      | inl t ↦ let same : e.entity ≡ d.entity = eqb-true e.entity d.entity t in
          let here : slice_get x.entities d.entity ≡ Some en = subst (λ k. slice_get x.entities k ≡ Some en) same at in
          let who : h.0.0 ≡ en = (let q : Some h.0.0 ≡ Some en = sym h.0.1 ∙ here in cc) in
          let there : HasAt en.processes process (IsEndFor d.key.channel ticket) = subst (λ (z : Entity B S P). HasAt z.processes process (IsEndFor d.key.channel ticket)) who h.0.2 in
          (after_entity, subst (λ k. slice_get after_entities k ≡ Some after_entity) same own_place, moved_get d.key.channel ticket process en.processes (delivered_to r e en).processes done.moved there)
      | inr f ↦ (h.0.0, get_set_other x.entities e.entity d.entity after_entity (different e.entity d.entity f) ∙ h.0.1, h.0.2)
    ],
    h.1,
  )

  module _ (next : ℕ → ℕ) (spending : IsSpending plan.mappings spent next e.entity) where
    healthy_own : IsHealthyEntity valid (next e.entity) after_entity
    unfolding after_entity
    healthy_own = record {
      is_valid = record { state = done.stays; few = omega (arith, own.is_valid.few, moved_length en.processes (delivered_to r e en).processes done.moved) };
      waiting = done.waits own.waiting;
      tickets = each_of (λ (p : Process). p.ticket ≤ MostTicket + spent e.entity + 1) (λ (p : Process). p.ticket ≤ MostTicket + next e.entity) (delivered_to r e en).processes
          (λ p low. let more = spending.own in omega arith) (moved_tickets (MostTicket + spent e.entity) en.processes (delivered_to r e en).processes done.moved own.tickets);
    }

    healthy_other : (k : ℕ) (z : Entity B S P) → IsHealthyEntity valid (spent k) z → IsHealthyEntity valid (next k) z
    healthy_other k z h = record {
      is_valid = h.is_valid;
      waiting = h.waiting;
      tickets = each_of (λ (p : Process). p.ticket ≤ MostTicket + spent k) (λ (p : Process). p.ticket ≤ MostTicket + next k) z.processes
          (λ p low. let more = spending.grows k in omega arith) h.tickets;
    }

    healthy_at : (k : ℕ) (z : Entity B S P) → slice_get after_entities k ≡ Some z → IsHealthyEntity valid (next k) z
    unfolding after_entity after_entities
    healthy_at k z h = elim (test_cases (nat_eq e.entity k)) [
      | inl t ↦ let same : e.entity ≡ k = eqb-true e.entity k t in
          let here : slice_get after_entities k ≡ Some after_entity = subst (λ j. slice_get after_entities j ≡ Some after_entity) same own_place in
          let who : after_entity ≡ z = (let q : Some after_entity ≡ Some z = sym here ∙ h in cc) in
          subst (λ j. IsHealthyEntity valid (next j) z) same (subst (IsHealthyEntity valid (next e.entity)) who healthy_own)
      | inr f ↦ healthy_other k z (healthy.entities k z (sym (get_set_other x.entities e.entity k after_entity (different e.entity k f)) ∙ h))
    ]

    abbrev after_state : States B S P
    after_state = record { entities = after_entities; counts = counted x.counts (sent_by r plan.mappings e en) }

    old_after : (d : Event P) → IsHealthyEvent carried plan.mappings x spent d → IsHealthyEvent carried plan.mappings after_state next d
    old_after d h = record {
      entity = rw same_size h.entity;
      on_channel = old_on d d.kind h.on_channel;
      number = omega (arith, h.number, counted_is x.counts (sent_by r plan.mappings e en) d.key.channel);
      round = omega (arith, h.round, spending.grows d.entity);
      time = h.time;
    }

    new_after : (d : Event P) → Among d (numbered e.key x.counts (sent_by r plan.mappings e en)) → IsHealthyEvent carried plan.mappings after_state next d
    new_after d a =
        let from = numbered_is e.key x.counts (sent_by r plan.mappings e en) d a in
        let s = from.sent in
        let good = fine_sent s from.among in
        record {
          entity = rw (same_size, from.entity_is) good.entity;
          on_channel = subst (λ (k : Kind P). IsOnChannel carried after_entities plan.mappings d.entity d.key k) (sym from.kind_is)
              (subst (λ j. IsOnChannel carried after_entities plan.mappings j d.key s.kind) (sym from.entity_is)
              (good.on_channel d.key (ap (λ (k : Key). k.channel) from.key_is) (ap (λ (k : Key). k.priority) from.key_is)));
          number = numbered_told e.key x.counts (sent_by r plan.mappings e en) d a;
          round = subst (λ (k : Key). k.round ≤ next d.entity) (sym from.key_is) (elim (child_cases e.key s.delay s.priority s.channel from.number) [
            | inl later ↦ omega (arith, later.0)
            | inr now ↦
                let none : s.delay ≡ 0 = (let sum : e.key.time + s.delay ≡ e.key.time = now.1 in omega arith) in
                let pass = good.passed none in
                let more : spent e.entity + 1 ≤ next d.entity = subst (λ j. spent e.entity + 1 ≤ next j) (pass.4 ∙ sym from.entity_is) (spending.passed pass.0 pass.1 pass.2 pass.3) in
                omega (arith, now.0, first.round)
          ]);
          time = let sum : d.key.time ≡ e.key.time + s.delay = ap (λ (k : Key). k.time) from.key_is in omega (arith, good.delay);
        }

    more_counts : (k c : ℕ) → IsWriterOn plan k c → counted x.counts (sent_by r plan.mappings e en) c ≤ MostCount + next k * MostSent
    more_counts k c w =
        let sum = counted_is x.counts (sent_by r plan.mappings e en) c in
        let before = healthy.counts k c w in
        elim (test_cases (nat_eq e.entity k)) [
          | inl t ↦ let same : e.entity ≡ k = eqb-true e.entity k t in
              let more : spent k + 1 ≤ next k = subst (λ j. spent j + 1 ≤ next j) same spending.own in
              omega (arith, few_sent c)
          | inr f ↦
              let none = none_sent c (sent_by r plan.mappings e en) (λ s a on. different e.entity k f (one_writer plan wired e.entity k c (subst (λ j. IsWriterOn plan e.entity j) on (fine_sent s a).writer) w)) in
              omega (arith, spending.grows k)
        ]

    pub healthy_step : IsHealthy valid carried plan next (record {
      state = record { entities = slice_set x.entities e.entity (entity_after (delivered_to r e en) en); counts = counted x.counts (sent_by r plan.mappings e en) };
      pending = put_all (λ (d : Event P). d.key) (numbered e.key x.counts (sent_by r plan.mappings e en)) rest;
    })
    unfolding after_entity after_entities
    healthy_step = record {
      shapes = map_set shape x.entities e.entity en after_entity at (shape_after r e en) ∙ healthy.shapes;
      entities = healthy_at;
      pending = λ d a. elim (put_all_among (λ (b : Event P). b.key) d (numbered e.key x.counts (sent_by r plan.mappings e en)) rest a) [
        | inl b ↦ new_after d b
        | inr b ↦ old_after d (healthy.pending d (inr b))
      ];
      counts = more_counts;
    }
