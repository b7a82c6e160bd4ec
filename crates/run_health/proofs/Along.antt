-- What holds all along the run of a plan that fits, whatever its cut: it stays healthy.
use Rattle.std.proofs.Common.{◌≡◌, ℕ, zero, suc, ◌+◌, ◌*◌, ◌^◌, ◌<◌, ◌≤◌, Bool, false, nat_eq, List, [], ◌∷◌, filter, length, refl, sym, ap, ◌∙◌, subst, inl, inr, arith, count_by, Some, slice_get, eqb-true, eq-eqb}
use Rattle.event_order.specs.declared.key.Key.{Key}
use Rattle.event_order.specs.Pending.{Among, put_all}
use Rattle.event_order.proofs.Pending.{test_cases, among_put_all_other, among_put_all_self, put_all_among, filter_among}
use Rattle.event_order.specs.Machine.{World, executed}
use Rattle.event_order.proofs.Steps.{step_cases, event_pending, event_in_time}
use Rattle.event_order.specs.Run.{share}
use Rattle.event_order.proofs.Local.{share_own, share_other, share_over}
use Rattle.ssf_model.specs.declared.event.Event.{Event}
use Rattle.ssf_model.specs.declared.process.Process.{Process}
use Rattle.ssf_model.specs.declared.entity.Entity.{Entity}
use Rattle.ssf_model.specs.declared.plan.Mapping.{Mapping}
use Rattle.ssf_model.specs.declared.plan.Plan.{Plan}
use Rattle.ssf_model.specs.Reaction.{Reaction, Validity, KeepsValid, LatestTime, LongestDelay, Each}
use Rattle.ssf_model.specs.Deliver.{IsModest}
use Rattle.ssf_model.specs.Channels.{Sent, sent_by}
use Rattle.ssf_model.specs.Run.{MostTicket, States, acts_at, writes_at, machine_of, opening, world_after, run_event, Fits}
use Rattle.run_health.specs.Groups.{IsWriterOn}
use Rattle.run_health.specs.Joined.{IsAligned}
use Rattle.ssf_model.specs.Channels.{is_on}
use Rattle.run_health.specs.Healthy.{MostEvents, MostSent, shape, spent_by, IsHealthy}
use Rattle.ssf_model.proofs.Lists.{each_among, each_of, place_of, mapped_length}
use Rattle.event_order.proofs.Shares.{one_more}
use Rattle.run_health.proofs.Healths.{IsSpending, healthy_step, few_sent, fine_sent}
use Rattle.run_health.proofs.Fitting.{healthy_first}

-- what becomes pending where a cut drops some of it would also become pending where it drops none
fewer_put : {P : Type 0} (kept : Key → Bool) (ws rest : List (Event P)) (d : Event P) →
    Among d (put_all (λ (b : Event P). b.key) (filter (λ (b : Event P). kept b.key) ws) rest) → Among d (put_all (λ (b : Event P). b.key) ws rest)
fewer_put {P} kept ws rest d a = elim (put_all_among (λ (b : Event P). b.key) d (filter (λ (b : Event P). kept b.key) ws) rest a) [
  | inl b ↦ among_put_all_self (λ (c : Event P). c.key) d ws rest ((filter_among (λ (c : Event P). kept c.key) d ws b).among)
  | inr b ↦ among_put_all_other (λ (c : Event P). c.key) d ws rest b
]

-- with fewer pending events
pub healthy_less : {B S P : Type 0} (valid : Validity S) (carried : P → Type 0) (plan : Plan B S P) (spent : ℕ → ℕ) (x : States B S P) (ps qs : List (Event P)) →
    ((d : Event P) → Among d qs → Among d ps) → IsHealthy valid carried plan spent (record { state = x; pending = ps }) → IsHealthy valid carried plan spent (record { state = x; pending = qs })
healthy_less valid carried plan spent x ps qs fewer h = record { shapes = h.shapes; entities = h.entities; pending = λ d a. h.pending d (fewer d a); counts = h.counts }

-- where more events were executed
healthy_more : {B S P : Type 0} (valid : Validity S) (carried : P → Type 0) (plan : Plan B S P) (spent next : ℕ → ℕ) (w : World (States B S P) (Event P)) →
    ((k : ℕ) → spent k ≤ next k) → IsHealthy valid carried plan spent w → IsHealthy valid carried plan next w
healthy_more {B} {S} {P} valid carried plan spent next w grows h = record {
  shapes = h.shapes;
  entities = λ k e at. let own = h.entities k e at in record {
    is_valid = own.is_valid;
    waiting = own.waiting;
    tickets = each_of (λ (p : Process). p.ticket ≤ MostTicket + spent k) (λ (p : Process). p.ticket ≤ MostTicket + next k) e.processes (λ p low. let more = grows k in omega arith) own.tickets;
  };
  pending = λ d a. let own = h.pending d a in record { entity = own.entity; on_channel = own.on_channel; number = own.number; time = own.time; round = omega (arith, own.round, grows d.entity) };
  counts = λ k c w. omega (arith, h.counts k c w, grows k);
}

module _ {B S P : Type 0} (r : Reaction S P) (valid : Validity S) (carried : P → Type 0) (law : KeepsValid valid carried r) (modest : IsModest valid carried r)
    (plan : Plan B S P) (until : ℕ) (in_time : until ≤ LatestTime) (fits : Fits valid carried plan) (kept : Key → Bool) where
  next_healthy : (spent next : ℕ → ℕ) (x : States B S P) (e : Event P) (rest : List (Event P)) → e.key.time ≤ until → IsSpending plan.mappings spent next e.entity →
      IsHealthy valid carried plan spent (record { state = x; pending = e ∷ rest }) → IsHealthy valid carried plan next (executed (machine_of r plan.mappings) kept x e rest)
  unfolding machine_of
  next_healthy spent next x e rest t spending h =
      let place = place_of x.entities e.entity ((h.pending e (inl refl)).entity) in
      healthy_less valid carried plan next (acts_at r plan.mappings x e (slice_get x.entities e.entity)) (put_all (λ (b : Event P). b.key) (writes_at r plan.mappings x e (slice_get x.entities e.entity)) rest)
      (put_all (λ (b : Event P). b.key) (filter (λ (b : Event P). kept b.key) (writes_at r plan.mappings x e (slice_get x.entities e.entity))) rest)
      (fewer_put kept (writes_at r plan.mappings x e (slice_get x.entities e.entity)) rest)
      (rw place.1 (healthy_step r valid carried law modest plan fits.wired spent x e rest place.0 place.1 (omega (arith, t, in_time)) h next spending))

  module _ (line : ℕ → ℕ) (aligned : IsAligned plan line) where
    abbrev on_line : ℕ → Event P → Bool
    on_line i d = nat_eq (line d.entity) i

    abbrev share_of : ℕ → ℕ → List (Event P)
    share_of i n = share (machine_of {B = B} r plan.mappings) until kept (opening plan) (on_line i) n

    abbrev spent : ℕ → ℕ → ℕ
    spent n k = length (share_of (line k) n)

    more_own : (n : ℕ) (e : Event P) → run_event r plan until kept n ≡ Some e → (k : ℕ) → line k ≡ line e.entity → spent n k + 1 ≤ spent (suc n) k
    more_own n e h k same = omega (
      arith,
      ap (λ (es : List (Event P)). length es) (share_own (machine_of {B = B} r plan.mappings) until kept (opening plan) (on_line (line k)) n e h (eq-eqb (line e.entity) (line k) (sym same))),
      one_more (share_of (line k) n) e,
    )

    more_other : (n : ℕ) (e : Event P) → run_event r plan until kept n ≡ Some e → (k : ℕ) → nat_eq (line e.entity) (line k) ≡ false → spent n k ≤ spent (suc n) k
    more_other n e h k other = omega (
      arith,
      ap (λ (es : List (Event P)). length es) (share_other (machine_of {B = B} r plan.mappings) until kept (opening plan) (on_line (line k)) n e h other),
    )

    spends : (n : ℕ) (e : Event P) → run_event r plan until kept n ≡ Some e → IsSpending plan.mappings (spent n) (spent (suc n)) e.entity
    spends n e h = record {
      grows = λ k. elim (test_cases (nat_eq (line e.entity) (line k))) [
        | inl t ↦ omega (arith, more_own n e h k (sym (eqb-true (line e.entity) (line k) t)))
        | inr f ↦ more_other n e h k f
      ];
      own = more_own n e h e.entity refl;
      passed = λ m a none from.
          let ends : line m.from ≡ line m.to = each_among (λ (m : Mapping). m.delay ≡ 0 → line m.from ≡ line m.to) plan.mappings m aligned a none in
          let here : line m.to ≡ line e.entity = sym ends ∙ ap line from in
          let same : spent n m.to ≡ spent n e.entity = ap (λ i. length (share_of i n)) here in
          let more = more_own n e h m.to here in omega arith;
    }

    pub healthy_along : (n : ℕ) → IsHealthy valid carried plan (spent n) (world_after r plan until kept n)
    unfolding machine_of
    healthy_along zero = healthy_first valid carried plan fits (spent 0)
    healthy_along (suc n) =
        let v = world_after r plan until kept n in
        let before = healthy_along n in
        elim (step_cases (machine_of r plan.mappings) until kept v.state v.pending) [
          | inl t ↦
              subst (λ (u : World (States B S P) (Event P)). IsHealthy valid carried plan (spent (suc n)) u) (sym t.next_is)
              (next_healthy (spent n) (spent (suc n)) v.state t.head t.rest t.in_time (spends n t.head t.due_is)
              (subst (λ (ps : List (Event P)). IsHealthy valid carried plan (spent n) (record { state = v.state; pending = ps })) t.is before))
          | inr q ↦
              subst (λ (u : World (States B S P) (Event P)). IsHealthy valid carried plan (spent (suc n)) u) (sym q.next_is)
              (healthy_more valid carried plan (spent n) (spent (suc n)) v (λ k. omega (arith, ap (λ (es : List (Event P)). length es) (share_over (machine_of {B = B} r plan.mappings) until kept (opening plan) (on_line (line k)) n q.none))) before)
        ]

module _ {B S P : Type 0} (r : Reaction S P) (valid : Validity S) (carried : P → Type 0) (law : KeepsValid valid carried r) (modest : IsModest valid carried r)
    (plan : Plan B S P) (until : ℕ) (in_time : until ≤ LatestTime) (fits : Fits valid carried plan) (kept : Key → Bool) where
  -- an event of the run at its entity, in a world that is healthy with the event as the only one that is pending.
  -- All entities are taken as one timeline
  pub record IsPlaced (n : ℕ) (e : Event P) : Type 0 where
    pub entity : Entity B S P
    pub at : slice_get (world_after r plan until kept n).state.entities e.entity ≡ Some entity
    pub due : e.key.time ≤ LatestTime
    pub healthy : IsHealthy valid carried plan (λ k. length (share (machine_of {B = B} r plan.mappings) until kept (opening plan) (λ d. nat_eq 0 0) n)) (record { state = (world_after r plan until kept n).state; pending = e ∷ [] })

  abbrev pub IsLevel : List Mapping → Type 0
  IsLevel ms = let line : ℕ → ℕ = λ k. 0 in Each (λ (m : Mapping). m.delay ≡ 0 → line m.from ≡ line m.to) ms

  pub all_aligned : (ms : List Mapping) → IsLevel ms
  all_aligned [] = tt
  all_aligned (m ∷ ms) = ((λ none. refl), all_aligned ms)

  pub placed : (n : ℕ) (e : Event P) → run_event r plan until kept n ≡ Some e → IsPlaced n e
  unfolding machine_of
  placed n e h =
      let v = world_after r plan until kept n in
      let healthy = healthy_along r valid carried law modest plan until in_time fits kept (λ k. 0) (all_aligned plan.mappings) n in
      let pending : Among e v.pending = event_pending (machine_of r plan.mappings) until kept (opening plan) n e h in
      let due : e.key.time ≤ until = event_in_time (machine_of r plan.mappings) until kept (opening plan) n e h in
      let place = place_of v.state.entities e.entity ((healthy.pending e pending).entity) in
      record {
        entity = place.0;
        at = place.1;
        due = omega (arith, due, in_time);
        healthy = healthy_less valid carried plan (λ k. length (share (machine_of {B = B} r plan.mappings) until kept (opening plan) (λ d. nat_eq 0 0) n)) v.state v.pending (e ∷ [])
            (λ d a. elim a [ inl same ↦ subst (λ b. Among b v.pending) (sym same) pending | inr none ↦ absurd none ]) healthy;
      }

  -- what one event sends
  pub sends_few : (n : ℕ) (e : Event P) → run_event r plan until kept n ≡ Some e → (en : Entity B S P) → slice_get (world_after r plan until kept n).state.entities e.entity ≡ Some en →
      (c : ℕ) → count_by (is_on c) (sent_by r plan.mappings e en) ≤ MostSent
  sends_few n e h en at c =
      let p = placed n e h in
      few_sent r valid carried law modest plan fits.wired (λ k. length (share (machine_of {B = B} r plan.mappings) until kept (opening plan) (λ d. nat_eq 0 0) n))
      (world_after r plan until kept n).state e [] en at p.due p.healthy c

  pub sends_fine : (n : ℕ) (e : Event P) → run_event r plan until kept n ≡ Some e → (en : Entity B S P) → slice_get (world_after r plan until kept n).state.entities e.entity ≡ Some en →
      (s : Sent P) → Among s (sent_by r plan.mappings e en) → IsWriterOn plan e.entity s.channel × (s.entity < length plan.entities) × (s.delay ≤ 2 * LongestDelay)
  sends_fine n e h en at s a =
      let p = placed n e h in
      let x = (world_after r plan until kept n).state in
      let fine = fine_sent r valid carried law modest plan fits.wired (λ k. length (share (machine_of {B = B} r plan.mappings) until kept (opening plan) (λ d. nat_eq 0 0) n))
      x e [] en at p.due p.healthy s a in
      let size = mapped_length shape x.entities plan.entities p.healthy.shapes in
      let within = fine.entity in
      (fine.writer, omega arith, fine.delay)

  -- numbers at an event before which its timeline had few
  module _ (line : ℕ → ℕ) (aligned : IsAligned plan line) (n : ℕ) (e : Event P) (is : run_event r plan until kept n ≡ Some e) (en : Entity B S P)
      (at : slice_get (world_after r plan until kept n).state.entities e.entity ≡ Some en) (few : spent_by r plan until kept line n e.entity < MostEvents) where
    healthy_now : IsHealthy valid carried plan (spent_by r plan until kept line n) (world_after r plan until kept n)
    healthy_now = healthy_along r valid carried law modest plan until in_time fits kept line aligned n

    pub tickets_fit : Each (λ (p : Process). p.ticket + 1 < 2 ^ 64) en.processes
    tickets_fit = each_of (λ (p : Process). p.ticket ≤ MostTicket + spent_by r plan until kept line n e.entity) (λ (p : Process). p.ticket + 1 < 2 ^ 64) en.processes
        (λ p low. omega (arith, few)) (healthy_now.entities e.entity en at).tickets

    pub round_fits : e.key.round + 1 < 2 ^ 64
    round_fits =
        let low = (healthy_now.pending e (event_pending (machine_of {B = B} r plan.mappings) until kept (opening plan) n e is)).round in omega (arith, few)

    pub counts_fit : (s : Sent P) → Among s (sent_by r plan.mappings e en) →
        (world_after r plan until kept n).state.counts s.channel + count_by (is_on s.channel) (sent_by r plan.mappings e en) < 2 ^ 64
    counts_fit s a =
        let low = healthy_now.counts e.entity s.channel (sends_fine n e is en at s a).0 in
        let sent = sends_few n e is en at s.channel in omega (arith, few)

  pub times_fit : (n : ℕ) (e : Event P) → run_event r plan until kept n ≡ Some e → (en : Entity B S P) → slice_get (world_after r plan until kept n).state.entities e.entity ≡ Some en →
      (s : Sent P) → Among s (sent_by r plan.mappings e en) → e.key.time + s.delay < 2 ^ 64
  times_fit n e is en at s a =
      let due = (placed n e is).due in
      let delay = (sends_fine n e is en at s a).2 in omega arith
