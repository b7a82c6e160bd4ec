-- The run of an aligned plan is one that is shared out.
use Rattle.std.proofs.Common.{◌≡◌, ◌⊎◌, ℕ, ◌+◌, ◌<◌, ◌≤◌, Bool, true, false, nat_lt, map, sym, ap, ◌∙◌, subst, inl, inr, arith, Some, None, slice_get}
use Rattle.std.proofs.lemmas.Grind.{common_steps}
use Rattle.event_order.specs.declared.key.Key.{Key}
use Rattle.event_order.specs.Pending.{Among}
use Rattle.event_order.specs.Laws.{IsLawful, IsOpening}
use Rattle.event_order.specs.Machine.{within}
use Rattle.event_order.proofs.Pending.{test_cases}
use Rattle.event_order.proofs.Steps.{lt_or_ge, le_test}
use Rattle.ssf_model.specs.declared.event.Event.{Event}
use Rattle.ssf_model.specs.declared.entity.Entity.{Entity}
use Rattle.ssf_model.specs.declared.plan.Mapping.{Mapping}
use Rattle.ssf_model.specs.declared.plan.Plan.{Plan}
use Rattle.ssf_model.specs.Reaction.{Reaction, Validity, KeepsValid, LatestTime, Each}
use Rattle.ssf_model.specs.Deliver.{IsModest}
use Rattle.ssf_model.specs.Channels.{delivered_to, timer_of}
use Rattle.ssf_model.specs.Run.{States, machine_of, opening, run_event, world_after, IsMappingOf, Fits}
use Rattle.ssf_model.specs.Scene.{Net, Scene, scene_of}
use Rattle.ssf_model.proofs.Lists.{each_among, within_of, at_mapped, mapped_length}
use Rattle.ssf_model.proofs.Counts.{writes_rounded}
use Rattle.run_laws.proofs.Lawful.{known, lawful, opened}
use Rattle.run_laws.proofs.Opens.{fits_open}
use Rattle.run_laws.proofs.OfPlans.{plan_cut_ends}
use Rattle.run_health.specs.Groups.{IsTimerOf}
use Rattle.run_health.specs.Healthy.{shape, timer_at}
use Rattle.run_health.specs.Joined.{IsSentAlong, KeepsRounds}
use Rattle.run_health.proofs.Writers.{timer_some, timer_among, timer_low, mapping_high}
use Rattle.run_health.proofs.Healths.{delivered_timers, same_timers}
use Rattle.run_health.proofs.Along.{placed}
use Rattle.run_health.proofs.OfFitting.{follows}
use Rattle.sync_rules.specs.Shared.{IsJoining, IsWrittenBy, IsRouted, IsShared}
use Rattle.sync_facts.specs.Aligned.{IsCrossIn, IsInside, IsMappingIn, IsAlignedNet}

less_true : (a b : ℕ) → a < b → nat_lt a b ≡ true
less_true a b h = grind (arith, common_steps)

true_less : (a b : ℕ) → nat_lt a b ≡ true → a < b
true_less a b h = grind (arith, common_steps)

zero_or_more : (n : ℕ) → (n ≡ 0) ⊎ (1 ≤ n)
zero_or_more n = elim (lt_or_ge n 1) [ inl none ↦ inl (omega arith) | inr some ↦ inr some ]

-- ---- the machine

module _ {B S P : Type 0} (r : Reaction S P) (plan : Plan B S P) where
  -- the test that a key was given out
  abbrev pub was_given : States B S P → Key → Bool
  was_given x k = nat_lt k.number (x.counts k.channel)

  given : (x : States B S P) (k : Key) → known r plan.mappings x k → was_given x k ≡ true
  unfolding known
  given x k h = less_true _ _ h

  is_known : (x : States B S P) (k : Key) → was_given x k ≡ true → known r plan.mappings x k
  unfolding known
  is_known x k h = true_less _ _ h

  pub test_lawful : IsLawful (machine_of {B = B} r plan.mappings) (λ x k. was_given x k ≡ true)
  test_lawful =
      let law : IsLawful (machine_of {B = B} r plan.mappings) (known r plan.mappings) = lawful r plan.mappings in
      record {
        rises = law.rises;
        apart = law.apart;
        fresh = λ x e b a k. law.fresh x e b a (is_known x ((machine_of {B = B} r plan.mappings).key b) k);
        learns = λ x e b a. given _ _ (law.learns x e b a);
        keeps = λ x e k h. given _ _ (law.keeps x e k (is_known x k h));
      }

  pub test_opening : IsOpening (machine_of {B = B} r plan.mappings) (known r plan.mappings) (opening plan) → IsOpening (machine_of {B = B} r plan.mappings) (λ x k. was_given x k ≡ true) (opening plan)
  test_opening o = record { risen = o.risen; told = λ d a. given _ _ (o.told d a) }

-- ---- the channels

module _ {B S P : Type 0} (plan : Plan B S P) (mapped : Each (IsMappingOf plan.entities) plan.mappings) (line : ℕ → ℕ) (net : Net) (is : IsAlignedNet plan line net) where
  -- a channel that crosses, and its mapping
  record Crossing (c : ℕ) : Type 0 where
    mapping : Mapping
    among : Among mapping plan.mappings
    channel : mapping.channel ≡ c
    apart : IsInside line mapping → ⊥
    carried_by : IsCrossIn line net mapping

  mapping_is : (m : Mapping) → Among m plan.mappings → IsMappingIn line net m
  mapping_is m a = each_among (IsMappingIn line net) plan.mappings m is.mappings a

  crossing : (c : ℕ) → net.cross c ≡ true → Crossing c
  crossing c cross =
      let (m, a, channel) = is.only c cross in
      elim (mapping_is m a) [
        | inl inside ↦ absurd (let wrong : true ≡ false = sym cross ∙ ap net.cross (sym channel) ∙ inside.1 in cc)
        | inr out ↦ record { mapping = m; among = a; channel = channel; apart = out.0; carried_by = out.1 }
      ]

  -- it takes time
  some_delay : (m : Mapping) → Among m plan.mappings → (IsInside line m → ⊥) → 1 ≤ m.delay
  some_delay m a apart = elim (zero_or_more m.delay) [
    | inl none ↦ absurd (apart (each_among (λ (k : Mapping). k.delay ≡ 0 → line k.from ≡ line k.to) plan.mappings m is.aligned a none))
    | inr some ↦ some
  ]

  pub joining : IsJoining net
  joining = record {
    known = λ c cross. let q = crossing c cross in subst (λ k. k < net.channels) q.channel (each_among (λ (m : Mapping). m.channel < net.channels) plan.mappings q.mapping is.channels q.among);
    sender = λ c cross.
        let q = crossing c cross in
        let m = each_among (IsMappingOf plan.entities) plan.mappings q.mapping mapped q.among in
        subst (λ k. k < net.timelines) (sym (ap net.sender (sym q.channel) ∙ q.carried_by.sender)) (is.timelines q.mapping.from (within_of plan.entities q.mapping.from m.from.0 m.from.1));
    receiver = λ c cross.
        let q = crossing c cross in
        let m = each_among (IsMappingOf plan.entities) plan.mappings q.mapping mapped q.among in
        subst (λ k. k < net.timelines) (sym (ap net.receiver (sym q.channel) ∙ q.carried_by.receiver)) (is.timelines q.mapping.to (within_of plan.entities q.mapping.to m.to.0 m.to.1));
    apart = λ c cross same. (let q = crossing c cross in
        q.apart (sym q.carried_by.sender ∙ ap net.sender q.channel ∙ same ∙ ap net.receiver (sym q.channel) ∙ q.carried_by.receiver));
    delayed = λ c cross. (let q = crossing c cross in
        let delay : net.delay c ≡ q.mapping.delay = ap net.delay (sym q.channel) ∙ q.carried_by.delay in
        let some = some_delay q.mapping q.among q.apart in omega arith);
    windowed = λ c cross windowed. (let q = crossing c cross in
        let (d, same, most) = q.carried_by.windowed (ap net.appointed q.channel ∙ windowed) in
        let delay : net.delay c ≡ q.mapping.delay = ap net.delay (sym q.channel) ∙ q.carried_by.delay in
        (d, same, omega arith));
    long = λ d same. (let (m, a, apart, delay) = is.lookahead d same in let some = some_delay m a apart in omega arith);
  }

-- ---- the run

module _ {B S P : Type 0} (r : Reaction S P) (valid : Validity S) (carried : P → Type 0) (law : KeepsValid valid carried r) (modest : IsModest valid carried r)
    (plan : Plan B S P) (until : ℕ) (in_time : until ≤ LatestTime) (fits : Fits valid carried plan) (kept : Key → Bool) (line : ℕ → ℕ) (net : Net) (is : IsAlignedNet plan line net) where
  abbrev s : Scene (States B S P) (Event P)
  s = scene_of r plan until kept line net

  -- an event of the run is on one of the timelines
  on_line : (k : ℕ) (e : Event P) → run_event r plan until kept k ≡ Some e → line e.entity < net.timelines
  on_line k e h =
      let p = placed r valid carried law modest plan until in_time fits kept k e h in
      let size = mapped_length shape (world_after r plan until kept k).state.entities plan.entities p.healthy.shapes in
      is.timelines e.entity (omega (arith, within_of (world_after r plan until kept k).state.entities e.entity p.entity p.at, size))

  -- the channel of a timer does not cross
  timer_stays : (k c process : ℕ) (e : Event P) (waiter : Entity B S P) → run_event r plan until kept k ≡ Some e → slice_get (world_after r plan until kept k).state.entities e.entity ≡ Some waiter
      → timer_of (slice_get (delivered_to r e waiter).processes process) ≡ Some c → net.cross c ≡ true → ⊥
  timer_stays k c process e waiter h at timer cross =
      let p = placed r valid carried law modest plan until in_time fits kept k e h in
      let first = at_mapped shape (world_after r plan until kept k).state.entities plan.entities e.entity waiter p.healthy.shapes at in
      let after = (delivered_to r e waiter).processes in
      let timers : map timer_at after ≡ map timer_at first.0.processes =
      delivered_timers r e.key.time e.kind 0 waiter.state waiter.processes ∙ sym (same_timers first.0 waiter first.2) in
      let (now, is_now, has) = timer_some (slice_get after process) c timer in
      let (old, is_old, same) = at_mapped timer_at after first.0.processes process now timers is_now in
      let own : IsTimerOf c first.0 = timer_among first.0.processes process c old is_old (same ∙ has) in
      let low = timer_low plan fits.wired e.entity c (first.0, first.1, own) in
      let (m, a, channel) = is.only c cross in
      let high = mapping_high plan fits.wired m a in
      omega (arith, low, high, channel)

  along_is : (x : States B S P) (e d : Event P) → IsSentAlong r plan x e d
      → ((net.cross d.key.channel ≡ false) × (line e.entity ≡ line d.entity))
      ⊎ ((line e.entity ≡ net.sender d.key.channel) × (line d.entity ≡ net.receiver d.key.channel) × (e.key.time + net.delay d.key.channel ≤ d.key.time) × (net.cross d.key.channel ≡ true))
  along_is x e d q =
      let m = q.mapping in
      let from : line e.entity ≡ line m.from = ap line (sym q.source) in
      let to : line d.entity ≡ line m.to = ap line q.target in
      elim (mapping_is plan fits.wired.mappings line net is m q.among) [
        | inl inside ↦ inl (ap net.cross q.channel ∙ inside.1, from ∙ inside.0 ∙ sym to)
        | inr out ↦
            let delay : net.delay d.key.channel ≡ m.delay = ap net.delay q.channel ∙ out.1.delay in
            let sum = q.time in
            inr (from ∙ sym out.1.sender ∙ ap net.sender (sym q.channel), to ∙ sym out.1.receiver ∙ ap net.receiver (sym q.channel), omega arith, ap net.cross q.channel ∙ out.1.cross)
      ]

  -- what an event writes at a later time is in round 0
  later_round : (k : ℕ) (e d : Event P) → Among d ((machine_of {B = B} r plan.mappings).writes (world_after r plan until kept k).state e) → e.key.time < d.key.time → d.key.round ≡ 0
  unfolding machine_of
  later_round k e d a later = elim (writes_rounded r plan.mappings (world_after r plan until kept k).state e d (slice_get (world_after r plan until kept k).state.entities e.entity) a) [
    | inl first ↦ first.0
    | inr next ↦ (let same = next.1 in absurd (omega arith))
  ]

  stays : (e d : Event P) → net.cross d.key.channel ≡ false → line e.entity ≡ line d.entity → IsRouted s e d
  unfolding machine_of
  stays e d none same =
      let not : net.cross d.key.channel ≡ true → ⊥ = λ cross. (let wrong : true ≡ false = sym cross ∙ none in cc) in
      record {
        inside = λ h. same;
        sent = λ cross. absurd (not cross);
        reached = λ cross. absurd (not cross);
        delayed = λ cross. absurd (not cross);
        uncut = λ cross. absurd (not cross);
      }

  module _ (keeps : KeepsRounds 0 kept) where
    crosses : (k : ℕ) (e d : Event P) → Among d ((machine_of {B = B} r plan.mappings).writes (world_after r plan until kept k).state e)
        → line e.entity ≡ net.sender d.key.channel → line d.entity ≡ net.receiver d.key.channel → e.key.time + net.delay d.key.channel ≤ d.key.time → net.cross d.key.channel ≡ true → IsRouted s e d
    unfolding machine_of
    crosses k e d a sent reached delayed cross =
        let slow = (joining plan fits.wired.mappings line net is).delayed d.key.channel cross in
        let round = later_round k e d a (omega arith) in
        record {
          inside = λ none. absurd (let wrong : true ≡ false = sym cross ∙ none in cc);
          sent = λ h. sent;
          reached = λ h. reached;
          delayed = λ h. delayed;
          uncut = λ h. keeps d.key (omega arith);
        }

    routed : (k : ℕ) (e d : Event P) → IsWrittenBy s k e d → IsRouted s e d
    routed k e d w = elim (follows r valid carried law modest plan until in_time fits kept k e w.is d w.among) [
      | inl along ↦ elim (along_is (world_after r plan until kept k).state e d along) [
        | inl inside ↦ stays e d inside.0 inside.1
        | inr (sent, reached, delayed, cross) ↦ crosses k e d w.among sent reached delayed cross
      ]
      | inr wait ↦ elim (test_cases (net.cross d.key.channel)) [
        | inr none ↦ stays e d none (ap line (sym wait.target))
        | inl cross ↦ absurd (timer_stays k d.key.channel wait.process e wait.waiter w.is wait.at wait.channel cross)
      ]
    ]

    pub shared : (end : ℕ) → run_event r plan until kept end ≡ None → IsShared s
    shared end ended = record {
      known = was_given r plan;
      lawful = test_lawful r plan;
      opening = test_opening r plan (opened r plan (fits_open valid carried plan fits));
      end = end;
      ended = ended;
      joining = joining plan fits.wired.mappings line net is;
      placed = λ k e h. on_line k e h;
      routed = routed;
    }

-- a cut at some round keeps what is in round 0, and the run ends
module _ {B S P : Type 0} (r : Reaction S P) (valid : Validity S) (carried : P → Type 0) (law : KeepsValid valid carried r) (modest : IsModest valid carried r)
    (plan : Plan B S P) (until : ℕ) (in_time : until ≤ LatestTime) (fits : Fits valid carried plan) (line : ℕ → ℕ) (net : Net) (is : IsAlignedNet plan line net) where
  first_rounds : (most : ℕ) → KeepsRounds 0 (within most)
  first_rounds most k low = le_test k.round most (omega arith)

  pub shared_within : (most : ℕ) → IsShared (scene_of r plan until (within most) line net)
  shared_within most =
      let ends = plan_cut_ends r plan until (fits_open valid carried plan fits) most in
      shared r valid carried law modest plan until in_time fits (within most) line net is (first_rounds most) ends.0 ends.1
