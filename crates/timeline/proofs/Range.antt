-- What a sound timeline has written on a channel is in range.
use Rattle.std.proofs.Common.{◌≡◌, ℕ, suc, ◌-◌, ◌^◌, ◌<◌, ◌≤◌, Bool, length, sym, ap, ◌∙◌, subst, inl, inr, arith, Some, slice_get}
use Rattle.event_order.specs.declared.key.Key.{Key}
use Rattle.event_order.specs.Pending.{Among}
use Rattle.event_order.proofs.Steps.{lt_or_ge}
use Rattle.ssf_model.specs.declared.event.Event.{Event}
use Rattle.ssf_model.specs.declared.plan.Plan.{Plan}
use Rattle.ssf_model.specs.Reaction.{Reaction, Validity, KeepsValid, LatestTime}
use Rattle.ssf_model.specs.Deliver.{IsModest}
use Rattle.ssf_model.specs.Channels.{sent_by}
use Rattle.ssf_model.specs.Run.{States, writes_at, machine_of, Fits}
use Rattle.ssf_model.specs.Scene.{Net, Scene, scene_of, world_at, event_at, channel_of}
use Rattle.ssf_model.specs.Truth.{line_events, writes_on}
use Rattle.ssf_model.proofs.Lists.{place_of}
use Rattle.ssf_model.proofs.Counts.{numbered_is}
use Rattle.run_laws.proofs.ByPlace.{count_after as channel_count}
use Rattle.run_health.specs.Groups.{IsWriterOn}
use Rattle.run_health.specs.Healthy.{spent_by}
use Rattle.run_health.proofs.Along.{placed, sends_fine, healthy_along}
use Rattle.sync_rules.specs.Bounds.{IsOutOf}
use Rattle.sync_rules.specs.Sound.{made}
use Rattle.sync_rules.proofs.Writes.{origin}
use Rattle.timeline.specs.View.{TimelineOf}
use Rattle.timeline_parts.specs.Sending.{written_of}
use Rattle.timeline.specs.Sound.{IsSoundTimeline, IsRunOnLines}

module _ {B S P : Type 0} (r : Reaction S P) (valid : Validity S) (carried : P → Type 0) (law : KeepsValid valid carried r) (modest : IsModest valid carried r)
    (plan : Plan B S P) (until : ℕ) (in_time : until ≤ LatestTime) (fits : Fits valid carried plan) (kept : Key → Bool) (line : ℕ → ℕ) (net : Net) where
  abbrev s : Scene (States B S P) (Event P)
  s = scene_of r plan until kept line net

  -- the entity of an event writes on the channels of what the event writes
  writes_on_own : (k : ℕ) (by d : Event P) → event_at s k ≡ Some by → Among d (s.machine.writes (world_at s k).state by) → IsWriterOn plan by.entity (channel_of s d)
  unfolding machine_of
  writes_on_own k by d is a =
      let at = placed r valid carried law modest plan until in_time fits kept k by is in
      let sends : Among d (writes_at r plan.mappings (world_at s k).state by (Some at.entity)) = subst (λ o. Among d (writes_at r plan.mappings (world_at s k).state by o)) {x = slice_get (world_at s k).state.entities by.entity} at.at a in
      let from = numbered_is by.key (world_at s k).state.counts (sent_by r plan.mappings by at.entity) d sends in
      let fine = sends_fine r valid carried law modest plan until in_time fits kept k by is at.entity at.at from.sent from.among in
      let channel : from.sent.channel ≡ d.key.channel = sym {b = from.sent.channel} (ap (λ (q : Key). q.channel) from.key_is) in
      subst (λ c. IsWriterOn plan by.entity c) {x = from.sent.channel} channel fine.0

  module _ (i m : ℕ) (t : TimelineOf B S P) (on : IsRunOnLines plan line t.budget s) (sound : IsSoundTimeline plan line s i m t) (c : ℕ) (out : IsOutOf net i c) where
    written_made : written_of t.out_ends c ≡ made s c m
    written_made = sound.sound.written c out

    some_made : (p : ℕ) → made s c m ≡ suc p → made s c m < 2 ^ 64
    some_made p more =
        let last = place_of (writes_on s c m) p (omega (arith, more)) in
        let from = origin s c p last.0 (record { within = m; is = last.1 }) in
        let k = from.0 in
        let by = from.1 in
        let channel = from.2.channel in
        let sum = from.2.sum in
        let cross = ap net.cross channel ∙ out.cross in
        let own : line by.entity ≡ i = (on.shared.routed k by last.0 from.2.written).sent cross ∙ ap net.sender channel ∙ out.sender in
        let writer : IsWriterOn plan by.entity c = subst (λ b. IsWriterOn plan by.entity b) channel (writes_on_own k by last.0 from.2.written.is from.2.written.among) in
        let healthy = healthy_along r valid carried law modest plan until in_time fits kept line on.aligned m in
        let low = healthy.counts by.entity c writer in
        let total = channel_count r plan until kept line net c m in
        let spent : spent_by r plan until kept line m by.entity ≡ length (line_events s i m) = ap (λ j. length (line_events s j m)) own in
        omega (arith, low, total, spent, sound.counted.executed, sound.order.few, sound.order.budget)

    pub made_low : made s c m < 2 ^ 64
    made_low = elim (lt_or_ge 0 (made s c m)) [
      | inr none ↦ omega (arith, none)
      | inl some ↦ some_made (made s c m - 1) (omega (arith, some))
    ]

    pub written_in_range : written_of t.out_ends c < 2 ^ 64
    written_in_range = omega (arith, made_low, written_made)
