-- The events of a true parcel are new to a sound timeline.
use Rattle.std.proofs.Common.{◌≡◌, ℕ, suc, ◌<◌, ◌≤◌, true, false, List, [], ◌∷◌, refl, sym, ap, ◌∙◌, subst, inl, inr, arith}
use Rattle.event_order.specs.declared.key.Key.{Key}
use Rattle.event_order.specs.Pending.{Among, IsApart}
use Rattle.ssf_model.specs.declared.event.Event.{Event}
use Rattle.ssf_model.specs.Scene.{Scene, channel_of}
use Rattle.ssf_model.specs.Truth.{is_on_line, IsWrite, IsStretch, IsKeptWrite}
use Rattle.sync_rules.specs.Bounds.{IsInto}
use Rattle.sync_rules.specs.Shared.{IsShared}
use Rattle.sync_rules.specs.Sound.{IsSoundLine}
use Rattle.sync_rules.proofs.Runs.{one_key}
use Rattle.sync_rules.proofs.Writes.{origin, one_place, stretch_among, kept_cross}
use Rattle.sync_rules.proofs.Bounds.{true_or_not, line_is}
use Rattle.timeline_parts.specs.Settling.{AreNew}
use Rattle.timeline.specs.View.{TimelineOf, key_of}
use Rattle.timeline.specs.Holding.{taken_of}
use Rattle.timeline.specs.Lines.{line_of}

module _ {B S P X : Type 0} (s : Scene X (Event P)) (keys : s.machine.key ≡ key_of) (sh : IsShared s) (i m : ℕ) (t : TimelineOf B S P) (sound : IsSoundLine s i (line_of m t))
    (c : ℕ) (into : IsInto s.net i c) (end : ℕ) (events : List (Event P)) (is : IsStretch s c (taken_of t.in_ends c) events end) where
  -- an event of the parcel, and how it was written
  record IsComing (d : Event P) : Type 0 where
    place : ℕ
    write : IsWrite s c place d
    from : taken_of t.in_ends c ≤ place
    channel : channel_of s d ≡ c
    at : ℕ
    kept : IsKeptWrite s at d
    other : is_on_line s i kept.by ≡ false

  coming : (d : Event P) → Among d events → IsComing d
  coming d a =
      let found = stretch_among s c (taken_of t.in_ends c) end events d is a in
      let from = origin s c found.0 d found.1 in
      let channel = from.2.channel in
      let cross : s.net.cross (channel_of s d) ≡ true = ap s.net.cross channel ∙ into.cross in
      let routed = sh.routed from.0 from.1 d from.2.written in
      let kept = kept_cross s sh from.0 from.1 d from.2.written cross in
      record {
        place = found.0;
        write = found.1;
        from = found.2;
        channel = channel;
        at = from.0;
        kept = kept.0;
        other = true_or_not (is_on_line s i kept.0.by) (λ own. sh.joining.apart c into.cross
            (ap s.net.sender (sym channel) ∙ sym (routed.sent cross) ∙ ap s.line (sym kept.1) ∙ line_is s sh i kept.0.by own ∙ sym into.receiver));
      }

  key_is : (d : Event P) → s.machine.key d ≡ d.key
  key_is d = ap (λ (key : Event P → Key). key d) keys

  apart_from : (first : ℕ) (ds : List (Event P)) → ((d : Event P) → Among d ds → Among d events) → IsStretch s c first ds end → IsApart key_of ds
  apart_from first [] all row = tt
  apart_from first (d ∷ ds) all row = (
    (λ e a same.
        let one = coming d (all d (inl refl)) in
        let two = coming e (all e (inr a)) in
        let equal : d ≡ e = one_key s sh d e (inr (one.at, one.kept)) (inr (two.at, two.kept)) (key_is d ∙ same ∙ sym (key_is e)) in
        let found = stretch_among s c (suc first) end ds e row.1 a in
        let place = one_place s sh c first found.0 e (subst (λ x. IsWrite s c first x) equal row.0) found.1 in
        omega (arith, place, found.2)),
    apart_from (suc first) ds (λ e a. all e (inr a)) row.1,
  )

  others : (x y : Event P) → Among x events → Among y t.pending → key_of x ≡ key_of y → ⊥
  others x y a b same =
      let q = coming x a in
      let equal : x ≡ y = one_key s sh x y (inr (q.at, q.kept)) (sound.standing.arises y b) (key_is x ∙ same ∙ sym (key_is y)) in
      let pending : Among x t.pending = subst (λ z. Among z t.pending) (sym equal) b in
      let came = sound.standing.came_across x q.at pending q.kept q.other in
      let place = one_place s sh c came.place q.place x (subst (λ k. IsWrite s k came.place x) q.channel came.is) q.write in
      let below : came.place < taken_of t.in_ends c = subst (λ k. came.place < taken_of t.in_ends k) q.channel came.below in
      let from = q.from in
      omega (arith, place, below, from)

  pub new_events : AreNew events t.pending
  new_events = record { apart = apart_from (taken_of t.in_ends c) events (λ d a. a) is; others = others }
