-- What the calls make of a timeline is what the steps make of its view.
use Rattle.std.proofs.Common.{◌≡◌, ℕ, ◌+◌, nat_eq, max, List, [], length, refl, sym, ap, ◌∙◌, inl, inr, eqb-true, Option, Some, None, option_map, unwrap_or}
use mathlib.Core.Path.{fun_ext}
use Rattle.event_order.specs.Pending.{Among}
use Rattle.event_order.proofs.Pending.{test_cases}
use Rattle.ssf_model.specs.declared.event.Event.{Event}
use Rattle.ssf_model.specs.declared.event.Parcel.{Parcel}
use Rattle.ssf_model.specs.Scene.{Scene}
use Rattle.sync_rules.specs.Parts.{put_at}
use Rattle.sync_rules.specs.Steps.{taken_line, posted_line, entered_line}
use Rattle.timeline_parts.specs.declared.ends.InEnd.{InEnd}
use Rattle.timeline_parts.specs.declared.ends.OutEnd.{OutEnd}
use Rattle.timeline_parts.specs.Tables.{numbers_of, item_at, changed}
use Rattle.timeline_parts.specs.Sending.{written_of}
use Rattle.timeline_parts.proofs.Tables.{item_changed, known_item}
use Rattle.timeline.specs.View.{TimelineOf, key_of}
use Rattle.timeline.specs.Holding.{taken_of, held_of}
use Rattle.timeline.specs.Moving.{taken_end, posted_end, IsTaken, IsHandedOut, entered_at}
use Rattle.timeline.specs.Lines.{line_of, mail_of, posted_of, outbox_of}

-- a part of the item with a number, after a change of one that there is
part_changed : {T A : Type 0} (part : T → A) (d : A) (c : ℕ) (f : T → T) (xs : List (ℕ × T)) (x : T) → item_at c xs ≡ Some x → (k : ℕ) →
    unwrap_or (option_map part (item_at k (changed c f xs))) d ≡ put_at c (part (f x)) (λ j. unwrap_or (option_map part (item_at j xs)) d) k
part_changed {T} {A} part d c f xs x at k =
    ap (λ (o : Option T). unwrap_or (option_map part o) d) (item_changed k c f xs) ∙ (elim (test_cases (nat_eq k c)) [
      | inl t ↦ let same : item_at k xs ≡ Some x = ap (λ j. item_at j xs) (eqb-true k c t) ∙ at in rw (t, same) refl
      | inr o ↦ rw o refl
    ])

left : {T A : Type 0} (part : T → A) (d : A) (f : T → T) → ((x : T) → part (f x) ≡ part x) → (o : Option T) → unwrap_or (option_map part (option_map f o)) d ≡ unwrap_or (option_map part o) d
left part d f keeps None = refl
left part d f keeps (Some x) = keeps x

-- a part that the change leaves
part_same : {T A : Type 0} (part : T → A) (d : A) (c : ℕ) (f : T → T) (xs : List (ℕ × T)) → ((x : T) → part (f x) ≡ part x) → (k : ℕ) →
    unwrap_or (option_map part (item_at k (changed c f xs))) d ≡ unwrap_or (option_map part (item_at k xs)) d
part_same {T} {A} part d c f xs keeps k =
    ap (λ (o : Option T). unwrap_or (option_map part o) d) (item_changed k c f xs) ∙ (elim (test_cases (nat_eq k c)) [
      | inl t ↦ rw t (left part d f keeps (item_at k xs))
      | inr o ↦ rw o refl
    ])

module _ {B S P X : Type 0} (s : Scene X (Event P)) (m : ℕ) (t : TimelineOf B S P) where
  pub entered_as : (window : ℕ) → s.until ≡ t.until → line_of m (entered_at window t) ≡ entered_line s window (line_of m t)
  entered_as window e = rw e refl

  pub taken_as : (c : ℕ) (parcel : Parcel P) (after : TimelineOf B S P) → s.machine.key ≡ key_of → Among c (numbers_of t.in_ends) → IsTaken t c parcel after → line_of m after ≡ taken_line s c (line_of m t) (mail_of parcel)
  taken_as c parcel after key known q =
      let found = known_item c t.in_ends known in
      let end : ℕ = parcel.first + length parcel.events in
      let taken : taken_of (changed c (taken_end end parcel.promise) t.in_ends) ≡ put_at c end (taken_of t.in_ends) =
      fun_ext (part_changed (λ (e : InEnd). e.taken) 0 c (taken_end end parcel.promise) t.in_ends found.0 found.1) in
      let here : held_of t.in_ends c ≡ found.0.held = ap (λ (o : Option InEnd). unwrap_or (option_map (λ (e : InEnd). e.held) o) 0) found.1 in
      let held : held_of (changed c (taken_end end parcel.promise) t.in_ends) ≡ put_at c (max (held_of t.in_ends c) parcel.promise) (held_of t.in_ends) =
      fun_ext (part_changed (λ (e : InEnd). e.held) 0 c (taken_end end parcel.promise) t.in_ends found.0 found.1)
      ∙ ap (λ h. put_at c (max h parcel.promise) (held_of t.in_ends)) (sym here) in
      ap (line_of m) q.is ∙ rw (taken, held, key) refl

  pub posted_as : (c : ℕ) (parcel : Parcel P) (after : TimelineOf B S P) → IsHandedOut t c parcel after → line_of m after ≡ posted_line c (line_of m t)
  posted_as c parcel after q =
      let found = q.posted.at in
      let end = q.posted.end in
      let wrote : written_of t.out_ends c ≡ end.written = ap (λ (o : Option (OutEnd P)). unwrap_or (option_map (λ (e : OutEnd P). e.written) o) 0) found in
      let posted : posted_of (changed c posted_end t.out_ends) ≡ put_at c (written_of t.out_ends c) (posted_of t.out_ends) =
      fun_ext (part_changed (λ (e : OutEnd P). e.posted) 0 c posted_end t.out_ends end found) ∙ ap (λ w. put_at c w (posted_of t.out_ends)) (sym wrote) in
      let written : written_of (changed c posted_end t.out_ends) ≡ written_of t.out_ends =
      fun_ext (part_same (λ (e : OutEnd P). e.written) 0 c posted_end t.out_ends (λ x. refl)) in
      let outbox : outbox_of (changed c posted_end t.out_ends) ≡ put_at c [] (outbox_of t.out_ends) =
      fun_ext (part_changed (λ (e : OutEnd P). e.outbox) [] c posted_end t.out_ends end found) in
      ap (line_of m) (q.same ∙ ap (λ (o : List (ℕ × OutEnd P)). record t { out_ends = o }) q.posted.left) ∙ rw (posted, written, outbox) refl
