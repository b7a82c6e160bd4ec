-- What holds of all parts at any time is kept.
use Rattle.std.proofs.Common.{ℕ, zero, suc, ◌≡◌, nat_eq, inl, inr, refl, sym, ap, ◌∙◌, subst, List, [], ◌∷◌, map, Some, slice_get}
use Rattle.event_order.proofs.Pending.{test_cases}
use Rattle.ssf_model.specs.declared.event.Event.{Event}
use Rattle.ssf_model.specs.Reaction.{Reaction}
use Rattle.timeline_parts.specs.declared.ends.InEnd.{InEnd}
use Rattle.timeline_parts.specs.declared.ends.OutEnd.{OutEnd}
use Rattle.timeline_parts.specs.Tables.{changed, change}
use Rattle.timeline_parts.specs.Sending.{all_put, put_one, with_event}
use Rattle.timeline.specs.View.{TimelineOf}
use Rattle.timeline.specs.Executing.{IsRun, written_in, spent_of}
use Rattle.timeline.specs.Moving.{entered_at, posted_end, without}
use Rattle.appointments.specs.Mails.{Mails, mail_at}
use Rattle.appointments.specs.Posts.{taken_parcel}
use Rattle.barrier_window.specs.BarrierFields.{BarrierFields}
use Rattle.sync_steps.specs.Between.{HasItsCrosses, in_place, cross_place, out_delay, cross_delay, posted_timeline, IsTakenFrom, taken_all, taken_on}
use Rattle.core_rules.specs.Cores.{CoreView}
use Rattle.core_rules.specs.Stepping.{with_timeline, with_mail_of, with_barrier}
use Rattle.sync_core.specs.Cores.{IsOneOf, IsOrdered}
use Rattle.sync_core.proofs.Lists.{set_cases}

-- ---- ends

module _ {P : Type 0} where
  delays_changed : (c : ℕ) (f : OutEnd P → OutEnd P) → ((o : OutEnd P) → ((f o).appointed ≡ o.appointed) × ((f o).delay ≡ o.delay))
      → (ends : List (ℕ × OutEnd P)) → map out_delay (changed c f ends) ≡ map out_delay ends
  delays_changed c f keeps [] = refl
  delays_changed c f keeps (x ∷ xs) = ap (λ d. d ∷ map out_delay (changed c f xs)) one ∙ ap (λ ds. out_delay x ∷ ds) (delays_changed c f keeps xs)
    where
      one : out_delay (change c f x) ≡ out_delay x
      one = elim (test_cases (nat_eq c x.0)) [
        | inl t ↦ rw t (ap (λ b. (x.0, (b, (f x.1).delay))) (keeps x.1).0 ∙ ap (λ d. (x.0, (x.1.appointed, d))) (keeps x.1).1)
        | inr o ↦ rw o refl
      ]

  delays_put : (es : List (Event P)) (ends : List (ℕ × OutEnd P)) → map out_delay (all_put es ends) ≡ map out_delay ends
  delays_put [] ends = refl
  delays_put (e ∷ es) ends = delays_put es (put_one e ends) ∙ delays_changed e.key.channel (with_event e) (λ o. (refl, refl)) ends

  delays_posted : (c : ℕ) (ends : List (ℕ × OutEnd P)) → map out_delay (changed c posted_end ends) ≡ map out_delay ends
  delays_posted c ends = delays_changed c posted_end (λ o. (refl, refl)) ends

places_changed : (c : ℕ) (f : InEnd → InEnd) → ((e : InEnd) → (f e).place ≡ e.place) → (ends : List (ℕ × InEnd)) → map in_place (changed c f ends) ≡ map in_place ends
places_changed c f keeps [] = refl
places_changed c f keeps (x ∷ xs) = ap (λ p. p ∷ map in_place (changed c f xs)) one ∙ ap (λ ps. in_place x ∷ ps) (places_changed c f keeps xs)
  where
    one : in_place (change c f x) ≡ in_place x
    one = elim (test_cases (nat_eq c x.0)) [
      | inl t ↦ rw t (ap (λ p. (x.0, p)) (keeps x.1))
      | inr o ↦ rw o refl
    ]

-- ---- timelines

module _ {B S P : Type 0} where
  crosses_kept : (t a : TimelineOf B S P) → a.ins ≡ t.ins → a.outs ≡ t.outs → map in_place a.in_ends ≡ map in_place t.in_ends → map out_delay a.out_ends ≡ map out_delay t.out_ends
      → HasItsCrosses t → HasItsCrosses a
  crosses_kept t a ins outs places delays q = record {
    ins = places ∙ (q.ins ∙ ap (map cross_place) (sym ins));
    outs = delays ∙ (q.outs ∙ ap (map cross_delay) (sym outs));
  }

  one_kept : (until : ℕ) (t a : TimelineOf B S P) → a.until ≡ t.until → a.ins ≡ t.ins → a.outs ≡ t.outs → map in_place a.in_ends ≡ map in_place t.in_ends → map out_delay a.out_ends ≡ map out_delay t.out_ends
      → IsOneOf until t → IsOneOf until a
  one_kept until t a last ins outs places delays q = record { last = last ∙ q.last; crosses = crosses_kept t a ins outs places delays q.crosses }

  pub run_keeps : (until : ℕ) (r : Reaction S P) (t a : TimelineOf B S P) → IsRun r t a → IsOneOf until t → IsOneOf until a
  run_keeps until r t a run q = one_kept until t a
      (ap (λ (x : TimelineOf B S P). x.until) run.is) (ap (λ (x : TimelineOf B S P). x.ins) run.is) (ap (λ (x : TimelineOf B S P). x.outs) run.is)
      (ap (λ (x : TimelineOf B S P). map in_place x.in_ends) run.is) (ap (λ (x : TimelineOf B S P). map out_delay x.out_ends) run.is ∙ delays_put (written_in r t run.event run.entity) t.out_ends) q

  pub spent_keeps : (until : ℕ) (t a : TimelineOf B S P) → a ≡ spent_of t a → IsOneOf until t → IsOneOf until a
  spent_keeps until t a is q = one_kept until t a
      (ap (λ (x : TimelineOf B S P). x.until) is) (ap (λ (x : TimelineOf B S P). x.ins) is) (ap (λ (x : TimelineOf B S P). x.outs) is)
      (ap (λ (x : TimelineOf B S P). map in_place x.in_ends) is) (ap (λ (x : TimelineOf B S P). map out_delay x.out_ends) is) q

  pub enter_keeps : (until window : ℕ) (t a : TimelineOf B S P) → a ≡ entered_at window t → IsOneOf until t → IsOneOf until a
  enter_keeps until window t a is q = subst (IsOneOf until) (sym is) (one_kept until t (entered_at window t) refl refl refl refl refl q)

  pub post_keeps : (until c : ℕ) (t a : TimelineOf B S P) → a ≡ posted_timeline c t → IsOneOf until t → IsOneOf until a
  post_keeps until c t a is q = subst (IsOneOf until) (sym is) (one_kept until t (posted_timeline c t) refl refl refl refl (delays_posted c t.out_ends) q)

  taken_on_keeps : (until c first : ℕ) (t a : TimelineOf B S P) → IsOneOf until t → (m : Mails P) → IsOneOf until (taken_on c (taken_parcel (mail_at m c)) t)
  taken_on_keeps until c first t a q m = one_kept until t (taken_on c (taken_parcel (mail_at m c)) t) refl refl refl (places_changed c _ (λ e. refl) t.in_ends) refl q

  taken_all_keeps : (until : ℕ) (m : Mails P) (cs : List ℕ) (t : TimelineOf B S P) → IsOneOf until t → IsOneOf until (taken_all m cs t)
  taken_all_keeps until m [] t q = q
  taken_all_keeps until m (c ∷ cs) t q = taken_all_keeps until m cs (taken_on c (taken_parcel (mail_at m c)) t) (taken_on_keeps until c 0 t t q m)

  pub take_keeps : (until : ℕ) (m n : Mails P) (t a : TimelineOf B S P) → IsTakenFrom m n t a → IsOneOf until t → IsOneOf until a
  take_keeps until m n t a taken q =
      let all = taken_all_keeps until m m.channels t q in
      subst (IsOneOf until) (sym taken.timeline) (one_kept until (taken_all m m.channels t) (record (taken_all m m.channels t) { spare = a.spare }) refl refl refl refl refl all)

  pub without_keeps : (until below : ℕ) (t : TimelineOf B S P) → IsOneOf until t → IsOneOf until (without below t)
  without_keeps until below t q = one_kept until t (without below t) refl refl refl refl refl q

  -- ---- all parts

  pub ordered_timeline : (core : CoreView B S P) (i : ℕ) (t a : TimelineOf B S P) → slice_get core.timelines i ≡ Some t → (IsOneOf core.until t → IsOneOf core.until a)
      → IsOrdered core → IsOrdered (with_timeline i a core)
  ordered_timeline core i t a at keeps q = record {
    until = q.until;
    rising = q.rising;
    each = λ j x there. elim (set_cases core.timelines i j a x there) [
      | inl s ↦ subst (IsOneOf core.until) (sym s.1) (keeps (q.each i t at))
      | inr o ↦ q.each j x o
    ];
  }

  pub ordered_mail : (core : CoreView B S P) (i : ℕ) (mail : Mails P) → IsOrdered core → IsOrdered (with_mail_of i mail core)
  ordered_mail core i mail q = record { until = q.until; rising = q.rising; each = q.each }

  pub ordered_barrier : (core : CoreView B S P) (b : BarrierFields) → IsOrdered core → IsOrdered (with_barrier b core)
  ordered_barrier core b q = record { until = q.until; rising = q.rising; each = q.each }

  without_each : (until below : ℕ) (ts : List (TimelineOf B S P)) → ((i : ℕ) (t : TimelineOf B S P) → slice_get ts i ≡ Some t → IsOneOf until t)
      → (i : ℕ) (t : TimelineOf B S P) → slice_get (map (without below) ts) i ≡ Some t → IsOneOf until t
  without_each until below [] q i t h = absurd (cc)
  without_each until below (x ∷ xs) q zero t h = let same : without below x ≡ t = cc in subst (IsOneOf until) same (without_keeps until below x (q zero x refl))
  without_each until below (x ∷ xs) q (suc i) t h = without_each until below xs (λ j y there. q (suc j) y there) i t h

  pub ordered_without : (core : CoreView B S P) (below : ℕ) (ts : List (TimelineOf B S P)) → ts ≡ map (without below) core.timelines → IsOrdered core → IsOrdered (record core { timelines = ts })
  ordered_without core below ts is q = record {
    until = q.until;
    rising = q.rising;
    each = subst (λ (us : List (TimelineOf B S P)). (i : ℕ) (t : TimelineOf B S P) → slice_get us i ≡ Some t → IsOneOf core.until t) (sym is) (without_each core.until below core.timelines q.each);
  }
