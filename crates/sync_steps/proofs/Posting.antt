-- What is handed out and posted.
use Rattle.std.proofs.Common.{◌≡◌, ℕ, zero, suc, ◌+◌, sym, Bool, true, false, nat_eq, nat_lt, ◌||◌, List, [], ◌∷◌, length, refl, ap, ◌∙◌, subst, inl, inr, arith, lt-ltb, eqb-true, Some}
use Rattle.std.proofs.lemmas.Bool.{le-ltb}
use Rattle.event_order.specs.Pending.{Among}
use Rattle.event_order.proofs.Pending.{test_cases}
use Rattle.ssf_model.specs.declared.event.Event.{Event}
use Rattle.ssf_model.specs.declared.event.Parcel.{Parcel}
use Rattle.ssf_model.specs.Reaction.{Each}
use Rattle.timeline_parts.specs.declared.ends.OutEnd.{OutEnd}
use Rattle.timeline_parts.specs.Tables.{numbers_of, AreNumbered, item_at, changed}
use Rattle.timeline_parts.specs.Sending.{written_of}
use Rattle.timeline_parts.proofs.Tables.{known_item, changed_none}
use Rattle.timeline.specs.View.{TimelineOf}
use Rattle.timeline.specs.Holding.{IsInOrder, IsFilled, low_in}
use Rattle.timeline.specs.Moving.{IsHandedOut, posted_end, parcel_of}
use Rattle.timeline.specs.Lines.{posted_of, outbox_of}
use Rattle.appointments.specs.Mails.{ChannelMail}
use Rattle.sync_steps.specs.declared.steps.Stepped.TheVariants.{Did}
use Rattle.sync_steps.specs.Between.{stepped, promise_in, can_post, parcel_in, posted_timeline}

-- ---- answers

pub not_stepped : (b : Bool) → (stepped b ≡ Did → ⊥) → b ≡ false
not_stepped true h = absurd (h refl)
not_stepped false h = refl

or_false : (a b : Bool) → (a || b) ≡ false → (a ≡ false) × (b ≡ false)
or_false true b h = absurd (cc)
or_false false b h = (refl, h)

lt_not : (n : ℕ) → nat_lt 0 n ≡ false → n ≡ 0
lt_not zero h = refl
lt_not (suc n) h = let t : nat_lt 0 (suc n) ≡ true = lt-ltb 0 (suc n) (omega arith) in absurd (cc)

-- ---- ends

no_events : {T : Type 0} (xs : List T) → length xs ≡ 0 → xs ≡ []
no_events [] h = refl
no_events (x ∷ xs) h = absurd (omega arith)

module _ {P : Type 0} where
  end_is : (o : OutEnd P) (p : ℕ) (b : List (Event P)) → o.posted ≡ p → o.outbox ≡ b → record { appointed = o.appointed; delay = o.delay; posted = p; written = o.written; outbox = b } ≡ o
  end_is o p b e f = rw (← e, ← f) refl

  end_filled : (c : ℕ) (ends : List (ℕ × OutEnd P)) (o : OutEnd P) → Each IsFilled ends → item_at c ends ≡ Some o → o.posted + length o.outbox ≡ o.written
  end_filled c [] o each found = absurd (cc)
  end_filled c (x ∷ xs) o each found = elim (test_cases (nat_eq c x.0)) [
    | inl t ↦ let is : Some x.1 ≡ Some o = rw t at found in let same : x.1 ≡ o = cc in subst (λ (y : OutEnd P). y.posted + length y.outbox ≡ y.written) same each.0
    | inr f ↦ end_filled c xs o each.1 (rw f at found)
  ]

  -- what was posted and what stands in the outbox is what was written
  pub outbox_filled : (c : ℕ) (ends : List (ℕ × OutEnd P)) → Each IsFilled ends → Among c (numbers_of ends) → posted_of ends c + length (outbox_of ends c) ≡ written_of ends c
  outbox_filled c ends each known = let found = known_item c ends known in rw found.1 (end_filled c ends found.0 each found.1)

  -- where the outbox is empty nothing is handed out
  pub none_left : (c : ℕ) (ends : List (ℕ × OutEnd P)) → AreNumbered ends → Each IsFilled ends → length (outbox_of ends c) ≡ 0 → changed c posted_end ends ≡ ends
  none_left c [] r each none = refl
  none_left c (x ∷ xs) r each none = elim (test_cases (nat_eq c x.0)) [
    | inl t ↦
        let no : length x.1.outbox ≡ 0 = rw t at none in
        let all : x.1.posted + length x.1.outbox ≡ x.1.written = each.0 in
        let posted : x.1.posted ≡ x.1.written = omega arith in
        let here : (x.0, posted_end x.1) ≡ x = ap (λ (o : OutEnd P). (x.0, o)) (end_is x.1 x.1.written [] posted (no_events x.1.outbox no)) in
        let others : changed c posted_end xs ≡ xs = changed_none c posted_end xs (λ a. let less = r.0 c a in let same = eqb-true c x.0 t in absurd (omega arith)) in
        rw t (ap (λ (y : ℕ × OutEnd P). y ∷ changed c posted_end xs) here ∙ ap (λ ys. x ∷ ys) others)
    | inr f ↦ let later : length (outbox_of xs c) ≡ 0 = rw f at none in rw f (ap (λ ys. x ∷ ys) (none_left c xs r.1 each.1 later))
  ]

module _ {B S P : Type 0} where
  pub parcel_is : (t : TimelineOf B S P) (c : ℕ) (parcel : Parcel P) (after : TimelineOf B S P) → IsHandedOut t c parcel after → parcel ≡ parcel_in t c
  parcel_is t c parcel after q = q.posted.handed ∙ by_end q.posted.end q.posted.at
    where
      by_end : (end : OutEnd P) → item_at c t.out_ends ≡ Some end → parcel_of (low_in t) (t.until + 1) end ≡ parcel_in t c
      by_end end found = rw found refl

  pub handed_is : (t : TimelineOf B S P) (c : ℕ) (parcel : Parcel P) (after : TimelineOf B S P) → IsHandedOut t c parcel after → after ≡ posted_timeline c t
  handed_is t c parcel after q = q.same ∙ ap (λ (ends : List (ℕ × OutEnd P)). record t { out_ends = ends }) q.posted.left

  -- what cannot be posted is no event
  pub nothing_waits : (t : TimelineOf B S P) (c : ℕ) (mail : ChannelMail P) → can_post t c mail ≡ false → length (outbox_of t.out_ends c) ≡ 0
  nothing_waits t c mail h = lt_not _ (or_false (nat_lt 0 (length (outbox_of t.out_ends c))) (nat_lt mail.appointment (promise_in t c)) h).0

  pub timeline_same : (t : TimelineOf B S P) (c : ℕ) (mail : ChannelMail P) → IsInOrder t → can_post t c mail ≡ false → posted_timeline c t ≡ t
  timeline_same t c mail order h = ap (λ (ends : List (ℕ × OutEnd P)). record t { out_ends = ends }) (none_left c t.out_ends order.out_ends order.filled (nothing_waits t c mail h))

  -- a parcel with news is one that can be posted
  pub news_is : (t : TimelineOf B S P) (c : ℕ) (parcel : Parcel P) (appointment : ℕ) (mail : ChannelMail P) → parcel ≡ parcel_in t c → appointment ≡ mail.appointment
      → (nat_lt 0 (length parcel.events) || nat_lt appointment parcel.promise) ≡ can_post t c mail
  news_is t c parcel appointment mail is e = rw (is, e) refl

-- where p and n more are w, more than p is w exactly where there are more
pub waiting_is : (p n w q v : ℕ) → p + n ≡ w → q ≡ p → v ≡ w → nat_lt q v ≡ nat_lt 0 n
waiting_is p zero w q v sum a b = le-ltb q v (omega arith) ∙ sym (le-ltb 0 zero (omega arith))
waiting_is p (suc n) w q v sum a b = lt-ltb q v (omega arith) ∙ sym (lt-ltb 0 (suc n) (omega arith))
