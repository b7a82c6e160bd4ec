-- Values that are moved out of a table, and home.
use Rattle.std.proofs.Common.{◌≡◌, ◌≢◌, ℕ, suc, ◌<◌, sym, ap, ◌∙◌, subst, arith, le_of_eq}
use Rattle.ssf_model.specs.Reaction.{Reaction, Validity}
use Rattle.turn_table.specs.declared.pass.Held.{Held}
use Rattle.turn_table.specs.declared.view.View.{View}
use Rattle.turn_table.specs.Views.{held, note, mark, moving_out, taking, losing}
use Rattle.timeline.specs.View.{TimelineOf}
use Rattle.appointments.specs.Mails.{Mails}
use Rattle.barrier_window.specs.BarrierFields.{BarrierFields}
use Rattle.core_rules.specs.Cores.{CoreView}
use Rattle.share_rules.specs.Places.{ShareOf, count_of, mail_place, barrier_place, done_word, round_word, shape_of}
use Rattle.share_rules.specs.Places.ShareOf.{timeline, mail, barrier}
use Rattle.share_rules.specs.Held.{IsTold, IsPaid}
use Rattle.share_rules.proofs.Holding.{place_of_timeline, place_of_mail, place_of_barrier, told_timeline, told_mail, told_barrier, told_passed, paid_timeline, paid_mail, paid_barrier}
use Rattle.share_turns.specs.declared.share.Share.{Share}
use Rattle.share_turns.specs.declared.share.Share.TheVariants.{Timeline, Mail, Barrier}
use Rattle.share_turns.specs.Shares.{share_of}
use Rattle.share_turns.specs.Holdings.{HoldsOne, IsTimelineOut, IsMailOut, IsBarrierOut, IsTimelineBy, IsMailBy, IsBarrierBy, HasTimeline, HasMail, HasNoMail, HasBarrier, HasNoBarrier}
use Rattle.share_turns.specs.Loads.{HasLoaded, AreNoted, AreDoneMarked}
use Rattle.share_turns.proofs.Views.{out_one, out_two, lost_one}
use Rattle.share_turns.proofs.Stays.{stays_out}

module _ {B S P : Type 0} where
  is_timeline : (x : Share B S P) (t : TimelineOf B S P) → share_of x ≡ timeline t → x ≡ Timeline t
  is_timeline (Timeline s) t e = (let same : s ≡ t = cc in ap (λ (y : TimelineOf B S P). Timeline y) same)
  is_timeline (Mail m) t e = absurd (cc)
  is_timeline (Barrier b) t e = absurd (cc)

  is_mail : (x : Share B S P) (m : Mails P) → share_of x ≡ mail m → x ≡ Mail m
  is_mail (Timeline s) m e = absurd (cc)
  is_mail (Mail k) m e = (let same : k ≡ m = cc in ap (λ (y : Mails P). Mail y) same)
  is_mail (Barrier b) m e = absurd (cc)

  is_barrier : (x : Share B S P) (b : BarrierFields) → share_of x ≡ barrier b → x ≡ Barrier b
  is_barrier (Timeline s) b e = absurd (cc)
  is_barrier (Mail m) b e = absurd (cc)
  is_barrier (Barrier c) b e = (let same : c ≡ b = cc in ap (λ (y : BarrierFields). Barrier y) same)

module _ {B S P : Type 0} (valid : B → Validity S) (carried : B → P → Type 0) (r : B → Reaction S P) (key : CoreView B S P) where
  abbrev Told : View → ℕ → ShareOf B S P → Type 0
  Told v p x = IsTold (valid key.behaviour) (carried key.behaviour) (r key.behaviour) key (note v) (mark v) p x

  abbrev Paid : View → ℕ → ShareOf B S P → Type 0
  Paid v p x = IsPaid (valid key.behaviour) (carried key.behaviour) (r key.behaviour) key (note v) (mark v) p x

  -- ---- out

  pub timeline_out : (v : View) (i : ℕ) (own : Held (Share B S P)) → i < count_of key → own.place ≡ i → Told v i (share_of own.value)
      → AreNoted (shape_of key) v i → 0 < mark v (round_word key) → ((q : ℕ) → q ≢ i → held v q ≡ 0) → HasTimeline valid carried r key (moving_out v i) i own
  timeline_out v i own known place told noted marked none =
      let found = place_of_timeline (valid key.behaviour) (carried key.behaviour) (r key.behaviour) key i (share_of own.value) told.sound known in
      let so = told_timeline (valid key.behaviour) (carried key.behaviour) (r key.behaviour) key (note v) (mark v) i found.0 (subst (Told v i) found.1 told) noted marked in
      record {
        timeline = found.0;
        out = record { place = place; value = is_timeline own.value found.0 found.1 };
        so = record { sound = so.0; noted = so.1; done = so.2 };
        holds = out_one v i none;
      }

  module _ (v u : View) (i : ℕ) (shape : v.shape ≡ shape_of key) (known : i < count_of key) (one : HoldsOne v i) where
    pub mail_out : (j : ℕ) → j < count_of key → HasLoaded (taking v (mail_place key j)) u → AreNoted (shape_of key) u (mail_place key j)
        → (own : Held (Share B S P)) → own.place ≡ mail_place key j → Told u (mail_place key j) (share_of own.value)
        → HasMail valid carried r key v (moving_out u (mail_place key j)) i j own
    mail_out j there h noted own place told =
        let found = place_of_mail (valid key.behaviour) (carried key.behaviour) (r key.behaviour) key j (share_of own.value) told.sound there in
        let so = told_mail (valid key.behaviour) (carried key.behaviour) (r key.behaviour) key (note u) (mark u) j found.0 there (subst (Told u (mail_place key j)) found.1 told) noted in
        record {
          value = found.0;
          out = record { place = place; value = is_mail own.value found.0 found.1 };
          so = record { sound = so.0; noted = so.1 };
          holds = out_two u (mail_place key j) v i one (λ e. omega arith) h.places;
          tries = λ p. h.tries p;
        }

    pub barrier_out : HasLoaded (taking v (barrier_place key)) u → AreDoneMarked key (taking v (barrier_place key)) u
        → (own : Held (Share B S P)) → own.place ≡ barrier_place key → Told u (barrier_place key) (share_of own.value)
        → HasBarrier valid carried r key v (moving_out u (barrier_place key)) i own
    barrier_out h m own place told =
        let found = place_of_barrier (valid key.behaviour) (carried key.behaviour) (r key.behaviour) key (share_of own.value) told.sound in
        let is : Told u (barrier_place key) (barrier found.0) = subst (Told u (barrier_place key)) found.1 told in
        let so = told_barrier (valid key.behaviour) (carried key.behaviour) (r key.behaviour) key (note u) (mark u) found.0 is m.noted m.marked in
        let marked : mark u (round_word key) ≡ suc found.0.round = m.round ∙ so.1 in
        record {
          value = found.0;
          out = record { place = place; value = is_barrier own.value found.0 found.1 };
          so = record { sound = so.0; noted = so.1 };
          holds = out_two u (barrier_place key) v i one (λ e. omega arith) h.places;
          tries = λ p. h.tries p;
          met = λ t q. (let was = q.done in record {
            timeline = (stays_out valid carried r key v u (barrier_place key) i shape (omega arith) h t q).sound;
            barrier = so.0;
            passed = told_passed (valid key.behaviour) (carried key.behaviour) (r key.behaviour) key (note u) (mark u) found.0 i t.executed is known (h.notes (done_word key i) (omega (arith, was)) ∙ was);
            round = le_of_eq (sym marked);
            done = m.done i known (omega (arith, was)) ∙ was;
          });
          marked = marked;
        }

    pub mail_lost : (j : ℕ) → HasNoMail valid carried r key v (losing v (mail_place key j)) i j
    mail_lost j = record { holds = record { out = one.out; others = one.others }; tries = lost_one v (mail_place key j) }

    pub barrier_lost : HasNoBarrier valid carried r key v (losing v (barrier_place key)) i
    barrier_lost = record { holds = record { out = one.out; others = one.others }; tries = lost_one v (barrier_place key) }

  -- ---- home

  paid_at : (v : View) (own : Held (Share B S P)) (p : ℕ) (x : Share B S P) → own.place ≡ p → own.value ≡ x → Paid v p (share_of x) → Paid v own.place (share_of own.value)
  paid_at v own p x place value q =
      subst (λ k. Paid v k (share_of own.value)) (sym place) (subst (λ (y : Share B S P). Paid v p (share_of y)) (sym value) q)

  pub timeline_home : (v : View) (i : ℕ) (own : Held (Share B S P)) (t : TimelineOf B S P) → IsTimelineOut i t own → IsTimelineBy valid carried r key v i t → Paid v own.place (share_of own.value)
  timeline_home v i own t out q = paid_at v own i (Timeline t) out.place out.value
      (paid_timeline (valid key.behaviour) (carried key.behaviour) (r key.behaviour) key (note v) (mark v) i t q.sound q.noted q.done)

  pub mail_home : (v : View) (j : ℕ) (own : Held (Share B S P)) (x : Mails P) → IsMailOut (mail_place key j) x own → IsMailBy valid carried r key v j x → Paid v own.place (share_of own.value)
  mail_home v j own x out q = paid_at v own (mail_place key j) (Mail x) out.place out.value
      (paid_mail (valid key.behaviour) (carried key.behaviour) (r key.behaviour) key (note v) (mark v) j x q.sound q.noted)

  pub barrier_home : (v : View) (own : Held (Share B S P)) (b : BarrierFields) → IsBarrierOut (barrier_place key) b own → IsBarrierBy valid carried r key v b → Paid v own.place (share_of own.value)
  barrier_home v own b out q = paid_at v own (barrier_place key) (Barrier b) out.place out.value
      (paid_barrier (valid key.behaviour) (carried key.behaviour) (r key.behaviour) key (note v) (mark v) b q.sound q.noted)
