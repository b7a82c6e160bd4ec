-- A timeline that takes its mail stays held, and so does the mail.
use Rattle.std.proofs.Common.{◌≡◌, ℕ, suc, inr, sym, ap, ◌∙◌, subst, arith, le_of_eq}
use Rattle.ssf_model.specs.Reaction.{Reaction, Validity}
use Rattle.turn_table.specs.declared.pass.Held.{Held}
use Rattle.turn_table.specs.declared.view.View.{View}
use Rattle.turn_table.specs.Views.{note, mark}
use Rattle.timeline.specs.View.{TimelineOf}
use Rattle.timeline.specs.Holding.{taken_of}
use Rattle.appointments.specs.Mails.{Mails}
use Rattle.core_rules.specs.Cores.{CoreView, IsCoreOfRun}
use Rattle.share_rules.specs.Places.{mail_place, posted_word, done_word, round_word}
use Rattle.share_rules.specs.Held.{IsNoted, IsMailNoted, IsTimelineHeld}
use Rattle.share_rules.proofs.Holding.{timeline_stays}
use Rattle.share_turns.specs.declared.share.Share.{Share}
use Rattle.share_turns.specs.declared.share.Share.TheVariants.{Timeline}
use Rattle.share_turns.specs.Holdings.{HoldsOne, IsMailOut, AreTakenUpTo, AreTakenWritten, IsTimelineBy, StaysBy, IsMailBy, HasTimeline, HasMail}
use Rattle.sync_steps.specs.declared.steps.Step.TheVariants.{Take}
use Rattle.worker_hands.specs.Hands.{HandView, IsAsked}
use Rattle.worker_hands.specs.Asked.{AreOf, runs_in, WasNotEnabled}
use Rattle.worker_hands.specs.Stepping.{HasTaken}
use Rattle.worker_turns.specs.Turning.{CanTake, HasTakenOn, AreTakes}
use Rattle.worker_turns.proofs.Lists.{asked_both, asked_more}
use Rattle.worker_turns.proofs.Values.{one_timeline, one_mail, posted_no_taken, done_no_taken}

module _ {B S P : Type 0} (valid : B → Validity S) (carried : B → P → Type 0) (r : B → Reaction S P) (key : CoreView B S P)
    (run : IsCoreOfRun (valid key.behaviour) (carried key.behaviour) (r key.behaviour) key) (i : ℕ) (v w : View) (own mail : Held (Share B S P))
    (h : HasTimeline valid carried r key v i own) (stays : StaysBy valid carried r key v w i) (m : HasMail valid carried r key v w i i mail) (s u : Share B S P)
    (same : s ≡ own.value) (mail_same : u ≡ mail.value) where
  pub may_take : CanTake valid carried r i s u
  may_take = let so = stays h.timeline h.so in record {
    t = h.timeline;
    x = m.value;
    own_is = same ∙ h.out.value;
    mail_is = mail_same ∙ m.out.value;
    some = record {
      behaviour = key.behaviour;
      key = key;
      run = run;
      n = note w;
      m = mark w;
      paired = record { timeline = so.sound; noted = so.noted; mail = m.so.sound; mail_noted = m.so.noted };
    };
  }

  module _ (own_after mail_after : Share B S P) (did : HasTakenOn valid carried r i s own_after u mail_after) where
    so : IsTimelineBy valid carried r key w i did.t
    so = subst (λ t. IsTimelineBy valid carried r key w i t) (one_timeline s h.timeline did.t (same ∙ h.out.value) did.own_is) (stays h.timeline h.so)

    mail_so : IsMailBy valid carried r key w i did.x
    mail_so = subst (λ x. IsMailBy valid carried r key w i x) (one_mail u m.value did.x (mail_same ∙ m.out.value) did.mail_is) m.so

    took : HasTaken (valid key.behaviour) (carried key.behaviour) (r key.behaviour) key (note w) (mark w) i did.t did.after did.x did.x_after
    took = did.taken key.behaviour key run (note w) (mark w) (record { timeline = so.sound; noted = so.noted; mail = mail_so.sound; mail_noted = mail_so.noted })

    up_to : AreTakenUpTo key w i did.after
    up_to k end found mine = let noted = so.noted.taken k end found mine in let rises = took.rises k end found mine in (omega arith, omega arith)

    module _ (t : TimelineOf B S P) (is : own_after ≡ Timeline t) where
      here : did.after ≡ t
      here = one_timeline own_after did.after t did.own_after_is is

      pub may_write : IsTimelineHeld (valid key.behaviour) (carried key.behaviour) (r key.behaviour) key (mark w) i t
      may_write = subst (λ x. IsTimelineHeld (valid key.behaviour) (carried key.behaviour) (r key.behaviour) key (mark w) i x) here took.held

      pub taken_up_to : AreTakenUpTo key w i t
      taken_up_to = subst (λ x. AreTakenUpTo key w i x) here up_to

      module _ (z : View) (written : AreTakenWritten key w z i t) where
        noted : IsNoted key (note z) i did.after × IsMailNoted key (note z) i did.x_after
        noted = took.noted (note z)
            (λ k known. written.others (posted_word key k) (posted_no_taken key i k known))
            (λ k end found mine. written.taken k end found mine ∙ ap (λ (x : TimelineOf B S P). suc (taken_of x.in_ends end.channel)) (sym here))

        after_so : IsTimelineBy valid carried r key z i did.after
        after_so = record {
          sound = timeline_stays (valid key.behaviour) (carried key.behaviour) (r key.behaviour) key (mark w) (mark z) i did.after (le_of_eq (sym (written.marks (round_word key)))) took.held;
          noted = noted.0;
          done = written.others (done_word key i) (done_no_taken key i i) ∙ (so.done ∙ ap suc (sym took.executed));
        }

        pub mail_back : (x : Mails P) × IsMailOut (mail_place key i) x (record { place = mail.place; value = mail_after }) × IsMailBy valid carried r key z i x
        mail_back = (did.x_after, record { place = m.out.place; value = did.mail_after_is }, record { sound = took.mail; noted = noted.1 })

        pub has_taken : (last : View) (end_value : Share B S P) → end_value ≡ own_after → HoldsOne last i → StaysBy valid carried r key z last i → HasTimeline valid carried r key last i (record { place = own.place; value = end_value })
        has_taken last end_value end_is holds back = record {
          timeline = did.after;
          out = record { place = h.out.place; value = end_is ∙ did.own_after_is };
          so = back did.after after_so;
          holds = holds;
        }

module _ {B S P : Type 0} (key : CoreView B S P) where
  pub takes_asked : (i : ℕ) (v w : View) (old new : HandView) → IsAsked old new (λ made. AreOf (Take i) made × (runs_in made ≡ 0)) → IsAsked old new (WasNotEnabled (Take i)) → IsAsked old new (AreTakes key i v w)
  takes_asked i v w old new asked done =
      asked_more old new (λ made. (AreOf (Take i) made × (runs_in made ≡ 0)) × WasNotEnabled (Take i) made) (AreTakes key i v w)
      (λ made q. record { all = q.0.0; runs = q.0.1; done = inr q.1 })
      (asked_both old new (λ made. AreOf (Take i) made × (runs_in made ≡ 0)) (WasNotEnabled (Take i)) asked done)
