-- A timeline that posts stays held, and so does the mail of the receiver; and what is asked on several channels.
use Rattle.std.proofs.Common.{◌≡◌, ℕ, suc, ◌≤◌, ◌<◌, refl, sym, ap, ◌∙◌, subst, arith, le_of_eq, Some, slice_get}
use Rattle.std.specs.List.{Contains}
use Rattle.ssf_model.specs.Reaction.{Reaction, Validity, KeepsValid}
use Rattle.ssf_model.specs.Deliver.{IsModest}
use Rattle.turn_table.specs.declared.pass.Held.{Held}
use Rattle.turn_table.specs.declared.view.View.{View}
use Rattle.turn_table.specs.Changes.{put}
use Rattle.turn_table.specs.Views.{note, mark, writing}
use Rattle.plan_shares.specs.declared.crosses.CrossEnd.{CrossEnd}
use Rattle.timeline.specs.Lines.{posted_of}
use Rattle.appointments.specs.Mails.{Mails, mail_at}
use Rattle.appointments.specs.Mails.{posted_of as posted_to}
use Rattle.core_rules.specs.Cores.{CoreView, IsCoreOfRun}
use Rattle.core_rules.proofs.Lists.{get_known}
use Rattle.share_rules.specs.Places.{mail_place, posted_word, done_word, round_word}
use Rattle.share_rules.specs.Held.{IsNoted, IsMailNoted, IsTimelineHeld}
use Rattle.share_rules.proofs.Holding.{timeline_stays, put_else}
use Rattle.share_rules.proofs.Taking.{mail_contains}
use Rattle.share_turns.specs.declared.share.Share.{Share}
use Rattle.share_turns.specs.declared.share.Share.TheVariants.{Mail}
use Rattle.share_turns.specs.Holdings.{HoldsOne, IsMailOut, IsTimelineBy, StaysBy, IsMailBy, HasTimeline, HasMail}
use Rattle.worker_hands.specs.Stepping.{HasPosted}
use Rattle.worker_turns.specs.Turning.{CanPost, HasPostedOn}
use Rattle.worker_turns.proofs.Values.{one_timeline, one_mail}

module _ {B S P : Type 0} (valid : B → Validity S) (carried : B → P → Type 0) (r : B → Reaction S P) (key : CoreView B S P)
    (run : IsCoreOfRun (valid key.behaviour) (carried key.behaviour) (r key.behaviour) key) (i k : ℕ) (end : CrossEnd) (found : slice_get key.ends k ≡ Some end) (sender : end.sender ≡ i)
    (v w : View) (own mail : Held (Share B S P))
    (h : HasTimeline valid carried r key v i own) (stays : StaysBy valid carried r key v w i) (m : HasMail valid carried r key v w i end.receiver mail) (s u : Share B S P)
    (same : s ≡ own.value) (mail_same : u ≡ mail.value) where
  pub may_post : CanPost valid carried r i end.channel s u
  may_post = let so = stays h.timeline h.so in record {
    t = h.timeline;
    x = m.value;
    own_is = same ∙ h.out.value;
    mail_is = mail_same ∙ m.out.value;
    some = record {
      behaviour = key.behaviour;
      key = key;
      run = run;
      n = note w;
      m = mark w;
      k = k;
      end = end;
      is = found;
      sender = sender;
      channel = refl;
      paired = record { timeline = so.sound; noted = so.noted; mail = m.so.sound; mail_noted = m.so.noted };
    };
  }

  module _ (own_after mail_after : Share B S P) (did : HasPostedOn valid carried r i end.channel s own_after u mail_after) where
    so : IsTimelineBy valid carried r key w i did.t
    so = subst (λ t. IsTimelineBy valid carried r key w i t) (one_timeline s h.timeline did.t (same ∙ h.out.value) did.own_is) (stays h.timeline h.so)

    mail_so : IsMailBy valid carried r key w end.receiver did.x
    mail_so = subst (λ x. IsMailBy valid carried r key w end.receiver x) (one_mail u m.value did.x (mail_same ∙ m.out.value) did.mail_is) m.so

    posted : HasPosted (valid key.behaviour) (carried key.behaviour) (r key.behaviour) key (note w) (mark w) k end did.t did.after did.x did.x_after
    posted = did.posted key.behaviour key run (note w) (mark w) k end found sender refl (record { timeline = so.sound; noted = so.noted; mail = mail_so.sound; mail_noted = mail_so.noted })

    module _ (x : Mails P) (is : mail_after ≡ Mail x) where
      here : did.x_after ≡ x
      here = one_mail mail_after did.x_after x did.mail_after_is is

      pub may_read : (law : KeepsValid (valid key.behaviour) (carried key.behaviour) (r key.behaviour)) → IsModest (valid key.behaviour) (carried key.behaviour) (r key.behaviour) → Contains x.channels end.channel
      may_read law modest = subst (λ (y : Mails P). Contains y.channels end.channel) here
          (mail_contains (valid key.behaviour) (carried key.behaviour) (r key.behaviour) law modest key run end.receiver did.x_after posted.mail k end found refl)

      module _ (p : ℕ) (p_is : p ≡ posted_to (mail_at x end.channel)) where
        number : p ≡ posted_of did.after.out_ends end.channel
        number = p_is ∙ (ap (λ (y : Mails P). posted_to (mail_at y end.channel)) (sym here) ∙ posted.joined)

        pub noted_before : 0 < note w (posted_word key k)
        noted_before = (let is_noted = so.noted.posted k end found sender in omega arith)

        pub posted_rises : note w (posted_word key k) ≤ suc p
        posted_rises = (let is_noted = so.noted.posted k end found sender in let rises = posted.rises in let n = number in omega arith)

        module _ (z : View) (written : z ≡ writing w (posted_word key k) p) (marks : (c : ℕ) → mark z c ≡ mark w c) where
          mail_by : IsMailBy valid carried r key z end.receiver did.x_after
          mail_by = record {
            sound = posted.mail;
            noted = subst (λ y. IsMailNoted key (note y) end.receiver did.x_after) (sym written)
                (subst (λ q. IsMailNoted key (put (note w) (posted_word key k) (suc q)) end.receiver did.x_after) (sym number) posted.mail_noted);
          }

          done_same : note z (done_word key i) ≡ note w (done_word key i)
          done_same =
              let known = get_known key.ends k end found in
              ap (λ y. note y (done_word key i)) written ∙ put_else (note w) (posted_word key k) (suc p) (done_word key i) (λ is_word. absurd (omega arith))

          noted_after : IsNoted key (note z) i did.after
          noted_after =
              subst (λ j. IsNoted key (note z) j did.after) sender
              (subst (λ y. IsNoted key (note y) end.sender did.after) (sym written)
              (subst (λ q. IsNoted key (put (note w) (posted_word key k) (suc q)) end.sender did.after) (sym number) posted.noted))

          held_after : IsTimelineHeld (valid key.behaviour) (carried key.behaviour) (r key.behaviour) key (mark w) i did.after
          held_after = subst (λ j. IsTimelineHeld (valid key.behaviour) (carried key.behaviour) (r key.behaviour) key (mark w) j did.after) sender posted.held

          after_so : IsTimelineBy valid carried r key z i did.after
          after_so = record {
            sound = timeline_stays (valid key.behaviour) (carried key.behaviour) (r key.behaviour) key (mark w) (mark z) i did.after (le_of_eq (sym (marks (round_word key)))) held_after;
            noted = noted_after;
            done = done_same ∙ (so.done ∙ ap suc (sym posted.executed));
          }

          pub mail_back : (end_value : Share B S P) → end_value ≡ mail_after → (y : Mails P) × IsMailOut (mail_place key end.receiver) y (record { place = mail.place; value = end_value }) × IsMailBy valid carried r key z end.receiver y
          mail_back end_value end_is = (did.x_after, record { place = m.out.place; value = end_is ∙ did.mail_after_is }, mail_by)

          pub has_posted : (last : View) (end_value : Share B S P) → end_value ≡ own_after → HoldsOne last i → StaysBy valid carried r key z last i → HasTimeline valid carried r key last i (record { place = own.place; value = end_value })
          has_posted last end_value end_is holds back = record {
            timeline = did.after;
            out = record { place = h.out.place; value = end_is ∙ did.own_after_is };
            so = back did.after after_so;
            holds = holds;
          }
