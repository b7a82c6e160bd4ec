-- A held timeline takes its held mail; and held values meet what the calls ask.
use Rattle.std.proofs.Common.{◌≡◌, ℕ, suc, ◌+◌, ◌<◌, ◌≤◌, true, List, [], ◌∷◌, map, length, refl, sym, ap, ◌∙◌, subst, inl, inr, arith, Some, None, slice_get}
use Rattle.std.specs.List.{All, Contains}
use Rattle.std.proofs.lemmas.List.Elements.{All-nil, All-cons}
use Rattle.event_order.specs.Pending.{Among}
use Rattle.ssf_model.specs.declared.event.Event.{Event}
use Rattle.ssf_model.specs.Reaction.{Reaction, Validity, KeepsValid}
use Rattle.ssf_model.specs.Deliver.{IsModest}
use Rattle.ssf_model.specs.Run.{States}
use Rattle.ssf_model.specs.Scene.{Scene, scene_of}
use Rattle.ssf_model.specs.Truth.{IsTrueParcel}
use Rattle.sync_rules.specs.Parts.{Line, MailOf}
use Rattle.sync_rules.specs.Bounds.{IsInto, low_of}
use Rattle.sync_rules.specs.Shared.{IsShared}
use Rattle.sync_rules.specs.Sound.{IsSoundLine, IsSoundMail}
use Rattle.sync_rules.specs.Steps.{taken_line}
use Rattle.sync_rules.proofs.Bounds.{put_else}
use Rattle.sync_rules.proofs.Posts.{taken_is_sound}
use Rattle.sync_rules.proofs.Wholes.{take_low}
use Rattle.plan_shares.specs.declared.crosses.CrossEnd.{CrossEnd}
use Rattle.timeline_parts.specs.Tables.{AreRising, numbers_of}
use Rattle.timeline_parts.specs.Parts.{channel_of}
use Rattle.timeline_parts.specs.Settling.{AreNew}
use Rattle.timeline.specs.View.{TimelineOf, key_of}
use Rattle.timeline.specs.Holding.{low_in, taken_of}
use Rattle.timeline.specs.Executing.{refusal, MayRun}
use Rattle.timeline.specs.Lines.{line_of, posted_of}
use Rattle.timeline.specs.Sound.{IsSoundTimeline, IsRunOnLines}
use Rattle.timeline.proofs.Executed.{keys, may_run}
use Rattle.timeline.proofs.TellsBounds.{number_among, item_among, bound_is, low_is}
use Rattle.appointments.specs.Mails.{ChannelMail, Mails, mail_at}
use Rattle.appointments.specs.Mails.{posted_of as posted_to}
use Rattle.appointments.specs.Posts.{taken_mail}
use Rattle.barrier_window.specs.BarrierFields.{BarrierFields}
use Rattle.sync_steps.specs.Between.{HasItsEnds, IsMailOf, IsTakenFrom, events_on, in_place, out_delay, taken_all}
use Rattle.sync_steps.specs.Sounds.{mail_as, AreSoundMails, taken_lines}
use Rattle.sync_steps.proofs.Allowed.{crosses_have_ends}
use Rattle.sync_steps.proofs.Taking.{contained}
use Rattle.sync_steps.proofs.SoundPairs.{out_known, mail_new, take_keeps, lines_as, mails_keep, own_keeps, outs_contained}
use Rattle.core_rules.specs.Cores.{CoreView, IsBarrierOf, IsCoreOfRun}
use Rattle.core_rules.proofs.Lists.{got_at, get_known}
use Rattle.share_rules.specs.Places.{count_of, posted_word, taken_word}
use Rattle.share_rules.specs.Held.{IsNoted, IsMailNoted, IsTimelineHeld, IsMailHeld, IsBarrierHeld}
use Rattle.share_rules.proofs.Lists.{among_at}
use Rattle.share_rules.proofs.Ends.{taken_is, taken_places}
use Rattle.share_rules.proofs.Moving.{end_out, end_into, none_more, at_moves, held_moves, in_its_run}

-- ---- lower bounds

module _ {X P : Type 0} (s : Scene X (Event P)) (sh : IsShared s) (i : ℕ) (x : Mails P) where
  -- the mail on a channel can be taken next
  abbrev Comes : Line (Event P) → ℕ → Type 0
  Comes l c = IsInto s.net i c × (l.taken c ≡ (mail_at x c).taken) × IsSoundMail s c (mail_as (mail_at x c))

  lines_low : (cs : List ℕ) (l : Line (Event P)) → IsSoundLine s i l → AreRising cs → ((c : ℕ) → Among c cs → Comes l c) → low_of s i l ≤ low_of s i (taken_lines s x cs l)
  lines_low [] l sound rising comes = omega arith
  lines_low (c ∷ cs) l sound rising comes =
      let here = comes c (inl refl) in
      let m : MailOf (Event P) = mail_as (mail_at x c) in
      let parcel : IsTrueParcel s c (l.taken c) m.events m.posted m.appointment = subst (λ n. IsTrueParcel s c n m.events m.posted m.appointment) (sym here.1) here.2.parcel in
      let first = take_low s sh i l sound c here.0 m parcel in
      let rest = lines_low cs (taken_line s c l m) (taken_is_sound s sh i l sound c here.0 m parcel) rising.1
      (λ k a. (let there = comes k (inr a) in let less = rising.0 k a in (there.0, put_else c k m.posted l.taken (λ e. omega (arith, less, e)) ∙ there.1, there.2))) in
      omega (arith, first, rest)

-- ---- channels

all_contained : (cs channels : List ℕ) → ((c : ℕ) → Among c cs → Among c channels) → All (Contains channels) cs
all_contained [] channels known = All-nil (Contains channels)
all_contained (c ∷ cs) channels known = All-cons (Contains channels) c cs (contained channels c (known c (inl refl))) (all_contained cs channels (λ k a. known k (inr a)))

module _ {B S P : Type 0} (valid : Validity S) (carried : P → Type 0) (r : Reaction S P) (law : KeepsValid valid carried r) (modest : IsModest valid carried r) (key : CoreView B S P) (run : IsCoreOfRun valid carried r key) where
  abbrev s : Scene (States B S P) (Event P)
  s = scene_of r run.plan key.until run.kept run.line run.net

  abbrev sh : IsShared s
  sh = run.run.shared

  key_is : s.machine.key ≡ key_of
  key_is = keys r valid carried law modest run.plan key.until run.in_time run.fits run.kept run.line run.net

  same_many : length key.mails ≡ count_of key
  same_many = run.sound.mails ∙ sym run.sound.timelines

  -- the ends of a channel that crosses
  end_of : (c : ℕ) → s.net.cross c ≡ true → (k : ℕ) × (end : CrossEnd) × (slice_get key.ends k ≡ Some end) × (end.channel ≡ c) × (end.sender ≡ s.net.sender c) × (end.receiver ≡ s.net.receiver c)
  end_of c cross =
      let found = run.sound.ends.all c cross in
      let k = among_at key.ends found.0 found.1 in
      let told = run.sound.ends.each found.0 found.1 in
      (k.0, found.0, k.1, found.2, sym told.1 ∙ ap s.net.sender found.2, sym told.2 ∙ ap s.net.receiver found.2)

  pub sender_known : (k : ℕ) (end : CrossEnd) → slice_get key.ends k ≡ Some end → end.sender < count_of key
  sender_known k end found =
      (let out = end_out run.plan run.line s key run.at run.before run.sound k end found in
      subst (λ n. end.sender < n) (sym run.sound.timelines) (subst (λ n. n < s.net.timelines) out.sender (sh.joining.sender end.channel out.cross)))

  pub receiver_known : (k : ℕ) (end : CrossEnd) → slice_get key.ends k ≡ Some end → end.receiver < count_of key
  receiver_known k end found =
      (let into = end_into run.plan run.line s key run.at run.before run.sound k end found in
      subst (λ n. end.receiver < n) (sym run.sound.timelines) (subst (λ n. n < s.net.timelines) into.receiver (sh.joining.receiver end.channel into.cross)))

  pub ends_apart : (k : ℕ) (end : CrossEnd) → slice_get key.ends k ≡ Some end → end.sender ≡ end.receiver → ⊥
  ends_apart k end found same =
      (let out = end_out run.plan run.line s key run.at run.before run.sound k end found in
      let into = end_into run.plan run.line s key run.at run.before run.sound k end found in
      sh.joining.apart end.channel out.cross (out.sender ∙ (same ∙ sym into.receiver)))

  pub mails_many : length key.mails ≡ count_of key
  mails_many = same_many

  -- ---- one timeline

  module _ (m : ℕ → ℕ) (i : ℕ) (t : TimelineOf B S P) (held : IsTimelineHeld valid carried r key m i t) where
    now : (moment : ℕ) × IsSoundTimeline run.plan run.line s i moment t
    now = in_its_run valid carried r key (λ plan line z. (moment : ℕ) × IsSoundTimeline plan line z i moment t) run held.at.sound

    here : IsRunOnLines run.plan run.line t.budget s
    here = subst (λ n. IsRunOnLines run.plan run.line n s) (sym held.at.budget) run.run

    pub has_ends : HasItsEnds t
    has_ends = crosses_have_ends t held.at.crosses

    pub until_same : t.until ≡ key.until
    until_same = now.1.until

    pub may_execute : (event : Event P) (rest : List (Event P)) → t.pending ≡ event ∷ rest → refusal t ≡ None → MayRun valid r t event rest
    may_execute event rest first free =
        may_run r valid carried law modest run.plan key.until run.in_time run.fits run.kept run.line run.net i now.0 t here now.1 event rest first free

    pub out_there : (k : ℕ) (end : CrossEnd) → slice_get key.ends k ≡ Some end → end.sender ≡ i → Among end.channel (numbers_of t.out_ends)
    out_there k end found from =
        (let out = end_out run.plan run.line s key run.at run.before run.sound k end found in
        out_known run.plan run.line s key_is sh i now.0 t now.1 end.channel (record { cross = out.cross; sender = out.sender ∙ from }))

    pub outs_known : (b : BarrierFields) → IsBarrierHeld valid carried r key m b → All (Contains b.channels) (map channel_of t.outs)
    outs_known b barrier =
        (let of = in_its_run valid carried r key (λ plan line z. IsBarrierOf z b) run barrier.at.of_run in
        let many = of.timelines in
        let all = run.sound.timelines in
        let low = held.known in
        all_contained (map channel_of t.outs) b.channels
        (outs_contained run.plan run.line s key_is sh i now.0 t now.1 has_ends b of.sent of.crosses (omega (arith, many, all, low))))

  -- ---- its mail

  into_channels : (i : ℕ) (x : Mails P) → IsMailHeld valid carried r key i x → (c : ℕ) → IsInto s.net i c → Among c x.channels
  into_channels i x mail c into =
      let u = got_at key.timelines i mail.known in
      let y = got_at key.mails i (subst (λ n. i < n) (sym same_many) mail.known) in
      let part = run.sound.each i u.0 u.1 in
      let of : IsMailOf y.0 u.0 = part.mail y.0 y.1 in
      let found = part.sound.placed.ins c into in
      let there : Among c (numbers_of u.0.in_ends) = number_among (c, found.0) u.0.in_ends (item_among c found.0 u.0.in_ends found.1) in
      subst (λ cs. Among c cs) (sym (mail.at.channels y.0 y.1 ∙ (of.channels ∙ sym of.ends))) there

  pub mail_contains : (i : ℕ) (x : Mails P) → IsMailHeld valid carried r key i x → (k : ℕ) (end : CrossEnd) → slice_get key.ends k ≡ Some end → end.receiver ≡ i → Contains x.channels end.channel
  mail_contains i x mail k end found to =
      (let into = end_into run.plan run.line s key run.at run.before run.sound k end found in
      contained x.channels end.channel (into_channels i x mail end.channel (record { cross = into.cross; receiver = into.receiver ∙ to })))

  module _ (n m : ℕ → ℕ) (i : ℕ) (t : TimelineOf B S P) (x : Mails P) (held : IsTimelineHeld valid carried r key m i t) (mail : IsMailHeld valid carried r key i x)
      (one : IsNoted key n i t) (two : IsMailNoted key n i x) where
    channels_are : x.channels ≡ map channel_of t.ins
    channels_are =
        (let u = got_at key.timelines i held.known in
        let y = got_at key.mails i (subst (λ k. i < k) (sym same_many) held.known) in
        mail.at.channels y.0 y.1 ∙ (((run.sound.each i u.0 u.1).mail y.0 y.1).channels ∙ ap (map channel_of) (sym (held.at.since u.0 u.1).ins)))

    its_into : (c : ℕ) → Among c x.channels → IsInto s.net i c
    its_into c a = (now m i t held).1.placed.into c (subst (λ cs. Among c cs) (channels_are ∙ sym (has_ends m i t held).ins) a)

    taken_same : (c : ℕ) → Among c x.channels → (mail_at x c).taken ≡ taken_of t.in_ends c
    taken_same c a =
        (let into = its_into c a in
        let e = end_of c into.cross in
        let first = one.taken e.0 e.1 e.2 (e.5 ∙ into.receiver) in
        let second = two.taken e.0 e.1 e.2 (e.5 ∙ into.receiver) in
        let same : (mail_at x e.1.channel).taken ≡ taken_of t.in_ends e.1.channel = omega (arith, first, second) in
        subst (λ d. (mail_at x d).taken ≡ taken_of t.in_ends d) e.3 same)

    pub mail_own : IsMailOf x t
    mail_own = record { channels = channels_are; ends = (has_ends m i t held).ins; taken = taken_same }

    its_mails : AreSoundMails s i x
    its_mails = in_its_run valid carried r key (λ plan line z. AreSoundMails z i x) run mail.at.sound

    pub events_new : AreNew (events_on x x.channels) t.pending
    events_new = mail_new run.plan run.line s key_is sh i (now m i t held).0 x t (now m i t held).1 mail_own its_mails

    -- ---- it is taken

    module _ (after : TimelineOf B S P) (x_after : Mails P) (q : IsTakenFrom x x_after t after) where
      fields : after ≡ record t { in_ends = (taken_all x x.channels t).in_ends; pending = (taken_all x x.channels t).pending; spare = after.spare }
      fields = q.timeline ∙ ap (λ (z : TimelineOf B S P). record z { spare = after.spare }) (taken_is x x.channels t)

      after_sound : IsSoundTimeline run.plan run.line s i (now m i t held).0 after
      after_sound = take_keeps run.plan run.line s key_is sh i (now m i t held).0 x t (now m i t held).1 mail_own its_mails x_after after q

      low_told : (z : TimelineOf B S P) (moment : ℕ) → IsSoundTimeline run.plan run.line s i moment z → low_in z ≡ low_of s i (line_of moment z)
      low_told z moment sound = low_is s key_is i moment z (bound_is s.net sh.joining i z sound.order.in_ends sound.placed moment)

      low_rises : low_in t ≤ low_in after
      low_rises =
          let moment : ℕ = (now m i t held).0 in
          let sound : IsSoundTimeline run.plan run.line s i moment t = (now m i t held).1 in
          let lines = lines_as run.plan run.line s key_is sh i moment x t sound mail_own its_mails x_after after q in
          let before = low_told t moment sound in
          let later = low_told after moment after_sound in
          let same : low_of s i (line_of moment after) ≡ low_of s i (taken_lines s x x.channels (line_of moment t)) = ap (low_of s i) lines in
          let rising : AreRising x.channels = subst AreRising (sym (channels_are ∙ sym (has_ends m i t held).ins)) sound.order.in_ends in
          let up = lines_low s sh i x x.channels (line_of moment t) sound.sound rising (λ c a. (its_into c a, sym (taken_same c a), its_mails c (its_into c a))) in
          omega (arith, before, later, same, up)

      pub taken_count : after.executed ≡ t.executed
      taken_count = ap (λ (z : TimelineOf B S P). z.executed) fields

      pub taken_held : IsTimelineHeld valid carried r key m i after
      taken_held =
          let count = taken_count in
          held_moves valid carried r key m i t after (ap (λ (z : TimelineOf B S P). z.entered) fields)
          (at_moves valid carried r key i t after []
          (ap (λ (z : TimelineOf B S P). z.budget) fields) (ap (λ (z : TimelineOf B S P). z.ins) fields) (ap (λ (z : TimelineOf B S P). z.outs) fields)
          (ap (λ (z : TimelineOf B S P). map in_place z.in_ends) fields ∙ taken_places x x.channels t)
          (ap (λ (z : TimelineOf B S P). map out_delay z.out_ends) fields)
          low_rises (none_more t after (ap (λ (z : TimelineOf B S P). z.history) fields)) (omega (arith, count))
          (λ plan until kept line net fits in_time at v on sound.
          (let was = held.at.sound plan until kept line net fits in_time at v on sound in (
            was.0,
            take_keeps plan line (scene_of r plan until kept line net) (keys r valid carried law modest plan until in_time fits kept line net) on.shared i was.0 x t was.1 mail_own
                (mail.at.sound plan until kept line net fits in_time at v on sound) x_after after q,
          )))
          held.at) held

      pub taken_mail_held : IsMailHeld valid carried r key i x_after
      taken_mail_held = record {
        known = mail.known;
        at = record {
          channels = λ old own. q.channels ∙ mail.at.channels old own;
          sound = λ plan until kept line net fits in_time at v on sound.
              (let was = held.at.sound plan until kept line net fits in_time at v on sound in
              mails_keep plan line (scene_of r plan until kept line net) (keys r valid carried law modest plan until in_time fits kept line net) on.shared i was.0 x t was.1 mail_own
              (mail.at.sound plan until kept line net fits in_time at v on sound) x_after after q);
        };
      }

      after_own : IsMailOf x_after after
      after_own = own_keeps run.plan run.line s key_is sh i (now m i t held).0 x t (now m i t held).1 mail_own its_mails x_after after q

      module _ (k : ℕ) (end : CrossEnd) (found : slice_get key.ends k ≡ Some end) (to : end.receiver ≡ i) where
        among : Among end.channel x.channels
        among = (let into = end_into run.plan run.line s key run.at run.before run.sound k end found in into_channels i x mail end.channel (record { cross = into.cross; receiver = into.receiver ∙ to }))

        row : mail_at x_after end.channel ≡ taken_mail (mail_at x end.channel)
        row = q.rows end.channel among

        pub taken_joined : (mail_at x_after end.channel).taken ≡ taken_of after.in_ends end.channel
        taken_joined = after_own.taken end.channel (subst (λ cs. Among end.channel cs) (sym q.channels) among)

        pub taken_rises : taken_of t.in_ends end.channel ≤ taken_of after.in_ends end.channel
        taken_rises =
            (let first = taken_same end.channel among in
            let last = taken_joined in
            let all : (mail_at x_after end.channel).taken ≡ posted_to (mail_at x end.channel) = ap (λ (z : ChannelMail P). z.taken) row in
            omega (arith, first, last, all))

        posted_kept : posted_to (mail_at x_after end.channel) ≡ posted_to (mail_at x end.channel)
        posted_kept = (let all : posted_to (mail_at x_after end.channel) ≡ posted_to (mail_at x end.channel) + 0 = ap posted_to row in omega (arith, all))

      pub taken_noted : (later : ℕ → ℕ) → ((k : ℕ) → k < length key.ends → later (posted_word key k) ≡ n (posted_word key k))
          → ((k : ℕ) (end : CrossEnd) → slice_get key.ends k ≡ Some end → end.receiver ≡ i → later (taken_word key k) ≡ suc (taken_of after.in_ends end.channel))
          → IsNoted key later i after × IsMailNoted key later i x_after
      taken_noted later posted taken = (
        record {
          posted = λ k end found from. posted k (get_known key.ends k end found)
              ∙ (one.posted k end found from ∙ ap (λ (z : TimelineOf B S P). suc (posted_of z.out_ends end.channel)) (sym fields));
          taken = taken;
        },
        record {
          posted = λ k end found to. posted k (get_known key.ends k end found) ∙ (two.posted k end found to ∙ ap (λ c. suc c) (sym (posted_kept k end found to)));
          taken = λ k end found to. taken k end found to ∙ ap (λ c. suc c) (sym (taken_joined k end found to));
        },
      )

  -- ---- the barrier

  pub reports_many : (m : ℕ → ℕ) (b : BarrierFields) → IsBarrierHeld valid carried r key m b → length b.reports ≡ count_of key
  reports_many m b barrier = (let of = in_its_run valid carried r key (λ plan line z. IsBarrierOf z b) run barrier.at.of_run in of.timelines ∙ sym run.sound.timelines)
