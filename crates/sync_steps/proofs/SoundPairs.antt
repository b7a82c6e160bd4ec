-- The steps on two parts keep them sound.
use Rattle.std.proofs.Common.{◌≡◌, ℕ, zero, suc, ◌+◌, ◌<◌, ◌≤◌, Bool, true, false, cond, nat_eq, nat_lt, ◌||◌, ◌&&◌, not, set, ◌⊎◌, max, List, [], ◌∷◌, ◌++◌, length, map, refl, sym, ap, ◌∙◌, subst, inl, inr, arith, lt-ltb, le-leb, leb-true, ltb-true, eqb-true, eq-eqb, length-append, Option, Some, None, option_map, unwrap_or, slice_get, slice_index}
use mathlib.Core.Path.{fun_ext}
use Rattle.event_order.specs.declared.key.Key.{Key}
use Rattle.event_order.specs.Pending.{Among, IsApart}
use Rattle.event_order.proofs.Pending.{test_cases, append_among}
use Rattle.ssf_model.specs.declared.event.Event.{Event}
use Rattle.ssf_model.specs.declared.plan.Plan.{Plan}
use Rattle.ssf_model.specs.Run.{States}
use Rattle.ssf_model.specs.Scene.{Scene}
use Rattle.ssf_model.specs.Truth.{IsStretch}
use Rattle.sync_rules.specs.Parts.{MailOf, BarrierOf, put_at}
use Rattle.sync_rules.specs.Bounds.{IsInto, IsOutOf, goes_out, bound_of, low_of, promise_of, least_ahead_of}
use Rattle.sync_rules.specs.Shared.{IsShared}
use Rattle.sync_rules.specs.Sound.{IsSoundMail, IsSoundBarrier, HasDone}
use Rattle.sync_rules.specs.Steps.{CanPost, CanTake, CanEnter, CanReport, posted_line, reported_barrier, taken_line}
use Rattle.sync_rules.specs.Steps.{posted_mail as posted_by_rule, taken_mail as taken_by_rule}
use Rattle.sync_rules.proofs.Posts.{posted_mail_is_sound, taken_mail_is_sound}
use Rattle.sync_rules.proofs.Reports.{report_keeps}
use Rattle.sync_rules.proofs.Writes.{stretch_among, origin}
use Rattle.timeline_parts.specs.declared.ends.InEnd.{InEnd}
use Rattle.timeline_parts.specs.declared.ends.OutEnd.{OutEnd}
use Rattle.timeline_parts.specs.Tables.{numbers_of, AreRising, item_at, changed}
use Rattle.timeline_parts.specs.Sending.{written_of}
use Rattle.timeline_parts.specs.Settling.{AreNew}
use Rattle.timeline_parts.proofs.Tables.{known_item, numbers_changed, item_changed}
use Rattle.timeline.specs.View.{TimelineOf, key_of}
use Rattle.timeline.specs.Holding.{taken_of, held_of, bound_in, low_in, ahead_in}
use Rattle.timeline_parts.specs.Parts.{channel_of as cross_channel}
use Rattle.timeline.specs.Moving.{IsHandedOut, taken_end, can_enter, entered_at}
use Rattle.timeline.specs.Lines.{line_of, posted_of, outbox_of}
use Rattle.timeline_parts.specs.declared.part.Cross.{Cross}
use Rattle.timeline.specs.Sound.{IsSoundTimeline, CountsAt}
use Rattle.timeline.proofs.TellsBounds.{number_among, item_among, bound_is, low_is, ahead_is}
use Rattle.timeline.proofs.Fresh.{new_events}
use Rattle.timeline.proofs.Moved.{take_line, post_line, post_sound, post_promise, post_end, take_sound, enters_by_barrier, may_enter, roomy}
use Rattle.appointments.specs.Mails.{ChannelMail, Mails, mail_at, posted_of as posted_to}
use Rattle.appointments.specs.Posts.{taken_mail, taken_parcel}
use Rattle.barrier_window.specs.BarrierFields.{BarrierFields}
use Rattle.barrier_window.specs.Crossings.{latest, latest_of, with_report}
use Rattle.sync_steps.specs.Between.{HasItsEnds, is_silent, can_report, count_on, counts_in, promise_in, can_post, parcel_in, posted_timeline, IsPostedTo, IsMailOf, can_take, events_on, taken_on, taken_all, IsTakenFrom}
use Rattle.sync_steps.specs.Sounds.{mail_as, AreSoundMails, number_of, has_least, least_in, barrier_as, HaveTheirPlaces, taken_lines}

-- ---- tests

or_cases : (a b : Bool) → (a || b) ≡ true → (a ≡ true) ⊎ (b ≡ true)
or_cases true b h = inl refl
or_cases false b h = inr h

or_left : (a b : Bool) → a ≡ true → (a || b) ≡ true
or_left a b h = rw h refl

or_right : (a b : Bool) → b ≡ true → (a || b) ≡ true
or_right true b h = refl
or_right false b h = h

not_same : (a b : ℕ) → (a ≡ b → ⊥) → nat_eq a b ≡ false
not_same a b differ = elim (test_cases (nat_eq a b)) [ inl t ↦ absurd (differ (eqb-true a b t)) | inr f ↦ f ]

got_among : (xs : List ℕ) (place x : ℕ) → slice_get xs place ≡ Some x → Among x xs
got_among [] place x at = absurd (cc)
got_among (y ∷ ys) zero x at = let is : y ≡ x = cc in inl (sym is)
got_among (y ∷ ys) (suc place) x at = inr (got_among ys place x at)

listed : (xs : List ℕ) (c : ℕ) → Among c xs ⊎ (Among c xs → ⊥)
listed [] c = inr (λ a. a)
listed (x ∷ xs) c = elim (test_cases (nat_eq c x)) [
  | inl t ↦ inl (inl (eqb-true c x t))
  | inr f ↦ elim (listed xs c) [
    | inl a ↦ inl (inr a)
    | inr none ↦ inr (λ a. elim a [ inl e ↦ (let t : nat_eq c x ≡ true = eq-eqb c x e in absurd (cc)) | inr b ↦ none b ])
  ]
]

less_is : (a b : ℕ) → nat_lt a b ≡ true → a < b
less_is a b h = ltb-true a b h

-- ---- post

module _ {B S P : Type 0} where
  handed_over : (t after : TimelineOf B S P) (c : ℕ) → Among c (numbers_of t.out_ends) → after ≡ posted_timeline c t → IsHandedOut t c (parcel_in t c) after
  handed_over t after c known is = by_end (known_item c t.out_ends known).0 (known_item c t.out_ends known).1
    where
      by_end : (end : OutEnd P) → item_at c t.out_ends ≡ Some end → IsHandedOut t c (parcel_in t c) after
      by_end end found = record {
        posted = record {
          end = end;
          at = found;
          handed = rw found refl;
          left = ap (λ (u : TimelineOf B S P). u.out_ends) is;
        };
        same = is ∙ ap (λ (ends : List (ℕ × OutEnd P)). record t { out_ends = ends }) (sym (ap (λ (u : TimelineOf B S P). u.out_ends) is));
      }

module _ {B S P : Type 0} (plan : Plan B S P) (line : ℕ → ℕ) (s : Scene (States B S P) (Event P)) (keys : s.machine.key ≡ key_of) (sh : IsShared s) (i m : ℕ) (t : TimelineOf B S P)
    (sound : IsSoundTimeline plan line s i m t) where
  pub out_known : (c : ℕ) → IsOutOf s.net i c → Among c (numbers_of t.out_ends)
  out_known c out = let found = sound.placed.outs c out in number_among (c, found.0) t.out_ends (item_among c found.0 t.out_ends found.1)

  module _ (c : ℕ) (out : IsOutOf s.net i c) where
    whole : IsHandedOut t c (parcel_in t c) (posted_timeline c t)
    whole = handed_over t (posted_timeline c t) c (out_known c out) refl

    promise_same : promise_in t c ≡ promise_of s i c (line_of m t)
    promise_same = post_promise plan line s keys sh i m t sound c (parcel_in t c) (posted_timeline c t) (out_known c out) whole

    pub post_enabled : (mail : ChannelMail P) → can_post t c mail ≡ true → CanPost s i c (line_of m t) (mail_as mail)
    post_enabled mail h = elim (or_cases _ _ h) [
      | inl e ↦ inl (less_is 0 (length (outbox_of t.out_ends c)) e)
      | inr p ↦ inr (subst (λ n. mail.appointment < n) promise_same (less_is mail.appointment (promise_in t c) p))
    ]

    pub post_possible : (mail : ChannelMail P) → CanPost s i c (line_of m t) (mail_as mail) → can_post t c mail ≡ true
    post_possible mail (inl e) = or_left (nat_lt 0 (length (outbox_of t.out_ends c))) (nat_lt mail.appointment (promise_in t c)) (lt-ltb 0 (length (outbox_of t.out_ends c)) e)
    post_possible mail (inr p) = or_right (nat_lt 0 (length (outbox_of t.out_ends c))) (nat_lt mail.appointment (promise_in t c))
        (lt-ltb mail.appointment (promise_in t c) (subst (λ n. mail.appointment < n) (sym promise_same) p))

    module _ (after : TimelineOf B S P) (mail mail_after : Mails P) (q : IsPostedTo c t after mail mail_after) where
      handed : IsHandedOut t c (parcel_in t c) after
      handed = handed_over t after c (out_known c out) q.timeline

      pub post_as : line_of m after ≡ posted_line c (line_of m t)
      post_as = post_line plan line s keys sh i m t sound c (parcel_in t c) after (out_known c out) handed

      pub post_keeps : IsSoundTimeline plan line s i m after
      post_keeps = post_sound plan line s keys sh i m t sound c (parcel_in t c) after (out_known c out) handed

      written_all : posted_of t.out_ends c + length (outbox_of t.out_ends c) ≡ written_of t.out_ends c
      written_all = post_end plan line s keys sh i m t sound c (parcel_in t c) after (out_known c out) handed

      pub row_as : posted_to (mail_at mail c) ≡ posted_of t.out_ends c → mail_as (mail_at mail_after c) ≡ posted_by_rule s i c (line_of m t) (mail_as (mail_at mail c))
      row_as joined =
          let row : ChannelMail P = mail_at mail c in
          let box : List (Event P) = outbox_of t.out_ends c in
          let long = length-append row.events box in
          let posted : row.taken + length (row.events ++ box) ≡ written_of t.out_ends c = omega (arith, long, joined, written_all) in
          ap mail_as q.row
          ∙ ap (λ n. record { events = row.events ++ box; posted = n; taken = row.taken; appointment = max row.appointment (promise_in t c) }) posted
          ∙ ap (λ p. record { events = row.events ++ box; posted = written_of t.out_ends c; taken = row.taken; appointment = max row.appointment p }) promise_same

      pub mail_keeps : posted_to (mail_at mail c) ≡ posted_of t.out_ends c → IsSoundMail s c (mail_as (mail_at mail c)) → IsSoundMail s c (mail_as (mail_at mail_after c))
      mail_keeps joined sound_mail = subst (λ (z : MailOf (Event P)). IsSoundMail s c z) (sym (row_as joined)) (posted_mail_is_sound s sh i (line_of m t) sound.sound c (mail_as (mail_at mail c)) out sound_mail joined)

-- ---- enter

number_here : (channels numbers : List ℕ) (place c : ℕ) → AreRising channels → length numbers ≡ length channels → slice_get channels place ≡ Some c → slice_index numbers place ≡ number_of channels numbers c
number_here [] ns place c r each at = absurd (cc)
number_here (k ∷ ks) [] place c r each at = absurd (omega arith)
number_here (k ∷ ks) (n ∷ ns) zero c r each at = let is : k ≡ c = cc in rw (eq-eqb k c is) refl
number_here (k ∷ ks) (n ∷ ns) (suc place) c r each at =
    let less : k < c = r.0 c (got_among ks place c at) in
    let other : nat_eq k c ≡ false = not_same k c (λ e. omega arith) in
    rw other (number_here ks ns place c r.1 (omega arith) at)

-- ---- take

apart_join : {P : Type 0} (xs ys : List (Event P)) → IsApart key_of xs → IsApart key_of ys → ((x y : Event P) → Among x xs → Among y ys → key_of x ≡ key_of y → ⊥) → IsApart key_of (xs ++ ys)
apart_join [] ys a b none = b
apart_join (x ∷ xs) ys a b none = (
  (λ y among same. elim (append_among y xs ys among) [ inl here ↦ a.0 y here same | inr there ↦ none x y (inl refl) there same ]),
  apart_join xs ys a.1 b (λ u v p q. none u v (inr p) q),
)

module _ {B S P : Type 0} where
  taken_ins : (mail : Mails P) (cs : List ℕ) (t : TimelineOf B S P) → (taken_all mail cs t).ins ≡ t.ins
  taken_ins mail [] t = refl
  taken_ins mail (c ∷ cs) t = taken_ins mail cs (taken_on c (taken_parcel (mail_at mail c)) t)

  taken_numbers : (mail : Mails P) (cs : List ℕ) (t : TimelineOf B S P) → numbers_of (taken_all mail cs t).in_ends ≡ numbers_of t.in_ends
  taken_numbers mail [] t = refl
  taken_numbers mail (c ∷ cs) t = taken_numbers mail cs (taken_on c (taken_parcel (mail_at mail c)) t) ∙ numbers_changed c (taken_end (posted_to (mail_at mail c)) (mail_at mail c).appointment) t.in_ends

  taken_there : (mail : Mails P) (c k : ℕ) (t : TimelineOf B S P) → (k ≡ c → ⊥) → taken_of (taken_on c (taken_parcel (mail_at mail c)) t).in_ends k ≡ taken_of t.in_ends k
  taken_there mail c k t differ =
      let none : nat_eq k c ≡ false = not_same k c differ in
      let change : InEnd → InEnd = taken_end (posted_to (mail_at mail c)) (mail_at mail c).appointment in
      let at : item_at k (changed c change t.in_ends) ≡ item_at k t.in_ends = item_changed k c change t.in_ends ∙ rw none refl in
      ap (λ (o : Option InEnd). unwrap_or (option_map (λ (e : InEnd). e.taken) o) 0) at

  taken_here : (mail : Mails P) (c : ℕ) (t : TimelineOf B S P) → Among c (numbers_of t.in_ends) → taken_of (taken_on c (taken_parcel (mail_at mail c)) t).in_ends c ≡ posted_to (mail_at mail c)
  taken_here mail c t known =
      let yes : nat_eq c c ≡ true = eq-eqb c c refl in
      let change : InEnd → InEnd = taken_end (posted_to (mail_at mail c)) (mail_at mail c).appointment in
      let found = known_item c t.in_ends known in
      let at : item_at c (changed c change t.in_ends) ≡ Some (change found.0) = item_changed c c change t.in_ends ∙ rw yes (ap (option_map change) found.1) in
      ap (λ (o : Option InEnd). unwrap_or (option_map (λ (e : InEnd). e.taken) o) 0) at

  taken_other : (mail : Mails P) (cs : List ℕ) (k : ℕ) (t : TimelineOf B S P) → (Among k cs → ⊥) → taken_of (taken_all mail cs t).in_ends k ≡ taken_of t.in_ends k
  taken_other mail [] k t none = refl
  taken_other mail (c ∷ cs) k t none =
      taken_other mail cs k (taken_on c (taken_parcel (mail_at mail c)) t) (λ a. none (inr a)) ∙ taken_there mail c k t (λ e. none (inl e))

  taken_each : (mail : Mails P) (cs : List ℕ) (k : ℕ) (t : TimelineOf B S P) → AreRising cs → Among k cs → Among k (numbers_of t.in_ends) → taken_of (taken_all mail cs t).in_ends k ≡ posted_to (mail_at mail k)
  taken_each mail [] k t rising a known = absurd a
  taken_each mail (c ∷ cs) k t rising (inl e) known =
      taken_other mail cs k (taken_on c (taken_parcel (mail_at mail c)) t) (λ a. let less = rising.0 k a in omega arith)
      ∙ subst (λ n. taken_of (taken_on c (taken_parcel (mail_at mail c)) t).in_ends n ≡ posted_to (mail_at mail n)) (sym e) (taken_here mail c t (subst (λ n. Among n (numbers_of t.in_ends)) e known))
  taken_each mail (c ∷ cs) k t rising (inr a) known =
      taken_each mail cs k (taken_on c (taken_parcel (mail_at mail c)) t) rising.1 a
      (subst (λ ns. Among k ns) (sym (numbers_changed c (taken_end (posted_to (mail_at mail c)) (mail_at mail c).appointment) t.in_ends)) known)

module _ {B S P : Type 0} (plan : Plan B S P) (line : ℕ → ℕ) (s : Scene (States B S P) (Event P)) (keys : s.machine.key ≡ key_of) (sh : IsShared s) (i m : ℕ) (mail : Mails P) where
  -- the timeline can take the mail on these channels
  abbrev Stands : TimelineOf B S P → List ℕ → Type 0
  Stands u cs = (c : ℕ) → Among c cs → IsInto s.net i c × (taken_of u.in_ends c ≡ (mail_at mail c).taken) × IsSoundMail s c (mail_as (mail_at mail c))

  end_known : (u : TimelineOf B S P) → IsSoundTimeline plan line s i m u → (c : ℕ) → IsInto s.net i c → Among c (numbers_of u.in_ends)
  end_known u sound c into = let found = sound.placed.ins c into in number_among (c, found.0) u.in_ends (item_among c found.0 u.in_ends found.1)

  taken_one : (u : TimelineOf B S P) (c : ℕ) → IsSoundTimeline plan line s i m u → IsInto s.net i c → taken_of u.in_ends c ≡ (mail_at mail c).taken → IsSoundMail s c (mail_as (mail_at mail c))
      → IsSoundTimeline plan line s i m (taken_on c (taken_parcel (mail_at mail c)) u)
  taken_one u c sound into taken sound_mail =
      take_sound plan line s keys sh i m u sound c (taken_parcel (mail_at mail c)) (taken_on c (taken_parcel (mail_at mail c)) u) (end_known u sound c into)
      (record { spare = omega arith; is = refl }) (sym taken) sound_mail.parcel

  pub taken_keeps : (cs : List ℕ) (u : TimelineOf B S P) → IsSoundTimeline plan line s i m u → AreRising cs → Stands u cs → IsSoundTimeline plan line s i m (taken_all mail cs u)
  taken_keeps [] u sound rising stands = sound
  taken_keeps (c ∷ cs) u sound rising stands =
      let here = stands c (inl refl) in
      taken_keeps cs (taken_on c (taken_parcel (mail_at mail c)) u) (taken_one u c sound here.0 here.1 here.2) rising.1
      (λ k a. let there = stands k (inr a) in (there.0, taken_there mail c k u (λ e. let less = rising.0 k a in omega arith) ∙ there.1, there.2))

  line_one : (u : TimelineOf B S P) (c : ℕ) → IsSoundTimeline plan line s i m u → IsInto s.net i c → taken_of u.in_ends c ≡ (mail_at mail c).taken → IsSoundMail s c (mail_as (mail_at mail c))
      → line_of m (taken_on c (taken_parcel (mail_at mail c)) u) ≡ taken_line s c (line_of m u) (mail_as (mail_at mail c))
  line_one u c sound into taken sound_mail =
      take_line plan line s keys sh i m u sound c (taken_parcel (mail_at mail c)) (taken_on c (taken_parcel (mail_at mail c)) u) (end_known u sound c into)
      (record { spare = omega arith; is = refl }) (sym taken) sound_mail.parcel

  pub lines_keep : (cs : List ℕ) (u : TimelineOf B S P) → IsSoundTimeline plan line s i m u → AreRising cs → Stands u cs → line_of m (taken_all mail cs u) ≡ taken_lines s mail cs (line_of m u)
  lines_keep [] u sound rising stands = refl
  lines_keep (c ∷ cs) u sound rising stands =
      let here = stands c (inl refl) in
      lines_keep cs (taken_on c (taken_parcel (mail_at mail c)) u) (taken_one u c sound here.0 here.1 here.2) rising.1
      (λ k a. let there = stands k (inr a) in (there.0, taken_there mail c k u (λ e. let less = rising.0 k a in omega arith) ∙ there.1, there.2))
      ∙ ap (taken_lines s mail cs) (line_one u c sound here.0 here.1 here.2)

  on_channel : (c : ℕ) (d : Event P) → IsSoundMail s c (mail_as (mail_at mail c)) → Among d (mail_at mail c).events → d.key.channel ≡ c
  on_channel c d sound_mail a =
      let found = stretch_among s c (mail_at mail c).taken (posted_to (mail_at mail c)) (mail_at mail c).events d sound_mail.parcel.events a in
      let from = origin s c found.0 d found.1 in
      ap (λ (key : Event P → Key). (key d).channel) (sym keys) ∙ from.2.channel

  on_some : (u : TimelineOf B S P) (cs : List ℕ) (d : Event P) → Stands u cs → Among d (events_on mail cs) → (c : ℕ) × Among c cs × (d.key.channel ≡ c)
  on_some u [] d stands a = absurd a
  on_some u (c ∷ cs) d stands a = elim (append_among d (mail_at mail c).events (events_on mail cs) a) [
    | inl here ↦ (c, inl refl, on_channel c d (stands c (inl refl)).2 here)
    | inr there ↦ let q = on_some u cs d (λ k b. stands k (inr b)) there in (q.0, inr q.1, q.2)
  ]

  pub all_new : (u : TimelineOf B S P) → IsSoundTimeline plan line s i m u → (cs : List ℕ) → AreRising cs → Stands u cs → AreNew (events_on mail cs) u.pending
  all_new u sound [] rising stands = record { apart = tt; others = λ x y a. absurd a }
  all_new u sound (c ∷ cs) rising stands =
      let here = stands c (inl refl) in
      let later : Stands u cs = λ k b. stands k (inr b) in
      let events : List (Event P) = (mail_at mail c).events in
      let first : AreNew events u.pending = new_events s keys sh i m u sound.sound c here.0 (posted_to (mail_at mail c)) events
      (subst (λ (n : ℕ). IsStretch s c n events (posted_to (mail_at mail c))) (sym here.1) here.2.parcel.events) in
      let rest = all_new u sound cs rising.1 later in
      record {
        apart = apart_join events (events_on mail cs) first.apart rest.apart (λ x y a b same.
            let one = on_channel c x here.2 a in
            let two = on_some u cs y later b in
            let less = rising.0 two.0 two.1 in
            let equal : x.key.channel ≡ y.key.channel = ap (λ (k : Key). k.channel) same in
            let both : c ≡ two.0 = sym one ∙ equal ∙ two.2 in omega arith);
        others = λ x y a b same. elim (append_among x events (events_on mail cs) a) [ inl p ↦ first.others x y p b same | inr p ↦ rest.others x y p b same ];
      }

  module _ (t : TimelineOf B S P) (sound : IsSoundTimeline plan line s i m t) (own : IsMailOf mail t) where
    ends_are : mail.channels ≡ numbers_of t.in_ends
    ends_are = own.channels ∙ sym own.ends

    rising : AreRising mail.channels
    rising = subst AreRising (sym ends_are) sound.order.in_ends

    stands : AreSoundMails s i mail → Stands t mail.channels
    stands mails c a =
        let into : IsInto s.net i c = sound.placed.into c (subst (λ ns. Among c ns) ends_are a) in
        (into, sym (own.taken c a), mails c into)

    pub mail_new : AreSoundMails s i mail → AreNew (events_on mail mail.channels) t.pending
    mail_new mails = all_new t sound mail.channels rising (stands mails)

    pub take_enabled : can_take t mail mail.channels ≡ true → (c : ℕ) × IsInto s.net i c × CanTake c (line_of m t) (mail_as (mail_at mail c))
    take_enabled h = let found = some_mail mail.channels h in (found.0, sound.placed.into found.0 (subst (λ ns. Among found.0 ns) ends_are found.1), found.2)
      where
        some_mail : (cs : List ℕ) → can_take t mail cs ≡ true → (c : ℕ) × Among c cs × CanTake c (line_of m t) (mail_as (mail_at mail c))
        some_mail [] h = absurd (cc)
        some_mail (c ∷ cs) h = elim (or_cases _ _ h) [
          | inl e ↦ elim (or_cases _ _ e) [
            | inl p ↦ (c, inl refl, inl (less_is 0 (length (mail_at mail c).events) p))
            | inr p ↦ (c, inl refl, inr (less_is (held_of t.in_ends c) (mail_at mail c).appointment p))
          ]
          | inr e ↦ let q = some_mail cs e in (q.0, inr q.1, q.2)
        ]

    pub take_possible : (c : ℕ) → IsInto s.net i c → CanTake c (line_of m t) (mail_as (mail_at mail c)) → can_take t mail mail.channels ≡ true
    take_possible c into may = any_mail mail.channels (subst (λ ns. Among c ns) (sym ends_are) (end_known t sound c into))
      where
        has_it : CanTake c (line_of m t) (mail_as (mail_at mail c)) → (nat_lt 0 (length (mail_at mail c).events) || nat_lt (held_of t.in_ends c) (mail_at mail c).appointment) ≡ true
        has_it (inl e) = or_left (nat_lt 0 (length (mail_at mail c).events)) (nat_lt (held_of t.in_ends c) (mail_at mail c).appointment) (lt-ltb 0 (length (mail_at mail c).events) e)
        has_it (inr e) = or_right (nat_lt 0 (length (mail_at mail c).events)) (nat_lt (held_of t.in_ends c) (mail_at mail c).appointment) (lt-ltb (held_of t.in_ends c) (mail_at mail c).appointment e)

        any_mail : (cs : List ℕ) → Among c cs → can_take t mail cs ≡ true
        any_mail [] a = absurd a
        any_mail (k ∷ ks) (inl e) = or_left _ (can_take t mail ks) (subst (λ n. (nat_lt 0 (length (mail_at mail n).events) || nat_lt (held_of t.in_ends n) (mail_at mail n).appointment) ≡ true) e (has_it may))
        any_mail (k ∷ ks) (inr a) = or_right (nat_lt 0 (length (mail_at mail k).events) || nat_lt (held_of t.in_ends k) (mail_at mail k).appointment) _ (any_mail ks a)

    module _ (mails : AreSoundMails s i mail) (mail_after : Mails P) (after : TimelineOf B S P) (q : IsTakenFrom mail mail_after t after) where
      pub take_keeps : IsSoundTimeline plan line s i m after
      take_keeps = subst (λ (u : TimelineOf B S P). IsSoundTimeline plan line s i m u) (sym q.timeline)
          (roomy plan line s keys sh i m (taken_all mail mail.channels t) (taken_keeps mail.channels t sound rising (stands mails)) after.spare)

      row_taken : (row : ChannelMail P) → mail_as (taken_mail row) ≡ taken_by_rule (mail_as row)
      row_taken row = let none : posted_to row + 0 ≡ posted_to row = omega arith in ap (λ n. record { events = []; posted = n; taken = posted_to row; appointment = row.appointment }) none

      pub lines_as : line_of m after ≡ taken_lines s mail mail.channels (line_of m t)
      lines_as = ap (line_of m) q.timeline ∙ lines_keep mail.channels t sound rising (stands mails)

      pub rows_as : (c : ℕ) → IsInto s.net i c → mail_as (mail_at mail_after c) ≡ taken_by_rule (mail_as (mail_at mail c))
      rows_as c into = ap mail_as (q.rows c (subst (λ ns. Among c ns) (sym ends_are) (end_known t sound c into))) ∙ row_taken (mail_at mail c)

      pub mails_keep : AreSoundMails s i mail_after
      mails_keep c into =
          let a : Among c mail.channels = subst (λ ns. Among c ns) (sym ends_are) (end_known t sound c into) in
          subst (λ (z : MailOf (Event P)). IsSoundMail s c z) (sym (ap mail_as (q.rows c a) ∙ row_taken (mail_at mail c))) (taken_mail_is_sound s c (mail_as (mail_at mail c)) (mails c into))

      pub own_keeps : IsMailOf mail_after after
      own_keeps = record {
        channels = q.channels ∙ own.channels ∙ ap (map cross_channel) (sym (ap (λ (u : TimelineOf B S P). u.ins) q.timeline ∙ taken_ins mail mail.channels t));
        ends = ap (λ (u : TimelineOf B S P). numbers_of u.in_ends) q.timeline ∙ taken_numbers mail mail.channels t ∙ own.ends
            ∙ ap (map cross_channel) (sym (ap (λ (u : TimelineOf B S P). u.ins) q.timeline ∙ taken_ins mail mail.channels t));
        taken = λ c a.
            (let b : Among c mail.channels = subst (λ cs. Among c cs) q.channels a in
            ap (λ (row : ChannelMail P). row.taken) (q.rows c b)
            ∙ sym (ap (λ (u : TimelineOf B S P). taken_of u.in_ends c) q.timeline ∙ taken_each mail mail.channels c t rising b (subst (λ ns. Among c ns) ends_are b)));
      }

-- ---- report

next_same : (a b : ℕ) → nat_eq (suc a) (suc b) ≡ nat_eq a b
next_same a b = elim (test_cases (nat_eq a b)) [
  | inl t ↦ let e : suc a ≡ suc b = ap (λ n. suc n) (eqb-true a b t) in eq-eqb (suc a) (suc b) e ∙ sym t
  | inr f ↦ not_same (suc a) (suc b) (λ e. let same : a ≡ b = omega arith in let t : nat_eq a b ≡ true = eq-eqb a b same in absurd (cc)) ∙ sym f
]

set_at : {T : Type 0} (xs : List T) (i k : ℕ) (v : T) → i < length xs → slice_get (set xs i v) k ≡ cond (nat_eq k i) (Some v) (slice_get xs k)
set_at [] i k v h = absurd (omega arith)
set_at (x ∷ xs) zero zero v h = refl
set_at (x ∷ xs) zero (suc k) v h = let f : nat_eq (suc k) 0 ≡ false = not_same (suc k) 0 (λ e. omega arith) in rw f refl
set_at (x ∷ xs) (suc i) zero v h = let f : nat_eq 0 (suc i) ≡ false = not_same 0 (suc i) (λ e. omega arith) in rw f refl
set_at (x ∷ xs) (suc i) (suc k) v h = set_at xs i k v (omega arith) ∙ ap (λ b. cond b (Some v) (slice_get xs k)) (sym (next_same k i))

pick_first : (b : Bool) (m n : ℕ) → b ≡ true → cond b m n ≡ m
pick_first true m n h = refl
pick_first false m n h = absurd (cc)

pick_last : (b : Bool) (m n : ℕ) → b ≡ false → cond b m n ≡ n
pick_last true m n h = absurd (cc)
pick_last false m n h = refl

number_latest : (ps : List (ℕ × ℕ)) (channels numbers : List ℕ) (c : ℕ) → length numbers ≡ length channels → Among c channels → number_of channels (latest_of ps channels numbers) c ≡ latest ps c (number_of channels numbers c)
number_latest ps [] ns c each a = absurd a
number_latest ps (k ∷ ks) [] c each a = absurd (omega arith)
number_latest ps (k ∷ ks) (n ∷ ns) c each a = elim (test_cases (nat_eq k c)) [
  | inl t ↦ rw t (ap (λ x. latest ps x n) (eqb-true k c t))
  | inr f ↦ rw f (number_latest ps ks ns c (omega arith) (elim a [ inl e ↦ (let t : nat_eq k c ≡ true = eq-eqb k c (sym e) in absurd (cc)) | inr b ↦ b ]))
]

number_unknown : (channels numbers : List ℕ) (c : ℕ) → (Among c channels → ⊥) → number_of channels numbers c ≡ 0
number_unknown [] ns c none = refl
number_unknown (k ∷ ks) [] c none = refl
number_unknown (k ∷ ks) (n ∷ ns) c none = let f : nat_eq k c ≡ false = not_same k c (λ e. none (inl (sym e))) in rw f (number_unknown ks ns c (λ a. none (inr a)))

module _ {B S P : Type 0} (t : TimelineOf B S P) where
  abbrev latest_in : List Cross → ℕ → ℕ → ℕ
  latest_in xs c before = latest (map (count_on t) xs) c before

  latest_none : (xs : List Cross) (c before : ℕ) → (Among c (map cross_channel xs) → ⊥) → latest_in xs c before ≡ before
  latest_none [] c before none = refl
  latest_none (x ∷ xs) c before none =
      let f : nat_eq (cross_channel x) c ≡ false = not_same (cross_channel x) c (λ e. none (inl (sym e))) in
      ap (latest_in xs c) (pick_last (nat_eq (cross_channel x) c) (written_of t.out_ends (cross_channel x)) before f) ∙ latest_none xs c before (λ a. none (inr a))

  kept_here : (x : Cross) (c : ℕ) → cond (nat_eq (cross_channel x) c) (written_of t.out_ends (cross_channel x)) (written_of t.out_ends c) ≡ written_of t.out_ends c
  kept_here x c = elim (test_cases (nat_eq (cross_channel x) c)) [
    | inl e ↦ pick_first (nat_eq (cross_channel x) c) (written_of t.out_ends (cross_channel x)) (written_of t.out_ends c) e ∙ ap (written_of t.out_ends) (eqb-true (cross_channel x) c e)
    | inr f ↦ pick_last (nat_eq (cross_channel x) c) (written_of t.out_ends (cross_channel x)) (written_of t.out_ends c) f
  ]

  latest_kept : (xs : List Cross) (c : ℕ) → latest_in xs c (written_of t.out_ends c) ≡ written_of t.out_ends c
  latest_kept [] c = refl
  latest_kept (x ∷ xs) c = ap (latest_in xs c) (kept_here x c) ∙ latest_kept xs c

  latest_written : (xs : List Cross) (c before : ℕ) → Among c (map cross_channel xs) → latest_in xs c before ≡ written_of t.out_ends c
  latest_written [] c before a = absurd a
  latest_written (x ∷ xs) c before (inl e) =
      let y : nat_eq (cross_channel x) c ≡ true = eq-eqb (cross_channel x) c (sym e) in
      ap (latest_in xs c) (pick_first (nat_eq (cross_channel x) c) (written_of t.out_ends (cross_channel x)) before y ∙ ap (written_of t.out_ends) (sym e)) ∙ latest_kept xs c
  latest_written (x ∷ xs) c before (inr a) = latest_written xs c (cond (nat_eq (cross_channel x) c) (written_of t.out_ends (cross_channel x)) before) a

module _ {B S P : Type 0} (plan : Plan B S P) (line : ℕ → ℕ) (s : Scene (States B S P) (Event P)) (keys : s.machine.key ≡ key_of) (sh : IsShared s) (i m : ℕ) (t : TimelineOf B S P)
    (sound : IsSoundTimeline plan line s i m t) (ends : HasItsEnds t) (b : BarrierFields) (each : length b.sent ≡ length b.channels)
    (crosses : (c : ℕ) → s.net.cross c ≡ true → Among c b.channels) (known : i < length b.reports) where
  bound_told : bound_in t ≡ bound_of s.net i (line_of m t)
  bound_told = bound_is s.net sh.joining i t sound.order.in_ends sound.placed m

  low_told : low_in t ≡ low_of s i (line_of m t)
  low_told = low_is s keys i m t bound_told

  ahead_told : ahead_in t ≡ least_ahead_of s (line_of m t)
  ahead_told = ahead_is s keys m t sound.until

  outs_cross : (c : ℕ) → Among c (map cross_channel t.outs) → IsOutOf s.net i c
  outs_cross c a = sound.placed.out c (subst (λ ns. Among c ns) (sym ends.outs) a)

  pub outs_contained : (c : ℕ) → Among c (map cross_channel t.outs) → Among c b.channels
  outs_contained c a = crosses c (outs_cross c a).cross

  -- ---- when

  and_parts : (x y : Bool) → (x && y) ≡ true → (x ≡ true) × (y ≡ true)
  and_parts true y h = (refl, h)
  and_parts false y h = absurd (cc)

  not_true : (x : Bool) → not x ≡ true → x ≡ false
  not_true true h = absurd (cc)
  not_true false h = refl

  silent_is : (o : Option (Option ℕ)) → is_silent o ≡ true → has_least o ≡ false
  silent_is None h = absurd (cc)
  silent_is (Some None) h = refl
  silent_is (Some (Some least)) h = absurd (cc)

  silent_of : (xs : List (Option ℕ)) (k : ℕ) → k < length xs → has_least (slice_get xs k) ≡ false → is_silent (slice_get xs k) ≡ true
  silent_of [] k h f = absurd (omega arith)
  silent_of (None ∷ xs) zero h f = refl
  silent_of (Some least ∷ xs) zero h f = absurd (cc)
  silent_of (x ∷ xs) (suc k) h f = silent_of xs k (omega arith) f

  pub report_enabled : can_report t i b ≡ true → CanReport s i (line_of m t) (barrier_as b)
  report_enabled h =
      let one = and_parts (not b.ended) _ h in
      let two = and_parts (is_silent (slice_get b.reports i)) _ one.1 in
      let three = and_parts (nat_eq t.entered b.window) _ two.1 in
      record {
        goes_on = not_true b.ended one.0;
        silent = silent_is (slice_get b.reports i) two.0;
        entered = eqb-true t.entered b.window three.0;
        low = subst (λ n. b.window ≤ n) low_told (leb-true b.window (low_in t) three.1);
      }

  pub report_possible : CanReport s i (line_of m t) (barrier_as b) → can_report t i b ≡ true
  report_possible q =
      let silent = silent_of b.reports i known q.silent in
      let same = eq-eqb t.entered b.window q.entered in
      let low = le-leb b.window (low_in t) (subst (λ n. b.window ≤ n) (sym low_told) q.low) in
      rw (q.goes_on, silent, same, low) refl

  -- ---- what

  abbrev after : BarrierFields
  after = with_report i (ahead_in t) (counts_in t) b

  goes_of : (c : ℕ) → IsOutOf s.net i c → goes_out s.net i c ≡ true
  goes_of c out = let same : nat_eq (s.net.sender c) i ≡ true = eq-eqb (s.net.sender c) i out.sender in let cross : s.net.cross c ≡ true = out.cross in rw (cross, same) refl

  out_of : (c : ℕ) → goes_out s.net i c ≡ true → IsOutOf s.net i c
  out_of c h = let two = and_parts (s.net.cross c) _ h in record { cross = two.0; sender = eqb-true (s.net.sender c) i two.1 }

  out_listed : (c : ℕ) → IsOutOf s.net i c → Among c (map cross_channel t.outs)
  out_listed c out = subst (λ ns. Among c ns) ends.outs (out_known plan line s keys sh i m t sound c out)

  sent_is : (c : ℕ) → number_of b.channels (latest_of (counts_in t) b.channels b.sent) c ≡ cond (goes_out s.net i c) (written_of t.out_ends c) (number_of b.channels b.sent c)
  sent_is c = elim (test_cases (goes_out s.net i c)) [
    | inl g ↦ (let out = out_of c g in rw g (number_latest (counts_in t) b.channels b.sent c each (crosses c out.cross) ∙ latest_written t t.outs c (number_of b.channels b.sent c) (out_listed c out)))
    | inr f ↦ rw f (stays c f)
  ]
    where
      not_listed : (c : ℕ) → goes_out s.net i c ≡ false → Among c (map cross_channel t.outs) → ⊥
      not_listed c f a = let g = goes_of c (outs_cross c a) in absurd (cc)

      stays : (c : ℕ) → goes_out s.net i c ≡ false → number_of b.channels (latest_of (counts_in t) b.channels b.sent) c ≡ number_of b.channels b.sent c
      stays c f = elim (listed b.channels c) [
        | inl a ↦ number_latest (counts_in t) b.channels b.sent c each a ∙ latest_none t t.outs c (number_of b.channels b.sent c) (not_listed c f)
        | inr none ↦ number_unknown b.channels (latest_of (counts_in t) b.channels b.sent) c none ∙ sym (number_unknown b.channels b.sent c none)
      ]

  reported_is : (k : ℕ) → has_least (slice_get (set b.reports i (Some (ahead_in t))) k) ≡ put_at i true (λ j. has_least (slice_get b.reports j)) k
  reported_is k = ap has_least (set_at b.reports i k (Some (ahead_in t)) known) ∙ (elim (test_cases (nat_eq k i)) [ inl e ↦ rw e refl | inr f ↦ rw f refl ])

  least_is : (k : ℕ) → least_in (slice_get (set b.reports i (Some (ahead_in t))) k) ≡ put_at i (least_ahead_of s (line_of m t)) (λ j. least_in (slice_get b.reports j)) k
  least_is k = ap least_in (set_at b.reports i k (Some (ahead_in t)) known) ∙ (elim (test_cases (nat_eq k i)) [ inl e ↦ rw e ahead_told | inr f ↦ rw f refl ])

  pub report_as : barrier_as after ≡ reported_barrier s i (line_of m t) (barrier_as b)
  report_as =
      ap (λ (f : ℕ → Bool). record { round = b.round; window = b.window; counts = number_of b.channels b.counts; reported = f; least = λ j. least_in (slice_get after.reports j); sent = number_of b.channels after.sent; ended = b.ended }) (fun_ext reported_is)
      ∙ ap (λ (f : ℕ → ℕ). record { round = b.round; window = b.window; counts = number_of b.channels b.counts; reported = put_at i true (λ j. has_least (slice_get b.reports j)); least = f; sent = number_of b.channels after.sent; ended = b.ended }) (fun_ext least_is)
      ∙ ap (λ (f : ℕ → ℕ). record {
        round = b.round;
        window = b.window;
        counts = number_of b.channels b.counts;
        reported = put_at i true (λ j. has_least (slice_get b.reports j));
        least = put_at i (least_ahead_of s (line_of m t)) (λ j. least_in (slice_get b.reports j));
        sent = f;
        ended = b.ended;
      }) (fun_ext sent_is)

  pub report_stays_sound : (v : ℕ) → IsSoundBarrier s v (barrier_as b) → can_report t i b ≡ true → IsSoundBarrier s v (barrier_as after)
  report_stays_sound v sound_barrier may = subst (λ (z : BarrierOf). IsSoundBarrier s v z) (sym report_as) (report_keeps s sh v i (line_of m t) (barrier_as b) sound.sound sound_barrier (report_enabled may))

-- ---- enter

module _ {B S P : Type 0} (plan : Plan B S P) (line : ℕ → ℕ) (s : Scene (States B S P) (Event P)) (keys : s.machine.key ≡ key_of) (sh : IsShared s) (i m : ℕ) (t : TimelineOf B S P)
    (sound : IsSoundTimeline plan line s i m t) (b : BarrierFields) (rising : AreRising b.channels) (each : length b.counts ≡ length b.channels) (places : HaveTheirPlaces t.in_ends b.channels) where
  counts_at : CountsAt t.in_ends b.counts (number_of b.channels b.counts)
  counts_at c e at = number_here b.channels b.counts e.place c rising each (places c e at)

  pub entry_may : can_enter t b.window b.counts ≡ true → CanEnter s.net i (line_of m t) (barrier_as b)
  entry_may = may_enter plan line s keys sh i m t sound b.counts (barrier_as b) counts_at

  pub entry_keeps : (v : ℕ) → IsSoundBarrier s v (barrier_as b) → HasDone s i v (line_of m t) → can_enter t b.window b.counts ≡ true → IsSoundTimeline plan line s i m (entered_at b.window t)
  entry_keeps v sound_barrier done may = enters_by_barrier plan line s keys sh i m t sound v (barrier_as b) b.counts sound_barrier counts_at may done
