-- What a timeline posts is true, and what it takes comes in time.
use Rattle.std.proofs.Common.{◌≡◌, ℕ, suc, ◌+◌, ◌<◌, ◌≤◌, true, min, max, nat_eq, List, [], ◌∷◌, ◌++◌, refl, sym, ap, ◌∙◌, subst, inl, inr, arith, eqb-true}
use Rattle.event_order.specs.Pending.{Among, IsApart}
use Rattle.event_order.proofs.Pending.{test_cases}
use Rattle.event_order.proofs.Steps.{lt_or_ge}
use Rattle.ssf_model.specs.Scene.{Scene, time_of, channel_of}
use Rattle.ssf_model.specs.Truth.{is_on_line, IsWrite, IsStretch, IsPromise, IsTrueParcel, IsKeptWrite}
use Rattle.sync_rules.specs.Parts.{Line, MailOf, put_at}
use Rattle.sync_rules.specs.Bounds.{IsInto, IsOutOf, bound_of, low_of, promise_of}
use Rattle.sync_rules.specs.Shared.{IsShared}
use Rattle.sync_rules.specs.Sound.{HasCome, IsSoundLine, IsSoundMail}
use Rattle.sync_rules.specs.Steps.{posted_line, posted_mail, taken_line, taken_mail}
use Rattle.sync_rules.proofs.Runs.{one_key}
use Rattle.ssf_model.proofs.Places.{stretch_length, stretch_joined}
use Rattle.sync_rules.proofs.Writes.{origin, one_place, made_up, stretch_among, among_stretch, kept_cross}
use Rattle.sync_rules.proofs.Standing.{IsArrival, stands_taken}
use Rattle.sync_rules.proofs.Bounds.{put_here, put_each, true_or_not, line_is, is_line, bound_held, bound_entered, bound_rises, not_early}

-- ---- parcels

module _ {X E : Type 0} (s : Scene X E) where
  -- a promise holds for a greater count and a smaller time
  pub promise_less : (c a b n m : ℕ) → b ≤ a → n ≤ m → IsPromise s c a n → IsPromise s c b m
  promise_less c a b n m l g promise k d is early = let below = promise k d is (omega arith) in omega arith

  -- two parcels, of which one ends where the other begins, are one, with the greater promise
  pub parcels_join : (c first between end p q : ℕ) (ds es : List E) → IsTrueParcel s c first ds between p → IsTrueParcel s c between es end q → IsTrueParcel s c first (ds ++ es) end (max p q)
  parcels_join c first between end p q ds es a b = record {
    events = stretch_joined s c first between end ds es a.events b.events;
    least = λ own. omega (arith, a.least own, b.least own);
    promise = λ own k d is early. elim (lt_or_ge (time_of s d) p) [
      | inl less ↦ (let below = a.promise own k d is less in let long = stretch_length s c between end es b.events in omega arith)
      | inr more ↦ b.promise own k d is (omega arith)
    ];
  }

-- ---- post

module _ {X E : Type 0} (s : Scene X E) (sh : IsShared s) (i : ℕ) (l : Line E) (sound : IsSoundLine s i l) where
  -- what a timeline still writes on a channel comes at the promised time or later
  pub promise_is_true : (c : ℕ) → IsOutOf s.net i c → IsPromise s c (promise_of s i c l) (l.written c)
  promise_is_true c out k d is early = elim (test_cases (s.net.appointed c)) [
    | inr f ↦ (let none : time_of s d < 0 = rw f at early in absurd (omega arith))
    | inl t ↦
        let below : time_of s d < min (low_of s i l + s.net.delay c) (s.until + 1) = rw t at early in
        let from = origin s c k d is in
        let by = from.1 in
        let channel = from.2.channel in
        let cross : s.net.cross (channel_of s d) ≡ true = ap s.net.cross channel ∙ out.cross in
        let routed = sh.routed from.0 by d from.2.written in
        let own : is_on_line s i by ≡ true = is_line s sh i by (routed.sent cross ∙ ap s.net.sender channel ∙ out.sender) in
        let delay : s.net.delay (channel_of s d) ≡ s.net.delay c = ap s.net.delay channel in
        let late = routed.delayed cross in
        elim (lt_or_ge from.0 l.moment) [
          | inl less ↦ omega (arith, from.2.below, made_up s c (suc from.0) l.moment less, sound.written c out)
          | inr more ↦ let low = not_early s sh i l sound from.0 by more from.2.written.is own in absurd (omega arith)
        ]
  ]

  pub promise_most : (c : ℕ) → promise_of s i c l ≤ s.until + 1
  promise_most c = elim (test_cases (s.net.appointed c)) [ inl t ↦ rw t (omega arith) | inr f ↦ rw f (omega arith) ]

  -- an outbox with its promise is a true parcel
  pub outbox_is_true : (c : ℕ) → IsOutOf s.net i c → IsTrueParcel s c (l.posted c) (l.outbox c) (l.written c) (promise_of s i c l)
  outbox_is_true c out = record {
    events = sound.outbox c out;
    least = λ own. promise_most c;
    promise = λ own. promise_is_true c out;
  }

  pub posted_is_sound : (c : ℕ) → IsSoundLine s i (posted_line c l)
  posted_is_sound c = record {
    standing = sound.standing;
    below = sound.below;
    held = sound.held;
    held_most = sound.held_most;
    ahead = sound.ahead;
    index = sound.index;
    before = sound.before;
    at = sound.at;
    window = sound.window;
    cut = sound.cut;
    enough = sound.enough;
    passed = sound.passed;
    written = sound.written;
    outbox = λ b out. elim (test_cases (nat_eq b c)) [
      | inl t ↦ rw t (ap l.written (sym (eqb-true b c t)))
      | inr f ↦ rw f (sound.outbox b out)
    ];
    arrival_low = sound.arrival_low;
    arrival_is = sound.arrival_is;
  }

  pub posted_mail_is_sound : (c : ℕ) (m : MailOf E) → IsOutOf s.net i c → IsSoundMail s c m → m.posted ≡ l.posted c → IsSoundMail s c (posted_mail s i c l m)
  posted_mail_is_sound c m out mail same = record {
    parcel = parcels_join s c m.taken m.posted (l.written c) m.appointment (promise_of s i c l) m.events (l.outbox c) mail.parcel
        (subst (λ n. IsTrueParcel s c n (l.outbox c) (l.written c) (promise_of s i c l)) (sym same) (outbox_is_true c out));
    none = λ windowed. rw windowed (let zero_before = mail.none windowed in omega arith);
  }

-- ---- take

module _ {X E : Type 0} (s : Scene X E) (sh : IsShared s) (i : ℕ) (l : Line E) (sound : IsSoundLine s i l) (c : ℕ) (into : IsInto s.net i c) where
  -- a write on the channel that is not taken yet does not come before the bound
  pub not_late : (p : ℕ) (d : E) → IsWrite s c p d → l.taken c ≤ p → bound_of s.net i l ≤ time_of s d
  not_late p d is from = elim (lt_or_ge (time_of s d) (bound_of s.net i l)) [
    | inr more ↦ more
    | inl less ↦ elim (test_cases (s.net.appointed c)) [
      | inl t ↦ (let below = sound.held c into t p d is (let low = bound_held s sh i c l into t in omega arith) in absurd (omega arith))
      | inr f ↦ (let below = sound.ahead c into f p d is (let low = bound_entered s.net i l in omega arith) in absurd (omega arith))
    ]
  ]

  module _ (m : MailOf E) (parcel : IsTrueParcel s c (l.taken c) m.events m.posted m.appointment) where
    -- an event of the parcel, and how it was written
    record IsComing (d : E) : Type 0 where
      place : ℕ
      is : IsWrite s c place d
      from : l.taken c ≤ place
      below : place < m.posted
      channel : channel_of s d ≡ c
      at : ℕ
      by : E
      write : IsKeptWrite s at d
      same : write.by ≡ by
      sender : s.line by ≡ s.net.sender c
      receiver : s.line d ≡ i

    coming : (d : E) → Among d m.events → IsComing d
    coming d a =
        let found = stretch_among s c (l.taken c) m.posted m.events d parcel.events a in
        let from = origin s c found.0 d found.1 in
        let channel = from.2.channel in
        let cross : s.net.cross (channel_of s d) ≡ true = ap s.net.cross channel ∙ into.cross in
        let routed = sh.routed from.0 from.1 d from.2.written in
        let kept = kept_cross s sh from.0 from.1 d from.2.written cross in
        record {
          place = found.0;
          is = found.1;
          from = found.2;
          below = found.3;
          channel = channel;
          at = from.0;
          by = from.1;
          write = kept.0;
          same = kept.1;
          sender = routed.sent cross ∙ ap s.net.sender channel;
          receiver = routed.reached cross ∙ ap s.net.receiver channel ∙ into.receiver;
        }

    -- no event comes too late: none is before the bound
    pub none_late : (d : E) → Among d m.events → bound_of s.net i l ≤ time_of s d
    none_late d a = let q = coming d a in not_late q.place d q.is q.from

    abbrev more : ℕ → ℕ
    more = put_at c m.posted l.taken

    grown : (b : ℕ) → l.taken b ≤ more b
    grown b = put_each (λ k n. l.taken k ≤ n) c m.posted l.taken b
        (λ same. omega (arith, ap l.taken same, stretch_length s c (l.taken c) m.posted m.events parcel.events)) (λ apart. omega arith)

    -- an event in the parcel is of another key than all that follow it
    apart_from : (first : ℕ) (ds : List E) → ((d : E) → Among d ds → IsComing d) → IsStretch s c first ds m.posted → IsApart s.machine.key ds
    apart_from first [] all is = tt
    apart_from first (d ∷ ds) all is = (
      λ e a same.
          let one = all d (inl refl) in
          let two = all e (inr a) in
          let equal = one_key s sh d e (inr (one.at, one.write)) (inr (two.at, two.write)) same in
          let found = stretch_among s c (suc first) m.posted ds e is.1 a in
          let place = one_place s sh c first found.0 e (subst (λ x. IsWrite s c first x) equal is.0) found.1 in
          omega (arith, place, found.2),
      apart_from (suc first) ds (λ e a. all e (inr a)) is.1,
    )

    arrives : IsArrival s sh i l.moment (HasCome s l.taken) (HasCome s more) m.events
    arrives = record {
      own = λ d a. is_line s sh i d (coming d a).receiver;
      across = λ d a.
          let q = coming d a in (
            q.at,
            q.write,
            true_or_not (is_on_line s i q.write.by) (λ own.
                sh.joining.apart c into.cross (sym q.sender ∙ ap s.line (sym q.same) ∙ line_is s sh i q.write.by own ∙ sym into.receiver)),
          );
      new = λ d a before.
          let q = coming d a in
          let one = one_place s sh c before.place q.place d (subst (λ b. IsWrite s b before.place d) q.channel before.is) q.is in
          let below : before.place < l.taken c = subst (λ b. before.place < l.taken b) q.channel before.below in
          omega (arith, one, q.from, below);
      fresh = λ d a done.
          let q = coming d a in
          let early = sound.below done.0 d done.1 done.2 (is_line s sh i d q.receiver) in
          omega (arith, early, none_late d a);
      apart = apart_from (l.taken c) m.events coming parcel.events;
      more = λ d before. record { place = before.place; is = before.is; below = omega (arith, before.below, grown (channel_of s d)) };
      here = λ d a.
          let q = coming d a in
          record {
            place = q.place;
            is = subst (λ b. IsWrite s b q.place d) (sym q.channel) q.is;
            below = subst (λ b. q.place < more b) (sym q.channel) (rw (put_here c m.posted l.taken) q.below);
          };
      only = λ d after. elim (test_cases (nat_eq (channel_of s d) c)) [
        | inr f ↦ inl (record {
          place = after.place;
          is = after.is;
          below = (let below : after.place < l.taken (channel_of s d) = rw f at after.below in below);
        })
        | inl t ↦
            let channel : channel_of s d ≡ c = eqb-true (channel_of s d) c t in
            let below : after.place < m.posted = rw t at after.below in
            let is : IsWrite s c after.place d = subst (λ b. IsWrite s b after.place d) channel after.is in
            elim (lt_or_ge after.place (l.taken c)) [
              | inl less ↦ inl (record { place = after.place; is = after.is; below = subst (λ b. after.place < l.taken b) (sym channel) less })
              | inr later ↦ inr (among_stretch s c (l.taken c) m.posted m.events after.place d parcel.events is later below)
            ]
      ];
    }

    held_more : (b : ℕ) → l.held b ≤ put_at c (max (l.held c) m.appointment) l.held b
    held_more b = put_each (λ k n. l.held k ≤ n) c (max (l.held c) m.appointment) l.held b (λ same. let one = ap l.held same in omega arith) (λ apart. omega arith)

    -- the bound does not fall
    pub taken_bound : bound_of s.net i l ≤ bound_of s.net i (taken_line s c l m)
    taken_bound = bound_rises s.net i l (taken_line s c l m) (omega arith) held_more

    pub taken_is_sound : IsSoundLine s i (taken_line s c l m)
    taken_is_sound = record {
      standing = stands_taken s sh i l.moment (HasCome s l.taken) (HasCome s more) m.events l.pending sound.standing arrives;
      below = λ j e early at own. omega (arith, sound.below j e early at own, taken_bound);
      held = λ b from appointed. elim (test_cases (nat_eq b c)) [
        | inr f ↦ rw f (sound.held b from appointed)
        | inl t ↦
            let same : b ≡ c = eqb-true b c t in
            let own : s.net.appointed c ≡ true = subst (λ k. s.net.appointed k ≡ true) same appointed in
            rw t (λ k d is early.
            let write : IsWrite s c k d = subst (λ n. IsWrite s n k d) same is in
            elim (lt_or_ge (time_of s d) (l.held c)) [
              | inl less ↦ omega (arith, sound.held c into own k d write less, stretch_length s c (l.taken c) m.posted m.events parcel.events)
              | inr later ↦ parcel.promise own k d write (omega arith)
            ])
      ];
      held_most = λ b from appointed. elim (test_cases (nat_eq b c)) [
        | inr f ↦ rw f (sound.held_most b from appointed)
        | inl t ↦
            let same : b ≡ c = eqb-true b c t in
            let own : s.net.appointed c ≡ true = subst (λ k. s.net.appointed k ≡ true) same appointed in
            rw t (omega (arith, sound.held_most c into own, parcel.least own))
      ];
      ahead = λ b from windowed. promise_less s b l.entered l.entered (l.taken b) (more b) (omega arith) (grown b) (sound.ahead b from windowed);
      index = sound.index;
      before = sound.before;
      at = sound.at;
      window = sound.window;
      cut = sound.cut;
      enough = λ b from. omega (arith, sound.enough b from, grown b);
      passed = sound.passed;
      written = sound.written;
      outbox = sound.outbox;
      arrival_low = sound.arrival_low;
      arrival_is = sound.arrival_is;
    }

module _ {X E : Type 0} (s : Scene X E) where
  pub taken_mail_is_sound : (c : ℕ) (m : MailOf E) → IsSoundMail s c m → IsSoundMail s c (taken_mail m)
  taken_mail_is_sound c m sound = record {
    parcel = record { events = refl; least = sound.parcel.least; promise = sound.parcel.promise };
    none = sound.none;
  }
