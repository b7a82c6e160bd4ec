-- What is taken of a mail, channel by channel.
use Rattle.std.proofs.Common.{◌≡◌, ℕ, zero, suc, ◌+◌, ◌<◌, ◌≤◌, true, false, nat_eq, ◌⊎◌, List, [], ◌∷◌, ◌++◌, length, map, take, drop, get_or, refl, sym, ap, ◌∙◌, subst, inl, inr, arith, eqb-true, eq-eqb, add-one, drop-cons, length-append}
use Rattle.std.proofs.lemmas.List.{take_more}
use Rattle.std.specs.List.{Contains}
use Rattle.event_order.specs.Pending.{Among, IsApart, put_all}
use Rattle.event_order.proofs.Pending.{test_cases, append_among, put_all_among, among_append_left, among_append_right}
use Rattle.ssf_model.specs.declared.event.Event.{Event}
use Rattle.timeline_parts.specs.Tables.{numbers_of, AreRising}
use Rattle.timeline_parts.proofs.Tables.{numbers_changed}
use Rattle.timeline_parts.specs.Settling.{AreNew}
use Rattle.timeline_parts.specs.declared.part.Cross.{Cross}
use Rattle.timeline.specs.View.{TimelineOf, key_of}
use Rattle.timeline_parts.specs.Parts.{channel_of}
use Rattle.timeline.specs.Moving.{IsTaken}
use Rattle.appointments.specs.Mails.{ChannelMail, Mails, mail_at}
use Rattle.appointments.specs.Posts.{taken_mail, taken_parcel}
use Rattle.sync_steps.proofs.Words.{append_same}
use Rattle.sync_steps.specs.Between.{events_on, taken_on, taken_all, IsTakenFrom}

-- ---- lists

contained_at : (xs : List ℕ) (x : ℕ) → Among x xs → (k : ℕ) × (k < length xs) × (get_or xs k x ≡ x)
contained_at [] x a = absurd a
contained_at (y ∷ ys) x (inl e) = (zero, omega arith, sym e)
contained_at (y ∷ ys) x (inr a) = let r = contained_at ys x a in (suc r.0, omega arith, r.2)

pub contained : (xs : List ℕ) (x : ℕ) → Among x xs → Contains xs x
contained xs x a = contained_at xs x a

pub mapped_among : (xs : List Cross) (i : ℕ) (x : Cross) → i < length xs → x ≡ get_or xs i x → Among (channel_of x) (map channel_of xs)
mapped_among [] i x h e = absurd (omega arith)
mapped_among (y ∷ ys) zero x h e = inl (ap channel_of e)
mapped_among (y ∷ ys) (suc i) x h e = inr (mapped_among ys i x (omega arith) e)

pub next_taken : {T : Type 0} (xs : List T) (i : ℕ) (x : T) → i < length xs → x ≡ get_or xs i x → take (i + 1) xs ≡ take i xs ++ x ∷ []
next_taken xs i x h e = take_more xs i x h ∙ ap (λ z. take i xs ++ z ∷ []) (sym e)

pub map_append : (xs ys : List Cross) → map channel_of (xs ++ ys) ≡ map channel_of xs ++ map channel_of ys
map_append [] ys = refl
map_append (x ∷ xs) ys = ap (λ zs. channel_of x ∷ zs) (map_append xs ys)

-- what is left begins with the next
pub rest_is : {T : Type 0} (xs : List T) (i : ℕ) (x : T) → i < length xs → x ≡ get_or xs i x → drop i xs ≡ x ∷ drop (i + 1) xs
rest_is xs i x h e = rw (drop-cons xs i x h, ← e, add-one) refl

-- where channels rise the next is none of those after it
later_apart : (xs : List Cross) (i : ℕ) (x : Cross) → AreRising (map channel_of xs) → i < length xs → x ≡ get_or xs i x → Among (channel_of x) (map channel_of (drop (suc i) xs)) → ⊥
later_apart [] i x r h e a = absurd (omega arith)
later_apart (y ∷ ys) zero x r h e a = let same : channel_of x ≡ channel_of y = ap channel_of e in let less = r.0 (channel_of x) a in omega arith
later_apart (y ∷ ys) (suc i) x r h e a = later_apart ys i x r.1 (omega arith) e a

-- a mapping at a place of a list, read with any default
abbrev pub no_cross : Cross
no_cross = record { mapping = record { channel = 0; out_channel = 0; in_channel = 0; from = 0; to = 0; delay = 0; priority = 0 }; place = 0; appointed = false }

at_any : (xs : List Cross) (i : ℕ) (d e : Cross) → i < length xs → get_or xs i d ≡ get_or xs i e
at_any [] i d e h = absurd (omega arith)
at_any (x ∷ xs) zero d e h = refl
at_any (x ∷ xs) (suc i) d e h = at_any xs i d e (omega arith)

pub cross_is : (xs : List Cross) (i : ℕ) → i < length xs → get_or xs i no_cross ≡ get_or xs i (get_or xs i no_cross)
cross_is xs i h = at_any xs i no_cross (get_or xs i no_cross) h

-- its channel is one of these
pub known_cross : (xs ys : List Cross) (channels : List ℕ) (i : ℕ) → channels ≡ map channel_of ys → xs ≡ ys → i < length xs → Among (channel_of (get_or xs i no_cross)) channels
known_cross xs ys channels i is same h =
    let all : map channel_of xs ≡ channels = ap (map channel_of) same ∙ sym is in
    subst (λ cs. Among (channel_of (get_or xs i no_cross)) cs) all (mapped_among xs i (get_or xs i no_cross) h (cross_is xs i h))

-- ---- how many events there are

module _ {P : Type 0} where
  pub events_append : (mail : Mails P) (xs ys : List ℕ) → events_on mail (xs ++ ys) ≡ events_on mail xs ++ events_on mail ys
  events_append mail [] ys = refl
  events_append mail (x ∷ xs) ys = ap (λ es. (mail_at mail x).events ++ es) (events_append mail xs ys) ∙ sym (append_same (mail_at mail x).events (events_on mail xs) (events_on mail ys))

  pub counted_next : (mail : Mails P) (xs : List Cross) (i : ℕ) (x : Cross) (n : ℕ) → i < length xs → x ≡ get_or xs i x → n ≡ length (events_on mail (map channel_of (take i xs)))
      → n + length (mail_at mail (channel_of x)).events ≡ length (events_on mail (map channel_of (take (i + 1) xs)))
  counted_next mail xs i x n h e is =
      let split : map channel_of (take (i + 1) xs) ≡ map channel_of (take i xs) ++ channel_of x ∷ [] = ap (map channel_of) (next_taken xs i x h e) ∙ map_append (take i xs) (x ∷ []) in
      let all = ap length (ap (events_on mail) split ∙ events_append mail (map channel_of (take i xs)) (channel_of x ∷ [])) in
      let sum = length-append (events_on mail (map channel_of (take i xs))) (events_on mail (channel_of x ∷ [])) in
      let one = length-append (mail_at mail (channel_of x)).events (events_on mail []) in
      omega (arith, all, sum, one, is)

  -- ---- new events

  apart_right : (xs ys : List (Event P)) → IsApart key_of (xs ++ ys) → IsApart key_of ys
  apart_right [] ys h = h
  apart_right (x ∷ xs) ys h = apart_right xs ys h.1

  apart_left : (xs ys : List (Event P)) → IsApart key_of (xs ++ ys) → IsApart key_of xs
  apart_left [] ys h = tt
  apart_left (x ∷ xs) ys h = (λ y a. h.0 y (among_append_left y xs ys a), apart_left xs ys h.1)

  apart_between : (xs ys : List (Event P)) (x y : Event P) → IsApart key_of (xs ++ ys) → Among x xs → Among y ys → key_of x ≡ key_of y → ⊥
  apart_between [] ys x y h a b e = absurd a
  apart_between (d ∷ ds) ys x y h (inl s) b e = h.0 y (among_append_right y ds ys b) (ap key_of (sym s) ∙ e)
  apart_between (d ∷ ds) ys x y h (inr a) b e = apart_between ds ys x y h.1 a b e

  pub new_left : (xs ys pending : List (Event P)) → AreNew (xs ++ ys) pending → AreNew xs pending
  new_left xs ys pending q = record { apart = apart_left xs ys q.apart; others = λ x y a b. q.others x y (among_append_left x xs ys a) b }

  pub new_right : (xs ys pending : List (Event P)) → AreNew (xs ++ ys) pending → AreNew ys (put_all key_of xs pending)
  new_right xs ys pending q = record {
    apart = apart_right xs ys q.apart;
    others = λ x y a b e. elim (put_all_among key_of y xs pending b) [
      | inl c ↦ apart_between xs ys y x q.apart c a (sym e)
      | inr c ↦ q.others x y (among_append_right x xs ys a) c e
    ];
  }

-- ---- all of it, one channel after the other

module _ {B S P : Type 0} where
  taken_append : (mail : Mails P) (xs ys : List ℕ) (t : TimelineOf B S P) → taken_all mail (xs ++ ys) t ≡ taken_all mail ys (taken_all mail xs t)
  taken_append mail [] ys t = refl
  taken_append mail (x ∷ xs) ys t = taken_append mail xs ys (taken_on x (taken_parcel (mail_at mail x)) t)

  pub taken_spare : (mail : Mails P) (xs : List ℕ) (t : TimelineOf B S P) (spare : ℕ) → taken_all mail xs (record t { spare = spare }) ≡ record (taken_all mail xs t) { spare = spare }
  taken_spare mail [] t spare = refl
  taken_spare mail (x ∷ xs) t spare = taken_spare mail xs (taken_on x (taken_parcel (mail_at mail x)) t) spare

  -- with other room at first the same is taken
  pub taken_after_room : (mail mail_after : Mails P) (t mid after : TimelineOf B S P) → mid ≡ record t { spare = mid.spare } → IsTakenFrom mail mail_after mid after → IsTakenFrom mail mail_after t after
  taken_after_room mail mail_after t mid after room q = record {
    timeline = q.timeline ∙ ap (λ (u : TimelineOf B S P). record u { spare = after.spare }) (ap (taken_all mail mail.channels) room ∙ taken_spare mail mail.channels t mid.spare);
    channels = q.channels;
    rows = q.rows;
  }

  -- the first so many channels were taken
  pub record IsTakenUpTo (xs : List Cross) (i : ℕ) (mail mail_now : Mails P) (t now : TimelineOf B S P) : Type 0 where
    pub ins : now.ins ≡ xs
    pub ends : numbers_of now.in_ends ≡ numbers_of t.in_ends
    pub timeline : now ≡ record (taken_all mail (map channel_of (take i xs)) t) { spare = now.spare }
    pub channels : mail_now.channels ≡ mail.channels
    pub before : (c : ℕ) → Among c (map channel_of (take i xs)) → mail_at mail_now c ≡ taken_mail (mail_at mail c)
    pub from : (c : ℕ) → Among c (map channel_of (drop i xs)) → mail_at mail_now c ≡ mail_at mail c
    pub room : length (events_on mail (map channel_of (drop i xs))) ≤ now.spare
    pub new : AreNew (events_on mail (map channel_of (drop i xs))) now.pending

  -- the mail on the next channel is new
  pub next_new : (xs : List Cross) (i : ℕ) (x : Cross) (mail mail_now : Mails P) (t now : TimelineOf B S P) → i < length xs → x ≡ get_or xs i x → IsTakenUpTo xs i mail mail_now t now
      → AreNew (mail_at mail_now (channel_of x)).events now.pending
  next_new xs i x mail mail_now t now h e q =
      let rest : drop i xs ≡ x ∷ drop (i + 1) xs = rest_is xs i x h e in
      let row : mail_at mail_now (channel_of x) ≡ mail_at mail (channel_of x) = q.from (channel_of x) (subst (λ (ys : List Cross). Among (channel_of x) (map channel_of ys)) (sym rest) (inl refl)) in
      let fresh : AreNew ((mail_at mail (channel_of x)).events ++ events_on mail (map channel_of (drop (i + 1) xs))) now.pending =
      subst (λ (ys : List Cross). AreNew (events_on mail (map channel_of ys)) now.pending) rest q.new in
      subst (λ (m : ChannelMail P). AreNew m.events now.pending) (sym row) (new_left (mail_at mail (channel_of x)).events (events_on mail (map channel_of (drop (i + 1) xs))) now.pending fresh)

  -- one channel more
  pub take_more_mail : (xs : List Cross) (i : ℕ) (x : Cross) (mail mail_now mail_next : Mails P) (t now next : TimelineOf B S P) → AreRising (map channel_of xs) → i < length xs → x ≡ get_or xs i x
      → IsTakenUpTo xs i mail mail_now t now → IsTaken now (channel_of x) (taken_parcel (mail_at mail_now (channel_of x))) next
      → mail_next.channels ≡ mail_now.channels → mail_at mail_next (channel_of x) ≡ taken_mail (mail_at mail_now (channel_of x)) → ((c : ℕ) → (c ≡ channel_of x → ⊥) → mail_at mail_next c ≡ mail_at mail_now c)
      → IsTakenUpTo xs (i + 1) mail mail_next t next
  take_more_mail xs i x mail mail_now mail_next t now next rising h e q taken channels here others =
      let c : ℕ = channel_of x in
      let rest : drop i xs ≡ x ∷ drop (i + 1) xs = rest_is xs i x h e in
      let row : mail_at mail_now c ≡ mail_at mail c = q.from c (subst (λ (ys : List Cross). Among c (map channel_of ys)) (sym rest) (inl refl)) in
      let split : map channel_of (take (i + 1) xs) ≡ map channel_of (take i xs) ++ c ∷ [] = ap (map channel_of) (next_taken xs i x h e) ∙ map_append (take i xs) (x ∷ []) in
      let base : TimelineOf B S P = taken_all mail (map channel_of (take i xs)) t in
      let whole : taken_all mail (map channel_of (take (i + 1) xs)) t ≡ taken_on c (taken_parcel (mail_at mail c)) base =
      ap (λ cs. taken_all mail cs t) split ∙ taken_append mail (map channel_of (take i xs)) (c ∷ []) t in
      let step : next ≡ record (taken_on c (taken_parcel (mail_at mail_now c)) now) { spare = next.spare } = taken.is in
      let moved : next ≡ record (taken_on c (taken_parcel (mail_at mail c)) base) { spare = next.spare } =
      step ∙ ap (λ (m : ChannelMail P). record (taken_on c (taken_parcel m) now) { spare = next.spare }) row
      ∙ ap (λ (u : TimelineOf B S P). record (taken_on c (taken_parcel (mail_at mail c)) u) { spare = next.spare }) q.timeline in
      let events : events_on mail (map channel_of (drop i xs)) ≡ (mail_at mail c).events ++ events_on mail (map channel_of (drop (i + 1) xs)) =
      ap (λ (ys : List Cross). events_on mail (map channel_of ys)) rest in
      let spare : now.spare ≤ next.spare + length (mail_at mail_now c).events = taken.spare in
      let same : length (mail_at mail_now c).events ≡ length (mail_at mail c).events = ap (λ (m : ChannelMail P). length m.events) row in
      let sum : length (events_on mail (map channel_of (drop i xs))) ≡ length (mail_at mail c).events + length (events_on mail (map channel_of (drop (i + 1) xs))) =
      ap length events ∙ length-append (mail_at mail c).events (events_on mail (map channel_of (drop (i + 1) xs))) in
      let pending : next.pending ≡ put_all key_of (mail_at mail c).events now.pending =
      ap (λ (u : TimelineOf B S P). u.pending) step ∙ ap (λ (m : ChannelMail P). put_all key_of m.events now.pending) row in
      let fresh : AreNew ((mail_at mail c).events ++ events_on mail (map channel_of (drop (i + 1) xs))) now.pending = subst (λ es. AreNew es now.pending) events q.new in
      let had = q.room in
      record {
        ins = ap (λ (u : TimelineOf B S P). u.ins) step ∙ q.ins;
        ends = ap (λ (u : TimelineOf B S P). numbers_of u.in_ends) step ∙ numbers_changed c _ now.in_ends ∙ q.ends;
        timeline = moved ∙ ap (λ (u : TimelineOf B S P). record u { spare = next.spare }) (sym whole);
        channels = channels ∙ q.channels;
        before = λ k a. elim (append_among k (map channel_of (take i xs)) (c ∷ []) (subst (λ cs. Among k cs) split a)) [
          | inl b ↦ before_cases k b (test_cases (nat_eq k c))
          | inr b ↦ here_is k b
        ];
        from = λ k a. others k (λ is. later_apart xs i x rising h e (subst (λ n. Among n (map channel_of (drop (suc i) xs))) is (rw add-one at a))) ∙ q.from k (subst (λ (ys : List Cross). Among k (map channel_of ys)) (sym rest) (inr a));
        room = omega arith;
        new = subst (λ es. AreNew (events_on mail (map channel_of (drop (i + 1) xs))) es) (sym pending) (new_right (mail_at mail c).events (events_on mail (map channel_of (drop (i + 1) xs))) now.pending fresh);
      }
    where
      at_c : mail_at mail_now (channel_of x) ≡ mail_at mail (channel_of x)
      at_c = q.from (channel_of x) (subst (λ (ys : List Cross). Among (channel_of x) (map channel_of ys)) (sym (rest_is xs i x h e)) (inl refl))

      there : (k : ℕ) → k ≡ channel_of x → mail_at mail_next k ≡ taken_mail (mail_at mail k)
      there k is = subst (λ n. mail_at mail_next n ≡ taken_mail (mail_at mail n)) (sym is) (here ∙ ap taken_mail at_c)

      here_is : (k : ℕ) → Among k (channel_of x ∷ []) → mail_at mail_next k ≡ taken_mail (mail_at mail k)
      here_is k (inl is) = there k is
      here_is k (inr none) = absurd none

      before_cases : (k : ℕ) → Among k (map channel_of (take i xs)) → (nat_eq k (channel_of x) ≡ true) ⊎ (nat_eq k (channel_of x) ≡ false) → mail_at mail_next k ≡ taken_mail (mail_at mail k)
      before_cases k a (inl t) = there k (eqb-true k (channel_of x) t)
      before_cases k a (inr f) = others k (λ is. let t : nat_eq k (channel_of x) ≡ true = eq-eqb k (channel_of x) is in absurd (cc)) ∙ q.before k a
