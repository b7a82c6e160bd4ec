-- A timeline that executes its first pending event stays sound.
use Rattle.std.proofs.Common.{◌≡◌, ℕ, suc, ◌+◌, ◌<◌, ◌≤◌, ◌⊎◌, Bool, true, false, min, nat_le, ◌&&◌, List, [], ◌∷◌, ◌++◌, length, Some, refl, sym, ap, ◌∙◌, subst, inl, inr, arith}
use Rattle.std.specs.List.{filter}
use Rattle.std.proofs.lemmas.Grind.{common_steps}
use Rattle.event_order.specs.Pending.{Among}
use Rattle.event_order.proofs.Pending.{test_cases}
use Rattle.event_order.proofs.Steps.{lt_or_ge, lt_or_same, le_test}
use Rattle.event_order.proofs.Local.{share_next}
use Rattle.event_order.proofs.Shares.{one_more}
use Rattle.ssf_model.specs.Scene.{Scene, world_at, event_at, time_of, channel_of}
use Rattle.ssf_model.specs.Truth.{is_on_line, has_channel, line_events, IsStretch, IsNext, IsStanding}
use Rattle.sync_rules.specs.Parts.{Line}
use Rattle.sync_rules.specs.Bounds.{IsOutOf, bound_of}
use Rattle.sync_rules.specs.Shared.{IsShared}
use Rattle.sync_rules.specs.Sound.{made, HasCome, IsSentFrom, IsSoundLine, IsCounted}
use Rattle.sync_rules.specs.Steps.{CanExecute, leaves, least_arrival, executed_line}
use Rattle.sync_rules.proofs.Runs.{one_event}
use Rattle.ssf_model.proofs.Places.{stretch_joined}
use Rattle.sync_rules.proofs.Writes.{made_up, made_event, made_le, row, kept_by}
use Rattle.sync_rules.proofs.Standing.{stands_after}
use Rattle.sync_rules.proofs.Bounds.{goes, line_is, is_line, head_next}

le_is : (a b : ℕ) → nat_le a b ≡ true → a ≤ b
le_is a b h = grind (arith, common_steps)

-- ---- arrivals

module _ {X E : Type 0} (s : Scene X E) (from : ℕ) where
  abbrev arrives : E → Bool
  arrives d = s.net.cross (channel_of s d) && nat_le from (time_of s d)

  record IsArriving (d : E) : Type 0 where
    cross : s.net.cross (channel_of s d) ≡ true
    late : from ≤ time_of s d

  arriving : (a b : Bool) → (a && b) ≡ true → (a ≡ true) × (b ≡ true)
  arriving true b h = (refl, h)
  arriving false b h = absurd (cc)

  arrival_of : (d : E) → arrives d ≡ true → IsArriving d
  arrival_of d h = let two = arriving _ _ h in record { cross = two.0; late = le_is _ _ two.1 }

  arrives_of : (d : E) → IsArriving d → arrives d ≡ true
  arrives_of d a = rw (a.cross, le_test from (time_of s d) a.late) refl

  arrival_top : (ds : List E) (found : ℕ) → least_arrival s from ds found ≤ found
  arrival_top [] found = omega arith
  arrival_top (d ∷ ds) found = elim (test_cases (arrives d)) [
    | inl t ↦ rw t (let rest = arrival_top ds (min (time_of s d) found) in omega arith)
    | inr f ↦ rw f (arrival_top ds found)
  ]

  arrival_each : (ds : List E) (found : ℕ) (d : E) → Among d ds → IsArriving d → least_arrival s from ds found ≤ time_of s d
  arrival_each [] found d a q = absurd a
  arrival_each (e ∷ ds) found d (inl same) q =
      let t : arrives e ≡ true = subst (λ x. arrives x ≡ true) same (arrives_of d q) in
      let one = ap (time_of s) same in
      rw t (let rest = arrival_top ds (min (time_of s e) found) in omega arith)
  arrival_each (e ∷ ds) found d (inr a) q = elim (test_cases (arrives e)) [
    | inl t ↦ rw t (arrival_each ds (min (time_of s e) found) d a q)
    | inr f ↦ rw f (arrival_each ds found d a q)
  ]

  record IsLeastArrival (ds : List E) (least : ℕ) : Type 0 where
    event : E
    among : Among event ds
    arriving : IsArriving event
    is : least ≡ time_of s event

  more_arrivals : (e : E) (ds : List E) (least : ℕ) → IsLeastArrival ds least → IsLeastArrival (e ∷ ds) least
  more_arrivals e ds least q = record { event = q.event; among = inr q.among; arriving = q.arriving; is = q.is }

  arrival_cases : (ds : List E) (found : ℕ) → (least_arrival s from ds found ≡ found) ⊎ IsLeastArrival ds (least_arrival s from ds found)
  arrival_cases [] found = inl refl
  arrival_cases (e ∷ ds) found = elim (test_cases (arrives e)) [
    | inr f ↦ rw f (elim (arrival_cases ds found) [ inl same ↦ inl same | inr q ↦ inr (more_arrivals e ds _ q) ])
    | inl t ↦ rw t (elim (arrival_cases ds (min (time_of s e) found)) [
      | inr q ↦ inr (more_arrivals e ds _ q)
      | inl same ↦ elim (lt_or_ge (time_of s e) found) [
        | inl less ↦ inr (record { event = e; among = inl refl; arriving = arrival_of e t; is = omega arith })
        | inr more ↦ inl (omega arith)
      ]
    ])
  ]

-- ---- the step

module _ {X E : Type 0} (s : Scene X E) (sh : IsShared s) (i : ℕ) (l : Line E) (sound : IsSoundLine s i l)
    (h : E) (rest : List E) (is : l.pending ≡ h ∷ rest) (below : time_of s h < bound_of s.net i l) (q : IsNext s i l.moment h) where
  abbrev p : ℕ
  p = q.wait + l.moment

  abbrev its : List E
  its = s.machine.writes (world_at s p).state h

  standing : IsStanding s i l.moment (HasCome s l.taken) (h ∷ rest)
  standing = subst (λ ps. IsStanding s i l.moment (HasCome s l.taken) ps) is sound.standing

  own : is_on_line s i h ≡ true
  own = standing.own h (inl refl)

  -- its own events up to this one are those before the moment, and this one
  only : (j : ℕ) (e : E) → l.moment ≤ j → j < suc p → event_at s j ≡ Some e → is_on_line s i e ≡ true → (j ≡ p) × (e ≡ h)
  only j e from early at its_own = elim (lt_or_same j p (omega arith)) [
    | inl less ↦ (let other = q.none j e from less at in absurd (let wrong : true ≡ false = sym its_own ∙ other in cc))
    | inr same ↦ (same, one_event s sh p e h (subst (λ k. event_at s k ≡ Some e) same at) q.is)
  ]

  made_same : (c : ℕ) → IsOutOf s.net i c → made s c p ≡ made s c l.moment
  made_same c out =
      let up = made_up s c l.moment p (omega arith) in
      let down = made_le s sh c p l.moment out.cross (λ j e less at sends. elim (lt_or_ge j l.moment) [
        | inl early ↦ early
        | inr late ↦
            let mine : is_on_line s i e ≡ true = subst (λ k. is_on_line s k e ≡ true) out.sender sends in
            let other = q.none j e late less at in
            absurd (let wrong : true ≡ false = sym mine ∙ other in cc)
      ]) in
      omega arith

  left : (c : ℕ) → IsOutOf s.net i c → leaves s i c its ≡ filter (has_channel s c) its
  left c out = rw (goes s.net i c out) refl

  made_next : (c : ℕ) → IsOutOf s.net i c → made s c (suc p) ≡ l.written c + length (leaves s i c its)
  made_next c out = omega (arith, made_event s c p h q.is, made_same c out, sound.written c out, ap length (left c out))

  -- what it writes to others
  sent : (d : E) → Among d its → IsArriving s l.entered d → IsSentFrom s i l.entered p d
  sent d a arriving =
      let routed = sh.routed p h d (record { is = q.is; among = a }) in
      record {
        written = record { by = h; is = q.is; among = a; passes = routed.uncut arriving.cross };
        out = record { cross = arriving.cross; sender = sym (routed.sent arriving.cross) ∙ line_is s sh i h own };
        late = arriving.late;
      }

  sender_own : (from k : ℕ) (d : E) → (w : IsSentFrom s i from k d) → is_on_line s i w.written.by ≡ true
  sender_own from k d w = is_line s sh i w.written.by ((sh.routed k w.written.by d (kept_by s k d w.written)).sent w.out.cross ∙ w.out.sender)

  pub executed_is_sound : IsSoundLine s i (executed_line s i p its rest l)
  executed_is_sound = record {
    standing = stands_after s sh i l.moment (HasCome s l.taken) h rest standing q;
    below = λ j e early at mine. elim (lt_or_ge j l.moment) [
      | inl less ↦ sound.below j e less at mine
      | inr more ↦ let one = only j e more early at mine in subst (λ x. time_of s x < bound_of s.net i l) (sym one.1) below
    ];
    held = sound.held;
    held_most = sound.held_most;
    ahead = sound.ahead;
    index = sound.index;
    before = sound.before;
    at = sound.at;
    window = sound.window;
    cut = sound.cut;
    enough = sound.enough;
    passed = λ j e at mine early. omega (arith, sound.passed j e at mine early);
    written = λ c out. sym (made_next c out);
    outbox = λ c out.
        let more = row s c p h q.is in
        let from : made s c p ≡ l.written c = made_same c out ∙ sym (sound.written c out) in
        let first : IsStretch s c (l.written c) (filter (has_channel s c) its) (made s c (suc p)) = subst (λ n. IsStretch s c n (filter (has_channel s c) its) (made s c (suc p))) from more in
        let second : IsStretch s c (l.written c) (leaves s i c its) (made s c (suc p)) = subst (λ ds. IsStretch s c (l.written c) ds (made s c (suc p))) (sym (left c out)) first in
        subst (λ n. IsStretch s c (l.posted c) (l.outbox c ++ leaves s i c its) n) (made_next c out)
        (stretch_joined s c (l.posted c) (l.written c) (made s c (suc p)) (l.outbox c) (leaves s i c its) (sound.outbox c out) second);
    arrival_low = λ d k w from early. elim (lt_or_ge k l.moment) [
      | inl less ↦ omega (arith, arrival_top s l.entered its l.arrival, sound.arrival_low d k w from less)
      | inr more ↦
          let one = only k w.written.by more early w.written.is (sender_own l.entered k d w) in
          let there : Among d its = subst (λ e. Among d (s.machine.writes (world_at s p).state e)) one.1
          (subst (λ j. Among d (s.machine.writes (world_at s j).state w.written.by)) one.0 w.written.among) in
          arrival_each s l.entered its l.arrival d there (record { cross = w.out.cross; late = w.late })
    ];
    arrival_is = elim (arrival_cases s l.entered its l.arrival) [
      | inl same ↦ elim sound.arrival_is [
        | inl top ↦ inl (same ∙ top)
        | inr (d, k, w, from, early, least) ↦ inr (d, k, w, from, omega arith, same ∙ least)
      ]
      | inr a ↦ inr (
        a.event,
        p,
        sent a.event a.among a.arriving,
        elim (lt_or_ge p sound.at) [ inl less ↦ (let done = sound.passed p h q.is own less in absurd (omega arith)) | inr more ↦ more ],
        omega arith,
        a.is,
      )
    ];
  }

  -- its events are then counted
  pub executed_is_counted : (budget : ℕ) → IsCounted s budget i l → l.executed < budget → IsCounted s budget i (executed_line s i p its rest l)
  executed_is_counted budget counted few = record {
    executed =
        let next = share_next s.machine s.until s.kept s.opening (is_on_line s i) q.wait l.moment h q.none q.is own in
        omega (arith, counted.executed, ap length next, one_more (line_events s i l.moment) h);
    few = omega arith;
  }

module _ {X E : Type 0} (s : Scene X E) (sh : IsShared s) (i : ℕ) (l : Line E) (sound : IsSoundLine s i l) where
  -- a timeline that may execute executes its next event
  pub next_of : (budget : ℕ) → (may : CanExecute s budget i l) → IsNext s i l.moment may.head
  next_of budget may = head_next s sh i l sound may.head may.rest may.is may.in_time may.below
