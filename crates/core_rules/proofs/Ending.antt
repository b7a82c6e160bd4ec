-- Steps on all parts leave less to do.
use Rattle.std.proofs.Common.{◌≡◌, ℕ, zero, suc, ◌+◌, ◌-◌, ◌*◌, ◌^◌, ◌<◌, ◌≤◌, Bool, true, false, cond, nat_eq, nat_lt, List, [], ◌∷◌, length, map, refl, sym, ap, ◌∙◌, subst, inl, inr, arith, eq-eqb, eqb-true, suc-mul, Option, Some, None, slice_get}
use Rattle.event_order.specs.declared.key.Key.{Key}
use Rattle.event_order.specs.Pending.{Among}
use Rattle.event_order.proofs.Pending.{test_cases}
use Rattle.event_order.proofs.Steps.{lt_or_same}
use Rattle.ssf_model.specs.declared.event.Event.{Event}
use Rattle.ssf_model.specs.declared.plan.Plan.{Plan}
use Rattle.ssf_model.specs.Reaction.{Reaction, Validity, KeepsValid, LatestTime}
use Rattle.ssf_model.specs.Deliver.{IsModest}
use Rattle.ssf_model.specs.Run.{States, Fits}
use Rattle.ssf_model.specs.Scene.{Scene, Net, scene_of}
use Rattle.ssf_model.proofs.Places.{stretch_length}
use Rattle.sync_rules.specs.Parts.{Line, MailOf, BarrierOf, CoreOf}
use Rattle.sync_rules.specs.Bounds.{IsOutOf}
use Rattle.sync_rules.specs.Shared.{IsShared}
use Rattle.sync_rules.specs.Sound.{IsSoundCore}
use Rattle.sync_rules.specs.Measure.{Left, IsLess, sum_below, window_left, promise_left, parcel_left, at_cross, left_of, packed}
use Rattle.sync_rules.specs.Measure.IsLess.{in_time, in_windows, in_events, in_promises, in_parcels}
use Rattle.sync_rules.proofs.Cores.{step_keeps}
use Rattle.sync_rules.proofs.Measures.{step_less, packed_less}
use Rattle.timeline_parts.specs.Tables.{AreRising}
use Rattle.timeline.specs.View.{TimelineOf}
use Rattle.timeline.specs.Lines.{line_of}
use Rattle.timeline.specs.Sound.{IsRunOnLines}
use Rattle.timeline.proofs.Range.{written_in_range}
use Rattle.plan_shares.specs.declared.crosses.CrossEnd.{CrossEnd}
use Rattle.sync_steps.specs.declared.steps.Step.{Step}
use Rattle.sync_steps.specs.declared.steps.Step.TheVariants.{Execute, Post, Take, Enter, Report, Cross}
use Rattle.sync_steps.specs.Sounds.{barrier_as}
use Rattle.core_rules.specs.Cores.{CoreView, channel_in, line_or, mail_or, core_as, IsPartOf, IsSoundFor, IsCoreOfRun}
use Rattle.core_rules.specs.Stepping.{IsMade}
use Rattle.core_rules.specs.Leading.{AreSteps, IsCountOf, LeadsTo}
use Rattle.core_rules.specs.Ending.{sum_of, line_in, mail_in, promises_in, parcels_in, left_in, steps_left}
use Rattle.core_rules.proofs.Lists.{differ_test}
use Rattle.core_rules.proofs.Parts.{timeline_there, line_here}
use Rattle.core_rules.proofs.Leads.{made_leads}

-- ---- less and less

pub less_on : (l m n : Left) → IsLess l m → IsLess m n → IsLess l n
less_on l m n (in_time a0) (in_time b0) = in_time (omega (arith, a0, b0))
less_on l m n (in_time a0) (in_windows b0 b1) = in_time (omega (arith, a0, b0))
less_on l m n (in_time a0) (in_events b0 b1 b2) = in_time (omega (arith, a0, b0))
less_on l m n (in_time a0) (in_promises b0 b1 b2 b3) = in_time (omega (arith, a0, b0))
less_on l m n (in_time a0) (in_parcels b0 b1 b2 b3 b4) = in_time (omega (arith, a0, b0))
less_on l m n (in_windows a0 a1) (in_time b0) = in_time (omega (arith, a0, b0))
less_on l m n (in_windows a0 a1) (in_windows b0 b1) = in_windows (omega (arith, a0, b0)) (omega (arith, a1, b1))
less_on l m n (in_windows a0 a1) (in_events b0 b1 b2) = in_windows (omega (arith, a0, b0)) (omega (arith, a1, b1))
less_on l m n (in_windows a0 a1) (in_promises b0 b1 b2 b3) = in_windows (omega (arith, a0, b0)) (omega (arith, a1, b1))
less_on l m n (in_windows a0 a1) (in_parcels b0 b1 b2 b3 b4) = in_windows (omega (arith, a0, b0)) (omega (arith, a1, b1))
less_on l m n (in_events a0 a1 a2) (in_time b0) = in_time (omega (arith, a0, b0))
less_on l m n (in_events a0 a1 a2) (in_windows b0 b1) = in_windows (omega (arith, a0, b0)) (omega (arith, a1, b1))
less_on l m n (in_events a0 a1 a2) (in_events b0 b1 b2) = in_events (omega (arith, a0, b0)) (omega (arith, a1, b1)) (omega (arith, a2, b2))
less_on l m n (in_events a0 a1 a2) (in_promises b0 b1 b2 b3) = in_events (omega (arith, a0, b0)) (omega (arith, a1, b1)) (omega (arith, a2, b2))
less_on l m n (in_events a0 a1 a2) (in_parcels b0 b1 b2 b3 b4) = in_events (omega (arith, a0, b0)) (omega (arith, a1, b1)) (omega (arith, a2, b2))
less_on l m n (in_promises a0 a1 a2 a3) (in_time b0) = in_time (omega (arith, a0, b0))
less_on l m n (in_promises a0 a1 a2 a3) (in_windows b0 b1) = in_windows (omega (arith, a0, b0)) (omega (arith, a1, b1))
less_on l m n (in_promises a0 a1 a2 a3) (in_events b0 b1 b2) = in_events (omega (arith, a0, b0)) (omega (arith, a1, b1)) (omega (arith, a2, b2))
less_on l m n (in_promises a0 a1 a2 a3) (in_promises b0 b1 b2 b3) = in_promises (omega (arith, a0, b0)) (omega (arith, a1, b1)) (omega (arith, a2, b2)) (omega (arith, a3, b3))
less_on l m n (in_promises a0 a1 a2 a3) (in_parcels b0 b1 b2 b3 b4) = in_promises (omega (arith, a0, b0)) (omega (arith, a1, b1)) (omega (arith, a2, b2)) (omega (arith, a3, b3))
less_on l m n (in_parcels a0 a1 a2 a3 a4) (in_time b0) = in_time (omega (arith, a0, b0))
less_on l m n (in_parcels a0 a1 a2 a3 a4) (in_windows b0 b1) = in_windows (omega (arith, a0, b0)) (omega (arith, a1, b1))
less_on l m n (in_parcels a0 a1 a2 a3 a4) (in_events b0 b1 b2) = in_events (omega (arith, a0, b0)) (omega (arith, a1, b1)) (omega (arith, a2, b2))
less_on l m n (in_parcels a0 a1 a2 a3 a4) (in_promises b0 b1 b2 b3) = in_promises (omega (arith, a0, b0)) (omega (arith, a1, b1)) (omega (arith, a2, b2)) (omega (arith, a3, b3))
less_on l m n (in_parcels a0 a1 a2 a3 a4) (in_parcels b0 b1 b2 b3 b4) = in_parcels (omega (arith, a0, b0)) (omega (arith, a1, b1)) (omega (arith, a2, b2)) (omega (arith, a3, b3)) (omega (arith, a4, b4))

module _ {X E : Type 0} (s : Scene X E) (sh : IsShared s) (budget : ℕ) where
  pub steps_less : (n v : ℕ) (a b : CoreOf E) → IsSoundCore s v a → 1 ≤ n → AreSteps s budget n a b → IsLess (left_of s budget b) (left_of s budget a)
  steps_less zero v a b sound some steps = absurd (omega arith)
  steps_less (suc zero) v a b sound some steps = subst (λ (t : CoreOf E). IsLess (left_of s budget t) (left_of s budget a)) steps.2 (step_less s sh budget v a sound steps.0 steps.1)
  steps_less (suc (suc n)) v a b sound some steps =
      let next = step_keeps s sh v a sound budget steps.0 steps.1 in
      less_on (left_of s budget b) (left_of s budget steps.0) (left_of s budget a)
      (steps_less (suc n) next.0 steps.0 b next.1 (omega arith) steps.2) (step_less s sh budget v a sound steps.0 steps.1)

-- ---- sums

sum_same : (f g : ℕ → ℕ) (n : ℕ) → ((i : ℕ) → i < n → f i ≡ g i) → sum_below f n ≡ sum_below g n
sum_same f g zero all = refl
sum_same f g (suc n) all = omega (arith, sum_same f g n (λ i l. all i (omega arith)), all n (omega arith))

sum_none : (f : ℕ → ℕ) (n : ℕ) → ((i : ℕ) → i < n → f i ≡ 0) → sum_below f n ≡ 0
sum_none f zero all = refl
sum_none f (suc n) all = omega (arith, sum_none f n (λ i l. all i (omega arith)), all n (omega arith))

sum_plus : (f g : ℕ → ℕ) (n : ℕ) → sum_below (λ i. f i + g i) n ≡ sum_below f n + sum_below g n
sum_plus f g zero = refl
sum_plus f g (suc n) = (let rest = sum_plus f g n in omega (arith, rest))

sum_one : (f : ℕ → ℕ) (k n : ℕ) → k < n → sum_below (λ c. cond (nat_eq k c) (f c) 0) n ≡ f k
sum_one f k zero less = absurd (omega arith)
sum_one f k (suc n) less = elim (test_cases (nat_eq k n)) [
  | inl t ↦ (let same : k ≡ n = eqb-true k n t in
      let none : sum_below (λ c. cond (nat_eq k c) (f c) 0) n ≡ 0 = sum_none (λ c. cond (nat_eq k c) (f c) 0) n (λ c h. (let d : nat_eq k c ≡ false = differ_test k c (λ e. omega arith) in rw d refl)) in
      let here : cond (nat_eq k n) (f n) 0 ≡ f k = rw t (ap f (sym same)) in
      omega (arith, none, here))
  | inr d ↦ (let there : k < n = below k n less d in
      let rest = sum_one f k n there in
      let here : cond (nat_eq k n) (f n) 0 ≡ 0 = rw d refl in
      omega (arith, rest, here))
]
  where
    below : (k n : ℕ) → k < suc n → nat_eq k n ≡ false → k < n
    below k n less d = elim (lt_or_same k n (omega arith)) [
      | inl h ↦ h
      | inr same ↦ absurd (let t : nat_eq k n ≡ true = eq-eqb k n same in cc)
    ]

-- ---- the channels of some ends

abbrev has : ℕ → List CrossEnd → Bool
has c [] = false
has c (e ∷ es) = cond (nat_eq e.channel c) true (has c es)

has_among : (c : ℕ) (ends : List CrossEnd) → has c ends ≡ true → (e : CrossEnd) × Among e ends × (e.channel ≡ c)
has_among c [] h = absurd (cc)
has_among c (e ∷ es) h = elim (test_cases (nat_eq e.channel c)) [
  | inl t ↦ (e, inl refl, eqb-true e.channel c t)
  | inr f ↦ (let rest : has c es ≡ true = rw f at h in let q = has_among c es rest in (q.0, inr q.1, q.2))
]

among_has : (c : ℕ) (ends : List CrossEnd) (e : CrossEnd) → Among e ends → e.channel ≡ c → has c ends ≡ true
among_has c [] e a same = absurd a
among_has c (x ∷ xs) e (inl is) same = (let t : nat_eq x.channel c ≡ true = eq-eqb x.channel c (ap channel_in (sym is) ∙ same) in rw t refl)
among_has c (x ∷ xs) e (inr a) same = elim (test_cases (nat_eq x.channel c)) [ inl t ↦ rw t refl | inr f ↦ rw f (among_has c xs e a same) ]

among_channel : (e : CrossEnd) (ends : List CrossEnd) → Among e ends → Among e.channel (map channel_in ends)
among_channel e [] a = absurd a
among_channel e (x ∷ xs) (inl same) = inl (ap channel_in same)
among_channel e (x ∷ xs) (inr a) = inr (among_channel e xs a)

sum_listed : (f : ℕ → ℕ) (n : ℕ) (ends : List CrossEnd) → AreRising (map channel_in ends) → ((e : CrossEnd) → Among e ends → e.channel < n)
    → sum_below (λ c. cond (has c ends) (f c) 0) n ≡ sum_of (λ e. f e.channel) ends
sum_listed f n [] rising below = sum_none (λ c. 0) n (λ c h. refl)
sum_listed f n (e ∷ es) rising below =
    sum_same (λ c. cond (has c (e ∷ es)) (f c) 0) (λ c. cond (nat_eq e.channel c) (f c) 0 + cond (has c es) (f c) 0) n parts
    ∙ (sum_plus (λ c. cond (nat_eq e.channel c) (f c) 0) (λ c. cond (has c es) (f c) 0) n
    ∙ (let one = sum_one f e.channel n (below e (inl refl)) in let rest = sum_listed f n es rising.1 (λ x a. below x (inr a)) in omega (arith, one, rest)))
  where
    not_later : (c : ℕ) → nat_eq e.channel c ≡ true → has c es ≡ false
    not_later c t = elim (test_cases (has c es)) [
      | inl y ↦ absurd (let q = has_among c es y in
          let less = rising.0 q.0.channel (among_channel q.0 es q.1) in
          let same : e.channel ≡ c = eqb-true e.channel c t in
          let there = q.2 in omega (arith, less, same, there))
      | inr f ↦ f
    ]

    parts : (c : ℕ) → c < n → cond (has c (e ∷ es)) (f c) 0 ≡ cond (nat_eq e.channel c) (f c) 0 + cond (has c es) (f c) 0
    parts c h = elim (test_cases (nat_eq e.channel c)) [
      | inl t ↦ (let none : has c es ≡ false = not_later c t in rw (t, none) (omega arith))
      | inr g ↦ rw g (omega arith)
    ]

sum_each : {T : Type 0} (f g : T → ℕ) (xs : List T) → ((x : T) → Among x xs → f x ≡ g x) → sum_of f xs ≡ sum_of g xs
sum_each f g [] all = refl
sum_each f g (x ∷ xs) all = (let here = all x (inl refl) in let rest = sum_each f g xs (λ y a. all y (inr a)) in omega (arith, here, rest))

sum_most_below : (f : ℕ → ℕ) (m n : ℕ) → ((i : ℕ) → i < n → f i ≤ m) → sum_below f n ≤ n * m
sum_most_below f m zero all = omega arith
sum_most_below f m (suc n) all = omega (arith, sum_most_below f m n (λ i l. all i (omega arith)), all n (omega arith), suc-mul n m)

sum_most_of : {T : Type 0} (f : T → ℕ) (m : ℕ) (xs : List T) → ((x : T) → Among x xs → f x ≤ m) → sum_of f xs ≤ length xs * m
sum_most_of f m [] all = omega arith
sum_most_of f m (x ∷ xs) all = omega (arith, all x (inl refl), sum_most_of f m xs (λ y a. all y (inr a)), suc-mul (length xs) m)

cond_most : (b : Bool) → cond b 1 0 ≤ 1
cond_most true = omega arith
cond_most false = omega arith

cond_least : (b : Bool) → cond b 0 1 ≤ 1
cond_least true = omega arith
cond_least false = omega arith

window_most : {E : Type 0} (b : BarrierOf) (i : ℕ) (l : Line E) → window_left b i l ≤ 2
window_most b i l = (let one = cond_most (nat_lt l.entered b.window) in let two = cond_least (b.reported i) in omega (arith, one, two))

-- ---- all parts

module _ {B S P : Type 0} where
  entered_same : (m : ℕ) (o : Option (TimelineOf B S P)) → (line_or 0 o).entered ≡ (line_or m o).entered
  entered_same m None = refl
  entered_same m (Some t) = refl

  executed_same : (m : ℕ) (o : Option (TimelineOf B S P)) → (line_or 0 o).executed ≡ (line_or m o).executed
  executed_same m None = refl
  executed_same m (Some t) = refl

  held_same : (m c : ℕ) (o : Option (TimelineOf B S P)) → (line_or 0 o).held c ≡ (line_or m o).held c
  held_same m c None = refl
  held_same m c (Some t) = refl

  outbox_same : (m c : ℕ) (o : Option (TimelineOf B S P)) → (line_or 0 o).outbox c ≡ (line_or m o).outbox c
  outbox_same m c None = refl
  outbox_same m c (Some t) = refl

module _ {B S P : Type 0} (r : Reaction S P) (valid : Validity S) (carried : P → Type 0) (law : KeepsValid valid carried r) (modest : IsModest valid carried r)
    (plan : Plan B S P) (until : ℕ) (in_end : until ≤ LatestTime) (fits : Fits valid carried plan) (kept : Key → Bool) (line : ℕ → ℕ) (net : Net) where
  abbrev s : Scene (States B S P) (Event P)
  s = scene_of r plan until kept line net

  module _ (core : CoreView B S P) (at : ℕ → ℕ) (v : ℕ) (on : IsRunOnLines plan line core.budget s) (sound : IsSoundFor plan line s core at v) where
    abbrev seen : CoreOf (Event P)
    seen = core_as s.net at core

    time_same : (left_in core).time ≡ (left_of s core.budget seen).time
    time_same = ap (λ u. ((u + 1) - core.barrier.window) + cond core.barrier.ended 0 1) sound.until

    windows_same : (left_in core).windows ≡ (left_of s core.budget seen).windows
    windows_same =
        sum_same (λ i. window_left (barrier_as core.barrier) i (line_in core i)) (λ i. window_left (barrier_as core.barrier) i (seen.lines i)) (length core.timelines)
        (λ i h. ap (λ n. cond (nat_lt n core.barrier.window) 1 0 + cond ((barrier_as core.barrier).reported i) 0 1) (entered_same (at i) (slice_get core.timelines i)))
        ∙ ap (sum_below (λ i. window_left (barrier_as core.barrier) i (seen.lines i))) sound.timelines

    events_same : (left_in core).events ≡ (left_of s core.budget seen).events
    events_same =
        sum_same (λ i. core.budget - (line_in core i).executed) (λ i. core.budget - (seen.lines i).executed) (length core.timelines)
        (λ i h. ap (λ n. core.budget - n) (executed_same (at i) (slice_get core.timelines i)))
        ∙ ap (sum_below (λ i. core.budget - (seen.lines i).executed)) sound.timelines

    crosses_has : (c : ℕ) → s.net.cross c ≡ has c core.ends
    crosses_has c = elim (test_cases (has c core.ends)) [
      | inl t ↦ (let q = has_among c core.ends t in subst (λ n. s.net.cross n ≡ true) q.2 (sound.ends.each q.0 q.1).0 ∙ sym t)
      | inr f ↦ elim (test_cases (s.net.cross c)) [
        | inl y ↦ absurd (let q = sound.ends.all c y in let t : has c core.ends ≡ true = among_has c core.ends q.0 q.1 q.2 in cc)
        | inr n ↦ n ∙ sym f
      ]
    ]

    known : (e : CrossEnd) → Among e core.ends → e.channel < s.net.channels
    known e a = on.shared.joining.known e.channel (sound.ends.each e a).0

    over_ends : (f : ℕ → ℕ) → sum_below (at_cross s f) s.net.channels ≡ sum_of (λ e. f e.channel) core.ends
    over_ends f =
        sum_same (at_cross s f) (λ c. cond (has c core.ends) (f c) 0) s.net.channels (λ c h. ap (λ b. cond b (f c) 0) (crosses_has c))
        ∙ sum_listed f s.net.channels core.ends sound.ends.rising known

    row_same : (e : CrossEnd) → Among e core.ends → mail_in core e ≡ seen.mails e.channel
    row_same e a = ap (λ i. mail_or e.channel (slice_get core.mails i)) (sym (sound.ends.each e a).2)

    promise_same : (e : CrossEnd) → Among e core.ends → promises_in core e ≡ promise_left s e.channel seen
    promise_same e a =
        let told = sound.ends.each e a in
        let mail = ap (λ (m : MailOf (Event P)). m.appointment) (row_same e a) in
        let held : (line_in core e.receiver).held e.channel ≡ (seen.lines (s.net.receiver e.channel)).held e.channel =
        held_same (at e.receiver) e.channel (slice_get core.timelines e.receiver) ∙ ap (λ i. (seen.lines i).held e.channel) (sym told.2) in
        ap (λ u. ((u + 1) - (mail_in core e).appointment) + ((u + 1) - (line_in core e.receiver).held e.channel)) sound.until
        ∙ (ap (λ n. ((until + 1) - n) + ((until + 1) - (line_in core e.receiver).held e.channel)) mail ∙ ap (λ n. ((until + 1) - (seen.mails e.channel).appointment) + ((until + 1) - n)) held)

    parcel_same : (e : CrossEnd) → Among e core.ends → parcels_in core e ≡ parcel_left s e.channel seen
    parcel_same e a =
        let told = sound.ends.each e a in
        let mail = ap (λ (m : MailOf (Event P)). length m.events) (row_same e a) in
        let box : length ((line_in core e.sender).outbox e.channel) ≡ length ((seen.lines (s.net.sender e.channel)).outbox e.channel) =
        ap (λ (es : List (Event P)). length es) (outbox_same (at e.sender) e.channel (slice_get core.timelines e.sender)) ∙ ap (λ i. length ((seen.lines i).outbox e.channel)) (sym told.1) in
        omega (arith, mail, box)

    promises_same : (left_in core).promises ≡ (left_of s core.budget seen).promises
    promises_same = sum_each (promises_in core) (λ e. promise_left s e.channel seen) core.ends promise_same ∙ sym (over_ends (λ c. promise_left s c seen))

    parcels_same : (left_in core).parcels ≡ (left_of s core.budget seen).parcels
    parcels_same = sum_each (parcels_in core) (λ e. parcel_left s e.channel seen) core.ends parcel_same ∙ sym (over_ends (λ c. parcel_left s c seen))

    -- what is left of the parts is what is left by the rules
    pub left_same : left_in core ≡ left_of s core.budget seen
    left_same =
        ap (λ n. record { time = n; windows = (left_in core).windows; events = (left_in core).events; promises = (left_in core).promises; parcels = (left_in core).parcels }) time_same
        ∙ ap (λ n. record { time = (left_of s core.budget seen).time; windows = n; events = (left_in core).events; promises = (left_in core).promises; parcels = (left_in core).parcels }) windows_same
        ∙ ap (λ n. record { time = (left_of s core.budget seen).time; windows = (left_of s core.budget seen).windows; events = n; promises = (left_in core).promises; parcels = (left_in core).parcels }) events_same
        ∙ ap (λ n. record { time = (left_of s core.budget seen).time; windows = (left_of s core.budget seen).windows; events = (left_of s core.budget seen).events; promises = n; parcels = (left_in core).parcels }) promises_same
        ∙ ap (λ n. record { time = (left_of s core.budget seen).time; windows = (left_of s core.budget seen).windows; events = (left_of s core.budget seen).events; promises = (left_of s core.budget seen).promises; parcels = n }) parcels_same

    -- ---- bounds

    windows_bound : (left_in core).windows ≤ length core.timelines * 2
    windows_bound = sum_most_below (λ i. window_left (barrier_as core.barrier) i (line_in core i)) 2 (length core.timelines) (λ i h. window_most (barrier_as core.barrier) i (line_in core i))

    events_bound : (left_in core).events ≤ length core.timelines * core.budget
    events_bound = sum_most_below (λ i. core.budget - (line_in core i).executed) core.budget (length core.timelines) (λ i h. omega arith)

    promises_bound : (left_in core).promises ≤ length core.ends * ((core.until + 1) * 2)
    promises_bound = sum_most_of (promises_in core) ((core.until + 1) * 2) core.ends (λ e a. omega arith)

    parcel_bound : (e : CrossEnd) → Among e core.ends → parcels_in core e ≤ 3 * 2 ^ 64
    parcel_bound e a =
        let told = sound.ends.each e a in
        let c : ℕ = e.channel in
        let i : ℕ = s.net.sender c in
        let found = timeline_there plan line s core at v sound i (on.shared.joining.sender c told.0) in
        let t : TimelineOf B S P = found.0 in
        let part : IsPartOf plan line s core i (at i) t = sound.each i t found.1 in
        let out : IsOutOf s.net i c = record { cross = told.0; sender = refl } in
        let here : seen.lines i ≡ line_of (at i) t = line_here plan line s core at v sound i t found.1 in
        let top = written_in_range r valid carried law modest plan until in_end fits kept line net i (at i) t (subst (λ n. IsRunOnLines plan line n s) (sym part.budget) on) part.sound c out in
        let box = stretch_length s c ((line_of (at i) t).posted c) ((line_of (at i) t).written c) ((line_of (at i) t).outbox c) (part.sound.sound.outbox c out) in
        let mail = stretch_length s c (seen.mails c).taken (seen.mails c).posted (seen.mails c).events (sound.all.mails c told.0).parcel.events in
        let joined : (seen.mails c).posted ≡ (line_of (at i) t).posted c = sound.all.posted c told.0 ∙ ap (λ (l : Line (Event P)). l.posted c) here in
        let same = parcel_same e a in
        let outbox : length ((seen.lines i).outbox c) ≡ length ((line_of (at i) t).outbox c) = ap (λ (l : Line (Event P)). length (l.outbox c)) here in
        omega (arith, top, box, mail, joined, same, outbox)

    parcels_bound : (left_in core).parcels ≤ length core.ends * (3 * 2 ^ 64)
    parcels_bound = sum_most_of (parcels_in core) (3 * 2 ^ 64) core.ends parcel_bound

  -- a step leaves less
  pub leaves_less : (core : CoreView B S P) (at : ℕ → ℕ) (v : ℕ) → IsRunOnLines plan line core.budget s → IsSoundFor plan line s core at v
      → (n : ℕ) (after : CoreView B S P) → 1 ≤ n → LeadsTo plan line s core at n after → after.ends ≡ core.ends → steps_left after < steps_left core
  leaves_less core at v on sound n after some q ends =
      let there : IsRunOnLines plan line after.budget s = subst (λ m. IsRunOnLines plan line m s) (sym q.budget) on in
      let less : IsLess (left_of s core.budget (core_as s.net q.next after)) (left_of s core.budget (core_as s.net at core)) =
      steps_less s on.shared core.budget n v (core_as s.net at core) (core_as s.net q.next after) sound.all some q.steps in
      let before_is : left_in core ≡ left_of s core.budget (core_as s.net at core) = left_same core at v on sound in
      let after_is : left_in after ≡ left_of s core.budget (core_as s.net q.next after) =
      left_same after q.next q.before there q.sound ∙ ap (λ m. left_of s m (core_as s.net q.next after)) q.budget in
      let mine : IsLess (left_in after) (left_in core) = subst (λ (m : Left). IsLess (left_in after) m) (sym before_is) (subst (λ (m : Left). IsLess m (left_of s core.budget (core_as s.net at core))) (sym after_is) less) in
      let lines_same : length after.timelines ≡ length core.timelines = q.sound.timelines ∙ sym sound.timelines in
      let until_same : after.until ≡ core.until = q.sound.until ∙ sym sound.until in
      let a : (left_in after).windows < length after.timelines * 2 + 1 = (let b = windows_bound after q.next q.before there q.sound in omega (arith, b)) in
      let b : (left_in after).events < length after.timelines * after.budget + 1 = (let b = events_bound after q.next q.before there q.sound in omega (arith, b)) in
      let c : (left_in after).promises < length after.ends * ((after.until + 1) * 2) + 1 = (let b = promises_bound after q.next q.before there q.sound in omega (arith, b)) in
      let d : (left_in after).parcels < length after.ends * (3 * 2 ^ 64) + 1 = (let b = parcels_bound after q.next q.before there q.sound in omega (arith, b)) in
      let less_packed = packed_less (length after.timelines * 2 + 1) (length after.timelines * after.budget + 1) (length after.ends * ((after.until + 1) * 2) + 1) (length after.ends * (3 * 2 ^ 64) + 1)
      (left_in after) (left_in core) a b c d mine in
      subst (λ m. steps_left after < packed (m * 2 + 1) (m * core.budget + 1) (length core.ends * ((core.until + 1) * 2) + 1) (length core.ends * (3 * 2 ^ 64) + 1) (left_in core)) lines_same
      (subst (λ m. steps_left after < packed (length after.timelines * 2 + 1) (length after.timelines * m + 1) (length core.ends * ((core.until + 1) * 2) + 1) (length core.ends * (3 * 2 ^ 64) + 1) (left_in core)) q.budget
      (subst (λ m. steps_left after < packed (length after.timelines * 2 + 1) (length after.timelines * after.budget + 1) (length core.ends * ((m + 1) * 2) + 1) (length core.ends * (3 * 2 ^ 64) + 1) (left_in core)) until_same
      (subst (λ (es : List CrossEnd). steps_left after < packed (length after.timelines * 2 + 1) (length after.timelines * after.budget + 1) (length es * ((after.until + 1) * 2) + 1) (length es * (3 * 2 ^ 64) + 1) (left_in core)) ends less_packed)))

-- ---- the steps that were made

module _ {B S P : Type 0} (r : Reaction S P) where
  made_ends : (step : Step) (core after : CoreView B S P) → IsMade r step core after → after.ends ≡ core.ends
  made_ends (Execute i) core after q = ap (λ (z : CoreView B S P). z.ends) q.is
  made_ends (Post i c) core after q = ap (λ (z : CoreView B S P). z.ends) q.is
  made_ends (Take i) core after q = ap (λ (z : CoreView B S P). z.ends) q.is
  made_ends (Enter i) core after q = ap (λ (z : CoreView B S P). z.ends) q.is
  made_ends (Report i) core after q = ap (λ (z : CoreView B S P). z.ends) q.is
  made_ends Cross core after q = ap (λ (z : CoreView B S P). z.ends) q.is

one_at_least : (step : Step) (n : ℕ) → IsCountOf step n → 1 ≤ n
one_at_least (Execute i) n h = omega (arith, h)
one_at_least (Post i c) n h = omega (arith, h)
one_at_least (Take i) n h = h
one_at_least (Enter i) n h = omega (arith, h)
one_at_least (Report i) n h = omega (arith, h)
one_at_least Cross n h = omega (arith, h)

module _ {B S P : Type 0} (r : Reaction S P) (valid : Validity S) (carried : P → Type 0) (law : KeepsValid valid carried r) (modest : IsModest valid carried r) where
  pub made_leaves_less : (step : Step) (core after : CoreView B S P) → IsCoreOfRun valid carried r core → IsMade r step core after → steps_left after < steps_left core
  made_leaves_less step core after run made =
      let q = made_leads r valid carried law modest run.plan core.until run.in_time run.fits run.kept run.line run.net core run.at run.before run.run run.sound step after made in
      leaves_less r valid carried law modest run.plan core.until run.in_time run.fits run.kept run.line run.net core run.at run.before run.run run.sound
      q.0 after (one_at_least step q.0 q.1) q.2 (made_ends r step core after made)
