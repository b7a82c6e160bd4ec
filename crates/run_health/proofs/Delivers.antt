-- What an event makes of an entity in a valid state: it stays valid, no process loses its timer channel, tickets rise
-- by at most one, and what is written is in range.
use Rattle.std.proofs.Common.{◌≡◌, ℕ, ◌+◌, ◌<◌, ◌≤◌, Bool, true, false, cond, ◌&&◌, nat_eq, List, [], ◌∷◌, ◌++◌, map, length, refl, sym, ap, subst, arith, count_by, append_assoc, ◌∙◌, is_some, Option, Some, None, IfSome, slice_get, slice_set}
use Rattle.event_order.specs.Pending.{Among}
use Rattle.ssf_model.specs.declared.wait.Wait.{Wait}
use Rattle.ssf_model.specs.declared.wait.Wait.TheVariants.{On, For, OnFor, Forever}
use Rattle.ssf_model.specs.declared.wait.Wake.{Wake}
use Rattle.ssf_model.specs.declared.wait.Wake.TheVariants.{Begin as BeginWake, Timer as TimerWake, Message as MessageWake}
use Rattle.ssf_model.specs.declared.wait.Kind.{Kind}
use Rattle.ssf_model.specs.declared.wait.Kind.TheVariants.{Begin, Timer, Message}
use Rattle.ssf_model.specs.declared.out.Written.{Written}
use Rattle.ssf_model.specs.declared.out.Written.TheVariants.{Channel, Timer as TimerWrite}
use Rattle.ssf_model.specs.declared.process.Process.{Process}
use Rattle.ssf_model.specs.Wake.{waits_on, timer_delay, HasTimer, IsTimelyTicket}
use Rattle.ssf_model.specs.Reaction.{Reaction, Validity, KeepsValid, IsOwnWrite, IsOwnWait, LatestTime, LongestDelay, is_timed, wait_of, Admits, Carries, Each, channels_named}
use Rattle.ssf_model.specs.Deliver.{wake_of, timer_write, reacted, Reacted, delivered, Delivered, IsTimely, IsCarried}
use Rattle.run_health.specs.Healthy.{IsWaiting}
use Rattle.ssf_model.proofs.Delivering.{chosen, admitted}
use Rattle.ssf_model.proofs.Lists.{each_append, count_append, count_cons}

-- ---- tickets

-- a ticket that a process gave out, by the rule of tickets
pub record IsGivenBy (ticket : ℕ) (p : Process) : Type 0 where
  pub given : ticket ≤ p.ticket
  pub present : IsTimelyTicket p.wait p.ticket ticket

abbrev pub IsGiven : {P : Type 0} → Kind P → List Process → Type 0
IsGiven (Timer process ticket) ps = IfSome (slice_get ps process) (IsGivenBy ticket)
IsGiven Begin ps = Unit {0}
IsGiven (Message channel payload) ps = Unit {0}

-- ---- processes before and after

pub record IsMoved (p q : Process) : Type 0 where
  pub timer : q.timer ≡ p.timer
  pub least : p.ticket ≤ q.ticket
  pub most : q.ticket ≤ p.ticket + 1
  pub same : q.ticket ≡ p.ticket → q.wait ≡ p.wait

abbrev pub AllMoved : List Process → List Process → Type 0
AllMoved [] [] = Unit {0}
AllMoved [] (q ∷ qs) = ⊥
AllMoved (p ∷ ps) [] = ⊥
AllMoved (p ∷ ps) (q ∷ qs) = IsMoved p q × AllMoved ps qs

pub given_moved : (ticket : ℕ) (p q : Process) → IsMoved p q → IsGivenBy ticket p → IsGivenBy ticket q
given_moved ticket p q m g = record {
  given = omega (arith, g.given, m.least);
  present = λ e. let s : q.ticket ≡ p.ticket = omega (arith, g.given, m.least) in
      subst HasTimer (sym (m.same s)) (g.present (omega (arith, g.given, m.least)));
}

-- ---- a list in two parts, of which the second begins with p

put_at : {T : Type 0} (f : Process → T) (done ps : List Process) (p q : Process) →
    slice_set (map f (done ++ p ∷ ps)) (length done) (f q) ≡ map f (done ++ q ∷ ps)
put_at f [] ps p q = refl
put_at f (d ∷ done) ps p q = ap (λ xs. f d ∷ xs) (put_at f done ps p q)

found_at : {T : Type 0} (f : Process → T) (done ps : List Process) (p : Process) → slice_get (map f (done ++ p ∷ ps)) (length done) ≡ Some (f p)
found_at f [] ps p = refl
found_at f (d ∷ done) ps p = found_at f done ps p

own_at : (done ps : List Process) (p : Process) → slice_get (done ++ p ∷ ps) (length done) ≡ Some p
own_at [] ps p = refl
own_at (d ∷ done) ps p = own_at done ps p

same_at : {T : Type 0} (f : Process → T) (done ps : List Process) (p q : Process) → f q ≡ f p → map f (done ++ q ∷ ps) ≡ map f (done ++ p ∷ ps)
same_at f [] ps p q e = ap (λ x. x ∷ map f ps) e
same_at f (d ∷ done) ps p q e = ap (λ xs. f d ∷ xs) (same_at f done ps p q e)

pub next_done : (done : List Process) (q : Process) → length (done ++ q ∷ []) ≡ length done + 1
next_done [] q = refl
next_done (d ∷ done) q = let h = next_done done q in omega arith

-- ---- what wakes a process

carried_by : {P : Type 0} (carried : P → Type 0) (kind : Kind P) (i : ℕ) (p : Process) (wake : Wake P) →
    IsCarried carried kind → wake_of kind i p ≡ Some wake → Carries carried wake
carried_by carried Begin i p wake k e = let q : BeginWake ≡ wake = cc in subst (λ v. Carries carried v) q tt
carried_by carried (Timer process ticket) i p wake k e =
    let c = chosen (nat_eq process i && nat_eq ticket p.ticket) TimerWake wake e in subst (λ v. Carries carried v) c.1 tt
carried_by carried (Message channel payload) i p wake k e =
    let c = chosen (waits_on p.wait channel) (MessageWake channel payload) wake e in subst (λ v. Carries carried v) c.1 k

at_process : (o : Option Process) (ticket : ℕ) → IfSome o (IsGivenBy ticket) → IfSome o (λ p. IsTimelyTicket p.wait p.ticket ticket)
at_process None ticket g = tt
at_process (Some p) ticket g = g.present

pub given_timely : {P : Type 0} (kind : Kind P) (ps : List Process) → IsGiven kind ps → IsTimely kind ps
given_timely Begin ps g = tt
given_timely (Message channel payload) ps g = tt
given_timely (Timer process ticket) ps g = at_process (slice_get ps process) ticket g

-- what wakes the process after these is what it waits for
admitted_next : {P : Type 0} (kind : Kind P) (done ps : List Process) (p : Process) (wake : Wake P) →
    IsGiven kind (done ++ p ∷ ps) → wake_of kind (length done) p ≡ Some wake → Admits p.wait wake
admitted_next kind done ps p wake given e = admitted kind (length done) p (done ++ p ∷ ps) wake (own_at done ps p) (given_timely kind (done ++ p ∷ ps) given) e

-- ---- what is written

abbrev pub is_timer : {P : Type 0} → Written P → Bool
is_timer (Channel channel delay payload) = false
is_timer (TimerWrite process delay ticket) = true

-- a write after which the entity has these processes
abbrev pub IsMade : {P : Type 0} → (P → Type 0) → List Process → Written P → Type 0
IsMade carried whole (Channel channel delay payload) = (delay ≤ LongestDelay) × carried payload
IsMade carried whole (TimerWrite process delay ticket) = (delay ≤ LongestDelay) × IfSome (slice_get whole process) (IsGivenBy ticket)

-- a write on one of these out-channels, or the end of a wait that takes some time
abbrev pub IsOnOwn : {P : Type 0} → List ℕ → Written P → Type 0
IsOnOwn outs (Channel channel delay payload) = Among channel outs
IsOnOwn outs (TimerWrite process delay ticket) = 0 < delay

own_owned : {P : Type 0} (carried : P → Type 0) (outs : List ℕ) (ws : List (Written P)) → Each (IsOwnWrite carried outs) ws → Each (IsOnOwn outs) ws
own_owned carried outs [] e = tt
own_owned carried outs (Channel channel delay payload ∷ ws) e = (e.0.0, own_owned carried outs ws e.1)
own_owned carried outs (TimerWrite process delay ticket ∷ ws) e = absurd e.0

timer_owned : (P : Type 0) (outs : List ℕ) (i ticket : ℕ) (wait : Wait) → Each (IsOnOwn {P = P} outs) (timer_write i ticket (timer_delay wait))
timer_owned P outs i ticket (On channels) = tt
timer_owned P outs i ticket Forever = tt
timer_owned P outs i ticket (For ticks) = (omega arith, tt)
timer_owned P outs i ticket (OnFor channels ticks) = (omega arith, tt)

own_none : {P : Type 0} (carried : P → Type 0) (outs : List ℕ) (ws : List (Written P)) → Each (IsOwnWrite carried outs) ws → count_by is_timer ws ≡ 0
own_none carried outs [] e = refl
own_none carried outs (Channel channel delay payload ∷ ws) e = let h = own_none carried outs ws e.1 in omega arith
own_none carried outs (TimerWrite process delay ticket ∷ ws) e = absurd e.0

own_made : {P : Type 0} (carried : P → Type 0) (outs : List ℕ) (whole : List Process) (ws : List (Written P)) → Each (IsOwnWrite carried outs) ws → Each (IsMade carried whole) ws
own_made carried outs whole [] e = tt
own_made carried outs whole (Channel channel delay payload ∷ ws) e = ((e.0.1, e.0.2), own_made carried outs whole ws e.1)
own_made carried outs whole (TimerWrite process delay ticket ∷ ws) e = absurd e.0

timer_made : {P : Type 0} (carried : P → Type 0) (ins : List ℕ) (whole : List Process) (i ticket : ℕ) (wait : Wait) → IsOwnWait ins wait →
    (HasTimer wait → IfSome (slice_get whole i) (IsGivenBy ticket)) → Each (IsMade carried whole) (timer_write i ticket (timer_delay wait))
timer_made carried ins whole i ticket (On channels) own f = tt
timer_made carried ins whole i ticket Forever own f = tt
timer_made carried ins whole i ticket (For ticks) own f = ((omega arith, f refl), tt)
timer_made carried ins whole i ticket (OnFor channels ticks) own f = ((omega (arith, own.1), f refl), tt)

timer_count : (P : Type 0) (i ticket : ℕ) (wait : Wait) (timed : Bool) → (timed ≡ false → HasTimer wait → ⊥) →
    count_by (is_timer {P = P}) (timer_write i ticket (timer_delay wait)) ≤ cond timed 1 0
timer_count P i ticket (On channels) timed f = omega arith
timer_count P i ticket Forever timed f = omega arith
timer_count P i ticket (For ticks) true f = omega arith
timer_count P i ticket (For ticks) false f = absurd (f refl refl)
timer_count P i ticket (OnFor channels ticks) true f = omega arith
timer_count P i ticket (OnFor channels ticks) false f = absurd (f refl refl)

count_two : {T U : Type 0} (f : T → Bool) (xs ys : List T) (g : U → Bool) (p : U) (ps : List U) → count_by f xs ≤ cond (g p) 1 0 → count_by f ys ≤ count_by g ps →
    count_by f (xs ++ ys) ≤ count_by g (p ∷ ps)
count_two f xs ys g p ps a b = rw (count_append f xs ys, count_cons g p ps) (omega arith)

named_own : (ins : List ℕ) (wait : Wait) → IsOwnWait ins wait → Each (λ c. Among c ins) (channels_named wait)
named_own ins (On channels) own = own
named_own ins (For ticks) own = tt
named_own ins (OnFor channels ticks) own = own.0
named_own ins Forever own = tt

snoc : (done : List Process) (q : Process) (xs : List Process) → (done ++ q ∷ []) ++ xs ≡ done ++ q ∷ xs
snoc done q xs = append_assoc done (q ∷ []) xs

-- what wakes each of these processes, of which the first has the number i, is what it waits for
abbrev pub AdmitsFrom : {P : Type 0} → Kind P → ℕ → List Process → Type 0
AdmitsFrom kind i [] = Unit {0}
AdmitsFrom {P} kind i (p ∷ ps) = ((wake : Wake P) → wake_of kind i p ≡ Some wake → Admits p.wait wake) × AdmitsFrom kind (i + 1) ps

pub admits_from : {P : Type 0} (kind : Kind P) (done ps : List Process) (i : ℕ) → i ≡ length done → IsGiven kind (done ++ ps) → AdmitsFrom kind i ps
admits_from kind done [] i e g = tt
admits_from kind done (p ∷ ps) i e g = (
  (λ wake h. admitted_next kind done ps p wake g (rw (← e) h)),
  admits_from kind (done ++ p ∷ []) ps (i + 1) (omega (arith, e, next_done done p)) (subst (λ whole. IsGiven kind whole) (sym (snoc done p ps)) g),
)

module _ {S P : Type 0} (valid : Validity S) (carried : P → Type 0) (r : Reaction S P) (law : KeepsValid valid carried r) (now : ℕ) (kind : Kind P) (ins outs : List ℕ)
    (in_time : now ≤ LatestTime) (carries : IsCarried carried kind) where
  -- after the process p, which has the number of the ones before it, was woken or not
  pub record Turn (done ps : List Process) (p : Process) (a : Reacted S P) : Type 0 where
    pub stays : valid a.state ins outs (map is_timed (done ++ a.process ∷ ps)) (map wait_of (done ++ a.process ∷ ps))
    pub moved : IsMoved p a.process
    pub made : (whole : List Process) → slice_get whole (length done) ≡ Some a.process → Each (IsMade carried whole) a.writes
    pub timers : count_by is_timer a.writes ≤ cond (is_timed p) 1 0
    pub owned : Each (IsOnOwn outs) a.writes
    pub waits : IsWaiting ins p → IsWaiting ins a.process

  turn_by : (done ps : List Process) (p : Process) (s : S) (w : Option (Wake P)) → valid s ins outs (map is_timed (done ++ p ∷ ps)) (map wait_of (done ++ p ∷ ps)) →
      ((wake : Wake P) → w ≡ Some wake → Admits p.wait wake) → ((wake : Wake P) → w ≡ Some wake → Carries carried wake) →
      Turn done ps p (reacted r now (length done) s p w)
  turn_by done ps p s None v a k = record {
    stays = v;
    moved = record { timer = refl; least = omega arith; most = omega arith; same = λ e. refl };
    made = λ whole e. tt;
    timers = omega arith;
    owned = tt;
    waits = λ h. h;
  }
  turn_by done ps p s (Some wake) v a k =
      let o = r s (length done) now wake in
      let q : Process = record { wait = o.wait; ticket = p.ticket + 1; timer = p.timer } in
      let keeps = law s (length done) now wake (record {
        ins = ins;
        outs = outs;
        timed = map is_timed (done ++ p ∷ ps);
        waits = map wait_of (done ++ p ∷ ps);
        wait = p.wait;
        is_valid = v;
        waiting = found_at wait_of done ps p;
        admits = a wake refl;
        carries = k wake refl;
        time = in_time;
      }) in
      record {
        stays = rw (same_at is_timed done ps p q refl, ← put_at wait_of done ps p q) keeps.stays;
        moved = record { timer = refl; least = omega arith; most = omega arith; same = λ e. absurd (omega arith) };
        made = λ whole e. each_append (IsMade carried whole) o.writes (timer_write (length done) (p.ticket + 1) (timer_delay o.wait))
            (own_made carried outs whole o.writes keeps.own_writes)
            (timer_made carried ins whole (length done) (p.ticket + 1) o.wait keeps.own_wait (λ t. rw e (record { given = omega arith; present = λ f. t })));
        timers = omega (
          arith,
          count_append is_timer o.writes (timer_write (length done) (p.ticket + 1) (timer_delay o.wait)),
          own_none carried outs o.writes keeps.own_writes,
          timer_count P (length done) (p.ticket + 1) o.wait (is_timed p) (λ f t. keeps.untimed (rw (found_at is_timed done ps p, f) refl) t),
        );
        owned = each_append (IsOnOwn outs) o.writes (timer_write (length done) (p.ticket + 1) (timer_delay o.wait))
            (own_owned carried outs o.writes keeps.own_writes) (timer_owned P outs (length done) (p.ticket + 1) o.wait);
        waits = λ h. record {
          waits = named_own ins o.wait keeps.own_wait;
          untimed = λ none t. keeps.untimed (found_at is_timed done ps p ∙ ap (λ (c : Option ℕ). Some (is_some c)) none) t;
        };
      }

  pub record Outcomes (done ps : List Process) (d : Delivered S P) : Type 0 where
    pub stays : valid d.state ins outs (map is_timed (done ++ d.processes)) (map wait_of (done ++ d.processes))
    pub moved : AllMoved ps d.processes
    pub made : Each (IsMade carried (done ++ d.processes)) d.writes
    pub timers : count_by is_timer d.writes ≤ count_by is_timed ps
    pub owned : Each (IsOnOwn outs) d.writes
    pub waits : Each (IsWaiting ins) ps → Each (IsWaiting ins) d.processes

  pub outcomes : (done ps : List Process) (i : ℕ) (s : S) → i ≡ length done → valid s ins outs (map is_timed (done ++ ps)) (map wait_of (done ++ ps)) →
      AdmitsFrom kind i ps → Outcomes done ps (delivered r now kind i s ps)
  outcomes done [] i s e v a = record { stays = v; moved = tt; made = tt; timers = omega arith; owned = tt; waits = λ h. tt }
  outcomes done (p ∷ ps) i s e v a =
      let first = reacted r now i s p (wake_of kind i p) in
      let turn : Turn done ps p first = subst (λ j. Turn done ps p (reacted r now j s p (wake_of kind i p))) (sym e)
      (turn_by done ps p s (wake_of kind i p) v a.0 (λ wake h. carried_by carried kind i p wake carries h)) in
      let q = first.process in
      let rest = outcomes (done ++ q ∷ []) ps (i + 1) first.state (omega (arith, e, next_done done q))
      (subst (λ whole. valid first.state ins outs (map is_timed whole) (map wait_of whole)) (sym (snoc done q ps)) turn.stays) a.1 in
      let later = delivered r now kind (i + 1) first.state ps in
      record {
        stays = subst (λ whole. valid later.state ins outs (map is_timed whole) (map wait_of whole)) (snoc done q later.processes) rest.stays;
        moved = (turn.moved, rest.moved);
        made = each_append (IsMade carried (done ++ q ∷ later.processes)) first.writes later.writes
            (turn.made (done ++ q ∷ later.processes) (own_at done later.processes q))
            (subst (λ whole. Each (IsMade carried whole) later.writes) (snoc done q later.processes) rest.made);
        timers = count_two (is_timer {P = P}) first.writes later.writes is_timed p ps turn.timers rest.timers;
        owned = each_append (IsOnOwn outs) first.writes later.writes turn.owned rest.owned;
        waits = λ h. (turn.waits h.0, rest.waits h.1);
      }
