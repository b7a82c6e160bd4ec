-- What has become of the values after each step, for the parts of a run by which they are held.
use Rattle.std.proofs.Common.{ℕ, suc, ◌≡◌, ◌+◌, ◌-◌, ◌<◌, ◌⊎◌, Bool, true, false, cond, not, nat_lt, nat_le, refl, sym, ap, ◌∙◌, subst, inl, inr, arith, lt-ltb, le-ltb, List, ◌∷◌, map, length, Option, Some, None, slice_get, Result, Ok, IfOk}
use Rattle.std.proofs.lemmas.Option.{slice_get_within}
use Rattle.std.specs.List.{All, Contains}
use Rattle.event_order.specs.Pending.{Among}
use Rattle.sim_base.specs.declared.outside.Memory.{Memory}
use Rattle.event_order.specs.declared.key.Key.{Key}
use Rattle.ssf_model.specs.declared.event.Event.{Event}
use Rattle.ssf_model.specs.Reaction.{Reaction, Validity, KeepsValid}
use Rattle.ssf_model.specs.Deliver.{IsModest}
use Rattle.turn_table.specs.Changes.{put}
use Rattle.turn_table.proofs.Lookups.{alike}
use Rattle.plan_shares.specs.declared.crosses.CrossEnd.{CrossEnd}
use Rattle.timeline_parts.specs.Parts.{channel_of}
use Rattle.timeline_parts.specs.Tables.{numbers_of}
use Rattle.timeline_parts.specs.Settling.{AreNew}
use Rattle.timeline.specs.View.{TimelineOf}
use Rattle.timeline.specs.declared.answers.Holder.{Holder}
use Rattle.timeline.specs.declared.answers.Ran.{Ran}
use Rattle.timeline.specs.declared.answers.Ran.TheVariants.{Ran as WasRun, Held as WasHeld, Idle, Over, Spent}
use Rattle.timeline.specs.Holding.{bound_in, holder_in, is_done, is_free, taken_of, ahead_in, IsInOrder}
use Rattle.timeline.specs.Executing.{refusal, MayRun, IsRun, spent_of}
use Rattle.timeline.specs.Moving.{can_enter, entered_at}
use Rattle.timeline.specs.Lines.{posted_of}
use Rattle.timeline.specs.Sound.{IsExecuted}
use Rattle.appointments.specs.Mails.{Mails, mail_at, posted_of as posted_to}
use Rattle.barrier_window.specs.BarrierFields.{BarrierFields}
use Rattle.barrier_window.specs.declared.barrier.Crossing.{Crossing}
use Rattle.barrier_window.specs.declared.barrier.Crossing.TheVariants.{Crossed, Waiting, Ended}
use Rattle.barrier_window.specs.Crossings.{with_report, crossing, after_crossing}
use Rattle.sync_steps.specs.Between.{HasItsEnds, IsPostedTo, IsMailOf, IsTakenFrom, events_on, can_report, counts_in}
use Rattle.sync_steps.proofs.Allowed.{crosses_have_ends}
use Rattle.core_rules.specs.Cores.{CoreView, IsCoreOfRun}
use Rattle.share_rules.specs.Places.{posted_word, taken_word}
use Rattle.share_rules.specs.Held.{IsMailNoted, IsTimelineHeld, IsBarrierHeld, ArePaired, AreMet}
use Rattle.share_rules.proofs.Holding.{put_here, put_else}
use Rattle.share_rules.proofs.Taking.{may_execute, out_there, mail_contains, mail_own, events_new, reports_many, outs_known, taken_held, taken_count, taken_mail_held, taken_joined, taken_rises, taken_noted}
use Rattle.share_rules.proofs.Moving.{executed_held, executed_noted, spent_held, spent_noted, posted_held, posted_mail_held, posted_joined, posted_rises, posted_noted, posted_mail_noted, entered_held}
use Rattle.share_rules.proofs.Barriers.{reported_held, crossed_held, round_rises, crossed_passed, written_round}
use Rattle.worker_hands.specs.declared.hand.Answer.TheVariants.{Executed, Crossed as DidCross}
use Rattle.worker_hands.specs.Asked.{is_run, is_crossed, IsUncrossed}
use Rattle.worker_hands.specs.Stepping.{HasExecuted, HasTaken, HasPosted, HasEntered, HasReported, HasCrossed, IsSomeTimeline, IsSomePair, IsSomePost, IsSomeMeeting, IfExecuted, IfTaken, IfPosted, IfEntered, IfReported, IfCrossed}

-- ---- for the parts of one run

module _ {B S P : Type 0} (valid : Validity S) (carried : P → Type 0) (r : Reaction S P) (law : KeepsValid valid carried r) (modest : IsModest valid carried r) (key : CoreView B S P) (run : IsCoreOfRun valid carried r key) where
  -- ---- execute

  has_executed : (m : ℕ → ℕ) (i : ℕ) (t after : TimelineOf B S P) → IsTimelineHeld valid carried r key m i t → IsExecuted r t after → HasExecuted valid carried r key m i t after
  has_executed m i t after held q = record {
    held = executed_held valid carried r law modest key i t after q run m held;
    more = (let one : after.executed ≡ t.executed + 1 = ap (λ (z : TimelineOf B S P). z.executed) q.run.is in omega (arith, one));
    noted = λ n noted. executed_noted r key n i t after q noted;
  }

  has_spent : (m : ℕ → ℕ) (i : ℕ) (t after : TimelineOf B S P) → IsTimelineHeld valid carried r key m i t → refusal t ≡ None → after ≡ spent_of t after → IsInOrder after → HasExecuted valid carried r key m i t after
  has_spent m i t after held free is order = record {
    held = spent_held valid carried r law modest key m i t after held free is order;
    more = (let same : after.executed ≡ t.executed = ap (λ (z : TimelineOf B S P). z.executed) is in omega (arith, same));
    noted = λ n noted. spent_noted r key n i t after is noted;
  }

  has_not_executed : (m : ℕ → ℕ) (i : ℕ) (t : TimelineOf B S P) → IsTimelineHeld valid carried r key m i t → HasExecuted valid carried r key m i t t
  has_not_executed m i t held = record { held = held; more = omega arith; noted = λ n noted. noted }

  has_executed_then : (m : ℕ → ℕ) (i : ℕ) (t mid after : TimelineOf B S P) → HasExecuted valid carried r key m i t mid → HasExecuted valid carried r key m i mid after → HasExecuted valid carried r key m i t after
  has_executed_then m i t mid after p q = record {
    held = q.held;
    more = (let one = p.more in let two = q.more in omega (arith, one, two));
    noted = λ n noted. q.noted n (p.noted n noted);
  }

  -- ---- take

  has_taken : (n m : ℕ → ℕ) (i : ℕ) (t after : TimelineOf B S P) (x x_after : Mails P) → ArePaired valid carried r key n m i i t x → IsTakenFrom x x_after t after
      → HasTaken valid carried r key n m i t after x x_after
  has_taken n m i t after x x_after p q = record {
    held = taken_held valid carried r law modest key run n m i t x p.timeline p.mail p.noted p.mail_noted after x_after q;
    executed = taken_count valid carried r law modest key run n m i t x p.timeline p.mail p.noted p.mail_noted after x_after q;
    mail = taken_mail_held valid carried r law modest key run n m i t x p.timeline p.mail p.noted p.mail_noted after x_after q;
    joined = taken_joined valid carried r law modest key run n m i t x p.timeline p.mail p.noted p.mail_noted after x_after q;
    rises = taken_rises valid carried r law modest key run n m i t x p.timeline p.mail p.noted p.mail_noted after x_after q;
    noted = taken_noted valid carried r law modest key run n m i t x p.timeline p.mail p.noted p.mail_noted after x_after q;
  }

  has_not_taken : (n m : ℕ → ℕ) (i : ℕ) (t : TimelineOf B S P) (x : Mails P) → ArePaired valid carried r key n m i i t x → HasTaken valid carried r key n m i t t x x
  has_not_taken n m i t x p = record {
    held = p.timeline;
    executed = refl;
    mail = p.mail;
    joined = joined;
    rises = λ k end found to. omega arith;
    noted = λ later posted taken. (
      record { posted = λ k end found from. posted k (slice_get_within key.ends k end found) ∙ p.noted.posted k end found from; taken = taken },
      record {
        posted = λ k end found to. posted k (slice_get_within key.ends k end found) ∙ p.mail_noted.posted k end found to;
        taken = λ k end found to. taken k end found to ∙ ap (λ c. suc c) (sym (joined k end found to));
      },
    );
  }
    where
      joined : (k : ℕ) (end : CrossEnd) → slice_get key.ends k ≡ Some end → end.receiver ≡ i → (mail_at x end.channel).taken ≡ taken_of t.in_ends end.channel
      joined k end found to = (let one = p.noted.taken k end found to in let two = p.mail_noted.taken k end found to in omega (arith, one, two))

  -- notes that have the numbers afterwards
  abbrev taken_at : TimelineOf B S P → Option CrossEnd → ℕ
  taken_at after None = 0
  taken_at after (Some end) = suc (taken_of after.in_ends end.channel)

  abbrev later_notes : (ℕ → ℕ) → TimelineOf B S P → ℕ → ℕ
  later_notes n after w = cond (nat_lt w (length key.ends)) (n w) (taken_at after (slice_get key.ends (w - length key.ends)))

  posted_later : (n : ℕ → ℕ) (after : TimelineOf B S P) (k : ℕ) → k < length key.ends → later_notes n after (posted_word key k) ≡ n (posted_word key k)
  posted_later n after k known = (let t : nat_lt k (length key.ends) ≡ true = lt-ltb k (length key.ends) known in rw t refl)

  taken_later : (n : ℕ → ℕ) (after : TimelineOf B S P) (k : ℕ) (end : CrossEnd) → slice_get key.ends k ≡ Some end → later_notes n after (taken_word key k) ≡ suc (taken_of after.in_ends end.channel)
  taken_later n after k end found =
      let f : nat_lt (length key.ends + k) (length key.ends) ≡ false = le-ltb (length key.ends + k) (length key.ends) (omega arith) in
      let at : (length key.ends + k) - length key.ends ≡ k = omega arith in
      rw (f, at, found) refl

  paired_later : (n m : ℕ → ℕ) (i : ℕ) (t after : TimelineOf B S P) (x x_after : Mails P) → HasTaken valid carried r key n m i t after x x_after
      → ArePaired valid carried r key (later_notes n after) m i i after x_after
  paired_later n m i t after x x_after q =
      let noted = q.noted (later_notes n after) (posted_later n after) (λ k end found to. taken_later n after k end found) in
      record { timeline = q.held; noted = noted.0; mail = q.mail; mail_noted = noted.1 }

  -- ---- post

  module _ (n m : ℕ → ℕ) (k : ℕ) (end : CrossEnd) (found : slice_get key.ends k ≡ Some end) (t : TimelineOf B S P) (x : Mails P) (p : ArePaired valid carried r key n m end.sender end.receiver t x) where
    joined_at : posted_to (mail_at x end.channel) ≡ posted_of t.out_ends end.channel
    joined_at = (let one = p.noted.posted k end found refl in let two = p.mail_noted.posted k end found refl in omega (arith, one, two))

    has_posted : (after : TimelineOf B S P) (x_after : Mails P) → IsPostedTo end.channel t after x x_after → HasPosted valid carried r key n m k end t after x x_after
    has_posted after x_after q = record {
      held = (posted_held valid carried r law modest key k end t after x x_after found q m p.timeline).0;
      executed = (posted_held valid carried r law modest key k end t after x x_after found q m p.timeline).1;
      mail = posted_mail_held valid carried r law modest key k end t after x x_after found q n m p.timeline p.mail p.noted p.mail_noted;
      joined = joined;
      rises = posted_rises valid carried r law modest key k end t after x x_after found q run m p.timeline;
      noted = posted_noted valid carried r law modest key k end t after x x_after found q run n p.noted;
      mail_noted = subst (λ c. IsMailNoted key (put n (posted_word key k) (suc c)) end.receiver x_after) joined (posted_mail_noted valid carried r law modest key k end t after x x_after found q run n p.mail_noted);
    }
      where
        joined : posted_to (mail_at x_after end.channel) ≡ posted_of after.out_ends end.channel
        joined = posted_joined valid carried r law modest key k end t after x x_after found q run m p.timeline n p.noted p.mail_noted

    -- the same number noted again changes nothing
    same_note : (w : ℕ) → put n (posted_word key k) (suc (posted_of t.out_ends end.channel)) w ≡ n w
    same_note w = alike w k
        (λ same. put_here n k (suc (posted_of t.out_ends end.channel)) w same ∙ (sym (p.noted.posted k end found refl) ∙ ap n (sym same)))
        (λ other. put_else n k (suc (posted_of t.out_ends end.channel)) w other)

    has_not_posted : HasPosted valid carried r key n m k end t t x x
    has_not_posted = record {
      held = p.timeline;
      executed = refl;
      mail = p.mail;
      joined = joined_at;
      rises = omega arith;
      noted = record {
        posted = λ j e there from. same_note (posted_word key j) ∙ p.noted.posted j e there from;
        taken = λ j e there to. same_note (taken_word key j) ∙ p.noted.taken j e there to;
      };
      mail_noted = record {
        posted = λ j e there to. same_note (posted_word key j) ∙ p.mail_noted.posted j e there to;
        taken = λ j e there to. same_note (taken_word key j) ∙ p.mail_noted.taken j e there to;
      };
    }

  -- ---- enter

  has_entered : (m : ℕ → ℕ) (i : ℕ) (t : TimelineOf B S P) (bar : BarrierFields) → AreMet valid carried r key m i t bar → can_enter t bar.window bar.counts ≡ true
      → HasEntered valid carried r key m i t (entered_at bar.window t) bar
  has_entered m i t bar q may = record {
    met = record {
      timeline = entered_held valid carried r law modest key m i t bar q.timeline q.barrier q.passed q.round may;
      barrier = q.barrier;
      passed = q.passed;
      round = q.round;
      done = q.done;
    };
    executed = refl;
    noted = λ n noted. record { posted = noted.posted; taken = noted.taken };
  }

  has_not_entered : (m : ℕ → ℕ) (i : ℕ) (t : TimelineOf B S P) (bar : BarrierFields) → AreMet valid carried r key m i t bar → HasEntered valid carried r key m i t t bar
  has_not_entered m i t bar q = record { met = q; executed = refl; noted = λ n noted. noted }

  -- ---- report

  has_reported : (m : ℕ → ℕ) (i : ℕ) (t : TimelineOf B S P) (bar : BarrierFields) → AreMet valid carried r key m i t bar → can_report t i bar ≡ true
      → HasReported valid carried r key m i t bar (with_report i (ahead_in t) (counts_in t) bar)
  has_reported m i t bar q may = record {
    met = record {
      timeline = q.timeline;
      barrier = reported_held valid carried r law modest key m i t bar q.timeline q.barrier q.done may;
      passed = q.passed;
      round = q.round;
      done = q.done;
    };
    round = refl;
  }

  has_not_reported : (m : ℕ → ℕ) (i : ℕ) (t : TimelineOf B S P) (bar : BarrierFields) → AreMet valid carried r key m i t bar → HasReported valid carried r key m i t bar bar
  has_not_reported m i t bar q = record { met = q; round = refl }

  -- ---- cross

  has_crossed : (m : ℕ → ℕ) (crossed : Bool) (bar : BarrierFields) → IsBarrierHeld valid carried r key m bar → (crossed ≡ false → (after_crossing (crossing bar) bar).round ≡ bar.round)
      → HasCrossed valid carried r key m crossed bar (after_crossing (crossing bar) bar)
  has_crossed m crossed bar held same = record {
    held = crossed_held valid carried r key m bar held run;
    round = round_rises valid carried r key m bar held run;
    same = same;
    kept = λ n noted. written_round valid carried r key m bar held n noted;
    passed = λ i done known low before. crossed_passed valid carried r key m bar held i done known low before;
  }

-- ---- what the answer to Cross says

pub not_crossed : (x : Crossing) → ((window : ℕ) → x ≡ Crossed window → ⊥) → is_crossed x ≡ false
not_crossed (Crossed window) none = absurd (none window refl)
not_crossed (Waiting i) none = refl
not_crossed Ended none = refl

pub uncrossed : (x : Crossing) → ((window : ℕ) → x ≡ Crossed window → ⊥) → IsUncrossed (Some (DidCross x))
uncrossed (Crossed window) none = absurd (none window refl)
uncrossed (Waiting i) none = tt
uncrossed Ended none = tt

round_same : (b : BarrierFields) (x : Crossing) → ((window : ℕ) → x ≡ Crossed window → ⊥) → (after_crossing x b).round ≡ b.round
round_same b (Crossed window) none = absurd (none window refl)
round_same b (Waiting i) none = refl
round_same b Ended none = refl

-- ---- what the answer to Execute says

one_refusal : (a b c d : Bool) (bound : ℕ) (holder : Holder) (key : Key)
    → cond a (Some Spent) (cond b (Some Idle) (cond c (Some (WasHeld bound holder)) (cond d (Some Over) None))) ≡ Some (WasRun key) → ⊥
one_refusal true b c d bound holder key is = (cc)
one_refusal false true c d bound holder key is = (cc)
one_refusal false false true d bound holder key is = (cc)
one_refusal false false false true bound holder key is = (cc)
one_refusal false false false false bound holder key is = (cc)

some_or_none : {A : Type 0} (o : Option A) → (o ≡ None) ⊎ ((a : A) × (o ≡ Some a))
some_or_none None = inl refl
some_or_none (Some a) = inr (a, refl)

pub other_run : (told : Ran) → ((key : Key) → told ≡ WasRun key → ⊥) → is_run (Executed told) ≡ false
other_run (WasRun key) none = absurd (none key refl)
other_run (WasHeld bound holder) none = refl
other_run Idle none = refl
other_run Over none = refl
other_run Spent none = refl

module _ {B S P : Type 0} (r : Reaction S P) (t after : TimelineOf B S P) (result : Result Ran Memory)
    (refused : (told : Ran) → refusal t ≡ Some told → (result ≡ Ok told) × (after ≡ t)) (ran : refusal t ≡ None → IfOk result (λ told. (run : IsRun r t after) × (told ≡ WasRun run.event.key))) where
  pub ran_executed : (key : Key) → result ≡ Ok (WasRun key) → IsExecuted r t after
  ran_executed key is = elim (some_or_none (refusal t)) [
    | inl none ↦ record { free = none; run = (subst (λ (z : Result Ran Memory). IfOk z (λ told. (run : IsRun r t after) × (told ≡ WasRun run.event.key))) is (ran none)).0 }
    | inr some ↦ (
        let same : some.0 ≡ WasRun key = (let told = (refused some.0 some.1).0 in cc) in
        let why : refusal t ≡ Some (WasRun key) = some.1 ∙ ap (λ (a : Ran). Some a) same in
        absurd (one_refusal t.spent (is_done t) (not (is_free (bound_in t) t.pending)) (nat_le t.budget t.executed) (bound_in t) (holder_in t) key why))
  ]

  pub ran_nothing : (told : Ran) → result ≡ Ok told → is_run (Executed told) ≡ false → after ≡ t
  ran_nothing told is f = elim (some_or_none (refusal t)) [
    | inl none ↦ (
        let one = subst (λ (z : Result Ran Memory). IfOk z (λ told. (run : IsRun r t after) × (told ≡ WasRun run.event.key))) is (ran none) in
        let wrong : true ≡ false = sym (ap (λ (a : Ran). is_run (Executed a)) one.1) ∙ f in
        absurd (cc))
    | inr some ↦ (refused some.0 some.1).1
  ]

  -- what it answers it refuses for, afterwards too
  pub ran_refusal : (told : Ran) → result ≡ Ok told → is_run (Executed told) ≡ false → refusal after ≡ Some told
  ran_refusal told is f = elim (some_or_none (refusal t)) [
    | inl none ↦ (
        let one = subst (λ (z : Result Ran Memory). IfOk z (λ told. (run : IsRun r t after) × (told ≡ WasRun run.event.key))) is (ran none) in
        let wrong : true ≡ false = sym (ap (λ (a : Ran). is_run (Executed a)) one.1) ∙ f in
        absurd (cc))
    | inr some ↦ (
        let both = refused some.0 some.1 in
        let answered : result ≡ Ok some.0 = both.0 in
        let same : some.0 ≡ told = cc in
        ap (λ (z : TimelineOf B S P). refusal z) both.1 ∙ (some.1 ∙ ap (λ (a : Ran). Some a) same))
  ]

-- ---- for the parts of each run

module _ {B S P : Type 0} (valid : B → Validity S) (carried : B → P → Type 0) (r : B → Reaction S P) (law : (b : B) → KeepsValid (valid b) (carried b) (r b)) (modest : (b : B) → IsModest (valid b) (carried b) (r b)) where
  -- ---- execute

  pub if_executed : (b : B) (i : ℕ) (t after : TimelineOf B S P) → IsExecuted (r b) t after → IfExecuted valid carried r b i t after
  if_executed b i t after q = λ key run m held. has_executed (valid b) (carried b) (r b) (law b) (modest b) key run m i t after held q

  pub if_spent : (b : B) (i : ℕ) (t after : TimelineOf B S P) → refusal t ≡ None → after ≡ spent_of t after → IsInOrder after → IfExecuted valid carried r b i t after
  if_spent b i t after free is order = λ key run m held. has_spent (valid b) (carried b) (r b) (law b) (modest b) key run m i t after held free is order

  pub if_not_executed : (b : B) (i : ℕ) (t after : TimelineOf B S P) → after ≡ t → IfExecuted valid carried r b i t after
  if_not_executed b i t after same = λ key run m held.
      subst (λ (z : TimelineOf B S P). HasExecuted (valid b) (carried b) (r b) key m i t z) (sym same) (has_not_executed (valid b) (carried b) (r b) (law b) (modest b) key run m i t held)

  pub if_executed_then : (b : B) (i : ℕ) (t mid after : TimelineOf B S P) → IfExecuted valid carried r b i t mid → IfExecuted valid carried r b i mid after → IfExecuted valid carried r b i t after
  if_executed_then b i t mid after p q = λ key run m held.
      (let first = p key run m held in has_executed_then (valid b) (carried b) (r b) (law b) (modest b) key run m i t mid after first (q key run m first.held))

  pub some_may_execute : (b : B) (i : ℕ) (t mid : TimelineOf B S P) → IsSomeTimeline valid carried r b i t → IfExecuted valid carried r b i t mid
      → (event : Event P) (rest : List (Event P)) → mid.pending ≡ event ∷ rest → refusal mid ≡ None → MayRun (valid b) (r b) mid event rest
  some_may_execute b i t mid q p = may_execute (valid b) (carried b) (r b) (law b) (modest b) q.key q.run q.m i mid (p q.key q.run q.m q.held).held

  -- ---- take

  pub if_taken : (i : ℕ) (t after : TimelineOf B S P) (x x_after : Mails P) → IsTakenFrom x x_after t after → IfTaken valid carried r i t after x x_after
  if_taken i t after x x_after q = λ b key run n m p. has_taken (valid b) (carried b) (r b) (law b) (modest b) key run n m i t after x x_after p q

  pub if_taken_kept : (i : ℕ) (t mid after : TimelineOf B S P) (x mid_x x_after : Mails P) → IsTakenFrom x mid_x t mid → after ≡ mid → x_after ≡ mid_x → IfTaken valid carried r i t after x x_after
  if_taken_kept i t mid after x mid_x x_after q same mail = if_taken i t after x x_after
      (subst (λ (z : TimelineOf B S P). IsTakenFrom x x_after t z) (sym same) (subst (λ (z : Mails P). IsTakenFrom x z t mid) (sym mail) q))

  pub if_not_taken : (i : ℕ) (t after : TimelineOf B S P) (x x_after : Mails P) → after ≡ t → x_after ≡ x → IfTaken valid carried r i t after x x_after
  if_not_taken i t after x x_after same mail = λ b key run n m p.
      subst (λ (z : TimelineOf B S P). HasTaken (valid b) (carried b) (r b) key n m i t z x x_after) (sym same)
      (subst (λ (z : Mails P). HasTaken (valid b) (carried b) (r b) key n m i t t x z) (sym mail) (has_not_taken (valid b) (carried b) (r b) (law b) (modest b) key run n m i t x p))

  pub pair_taken : (i : ℕ) (t after : TimelineOf B S P) (x x_after : Mails P) → IsSomePair valid carried r i i t x → IfTaken valid carried r i t after x x_after → IsSomePair valid carried r i i after x_after
  pair_taken i t after x x_after q p =
      let b = q.behaviour in
      record {
        behaviour = b;
        key = q.key;
        run = q.run;
        n = later_notes (valid b) (carried b) (r b) (law b) (modest b) q.key q.run q.n after;
        m = q.m;
        paired = paired_later (valid b) (carried b) (r b) (law b) (modest b) q.key q.run q.n q.m i t after x x_after (p b q.key q.run q.n q.m q.paired);
      }

  pub pair_own : (i : ℕ) (t : TimelineOf B S P) (x : Mails P) → IsSomePair valid carried r i i t x → IsMailOf x t
  pair_own i t x q =
      let b = q.behaviour in
      mail_own (valid b) (carried b) (r b) (law b) (modest b) q.key q.run q.n q.m i t x q.paired.timeline q.paired.mail q.paired.noted q.paired.mail_noted

  pub pair_new : (i : ℕ) (t : TimelineOf B S P) (x : Mails P) → IsSomePair valid carried r i i t x → AreNew (events_on x x.channels) t.pending
  pair_new i t x q =
      let b = q.behaviour in
      events_new (valid b) (carried b) (r b) (law b) (modest b) q.key q.run q.n q.m i t x q.paired.timeline q.paired.mail q.paired.noted q.paired.mail_noted

  -- ---- post

  pub if_posted : (i c : ℕ) (t after : TimelineOf B S P) (x x_after : Mails P) → IsPostedTo c t after x x_after → IfPosted valid carried r i c t after x x_after
  if_posted i c t after x x_after q = λ b key run n m k end found sender channel p.
      has_posted (valid b) (carried b) (r b) (law b) (modest b) key run n m k end found t x
      (subst (λ j. ArePaired (valid b) (carried b) (r b) key n m j end.receiver t x) (sym sender) p) after x_after (subst (λ d. IsPostedTo d t after x x_after) (sym channel) q)

  pub if_posted_kept : (i c : ℕ) (t mid after : TimelineOf B S P) (x mid_x x_after : Mails P) → IsPostedTo c t mid x mid_x → after ≡ mid → x_after ≡ mid_x → IfPosted valid carried r i c t after x x_after
  if_posted_kept i c t mid after x mid_x x_after q same mail = if_posted i c t after x x_after
      (subst (λ (z : TimelineOf B S P). IsPostedTo c t z x x_after) (sym same) (subst (λ (z : Mails P). IsPostedTo c t mid x z) (sym mail) q))

  pub if_not_posted : (i c : ℕ) (t after : TimelineOf B S P) (x x_after : Mails P) → after ≡ t → x_after ≡ x → IfPosted valid carried r i c t after x x_after
  if_not_posted i c t after x x_after same mail = λ b key run n m k end found sender channel p.
      subst (λ (z : TimelineOf B S P). HasPosted (valid b) (carried b) (r b) key n m k end t z x x_after) (sym same)
      (subst (λ (z : Mails P). HasPosted (valid b) (carried b) (r b) key n m k end t t x z) (sym mail)
      (has_not_posted (valid b) (carried b) (r b) (law b) (modest b) key run n m k end found t x (subst (λ j. ArePaired (valid b) (carried b) (r b) key n m j end.receiver t x) (sym sender) p)))

  pub post_posted : (i c : ℕ) (t after : TimelineOf B S P) (x x_after : Mails P) → IsSomePost valid carried r i c t x → IfPosted valid carried r i c t after x x_after → IsSomePost valid carried r i c after x_after
  post_posted i c t after x x_after q p =
      let b = q.behaviour in
      let has = p b q.key q.run q.n q.m q.k q.end q.is q.sender q.channel q.paired in
      record {
        behaviour = b;
        key = q.key;
        run = q.run;
        n = put q.n (posted_word q.key q.k) (suc (posted_of after.out_ends q.end.channel));
        m = q.m;
        k = q.k;
        end = q.end;
        is = q.is;
        sender = q.sender;
        channel = q.channel;
        paired = subst (λ j. ArePaired (valid b) (carried b) (r b) q.key (put q.n (posted_word q.key q.k) (suc (posted_of after.out_ends q.end.channel))) q.m j q.end.receiver after x_after) q.sender
            (record { timeline = has.held; noted = has.noted; mail = has.mail; mail_noted = has.mail_noted });
      }

  pub post_out : (i c : ℕ) (t : TimelineOf B S P) (x : Mails P) → IsSomePost valid carried r i c t x → Among c (numbers_of t.out_ends)
  post_out i c t x q =
      let b = q.behaviour in
      subst (λ d. Among d (numbers_of t.out_ends)) q.channel (out_there (valid b) (carried b) (r b) (law b) (modest b) q.key q.run q.m i t q.paired.timeline q.k q.end q.is q.sender)

  pub post_mail : (i c : ℕ) (t : TimelineOf B S P) (x : Mails P) → IsSomePost valid carried r i c t x → Contains x.channels c
  post_mail i c t x q =
      let b = q.behaviour in
      subst (λ d. Contains x.channels d) q.channel (mail_contains (valid b) (carried b) (r b) (law b) (modest b) q.key q.run q.end.receiver x q.paired.mail q.k q.end q.is refl)

  pub post_joins : (i c : ℕ) (t : TimelineOf B S P) (x : Mails P) → IsSomePost valid carried r i c t x → posted_to (mail_at x c) ≡ posted_of t.out_ends c
  post_joins i c t x q =
      let one = q.paired.noted.posted q.k q.end q.is q.sender in
      let two = q.paired.mail_noted.posted q.k q.end q.is refl in
      let same : posted_to (mail_at x q.end.channel) ≡ posted_of t.out_ends q.end.channel = omega (arith, one, two) in
      subst (λ d. posted_to (mail_at x d) ≡ posted_of t.out_ends d) q.channel same

  -- ---- enter

  pub if_entered : (i : ℕ) (t after : TimelineOf B S P) (bar : BarrierFields) → can_enter t bar.window bar.counts ≡ true → after ≡ entered_at bar.window t → IfEntered valid carried r i t after bar
  if_entered i t after bar may is = λ b key run m q.
      subst (λ (z : TimelineOf B S P). HasEntered (valid b) (carried b) (r b) key m i t z bar) (sym is) (has_entered (valid b) (carried b) (r b) (law b) (modest b) key run m i t bar q may)

  pub if_not_entered : (i : ℕ) (t after : TimelineOf B S P) (bar : BarrierFields) → after ≡ t → IfEntered valid carried r i t after bar
  if_not_entered i t after bar same = λ b key run m q.
      subst (λ (z : TimelineOf B S P). HasEntered (valid b) (carried b) (r b) key m i t z bar) (sym same) (has_not_entered (valid b) (carried b) (r b) (law b) (modest b) key run m i t bar q)

  -- ---- report

  pub if_reported : (i : ℕ) (t : TimelineOf B S P) (bar after : BarrierFields) → can_report t i bar ≡ true → after ≡ with_report i (ahead_in t) (counts_in t) bar → IfReported valid carried r i t bar after
  if_reported i t bar after may is = λ b key run m q.
      subst (λ (z : BarrierFields). HasReported (valid b) (carried b) (r b) key m i t bar z) (sym is) (has_reported (valid b) (carried b) (r b) (law b) (modest b) key run m i t bar q may)

  pub if_not_reported : (i : ℕ) (t : TimelineOf B S P) (bar after : BarrierFields) → after ≡ bar → IfReported valid carried r i t bar after
  if_not_reported i t bar after same = λ b key run m q.
      subst (λ (z : BarrierFields). HasReported (valid b) (carried b) (r b) key m i t bar z) (sym same) (has_not_reported (valid b) (carried b) (r b) (law b) (modest b) key run m i t bar q)

  pub meeting_reported : (i : ℕ) (t : TimelineOf B S P) (bar after : BarrierFields) → IsSomeMeeting valid carried r i t bar → IfReported valid carried r i t bar after → IsSomeMeeting valid carried r i t after
  meeting_reported i t bar after q p = record { behaviour = q.behaviour; key = q.key; run = q.run; m = q.m; met = (p q.behaviour q.key q.run q.m q.met).met }

  pub meeting_number : (i : ℕ) (t : TimelineOf B S P) (bar : BarrierFields) → IsSomeMeeting valid carried r i t bar → i < length bar.reports
  meeting_number i t bar q =
      let b = q.behaviour in
      let many = reports_many (valid b) (carried b) (r b) (law b) (modest b) q.key q.run q.m bar q.met.barrier in
      let known = q.met.timeline.known in
      omega (arith, many, known)

  pub meeting_ends : (i : ℕ) (t : TimelineOf B S P) (bar : BarrierFields) → IsSomeMeeting valid carried r i t bar → HasItsEnds t
  meeting_ends i t bar q = crosses_have_ends t q.met.timeline.at.crosses

  pub meeting_cross : (i : ℕ) (t : TimelineOf B S P) (bar : BarrierFields) → IsSomeMeeting valid carried r i t bar → All (Contains bar.channels) (map channel_of t.outs)
  meeting_cross i t bar q =
      let b = q.behaviour in
      outs_known (valid b) (carried b) (r b) (law b) (modest b) q.key q.run q.m i t q.met.timeline bar q.met.barrier

  -- ---- cross

  pub if_crossed : (bar after : BarrierFields) → after ≡ after_crossing (crossing bar) bar → IfCrossed valid carried r true bar after
  if_crossed bar after is = λ b key run m held.
      subst (λ (z : BarrierFields). HasCrossed (valid b) (carried b) (r b) key m true bar z) (sym is)
      (has_crossed (valid b) (carried b) (r b) (law b) (modest b) key run m true bar held (λ none. absurd (cc)))

  pub if_not_crossed : (bar after : BarrierFields) → after ≡ after_crossing (crossing bar) bar → ((window : ℕ) → crossing bar ≡ Crossed window → ⊥) → IfCrossed valid carried r false bar after
  if_not_crossed bar after is none = λ b key run m held.
      subst (λ (z : BarrierFields). HasCrossed (valid b) (carried b) (r b) key m false bar z) (sym is)
      (has_crossed (valid b) (carried b) (r b) (law b) (modest b) key run m false bar held (λ same. round_same bar (crossing bar) none))
