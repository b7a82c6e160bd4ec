-- A held barrier stays so where timelines report to it, and where it is crossed.
use Rattle.std.proofs.Common.{◌≡◌, ◌≢◌, ℕ, zero, suc, ◌+◌, ◌<◌, ◌≤◌, Bool, true, false, nat_le, List, [], ◌∷◌, length, set, replicate, refl, sym, ap, ◌∙◌, subst, inl, inr, arith, le_of_eq, Option, Some, None, slice_get}
use Rattle.event_order.proofs.Pending.{test_cases}
use Rattle.event_order.proofs.Steps.{lt_or_ge, le_true, le_test}
use Rattle.sim_base.specs.MemoryObjects.{risen}
use Rattle.ssf_model.specs.declared.event.Event.{Event}
use Rattle.ssf_model.specs.Reaction.{Reaction, Validity, KeepsValid, LatestTime}
use Rattle.ssf_model.specs.Deliver.{IsModest}
use Rattle.ssf_model.specs.Run.{States}
use Rattle.ssf_model.specs.Scene.{Scene, scene_of}
use Rattle.ssf_model.specs.Truth.{IsWindow, next_window}
use Rattle.sync_rules.specs.Shared.{IsShared}
use Rattle.sync_rules.specs.Sound.{IsSoundBarrier}
use Rattle.sync_rules.specs.Steps.{CanCross, CanReport, IsNextRound}
use Rattle.sync_rules.specs.Steps.{least_report as least_by_rule}
use Rattle.sync_rules.proofs.Bounds.{low_done}
use Rattle.sync_rules.proofs.Windows.{window_most, window_one}
use Rattle.sync_rules.proofs.Reports.{next_is_sound, ended_is_sound}
use Rattle.turn_table.specs.Changes.{put}
use Rattle.turn_table.proofs.Lookups.{alike}
use Rattle.timeline.specs.View.{TimelineOf}
use Rattle.timeline.specs.Holding.{ahead_in}
use Rattle.timeline.specs.Lines.{line_of}
use Rattle.timeline.proofs.Executed.{keys}
use Rattle.barrier_window.specs.BarrierFields.{BarrierFields}
use Rattle.barrier_window.specs.declared.barrier.Crossing.{Crossing}
use Rattle.barrier_window.specs.declared.barrier.Crossing.TheVariants.{Ended}
use Rattle.barrier_window.specs.Crossings.{latest_of, with_report, first_without, least_report, crossing_by, crossing, crossed_to, after_crossing}
use Rattle.sync_steps.specs.Between.{can_report, counts_in}
use Rattle.sync_steps.specs.Sounds.{has_least, barrier_as}
use Rattle.sync_steps.proofs.Allowed.{crosses_have_ends}
use Rattle.sync_steps.proofs.SoundPairs.{report_enabled, report_stays_sound}
use Rattle.core_rules.specs.Cores.{CoreView, IsBarrierOf, IsCoreOfRun}
use Rattle.core_rules.proofs.Lists.{set_length}
use Rattle.core_rules.proofs.Crosses.{all_told, least_same, window_round}
use Rattle.share_rules.specs.Places.{count_of, done_word, round_word}
use Rattle.share_rules.specs.Runs.{Covers, OfItsRuns}
use Rattle.share_rules.specs.Home.{Keeps}
use Rattle.share_rules.specs.HomeLaws.{covers_more}
use Rattle.share_rules.specs.Held.{Meets, KeepsWith, IsTimelineHeld, HasMarked, IsBarrierHeld, HasPassed}
use Rattle.share_rules.proofs.Runs.{covers_by_done}
use Rattle.share_rules.proofs.Moving.{in_its_run}
use Rattle.share_rules.proofs.Holding.{put_here, put_else, at_number, noted_is}

-- ---- reports

set_other : {T : Type 0} (xs : List T) (i j : ℕ) (x : T) → j ≢ i → slice_get (set xs i x) j ≡ slice_get xs j
set_other [] i j x other = refl
set_other (y ∷ ys) zero zero x other = absurd (other refl)
set_other (y ∷ ys) zero (suc j) x other = refl
set_other (y ∷ ys) (suc i) zero x other = refl
set_other (y ∷ ys) (suc i) (suc j) x other = set_other ys i j x (λ e. other (ap (λ n. suc n) e))

latest_long : (ps : List (ℕ × ℕ)) (cs ns : List ℕ) → length ns ≡ length cs → length (latest_of ps cs ns) ≡ length cs
latest_long ps [] ns h = refl
latest_long ps (c ∷ cs) [] h = h
latest_long ps (c ∷ cs) (n ∷ ns) h = (let rest = latest_long ps cs ns (omega arith) in ap (λ k. suc k) rest)

module _ {B S P : Type 0} (valid : Validity S) (carried : P → Type 0) (r : Reaction S P) (law : KeepsValid valid carried r) (modest : IsModest valid carried r) (key : CoreView B S P)
    (m : ℕ → ℕ) (i : ℕ) (t : TimelineOf B S P) (b : BarrierFields) (held : IsTimelineHeld valid carried r key m i t) (barrier : IsBarrierHeld valid carried r key m b)
    (marked : m (done_word key i) ≡ suc t.executed) (may : can_report t i b ≡ true) where
  abbrev told : BarrierFields
  told = with_report i (ahead_in t) (counts_in t) b

  of_told : (s : Scene (States B S P) (Event P)) → IsBarrierOf s b → IsBarrierOf s told
  of_told s of = record {
    until = of.until;
    lookahead = of.lookahead;
    timelines = set_length b.reports i (Some (ahead_in t)) ∙ of.timelines;
    rising = of.rising;
    crosses = of.crosses;
    only = of.only;
    counts = of.counts;
    sent = latest_long (counts_in t) b.channels b.sent of.sent;
  }

  own_covers : HasMarked valid carried r key m i told
  own_covers = record {
    done = t.executed;
    marked = marked;
    covers = λ plan until kept line net fits in_time at v on sound.
        (let s : Scene (States B S P) (Event P) = scene_of r plan until kept line net in
        let now = held.at.sound plan until kept line net fits in_time at v on sound in
        let of = barrier.at.of_run plan until kept line net fits in_time at v on sound in
        let many = of.timelines in
        let all = sound.timelines in
        let low = held.known in
        let can : CanReport s i (line_of now.0 t) (barrier_as b) =
        report_enabled plan line s (keys r valid carried law modest plan until in_time fits kept line net) on.shared i now.0 t now.1 (crosses_have_ends t held.at.crosses) b of.sent of.crosses (omega (arith, many, all, low)) may in
        covers_by_done s t.budget i b.window (line_of now.0 t) now.1.counted (low_done s on.shared i (line_of now.0 t) now.1.sound b.window can.low));
  }

  pub reported_held : IsBarrierHeld valid carried r key m told
  reported_held = record {
    at = record {
      channels = barrier.at.channels;
      round = barrier.at.round;
      of_run = λ plan until kept line net fits in_time at v on sound. of_told (scene_of r plan until kept line net) (barrier.at.of_run plan until kept line net fits in_time at v on sound);
      sound = λ plan until kept line net fits in_time at v on sound.
          (let s : Scene (States B S P) (Event P) = scene_of r plan until kept line net in
          let now = held.at.sound plan until kept line net fits in_time at v on sound in
          let of = barrier.at.of_run plan until kept line net fits in_time at v on sound in
          let was = barrier.at.sound plan until kept line net fits in_time at v on sound in
          let many = of.timelines in
          let all = sound.timelines in
          let low = held.known in (
            was.0,
            report_stays_sound plan line s (keys r valid carried law modest plan until in_time fits kept line net) on.shared i now.0 t now.1 (crosses_have_ends t held.at.crosses) b of.sent of.crosses
                (omega (arith, many, all, low)) was.0 was.1 may,
          ));
    };
    reported = λ j known has. alike j i
        (λ same. subst (λ k. HasMarked valid carried r key m k told) (sym same) own_covers)
        (λ other. (let before = barrier.reported j known (sym (ap has_least (set_other b.reports i j (Some (ahead_in t)) other)) ∙ has) in
        record { done = before.done; marked = before.marked; covers = before.covers }));
  }

-- ---- crossings

none_told : (n i : ℕ) → has_least (slice_get (replicate n None) i) ≡ false
none_told zero i = refl
none_told (suc n) zero = refl
none_told (suc n) (suc i) = none_told n i

none_many : (n : ℕ) (o : Option ℕ) → length (replicate n o) ≡ n
none_many zero o = refl
none_many (suc n) o = (let rest = none_many n o in ap (λ k. suc k) rest)

not_le : (a b : ℕ) → b < a → nat_le a b ≡ false
not_le a b h = elim (test_cases (nat_le a b)) [ inl t ↦ absurd (let low = le_true a b t in omega arith) | inr f ↦ f ]

-- the barrier is as before, or has ended, or stands in its next round, all timelines having reported
pub data IsCrossed (b after : BarrierFields) : Type 0 where
  stands : after ≡ b → IsCrossed b after
  ends : b.ended ≡ false → first_without 0 b.reports ≡ None → b.until < least_report (b.until + 1) b.reports → after ≡ record b { ended = true } → IsCrossed b after
  goes_on : b.ended ≡ false → first_without 0 b.reports ≡ None → least_report (b.until + 1) b.reports ≤ b.until
      → after ≡ crossed_to (next_window b.lookahead b.until (least_report (b.until + 1) b.reports)) b → IsCrossed b after

ended_same : (b : BarrierFields) → b.ended ≡ true → record b { ended = true } ≡ b
ended_same b is = ap (λ (e : Bool). record b { ended = e }) (sym is)

crossing_ended : (b : BarrierFields) → b.ended ≡ true → crossing b ≡ Ended
unfolding crossing
crossing_ended b is = rw is refl

crossing_open : (b : BarrierFields) (o : Option ℕ) → b.ended ≡ false → first_without 0 b.reports ≡ o → crossing b ≡ crossing_by o b
unfolding crossing
crossing_open b o is first = rw (is, first) refl

crossed_by : (b : BarrierFields) (o : Option ℕ) → b.ended ≡ false → first_without 0 b.reports ≡ o → IsCrossed b (after_crossing (crossing_by o b) b)
crossed_by b (Some i) running first = stands refl
crossed_by b None running first = elim (lt_or_ge b.until (least_report (b.until + 1) b.reports)) [
  | inl late ↦ (let f : nat_le (least_report (b.until + 1) b.reports) b.until ≡ false = not_le (least_report (b.until + 1) b.reports) b.until late in ends running first late (rw f refl))
  | inr early ↦ (let t : nat_le (least_report (b.until + 1) b.reports) b.until ≡ true = le_test (least_report (b.until + 1) b.reports) b.until early in goes_on running first early (rw t refl))
]

pub crossed_is : (b : BarrierFields) → IsCrossed b (after_crossing (crossing b) b)
crossed_is b = elim (test_cases b.ended) [
  | inl e ↦ stands (ap (λ (c : Crossing). after_crossing c b) (crossing_ended b e) ∙ ended_same b e)
  | inr o ↦ subst (λ (c : Crossing). IsCrossed b (after_crossing c b)) (sym (crossing_open b (first_without 0 b.reports) o refl)) (crossed_by b (first_without 0 b.reports) o refl)
]

-- ---- for a run

module _ {B S P : Type 0} (s : Scene (States B S P) (Event P)) (sh : IsShared s) (in_time : s.until ≤ LatestTime) (b : BarrierFields) (of : IsBarrierOf s b) (v : ℕ) (sound : IsSoundBarrier s v (barrier_as b)) where
  round_risen : risen b.round ≡ suc b.round
  round_risen =
      let low = window_round s sh b.round v b.window sound.window in
      let high = window_most s sh b.round v b.window sound.window in
      omega (arith, low, high, in_time)

  abbrev least : ℕ
  least = least_report (b.until + 1) b.reports

  abbrev ruled : ℕ
  ruled = least_by_rule s.until (barrier_as b).least s.net.timelines

  abbrev next : BarrierFields
  next = crossed_to (next_window b.lookahead b.until least) b

  module _ (running : b.ended ≡ false) (first : first_without 0 b.reports ≡ None) where
    pub all_in : (i : ℕ) → i < s.net.timelines → has_least (slice_get b.reports i) ≡ true
    all_in i known = all_told b.reports 0 i first (subst (λ n. i < n) (sym of.timelines) known)

    may : CanCross s.net.timelines (barrier_as b)
    may = record { goes_on = running; all_in = all_in }

    least_is : least ≡ ruled
    least_is =
        let until = of.until in
        let many = of.timelines in
        least_same b.until b.reports (λ i h. all_told b.reports 0 i first h)
        ∙ (ap (λ u. least_by_rule u (barrier_as b).least (length b.reports)) until ∙ ap (least_by_rule s.until (barrier_as b).least) many)

    window_is : next_window b.lookahead b.until least ≡ next_window s.net.lookahead s.until ruled
    window_is =
        ap (λ l. next_window l b.until least) of.lookahead
        ∙ (ap (λ u. next_window s.net.lookahead u least) of.until ∙ ap (next_window s.net.lookahead s.until) least_is)

    next_round : IsNextRound s ruled (barrier_as b) (barrier_as next)
    next_round = record {
      round = round_risen;
      window = window_is;
      counts = λ c cross. refl;
      reported = λ i known. none_told (length b.reports) i;
      ended = running;
    }

    pub goes_sound : least ≤ b.until → IsSoundBarrier s b.window (barrier_as next)
    goes_sound early =
        let until = of.until in
        let is = least_is in
        let soon : ruled ≤ s.until = omega (arith, early, until, is) in
        next_is_sound s sh v (barrier_as b) sound all_in (barrier_as next) soon next_round

    pub ended_sound : b.until < least → IsSoundBarrier s v (barrier_as (record b { ended = true }))
    ended_sound late =
        let until = of.until in
        let is = least_is in
        ended_is_sound s sh v (barrier_as b) sound all_in (omega (arith, late, until, is))

    -- the window before the next round's is this one
    pub window_before : (w x : ℕ) → IsWindow s (risen b.round) w x → w ≡ b.window
    window_before w x window =
        let q : IsWindow s (suc b.round) w x = at_number s (risen b.round) (suc b.round) w x round_risen window in
        (window_one s sh b.round q.0 w v b.window q.2 sound.window).1

  pub ended_of : IsBarrierOf s (record b { ended = true })
  ended_of = record {
    until = of.until;
    lookahead = of.lookahead;
    timelines = of.timelines;
    rising = of.rising;
    crosses = of.crosses;
    only = of.only;
    counts = of.counts;
    sent = of.sent;
  }

  pub next_of : IsBarrierOf s next
  next_of = record {
    until = of.until;
    lookahead = of.lookahead;
    timelines = none_many (length b.reports) None ∙ of.timelines;
    rising = of.rising;
    crosses = of.crosses;
    only = of.only;
    counts = of.sent;
    sent = of.sent;
  }

-- ---- a held barrier

module _ {B S P : Type 0} (valid : Validity S) (carried : P → Type 0) (r : Reaction S P) (key : CoreView B S P) (m : ℕ → ℕ) (b : BarrierFields) (held : IsBarrierHeld valid carried r key m b) where
  held_ended : b.ended ≡ false → first_without 0 b.reports ≡ None → b.until < least_report (b.until + 1) b.reports → IsBarrierHeld valid carried r key m (record b { ended = true })
  held_ended running first late = record {
    at = record {
      channels = held.at.channels;
      round = held.at.round;
      of_run = λ plan until kept line net fits in_time at v on sound.
          (let was = held.at.sound plan until kept line net fits in_time at v on sound in
          ended_of (scene_of r plan until kept line net) on.shared in_time b (held.at.of_run plan until kept line net fits in_time at v on sound) was.0 was.1);
      sound = λ plan until kept line net fits in_time at v on sound.
          (let was = held.at.sound plan until kept line net fits in_time at v on sound in
          (was.0, ended_sound (scene_of r plan until kept line net) on.shared in_time b (held.at.of_run plan until kept line net fits in_time at v on sound) was.0 was.1 running first late));
    };
    reported = λ i known told. (let q = held.reported i known told in record { done = q.done; marked = q.marked; covers = q.covers });
  }

  held_next : key.barrier.round ≤ risen b.round → b.ended ≡ false → first_without 0 b.reports ≡ None → least_report (b.until + 1) b.reports ≤ b.until
      → IsBarrierHeld valid carried r key m (crossed_to (next_window b.lookahead b.until (least_report (b.until + 1) b.reports)) b)
  held_next low running first early = record {
    at = record {
      channels = held.at.channels;
      round = low;
      of_run = λ plan until kept line net fits in_time at v on sound.
          (let was = held.at.sound plan until kept line net fits in_time at v on sound in
          next_of (scene_of r plan until kept line net) on.shared in_time b (held.at.of_run plan until kept line net fits in_time at v on sound) was.0 was.1);
      sound = λ plan until kept line net fits in_time at v on sound.
          (let was = held.at.sound plan until kept line net fits in_time at v on sound in
          (b.window, goes_sound (scene_of r plan until kept line net) on.shared in_time b (held.at.of_run plan until kept line net fits in_time at v on sound) was.0 was.1 running first early));
    };
    reported = λ i known told. absurd (let none : false ≡ true = sym (none_told (length b.reports) i) ∙ told in cc);
  }

  crossed_so : key.barrier.round ≤ risen b.round → (after : BarrierFields) → IsCrossed b after → IsBarrierHeld valid carried r key m after
  crossed_so low after (stands is) = subst (λ (z : BarrierFields). IsBarrierHeld valid carried r key m z) (sym is) held
  crossed_so low after (ends running first late is) = subst (λ (z : BarrierFields). IsBarrierHeld valid carried r key m z) (sym is) (held_ended running first late)
  crossed_so low after (goes_on running first early is) = subst (λ (z : BarrierFields). IsBarrierHeld valid carried r key m z) (sym is) (held_next low running first early)

  module _ (run : IsCoreOfRun valid carried r key) where
    risen_here : risen b.round ≡ suc b.round
    risen_here =
        (let s : Scene (States B S P) (Event P) = scene_of r run.plan key.until run.kept run.line run.net in
        let was = in_its_run valid carried r key (λ plan line z. (w : ℕ) × IsSoundBarrier z w (barrier_as b)) run held.at.sound in
        round_risen s run.run.shared run.in_time b (in_its_run valid carried r key (λ plan line z. IsBarrierOf z b) run held.at.of_run) was.0 was.1)

    pub crossed_held : IsBarrierHeld valid carried r key m (after_crossing (crossing b) b)
    crossed_held = (let low = held.at.round in let up = risen_here in crossed_so (omega (arith, low, up)) (after_crossing (crossing b) b) (crossed_is b))

    round_up : (after : BarrierFields) → IsCrossed b after → b.round ≤ after.round
    round_up after (stands is) = (let same : after.round ≡ b.round = ap (λ (z : BarrierFields). z.round) is in omega (arith, same))
    round_up after (ends running first late is) = (let same : after.round ≡ b.round = ap (λ (z : BarrierFields). z.round) is in omega (arith, same))
    round_up after (goes_on running first early is) = (let same : after.round ≡ risen b.round = ap (λ (z : BarrierFields). z.round) is in let up = risen_here in omega (arith, same, up))

    pub round_rises : b.round ≤ (after_crossing (crossing b) b).round
    round_rises = round_up (after_crossing (crossing b) b) (crossed_is b)

  -- ---- what is done before the window

  -- with all reports each timeline has executed its events before the window
  next_covers : (i done : ℕ) → i < count_of key → m (done_word key i) ≤ suc done → b.ended ≡ false → first_without 0 b.reports ≡ None
      → OfItsRuns valid carried r key (λ plan line s. (w x : ℕ) → IsWindow s (risen b.round) w x → Covers s i w done)
  next_covers i done known low running first plan until kept line net fits in_time at v on sound w x window =
      let s : Scene (States B S P) (Event P) = scene_of r plan until kept line net in
      let was = held.at.sound plan until kept line net fits in_time at v on sound in
      let of : IsBarrierOf s b = held.at.of_run plan until kept line net fits in_time at v on sound in
      let all = sound.timelines in
      let told = all_in s on.shared in_time b of was.0 was.1 running first i (subst (λ n. i < n) all known) in
      let q = held.reported i known told in
      let same = q.marked in
      let here : w ≡ b.window = window_before s on.shared in_time b of was.0 was.1 running first w x window in
      subst (λ z. Covers s i z done) (sym here) (covers_more s i b.window q.done done (omega (arith, low, same)) (q.covers plan until kept line net fits in_time at v on sound))

  passed_so : (i done : ℕ) → i < count_of key → m (done_word key i) ≤ suc done → HasPassed valid carried r key b i done → (after : BarrierFields) → IsCrossed b after → HasPassed valid carried r key after i done
  passed_so i done known low passed after (stands is) plan until kept line net fits in_time at v on sound w x window =
      passed plan until kept line net fits in_time at v on sound w x (at_number _ after.round b.round w x (ap (λ (z : BarrierFields). z.round) is) window)
  passed_so i done known low passed after (ends running first late is) plan until kept line net fits in_time at v on sound w x window =
      passed plan until kept line net fits in_time at v on sound w x (at_number _ after.round b.round w x (ap (λ (z : BarrierFields). z.round) is) window)
  passed_so i done known low passed after (goes_on running first early is) plan until kept line net fits in_time at v on sound w x window =
      next_covers i done known low running first plan until kept line net fits in_time at v on sound w x (at_number _ after.round (risen b.round) w x (ap (λ (z : BarrierFields). z.round) is) window)

  pub crossed_passed : (i done : ℕ) → i < count_of key → m (done_word key i) ≤ suc done → HasPassed valid carried r key b i done → HasPassed valid carried r key (after_crossing (crossing b) b) i done
  crossed_passed i done known low passed = passed_so i done known low passed (after_crossing (crossing b) b) (crossed_is b)

  -- ---- the round word

  module _ (n : ℕ → ℕ) (noted : n (round_word key) ≡ suc b.round) (f : ℕ → ℕ) (kept_all : Keeps valid carried r key f) (meets : Meets n m f) where
    -- counts that keep what they do for the round that is written
    abbrev KeepsAt : ℕ → Type 0
    KeepsAt round = OfItsRuns valid carried r key (λ plan line s. (w x : ℕ) → IsWindow s round w x → (i : ℕ) → i < count_of key → Covers s i w (f (done_word key i)))

    as_written : (round : ℕ) → KeepsAt round → Keeps valid carried r key (put f (round_word key) round)
    as_written round all plan until kept line net fits in_time at v on sound w x window i known =
        covers_more _ i w (f (done_word key i)) (put f (round_word key) round (done_word key i))
        (le_of_eq (sym (put_else f (round_word key) round (done_word key i) (λ e. omega (arith, known, e)))))
        (all plan until kept line net fits in_time at v on sound w x (at_number _ (put f (round_word key) round (round_word key)) round w x (put_here f (round_word key) round (round_word key) refl) window) i known)

    as_before : (round : ℕ) → round ≡ b.round → KeepsAt round
    as_before round same plan until kept line net fits in_time at v on sound w x window i known =
        (let is : f (round_word key) ≡ b.round = noted_is n m f meets (round_word key) b.round noted in
        kept_all plan until kept line net fits in_time at v on sound w x (at_number _ round (f (round_word key)) w x (same ∙ sym is) window) i known)

    as_next : b.ended ≡ false → first_without 0 b.reports ≡ None → (round : ℕ) → round ≡ risen b.round → KeepsAt round
    as_next running first round same plan until kept line net fits in_time at v on sound w x window i known =
        next_covers i (f (done_word key i)) known (meets.above (done_word key i)) running first plan until kept line net fits in_time at v on sound w x
        (at_number _ round (risen b.round) w x same window)

    keeps_so : (after : BarrierFields) → IsCrossed b after → KeepsAt after.round
    keeps_so after (stands is) = as_before after.round (ap (λ (z : BarrierFields). z.round) is)
    keeps_so after (ends running first late is) = as_before after.round (ap (λ (z : BarrierFields). z.round) is)
    keeps_so after (goes_on running first early is) = as_next running first after.round (ap (λ (z : BarrierFields). z.round) is)

  pub written_round : (n : ℕ → ℕ) → n (round_word key) ≡ suc b.round → KeepsWith valid carried r key n m (round_word key) (after_crossing (crossing b) b).round
  written_round n noted f kept meets =
      as_written n noted f kept meets (after_crossing (crossing b) b).round (keeps_so n noted f kept meets (after_crossing (crossing b) b) (crossed_is b))
