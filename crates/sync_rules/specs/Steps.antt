-- The six steps: when each of them is enabled, and what it makes of the parts that it touches. Each leaves all else as it is.
use Rattle.std.specs.Prelude.{ℕ, zero, suc, ◌≡◌, ◌+◌, ◌<◌, ◌≤◌, ◌⊎◌, true, false, cond, nat_le, ◌&&◌, min, max, List, [], ◌∷◌, ◌++◌, length, Some}
use Rattle.std.specs.List.{filter}
use Rattle.event_order.specs.Pending.{put_all}
use Rattle.ssf_model.specs.Scene.{Scene, Net, world_at, event_at, time_of, channel_of}
use Rattle.ssf_model.specs.Truth.{is_on_line, has_channel, next_window}
use Rattle.sync_rules.specs.Parts.{Line, MailOf, BarrierOf, CoreOf, put_at}
use Rattle.sync_rules.specs.Bounds.{IsInto, goes_out, bound_of, low_of, promise_of, least_ahead_of}

-- ---- at first

-- timeline i as it begins: nothing is executed, and of the opening's events its own are pending
abbrev pub first_line : {X E : Type 0} → Scene X E → ℕ → Line E
first_line s i = record {
  moment = 0;
  executed = 0;
  pending = filter (λ e. is_on_line s i e) s.opening.pending;
  entered = 0;
  arrival = s.until + 1;
  taken = λ c. 0;
  held = λ c. 0;
  posted = λ c. 0;
  written = λ c. 0;
  outbox = λ c. [];
}

abbrev pub first_mail : {E : Type 0} → MailOf E
first_mail = record { events = []; posted = 0; taken = 0; appointment = 0 }

abbrev pub first_barrier : BarrierOf
first_barrier = record { round = 0; window = 0; counts = λ c. 0; reported = λ i. false; least = λ i. 0; sent = λ c. 0; ended = false }

abbrev pub first_core : {X E : Type 0} → Scene X E → CoreOf E
first_core s = record { lines = first_line s; mails = λ c. first_mail; barrier = first_barrier }

-- ---- execute

-- the first pending event is in time and below the bound, and so many events were not yet executed as the budget says
pub record CanExecute {X E : Type 0} (s : Scene X E) (budget i : ℕ) (l : Line E) : Type 0 where
  pub head : E
  pub rest : List E
  pub is : l.pending ≡ head ∷ rest
  pub in_time : time_of s head ≤ s.until
  pub below : time_of s head < bound_of s.net i l
  pub few : l.executed < budget

-- those of some writes of timeline i that stay on it and that the cut keeps, and those that go out on channel c
abbrev pub stays : {X E : Type 0} → Scene X E → ℕ → List E → List E
stays s i writes = filter (λ d. is_on_line s i d) (filter (λ d. s.kept (s.machine.key d)) writes)

abbrev pub leaves : {X E : Type 0} → Scene X E → ℕ → ℕ → List E → List E
leaves s i c writes = cond (goes_out s.net i c) (filter (has_channel s c) writes) []

-- the least of `found` and the times, at or above `from`, of those of some writes that cross
abbrev pub least_arrival : {X E : Type 0} → Scene X E → ℕ → List E → ℕ → ℕ
least_arrival s from [] found = found
least_arrival s from (d ∷ ds) found =
    least_arrival s from ds (cond (s.net.cross (channel_of s d) && nat_le from (time_of s d)) (min (time_of s d) found) found)

-- timeline i after its first pending event, which is event number n of the run and makes these writes, while `rest` was
-- pending besides: writes that stay become pending, and those that cross go to the outboxes of their channels
abbrev pub executed_line : {X E : Type 0} → Scene X E → ℕ → ℕ → List E → List E → Line E → Line E
executed_line s i n writes rest l = record {
  moment = suc n;
  executed = l.executed + 1;
  pending = put_all s.machine.key (stays s i writes) rest;
  entered = l.entered;
  arrival = least_arrival s l.entered writes l.arrival;
  taken = l.taken;
  held = l.held;
  posted = l.posted;
  written = λ c. l.written c + length (leaves s i c writes);
  outbox = λ c. l.outbox c ++ leaves s i c writes;
}

-- ---- post

-- the outbox of channel c is not empty, or the promise is above the appointment of the mail
abbrev pub CanPost : {X E : Type 0} → Scene X E → ℕ → ℕ → Line E → MailOf E → Type 0
CanPost s i c l mail = (0 < length (l.outbox c)) ⊎ (mail.appointment < promise_of s i c l)

-- the whole outbox moves to the mail, with the promise, where that is above the mail's appointment
abbrev pub posted_line : {E : Type 0} → ℕ → Line E → Line E
posted_line c l = record {
  moment = l.moment;
  executed = l.executed;
  pending = l.pending;
  entered = l.entered;
  arrival = l.arrival;
  taken = l.taken;
  held = l.held;
  posted = put_at c (l.written c) l.posted;
  written = l.written;
  outbox = put_at c [] l.outbox;
}

abbrev pub posted_mail : {X E : Type 0} → Scene X E → ℕ → ℕ → Line E → MailOf E → MailOf E
posted_mail s i c l mail = record {
  events = mail.events ++ l.outbox c;
  posted = l.written c;
  taken = mail.taken;
  appointment = max mail.appointment (promise_of s i c l);
}

-- ---- take

-- the mail has an event, or its appointment is above the one that the timeline holds
abbrev pub CanTake : {E : Type 0} → ℕ → Line E → MailOf E → Type 0
CanTake c l mail = (0 < length mail.events) ⊎ (l.held c < mail.appointment)

-- all events of the mail become pending, and the timeline holds the greater appointment. The mail keeps its own, and what
-- it counts as posted
abbrev pub taken_line : {X E : Type 0} → Scene X E → ℕ → Line E → MailOf E → Line E
taken_line s c l mail = record {
  moment = l.moment;
  executed = l.executed;
  pending = put_all s.machine.key mail.events l.pending;
  entered = l.entered;
  arrival = l.arrival;
  taken = put_at c mail.posted l.taken;
  held = put_at c (max (l.held c) mail.appointment) l.held;
  posted = l.posted;
  written = l.written;
  outbox = l.outbox;
}

abbrev pub taken_mail : {E : Type 0} → MailOf E → MailOf E
taken_mail mail = record { events = []; posted = mail.posted; taken = mail.posted; appointment = mail.appointment }

-- ---- enter

-- the barrier's window is a later one than the timeline's, which has taken all that the barrier counts
pub record CanEnter (net : Net) {E : Type 0} (i : ℕ) (l : Line E) (b : BarrierOf) : Type 0 where
  pub later : l.entered < b.window
  pub taken : (c : ℕ) → IsInto net i c → b.counts c ≤ l.taken c

-- the timeline stands in the window x, and has written nothing since
abbrev pub entered_line : {X E : Type 0} → Scene X E → ℕ → Line E → Line E
entered_line s x l = record {
  moment = l.moment;
  executed = l.executed;
  pending = l.pending;
  entered = x;
  arrival = s.until + 1;
  taken = l.taken;
  held = l.held;
  posted = l.posted;
  written = l.written;
  outbox = l.outbox;
}

-- ---- report

-- the barrier has not ended, the timeline has not reported in this round, stands in the barrier's window, and has nothing
-- ahead that is before it
pub record CanReport {X E : Type 0} (s : Scene X E) (i : ℕ) (l : Line E) (b : BarrierOf) : Type 0 where
  pub goes_on : b.ended ≡ false
  pub silent : b.reported i ≡ false
  pub entered : l.entered ≡ b.window
  pub low : b.window ≤ low_of s i l

-- the barrier has the timeline's least time ahead, and how much it has written on each channel that it sends on
abbrev pub reported_barrier : {X E : Type 0} → Scene X E → ℕ → Line E → BarrierOf → BarrierOf
reported_barrier s i l b = record {
  round = b.round;
  window = b.window;
  counts = b.counts;
  reported = put_at i true b.reported;
  least = put_at i (least_ahead_of s l) b.least;
  sent = λ c. cond (goes_out s.net i c) (l.written c) (b.sent c);
  ended = b.ended;
}

-- ---- cross

-- the barrier has not ended, and all timelines have reported
pub record CanCross (timelines : ℕ) (b : BarrierOf) : Type 0 where
  pub goes_on : b.ended ≡ false
  pub all_in : (i : ℕ) → i < timelines → b.reported i ≡ true

-- the least that the first n timelines have reported, and a time after the end where none has less
abbrev pub least_report : ℕ → (ℕ → ℕ) → ℕ → ℕ
least_report until least zero = until + 1
least_report until least (suc i) = min (least i) (least_report until least i)

-- the barrier in the next round, with the window after the least time m: it counts what was reported as written, and
-- nobody has reported. What it holds of reports is not told before they come
pub record IsNextRound {X E : Type 0} (s : Scene X E) (m : ℕ) (b after : BarrierOf) : Type 0 where
  pub round : after.round ≡ suc b.round
  pub window : after.window ≡ next_window s.net.lookahead s.until m
  pub counts : (c : ℕ) → s.net.cross c ≡ true → after.counts c ≡ b.sent c
  pub reported : (i : ℕ) → i < s.net.timelines → after.reported i ≡ false
  pub ended : after.ended ≡ false

-- such a barrier
abbrev pub next_barrier : {X E : Type 0} → Scene X E → ℕ → BarrierOf → BarrierOf
next_barrier s m b = record {
  round = suc b.round;
  window = next_window s.net.lookahead s.until m;
  counts = b.sent;
  reported = λ i. false;
  least = λ i. 0;
  sent = λ c. 0;
  ended = false;
}

abbrev pub ended_barrier : BarrierOf → BarrierOf
ended_barrier b = record { round = b.round; window = b.window; counts = b.counts; reported = b.reported; least = b.least; sent = b.sent; ended = true }

-- a crossing: with m the least report, the barrier has ended where m is after the end, and else it stands in the next round
pub record IsCrossing {X E : Type 0} (s : Scene X E) (b after : BarrierOf) : Type 0 where
  pub ends : s.until < least_report s.until b.least s.net.timelines → after ≡ ended_barrier b
  pub goes_on : least_report s.until b.least s.net.timelines ≤ s.until → IsNextRound s (least_report s.until b.least s.net.timelines) b after

-- ---- the steps on all parts

abbrev pub with_line : {E : Type 0} → ℕ → Line E → CoreOf E → CoreOf E
with_line i l t = record { lines = put_at i l t.lines; mails = t.mails; barrier = t.barrier }

abbrev pub with_mail : {E : Type 0} → ℕ → MailOf E → CoreOf E → CoreOf E
with_mail c m t = record { lines = t.lines; mails = put_at c m t.mails; barrier = t.barrier }

abbrev pub with_barrier : {E : Type 0} → BarrierOf → CoreOf E → CoreOf E
with_barrier b t = record { lines = t.lines; mails = t.mails; barrier = b }

-- all parts after timeline i executed its first pending event, which is event number n of the run
abbrev pub executed_core : {X E : Type 0} → Scene X E → ℕ → ℕ → List E → List E → CoreOf E → CoreOf E
executed_core s i n writes rest t = with_line i (executed_line s i n writes rest (t.lines i)) t

-- after what is in the outbox of channel c moved to its mail
abbrev pub posted_core : {X E : Type 0} → Scene X E → ℕ → CoreOf E → CoreOf E
posted_core s c t =
    let i = s.net.sender c in
    with_mail c (posted_mail s i c (t.lines i) (t.mails c)) (with_line i (posted_line c (t.lines i)) t)

-- after the mail of channel c was taken
abbrev pub taken_core : {X E : Type 0} → Scene X E → ℕ → CoreOf E → CoreOf E
taken_core s c t =
    let i = s.net.receiver c in
    with_mail c (taken_mail (t.mails c)) (with_line i (taken_line s c (t.lines i) (t.mails c)) t)

-- after timeline i entered the barrier's window, and after it reported
abbrev pub entered_core : {X E : Type 0} → Scene X E → ℕ → CoreOf E → CoreOf E
entered_core s i t = with_line i (entered_line s t.barrier.window (t.lines i)) t

abbrev pub reported_core : {X E : Type 0} → Scene X E → ℕ → CoreOf E → CoreOf E
reported_core s i t = with_barrier (reported_barrier s i (t.lines i) t.barrier) t

-- some step that is enabled makes the parts t of the parts before
pub data IsStep {X E : Type 0} (s : Scene X E) (budget : ℕ) (before t : CoreOf E) : Type 0 where
  executes : (i n : ℕ) → i < s.net.timelines → (may : CanExecute s budget i (before.lines i)) → event_at s n ≡ Some may.head
      → t ≡ executed_core s i n (s.machine.writes (world_at s n).state may.head) may.rest before → IsStep s budget before t
  posts : (c : ℕ) → s.net.cross c ≡ true → CanPost s (s.net.sender c) c (before.lines (s.net.sender c)) (before.mails c) → t ≡ posted_core s c before → IsStep s budget before t
  takes : (c : ℕ) → s.net.cross c ≡ true → CanTake c (before.lines (s.net.receiver c)) (before.mails c) → t ≡ taken_core s c before → IsStep s budget before t
  enters : (i : ℕ) → i < s.net.timelines → CanEnter s.net i (before.lines i) before.barrier → t ≡ entered_core s i before → IsStep s budget before t
  reports : (i : ℕ) → i < s.net.timelines → CanReport s i (before.lines i) before.barrier → t ≡ reported_core s i before → IsStep s budget before t
  crosses : (after : BarrierOf) → CanCross s.net.timelines before.barrier → IsCrossing s before.barrier after → t ≡ with_barrier after before → IsStep s budget before t

-- timeline i has an event that it may execute but for the budget, which is spent
pub record IsOver {X E : Type 0} (s : Scene X E) (budget i : ℕ) (l : Line E) : Type 0 where
  pub head : E
  pub rest : List E
  pub is : l.pending ≡ head ∷ rest
  pub in_time : time_of s head ≤ s.until
  pub below : time_of s head < bound_of s.net i l
  pub spent : budget ≤ l.executed

-- the budget ends at timeline i: it is over, and its first pending event has the least time of all lower bounds
pub record BudgetEndsAt {X E : Type 0} (s : Scene X E) (budget i : ℕ) (t : CoreOf E) : Type 0 where
  pub known : i < s.net.timelines
  pub over : IsOver s budget i (t.lines i)
  pub least : (j : ℕ) → j < s.net.timelines → low_of s i (t.lines i) ≤ low_of s j (t.lines j)
