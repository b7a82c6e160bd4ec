-- What it means that a timeline, the mail on a channel and the barrier are sound for a run: what they hold is what the
-- run has there.
use Rattle.std.specs.Prelude.{ℕ, ◌≡◌, ◌+◌, ◌<◌, ◌≤◌, ◌⊎◌, true, false, length, Some}
use Rattle.event_order.specs.Pending.{Among}
use Rattle.ssf_model.specs.Scene.{Scene, event_at, time_of, channel_of}
use Rattle.ssf_model.specs.Truth.{is_on_line, line_events, writes_on, IsWrite, IsStretch, IsPromise, IsTrueParcel, IsCut, IsWindow, IsKeptWrite, IsStanding}
use Rattle.sync_rules.specs.Parts.{Line, MailOf, BarrierOf, CoreOf}
use Rattle.sync_rules.specs.Bounds.{IsInto, IsOutOf, bound_of}

-- how many writes the first n events of the run make on channel c
abbrev pub made : {X E : Type 0} → Scene X E → ℕ → ℕ → ℕ
made s c n = length (writes_on s c n)

-- ---- timelines

-- d is a write of the run, and one of the first on its channel, as many as were taken
pub record HasCome {X E : Type 0} (s : Scene X E) (taken : ℕ → ℕ) (d : E) : Type 0 where
  pub place : ℕ
  pub is : IsWrite s (channel_of s d) place d
  pub below : place < taken (channel_of s d)

-- a write by event number k, which is on timeline i, crosses to another one at the time `from` or later
pub record IsSentFrom {X E : Type 0} (s : Scene X E) (i from k : ℕ) (d : E) : Type 0 where
  pub written : IsKeptWrite s k d
  pub out : IsOutOf s.net i (channel_of s d)
  pub late : from ≤ time_of s d

-- a timeline that is sound
pub record IsSoundLine {X E : Type 0} (s : Scene X E) (i : ℕ) (l : Line E) : Type 0 where
  -- it has pending what there is at its moment: of the opening's events and of the writes by its own events before this
  -- moment and of what it has taken, those that are on it and that it has not executed
  pub standing : IsStanding s i l.moment (HasCome s l.taken) l.pending
  -- what it has executed is below its bound
  pub below : (j : ℕ) (e : E) → j < l.moment → event_at s j ≡ Some e → is_on_line s i e ≡ true → time_of s e < bound_of s.net i l
  -- of an appointed channel it has taken all that comes before the appointment that it holds
  pub held : (c : ℕ) → IsInto s.net i c → s.net.appointed c ≡ true → IsPromise s c (l.held c) (l.taken c)
  pub held_most : (c : ℕ) → IsInto s.net i c → s.net.appointed c ≡ true → l.held c ≤ s.until + 1
  -- of a windowed channel it has taken all that comes before the window that it entered
  pub ahead : (c : ℕ) → IsInto s.net i c → s.net.appointed c ≡ false → IsPromise s c l.entered (l.taken c)
  -- it entered window number `index`; the one before that is `before`, and `at` is its moment. It has taken all that was
  -- written before `at`, and has executed all its events before `at`
  pub index : ℕ
  pub before : ℕ
  pub at : ℕ
  pub window : IsWindow s index before l.entered
  pub cut : IsCut s before at
  pub enough : (c : ℕ) → IsInto s.net i c → made s c at ≤ l.taken c
  pub passed : (j : ℕ) (e : E) → event_at s j ≡ Some e → is_on_line s i e ≡ true → j < at → j < l.moment
  -- it counts what it has written, and its outboxes hold what was written and not posted
  pub written : (c : ℕ) → IsOutOf s.net i c → l.written c ≡ made s c l.moment
  pub outbox : (c : ℕ) → IsOutOf s.net i c → IsStretch s c (l.posted c) (l.outbox c) (l.written c)
  -- `arrival` is the least time, from the window on, of what its events from `at` on have written to others
  pub arrival_low : (d : E) (k : ℕ) → IsSentFrom s i l.entered k d → at ≤ k → k < l.moment → l.arrival ≤ time_of s d
  pub arrival_is : (l.arrival ≡ s.until + 1)
      ⊎ ((d : E) × (k : ℕ) × IsSentFrom s i l.entered k d × (at ≤ k) × (k < l.moment) × (l.arrival ≡ time_of s d))

-- timeline i has executed all its events before the time v
abbrev pub HasDone : {X E : Type 0} → Scene X E → ℕ → ℕ → Line E → Type 0
HasDone {X} {E} s i v l = (j : ℕ) (e : E) → event_at s j ≡ Some e → is_on_line s i e ≡ true → time_of s e < v → j < l.moment

-- it has counted the events that it executed, and no more than the budget
pub record IsCounted {X E : Type 0} (s : Scene X E) (budget i : ℕ) (l : Line E) : Type 0 where
  pub executed : l.executed ≡ length (line_events s i l.moment)
  pub few : l.executed ≤ budget

-- ---- mails

-- a sound mail is a true parcel, which the receiver can take. A windowed channel has no appointment
pub record IsSoundMail {X E : Type 0} (s : Scene X E) (c : ℕ) (m : MailOf E) : Type 0 where
  pub parcel : IsTrueParcel s c m.taken m.events m.posted m.appointment
  pub none : s.net.appointed c ≡ false → m.appointment ≡ 0

-- ---- the barrier

-- a true report of timeline i in a round with the window x and the window v before it: the writes on each channel that
-- it sends on, and a least time m
pub record IsReport {X E : Type 0} (s : Scene X E) (v x i m : ℕ) (sent : ℕ → ℕ) : Type 0 where
  -- the counts are those of the writes by events before the window
  pub counts : (c n : ℕ) → IsCut s x n → IsOutOf s.net i c → sent c ≡ made s c n
  -- of its events from the window on, m is at most the time of each that stands in the opening,
  pub opening : (j : ℕ) (e : E) → event_at s j ≡ Some e → is_on_line s i e ≡ true → x ≤ time_of s e → Among e s.opening.pending → m ≤ time_of s e
  -- of each that one of its own events before the window wrote,
  pub inside : (j k : ℕ) (e : E) → event_at s j ≡ Some e → is_on_line s i e ≡ true → x ≤ time_of s e
      → (w : IsKeptWrite s k e) → is_on_line s i w.by ≡ true → time_of s w.by < x → m ≤ time_of s e
  -- and of each that any event before the window before it wrote;
  pub early : (j k : ℕ) (e : E) → event_at s j ≡ Some e → is_on_line s i e ≡ true → x ≤ time_of s e
      → (w : IsKeptWrite s k e) → time_of s w.by < v → m ≤ time_of s e
  -- and m is at most the time of what its events between the two windows wrote to others
  pub across : (k : ℕ) (d : E) → (w : IsSentFrom s i x k d) → v ≤ time_of s w.written.by → time_of s w.written.by < x → m ≤ time_of s d
  -- where m is not after the end, the run has an event of this time, which is in the window or later
  pub is : m ≤ s.until → (j : ℕ) × (e : E) × (event_at s j ≡ Some e) × (time_of s e ≡ m) × (x ≤ m)

-- a barrier that is sound; v is the window before its own
pub record IsSoundBarrier {X E : Type 0} (s : Scene X E) (v : ℕ) (b : BarrierOf) : Type 0 where
  -- its window is the one of its round
  pub window : IsWindow s b.round v b.window
  -- it counts the writes by the events before v
  pub at : ℕ
  pub cut : IsCut s v at
  pub counts : (c : ℕ) → s.net.cross c ≡ true → b.counts c ≡ made s c at
  -- the reports are true
  pub reports : (i : ℕ) → i < s.net.timelines → b.reported i ≡ true → IsReport s v b.window i (b.least i) b.sent
  -- where it has ended all timelines have reported, and the run has no event from the window on
  pub all_in : b.ended ≡ true → (i : ℕ) → i < s.net.timelines → b.reported i ≡ true
  pub over : b.ended ≡ true → (j : ℕ) (e : E) → event_at s j ≡ Some e → time_of s e < b.window

-- ---- all parts together

-- all parts are sound, and they fit together; v is the window before the barrier's
pub record IsSoundCore {X E : Type 0} (s : Scene X E) (v : ℕ) (t : CoreOf E) : Type 0 where
  pub lines : (i : ℕ) → i < s.net.timelines → IsSoundLine s i (t.lines i)
  pub mails : (c : ℕ) → s.net.cross c ≡ true → IsSoundMail s c (t.mails c)
  pub barrier : IsSoundBarrier s v t.barrier
  -- a mail counts as posted what the sender has posted, and as taken what the receiver has taken
  pub posted : (c : ℕ) → s.net.cross c ≡ true → (t.mails c).posted ≡ (t.lines (s.net.sender c)).posted c
  pub taken : (c : ℕ) → s.net.cross c ≡ true → (t.mails c).taken ≡ (t.lines (s.net.receiver c)).taken c
  -- no timeline has entered a later window than the barrier's
  pub entered : (i : ℕ) → i < s.net.timelines → (t.lines i).entered ≤ t.barrier.window
  -- each timeline has executed its events before v, and before the barrier's window where it has reported
  pub done : (i : ℕ) → i < s.net.timelines → HasDone s i v (t.lines i)
  pub reported : (i : ℕ) → i < s.net.timelines → t.barrier.reported i ≡ true → HasDone s i t.barrier.window (t.lines i)

-- ---- where the budget ends

-- e is event number k of the run, on timeline i, and n events of this timeline come before it
pub record IsOwnEvent {X E : Type 0} (s : Scene X E) (i n k : ℕ) (e : E) : Type 0 where
  pub is : event_at s k ≡ Some e
  pub own : is_on_line s i e ≡ true
  pub count : length (line_events s i k) ≡ n
