-- The parts of a run that is shared out to timelines: what a timeline, the mail on a channel and the barrier hold. All of
-- it is data. What belongs to channels is a function of the channel's number, and what belongs to timelines one of
-- the timeline's number; counts of writes begin at the opening.
use Rattle.std.specs.Prelude.{ℕ, Bool, cond, nat_eq, List}

-- a timeline. It stands at `moment`: it has executed just its own events among so many of the run, `executed` in number,
-- and has `pending` still to execute. It last entered the window `entered`; `arrival` is the least time, from this window
-- on, of what it has written to others since, and a time after the end where it wrote no such thing.
-- Of each channel that comes from another timeline: how many events it has taken, and the appointment that it holds. Of
-- each one that goes to another: how many events it has posted and how many it has written, and those between
pub record Line (E : Type 0) : Type 0 where
  pub moment : ℕ
  pub executed : ℕ
  pub pending : List E
  pub entered : ℕ
  pub arrival : ℕ
  pub taken : ℕ → ℕ
  pub held : ℕ → ℕ
  pub posted : ℕ → ℕ
  pub written : ℕ → ℕ
  pub outbox : ℕ → List E

-- the mail on one channel between two timelines: the events that were posted and not yet taken, how many were posted and
-- taken in all, and the appointment, a time before which no event comes that was not posted
pub record MailOf (E : Type 0) : Type 0 where
  pub events : List E
  pub posted : ℕ
  pub taken : ℕ
  pub appointment : ℕ

-- the barrier: its round and window, the writes on each channel that one has to have taken to enter the window, and what
-- the timelines have reported in this round: each one's least time ahead, and the writes on each channel that it sends on
pub record BarrierOf : Type 0 where
  pub round : ℕ
  pub window : ℕ
  pub counts : ℕ → ℕ
  pub reported : ℕ → Bool
  pub least : ℕ → ℕ
  pub sent : ℕ → ℕ
  pub ended : Bool

-- all of them: a timeline for each number, a mail for each channel, and the barrier
pub record CoreOf (E : Type 0) : Type 0 where
  pub lines : ℕ → Line E
  pub mails : ℕ → MailOf E
  pub barrier : BarrierOf

-- a function that is v at the number n and as it was at all others
abbrev pub put_at : {T : Type 0} → ℕ → T → (ℕ → T) → ℕ → T
put_at n v g k = cond (nat_eq k n) v (g k)
