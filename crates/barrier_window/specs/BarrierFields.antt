-- What a contract sees of a barrier, and what holds of every one.
use Rattle.std.specs.Prelude.{ℕ, ◌≡◌, ◌+◌, ◌<◌, ◌≤◌, ◌^◌, Bool, List, length, Option, Some, None}
use Rattle.std.specs.List.Sorted.{IsStrictlyIncreasing}

pub record BarrierFields : Type 0 where
  pub lookahead : Option ℕ  -- the least delay of the windowed channels, in ticks, and None where there are none
  pub until : ℕ  -- the last tick that is executed
  pub round : ℕ  -- how often the barrier was crossed
  pub window : ℕ  -- the window that stands since then, in ticks, and 0 at first
  pub channels : List ℕ  -- the cross channels, in rising order
  pub counts : List ℕ  -- for each of these the number of its writes, as reported when the barrier was last crossed, and 0 before
  pub sent : List ℕ  -- for each of these the number of its writes that was reported last, and 0 before
  pub reports : List (Option ℕ)  -- for each timeline the least time that it reported in this round, and None before it has
  pub ended : Bool  -- whether the barrier has ended

-- a delay from 1 to 10^15, or none
abbrev pub IsLookahead : Option ℕ → Type 0
IsLookahead None = Unit {0}
IsLookahead (Some delay) = (1 ≤ delay) × (delay ≤ 10 ^ 15)

-- what holds of every barrier
pub record IsBarrier (b : BarrierFields) : Type 0 where
  pub lookahead : IsLookahead b.lookahead
  pub until : b.until ≤ 10 ^ 18
  pub round : b.round < 2 ^ 64
  pub window : b.window ≤ b.until + 1
  pub rising : IsStrictlyIncreasing b.channels
  pub counts : length b.counts ≡ length b.channels
  pub sent : length b.sent ≡ length b.channels
  pub timelines : length b.reports < 2 ^ 32
