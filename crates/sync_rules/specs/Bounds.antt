-- How far a timeline may go, what it can promise, and the least time that it has still ahead.
use Rattle.std.specs.Prelude.{ℕ, zero, suc, ◌≡◌, ◌+◌, Bool, true, cond, nat_eq, ◌&&◌, min, List, [], ◌∷◌}
use Rattle.ssf_model.specs.Scene.{Scene, Net, time_of}
use Rattle.sync_rules.specs.Parts.{Line}

-- ---- the channels of a timeline

-- channel c crosses to timeline i
pub record IsInto (net : Net) (i c : ℕ) : Type 0 where
  pub cross : net.cross c ≡ true
  pub receiver : net.receiver c ≡ i

-- channel c crosses from timeline i
pub record IsOutOf (net : Net) (i c : ℕ) : Type 0 where
  pub cross : net.cross c ≡ true
  pub sender : net.sender c ≡ i

-- the tests for it, the first for appointed channels alone
abbrev pub comes_appointed : Net → ℕ → ℕ → Bool
comes_appointed net i c = (net.cross c && net.appointed c) && nat_eq (net.receiver c) i

abbrev pub goes_out : Net → ℕ → ℕ → Bool
goes_out net i c = net.cross c && nat_eq (net.sender c) i

-- ---- bounds

-- the least of `top` and the appointments on those of the first n channels that are appointed ones to timeline i
abbrev pub least_held : Net → ℕ → (ℕ → ℕ) → ℕ → ℕ → ℕ
least_held net i held top zero = top
least_held net i held top (suc c) = cond (comes_appointed net i c) (min (held c) (least_held net i held top c)) (least_held net i held top c)

-- the bound of timeline i: it executes events before this time only. It is the least of the window that it entered and
-- the appointments that it holds
abbrev pub bound_of : {E : Type 0} → Net → ℕ → Line E → ℕ
bound_of net i line = least_held net i line.held line.entered net.channels

-- the time of the first event, where it is below `top`, and else `top`
abbrev pub head_time : {E : Type 0} → (E → ℕ) → ℕ → List E → ℕ
head_time time top [] = top
head_time time top (e ∷ es) = min (time e) top

-- the lower bound of timeline i: all that it still executes has this time or a later one. It is the least of its bound
-- and the time of its first pending event
abbrev pub low_of : {X E : Type 0} → Scene X E → ℕ → Line E → ℕ
low_of s i line = head_time (time_of s) (bound_of s.net i line) line.pending

-- what timeline i can promise on a channel: what it still writes there comes at this time or later. It is the lower bound
-- and the channel's delay, up to a time after the end, and 0, which says nothing, on a windowed channel
abbrev pub promise_of : {X E : Type 0} → Scene X E → ℕ → ℕ → Line E → ℕ
promise_of s i c line = cond (s.net.appointed c) (min (low_of s i line + s.net.delay c) (s.until + 1)) 0

-- the least time ahead of a timeline, which it reports: that of its first pending event or of what it wrote to others
abbrev pub least_ahead_of : {X E : Type 0} → Scene X E → Line E → ℕ
least_ahead_of s line = min (head_time (time_of s) (s.until + 1) line.pending) line.arrival

-- the safe bound: the least lower bound of the first n timelines, and of all, up to a time after the end
abbrev pub least_low : {X E : Type 0} → Scene X E → (ℕ → Line E) → ℕ → ℕ
least_low s lines zero = s.until + 1
least_low s lines (suc i) = min (low_of s i (lines i)) (least_low s lines i)

abbrev pub safe_bound : {X E : Type 0} → Scene X E → (ℕ → Line E) → ℕ
safe_bound s lines = least_low s lines s.net.timelines
