-- What has to hold of a run and of how it is shared out, so that the laws of the six steps hold.
use Rattle.std.specs.Prelude.{ℕ, ◌≡◌, ◌+◌, ◌<◌, ◌≤◌, Bool, true, false, Some, None}
use Rattle.event_order.specs.declared.key.Key.{Key}
use Rattle.event_order.specs.Pending.{Among}
use Rattle.event_order.specs.Laws.{IsLawful, IsOpening}
use Rattle.ssf_model.specs.Scene.{Scene, Net, world_at, event_at, time_of, channel_of}

-- the channels that cross do so between two timelines that are there, with a delay of at least one tick, and the
-- lookahead, which is at least one tick, is at most the delay of each windowed one
pub record IsJoining (net : Net) : Type 0 where
  pub known : (c : ℕ) → net.cross c ≡ true → c < net.channels
  pub sender : (c : ℕ) → net.cross c ≡ true → net.sender c < net.timelines
  pub receiver : (c : ℕ) → net.cross c ≡ true → net.receiver c < net.timelines
  pub apart : (c : ℕ) → net.cross c ≡ true → net.sender c ≡ net.receiver c → ⊥
  pub delayed : (c : ℕ) → net.cross c ≡ true → 1 ≤ net.delay c
  pub windowed : (c : ℕ) → net.cross c ≡ true → net.appointed c ≡ false → (lookahead : ℕ) × (net.lookahead ≡ Some lookahead) × (lookahead ≤ net.delay c)
  pub long : (lookahead : ℕ) → net.lookahead ≡ Some lookahead → 1 ≤ lookahead

-- event number k, which is `by`, writes d
pub record IsWrittenBy {X E : Type 0} (s : Scene X E) (k : ℕ) (by d : E) : Type 0 where
  pub is : event_at s k ≡ Some by
  pub among : Among d (s.machine.writes (world_at s k).state by)

-- `by` writes d on a channel that stays on their timeline; or on one that crosses from the timeline of `by` to that of d,
-- and then no sooner than after the channel's delay, and the cut keeps d
pub record IsRouted {X E : Type 0} (s : Scene X E) (by d : E) : Type 0 where
  pub inside : s.net.cross (channel_of s d) ≡ false → s.line by ≡ s.line d
  pub sent : s.net.cross (channel_of s d) ≡ true → s.line by ≡ s.net.sender (channel_of s d)
  pub reached : s.net.cross (channel_of s d) ≡ true → s.line d ≡ s.net.receiver (channel_of s d)
  pub delayed : s.net.cross (channel_of s d) ≡ true → time_of s by + s.net.delay (channel_of s d) ≤ time_of s d
  pub uncut : s.net.cross (channel_of s d) ≡ true → s.kept (s.machine.key d) ≡ true

-- the run of a lawful machine from an opening in order, which ends, and is shared out to timelines whose channels carry
-- all that one of them writes for another. `known x k` tests whether the key k was given out in the state x
pub record IsShared {X E : Type 0} (s : Scene X E) : Type 0 where
  pub known : X → Key → Bool
  pub lawful : IsLawful s.machine (λ x k. known x k ≡ true)
  pub opening : IsOpening s.machine (λ x k. known x k ≡ true) s.opening
  pub end : ℕ
  pub ended : event_at s end ≡ None
  pub joining : IsJoining s.net
  pub placed : (k : ℕ) (e : E) → event_at s k ≡ Some e → s.line e < s.net.timelines
  pub routed : (k : ℕ) (by d : E) → IsWrittenBy s k by d → IsRouted s by d
