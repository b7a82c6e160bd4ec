-- How much is left to do: five numbers, of which each step lowers one and raises none before it.
use Rattle.std.specs.Prelude.{ℕ, zero, suc, ◌+◌, ◌-◌, ◌*◌, ◌<◌, ◌≤◌, cond, nat_lt, length}
use Rattle.ssf_model.specs.Scene.{Scene}
use Rattle.sync_rules.specs.Parts.{Line, BarrierOf, CoreOf}

pub record Left : Type 0 where
  pub time : ℕ
  pub windows : ℕ
  pub events : ℕ
  pub promises : ℕ
  pub parcels : ℕ

-- one of the numbers is less, and none before it is more
pub data IsLess (n m : Left) : Type 0 where
  in_time : n.time < m.time → IsLess n m
  in_windows : n.time ≤ m.time → n.windows < m.windows → IsLess n m
  in_events : n.time ≤ m.time → n.windows ≤ m.windows → n.events < m.events → IsLess n m
  in_promises : n.time ≤ m.time → n.windows ≤ m.windows → n.events ≤ m.events → n.promises < m.promises → IsLess n m
  in_parcels : n.time ≤ m.time → n.windows ≤ m.windows → n.events ≤ m.events → n.promises ≤ m.promises → n.parcels < m.parcels → IsLess n m

-- the sum of the first n values
abbrev pub sum_below : (ℕ → ℕ) → ℕ → ℕ
sum_below f zero = 0
sum_below f (suc n) = sum_below f n + f n

-- the time from the barrier's window to a time after the end, and one more until it has ended
abbrev pub time_left : {X E : Type 0} → Scene X E → BarrierOf → ℕ
time_left s b = ((s.until + 1) - b.window) + cond b.ended 0 1

-- of a timeline: one where it has to enter the window, and one where it has to report
abbrev pub window_left : {E : Type 0} → BarrierOf → ℕ → Line E → ℕ
window_left b i l = cond (nat_lt l.entered b.window) 1 0 + cond (b.reported i) 0 1

-- of a channel: how far the appointments of the mail and of the receiver are from a time after the end
abbrev pub promise_left : {X E : Type 0} → Scene X E → ℕ → CoreOf E → ℕ
promise_left s c t = ((s.until + 1) - (t.mails c).appointment) + ((s.until + 1) - (t.lines (s.net.receiver c)).held c)

-- of a channel: the events to post, which have then to be taken, and those to take
abbrev pub parcel_left : {X E : Type 0} → Scene X E → ℕ → CoreOf E → ℕ
parcel_left s c t = 2 * length ((t.lines (s.net.sender c)).outbox c) + length (t.mails c).events

-- the value at a channel that crosses, and 0 at others
abbrev pub at_cross : {X E : Type 0} → Scene X E → (ℕ → ℕ) → ℕ → ℕ
at_cross s f c = cond (s.net.cross c) (f c) 0

abbrev pub left_of : {X E : Type 0} → Scene X E → ℕ → CoreOf E → Left
left_of s budget t = record {
  time = time_left s t.barrier;
  windows = sum_below (λ i. window_left t.barrier i (t.lines i)) s.net.timelines;
  events = sum_below (λ i. budget - (t.lines i).executed) s.net.timelines;
  promises = sum_below (at_cross s (λ c. promise_left s c t)) s.net.channels;
  parcels = sum_below (at_cross s (λ c. parcel_left s c t)) s.net.channels;
}

-- the five in one number, where the last four are below these bases
abbrev pub packed : ℕ → ℕ → ℕ → ℕ → Left → ℕ
packed windows events promises parcels n = (((n.time * windows + n.windows) * events + n.events) * promises + n.promises) * parcels + n.parcels
