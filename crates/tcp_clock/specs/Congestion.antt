-- The congestion window of TCP (RFC 5681), in bytes.
use Rattle.std.specs.Prelude.{ℕ, ◌+◌, ◌*◌, ◌/◌, ◌≤◌, ◌^◌, max, min, nat_lt, if◌then◌else◌}

-- the maximum segment size, the slow start threshold, and the window
pub record Window : Type 0 where
  pub mss : ℕ
  pub threshold : ℕ
  pub size : ℕ

-- the window begins with one segment (within the upper bound of section 3.1)
unfoldable pub first_window : ℕ → ℕ → Window
first_window mss threshold = record { mss = mss; threshold = threshold; size = mss }

-- slow start (section 3.1, equation 2): min (N, SMSS) for N bytes newly acknowledged
abbrev pub slow_start : Window → ℕ → ℕ
slow_start w bytes = min bytes w.mss

-- congestion avoidance (section 3.1, equation 3): SMSS * SMSS / cwnd, and at least one byte
abbrev pub avoidance : Window → ℕ
avoidance w = max 1 (w.mss * w.mss / w.size)

-- by how much an acknowledgment of new bytes opens the window: slow start runs below the threshold
abbrev pub growth : Window → ℕ → ℕ
growth w bytes = if nat_lt w.size w.threshold then slow_start w bytes else avoidance w

-- an acknowledgment of new bytes opens no window above 2^30
unfoldable pub grown : Window → ℕ → Window
grown w bytes = record w { size = min (2 ^ 30) (w.size + growth w bytes) }

-- ssthresh = max (FlightSize / 2, 2 * SMSS) (section 3.1, equation 4)
abbrev pub halved : Window → ℕ → ℕ
halved w flight = max (flight / 2) (2 * w.mss)

-- the third duplicate acknowledgment (section 3.2, steps 2 and 6), without inflation of the window
unfoldable pub third_duplicate : Window → ℕ → Window
third_duplicate w flight = record w { threshold = halved w flight; size = halved w flight }

-- the first timeout of a segment (section 3.1): ssthresh as above, and one segment, the loss window
unfoldable pub timed_out : Window → ℕ → Window
timed_out w flight = record w { threshold = halved w flight; size = w.mss }

-- a later timeout of a segment that was sent again (section 3.1): ssthresh stays
unfoldable pub timed_out_again : Window → Window
timed_out_again w = record w { size = w.mss }

-- what every window keeps; half of a flight is at most 2^63
pub record IsWindow (w : Window) : Type 0 where
  pub some_mss : 1 ≤ w.mss
  pub most_mss : w.mss ≤ 65495
  pub some : 1 ≤ w.size
  pub most : w.size ≤ 2 ^ 63
