-- The retransmission timeout of TCP (RFC 6298), in whole ticks: each quotient is rounded down, and
-- the clock's granularity G is a tick.
use Rattle.std.specs.Prelude.{ℕ, ◌+◌, ◌*◌, ◌/◌, ◌≤◌, ◌^◌, max, min, Option, Some, None}
use Rattle.std.specs.Int.{abs_diff}
use Rattle.tcp_clock.specs.declared.rto.RoundTrip.{RoundTrip}

-- the ticks of a second, the timeout in ticks, and what the samples so far give
pub record Timeout : Type 0 where
  pub frequency : ℕ
  pub value : ℕ
  pub smoothed : Option RoundTrip

-- at least one second (section 2.4) and at most 64 (section 2.5)
abbrev pub bounded : ℕ → ℕ → ℕ
bounded frequency ticks = min (64 * frequency) (max frequency ticks)

-- a first sample R (section 2.2): SRTT = R, RTTVAR = R / 2
abbrev pub first_smoothed : ℕ → RoundTrip
first_smoothed sample = record { srtt = sample; rttvar = sample / 2 }

-- a later one (section 2.3), with alpha = 1/8 and beta = 1/4:
-- RTTVAR = (1 - beta) * RTTVAR + beta * |SRTT - R|, and then SRTT = (1 - alpha) * SRTT + alpha * R
abbrev pub next_smoothed : RoundTrip → ℕ → RoundTrip
next_smoothed s sample =
    record { srtt = (7 * s.srtt + sample) / 8; rttvar = (3 * s.rttvar + abs_diff s.srtt sample) / 4 }

abbrev pub smoothed_by : Option RoundTrip → ℕ → RoundTrip
smoothed_by None sample = first_smoothed sample
smoothed_by (Some s) sample = next_smoothed s sample

-- before a sample the timeout is one second (section 2.1)
unfoldable pub first_timeout : ℕ → Timeout
first_timeout frequency = record { frequency = frequency; value = frequency; smoothed = None }

-- RTO = SRTT + max (G, 4 * RTTVAR) (sections 2.2 and 2.3)
unfoldable pub sampled : Timeout → ℕ → Timeout
sampled t sample =
    let s = smoothed_by t.smoothed sample in
    record t { value = bounded t.frequency (s.srtt + max 1 (4 * s.rttvar)); smoothed = Some s }

-- the timer ran out (section 5.5): RTO = RTO * 2, and at most 64 seconds
unfoldable pub backed_off : Timeout → Timeout
backed_off t = record t { value = min (64 * t.frequency) (2 * t.value) }

-- what every timeout keeps
pub record IsTimeout (t : Timeout) : Type 0 where
  pub some_frequency : 1 ≤ t.frequency
  pub most_frequency : t.frequency ≤ 10 ^ 12
  pub least : t.frequency ≤ t.value
  pub most : t.value ≤ 64 * t.frequency
