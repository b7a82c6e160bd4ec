-- The random start of a client session.
use Rattle.std.specs.Prelude.{ℕ, ◌+◌, ◌*◌, ◌/◌, ◌^◌, nat_eq, if◌then◌else◌}
use Rattle.rand_pcg.specs.Lcg.{Lcg}
use Rattle.rand_pcg.specs.Pcg.{pcg32}

-- with a word of 32 bits the start is spread evenly over the earliest tick and so many ticks after it
abbrev pub start_of : ℕ → ℕ → ℕ → ℕ
start_of start window word = start + word * (window + 1) / 2 ^ 32

-- the start, and the generator afterwards, which moves on by one word where there is a window
unfoldable pub drawn_start : Lcg → ℕ → ℕ → ℕ × Lcg
drawn_start generator start window =
    if nat_eq window 0 then (start, generator) else
    (let drawn = pcg32 generator in (start_of start window drawn.0, drawn.1))
