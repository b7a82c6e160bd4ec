-- Seconds: digits with perhaps one point among them, 1 to 18 digits in all.
use Rattle.std.specs.Prelude.{ℕ, ◌*◌, ◌/◌, ◌^◌, ◌&&◌, nat_eq, nat_le, List, ◌++◌, length, Option, Some, None, if◌then◌else◌}
use Rattle.std.specs.List.{before_first, after_first}
use Rattle.std.specs.Str.Parse.{digits_value}
use Rattle.nhi_address.specs.Number.{is_numeral}

-- the ticks of so many seconds and these decimals of a second, rounded down, where they are at most 10^18
abbrev pub ticks_of_digits : ℕ → List ℕ → List ℕ → Option ℕ
ticks_of_digits frequency whole decimals = let ticks = digits_value 10 (whole ++ decimals) * frequency / 10 ^ length decimals in
    if is_numeral 18 (whole ++ decimals) && nat_le ticks 1000000000000000000 then Some ticks else None

-- the ticks of a text of seconds: what stands before the first point, and what stands after it
abbrev pub seconds_of : ℕ → List ℕ → Option ℕ
seconds_of frequency text = ticks_of_digits frequency (before_first (λ b. nat_eq b 46) text) (after_first (λ b. nat_eq b 46) text)
