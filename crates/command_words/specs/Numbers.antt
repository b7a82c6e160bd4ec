-- Numbers among the words of a command: in decimal, without sign and without leading zeros.
use Rattle.std.specs.Prelude.{ℕ, ◌+◌, ◌*◌, ◌-◌, Bool, nat_eq, nat_le, ◌&&◌, ◌||◌, not, if◌then◌else◌, List, length, fold, slice_index, Option, Some, None}
use Rattle.std.specs.List.{list_all}

abbrev pub is_digit : ℕ → Bool
is_digit byte = nat_le 48 byte && nat_le byte 57

-- 1 to 19 digits, of which the first is 0 only where it is the only one
abbrev pub is_number : List ℕ → Bool
is_number word = list_all is_digit word && (nat_le 1 (length word) && (nat_le (length word) 19 && (nat_eq (length word) 1 || not (nat_eq (slice_index word 0) 48))))

-- what these digits mean
abbrev pub value_of_digits : List ℕ → ℕ
value_of_digits digits = fold (λ n byte. 10 * n + (byte - 48)) 0 digits

-- the number that a word is, where it lies in this range
abbrev pub number_within : ℕ → ℕ → List ℕ → Option ℕ
number_within least most word =
    let n = value_of_digits word in
    if is_number word && (nat_le least n && nat_le n most) then Some n else None
