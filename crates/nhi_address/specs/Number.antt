-- Whole numbers in decimal.
use Rattle.std.specs.Prelude.{ℕ, Bool, ◌&&◌, nat_le, List, length, Option, Some, None, if◌then◌else◌}
use Rattle.std.specs.Str.{all_ascii_digits}
use Rattle.std.specs.Str.Parse.{digits_value}

-- the number that a text of digits spells; 0 for the empty text
abbrev pub digits_of : List ℕ → Option ℕ
digits_of text = if all_ascii_digits text then Some (digits_value 10 text) else None

-- the text has 1 to `most` decimal digits, and nothing else
abbrev pub is_numeral : ℕ → List ℕ → Bool
is_numeral most text = nat_le 1 (length text) && nat_le (length text) most && all_ascii_digits text

-- the number that a text of 1 to `digits` digits spells, where it lies from `least` to `most`
abbrev pub number_of : ℕ → ℕ → ℕ → List ℕ → Option ℕ
number_of digits least most text = let n = digits_value 10 text in
    if is_numeral digits text && nat_le least n && nat_le n most then Some n else None
