-- How a schedule is spelt: steps joined by commas. `x0` is a step of timeline 0, and so are `t0`, `e0` and `r0`;
-- `p0.4` is one of timeline 0 and mapping 4, and `c` one of neither.
use Rattle.std.specs.Prelude.{ℕ, Bool, false, nat_eq, nat_le, ◌&&◌, ◌||◌, ◌+◌, if◌then◌else◌, List, [], ◌∷◌, length, take, drop, Option, Some, None}
use Rattle.std.specs.List.{list_all, position}
use Rattle.command_words.specs.Numbers.{is_number}

-- a byte before the first text
abbrev pub in_first : ℕ → List (List ℕ) → List (List ℕ)
in_first byte [] = []
in_first byte (first ∷ others) = (byte ∷ first) ∷ others

-- the texts between the commas (44)
unfoldable pub parts : List ℕ → List (List ℕ)
parts [] = [] ∷ []
parts (byte ∷ bytes) = if nat_eq byte 44 then [] ∷ parts bytes else in_first byte (parts bytes)

-- a number of 1 to 9 digits, without leading zeros
abbrev pub is_step_number : List ℕ → Bool
is_step_number word = is_number word && nat_le (length word) 9

-- numbers stand before and behind this place
abbrev pub is_pair_at : List ℕ → Option ℕ → Bool
is_pair_at word None = false
is_pair_at word (Some place) = is_step_number (take place word) && is_step_number (drop (place + 1) word)

-- two numbers with a point (46) between them
abbrev pub is_step_pair : List ℕ → Bool
is_step_pair word = is_pair_at word (position (λ b. nat_eq b 46) word)

-- `x` (120), `t` (116), `e` (101) or `r` (114)
abbrev pub is_step_letter : ℕ → Bool
is_step_letter byte = nat_eq byte 120 || (nat_eq byte 116 || (nat_eq byte 101 || nat_eq byte 114))

-- one step; `c` is 99 and `p` is 112
abbrev pub is_step : List ℕ → Bool
is_step [] = false
is_step (letter ∷ rest) =
    if nat_eq letter 99 then nat_eq (length rest) 0
    else if nat_eq letter 112 then is_step_pair rest
    else is_step_letter letter && is_step_number rest

unfoldable pub is_schedule : List ℕ → Bool
is_schedule word = list_all is_step (parts word)
