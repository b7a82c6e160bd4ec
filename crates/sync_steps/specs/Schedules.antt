-- The steps that a schedule spells: `x0` is Execute of timeline 0, `t0` Take, `e0` Enter, `r0` Report, `p0.4` Post of timeline
-- 0 on channel 4, and `c` Cross. Commas stand between them.
use Rattle.std.specs.Prelude.{ℕ, ◌+◌, ◌*◌, ◌-◌, Bool, nat_eq, nat_le, ◌&&◌, ◌||◌, not, if◌then◌else◌, List, [], ◌∷◌, length, take, drop, fold, slice_index, Option, Some, None}
use Rattle.std.specs.List.{list_all, position}
use Rattle.sync_steps.specs.declared.steps.Step.{Step}
use Rattle.sync_steps.specs.declared.steps.Step.TheVariants.{Execute, Post, Take, Enter, Report, Cross}

abbrev pub is_digit : ℕ → Bool
is_digit byte = nat_le 48 byte && nat_le byte 57

-- 1 to 9 digits, of which the first is 0 only where it is the only one
abbrev pub is_number : List ℕ → Bool
is_number word = list_all is_digit word && (nat_le 1 (length word) && (nat_le (length word) 9 && (nat_eq (length word) 1 || not (nat_eq (slice_index word 0) 48))))

-- what these digits mean
abbrev pub value_of : List ℕ → ℕ
value_of digits = fold (λ n byte. 10 * n + (byte - 48)) 0 digits

-- the number that a word is
abbrev pub number_in : List ℕ → Option ℕ
number_in word = if is_number word then Some (value_of word) else None

-- the step of a letter and the number of a timeline: `x` is 120, `t` is 116, `e` is 101 and `r` is 114
abbrev pub numbered_step : ℕ → Option ℕ → Option Step
numbered_step letter None = None
numbered_step letter (Some n) =
    if nat_eq letter 120 then Some (Execute n)
    else if nat_eq letter 116 then Some (Take n)
    else if nat_eq letter 101 then Some (Enter n)
    else if nat_eq letter 114 then Some (Report n)
    else None

-- the numbers of a timeline and a channel
abbrev pub post_of : Option ℕ → Option ℕ → Option Step
post_of None channel = None
post_of (Some timeline) None = None
post_of (Some timeline) (Some channel) = Some (Post timeline channel)

-- one before and one behind a place
abbrev pub pair_at : List ℕ → Option ℕ → Option Step
pair_at word None = None
pair_at word (Some place) = post_of (number_in (take place word)) (number_in (drop (place + 1) word))

-- with the first point (46) between them
abbrev pub pair_in : List ℕ → Option Step
pair_in word = pair_at word (position (λ b. nat_eq b 46) word)

-- the step that a word spells; `c` is 99 and `p` is 112
abbrev pub step_of : List ℕ → Option Step
step_of [] = None
step_of (letter ∷ rest) =
    if nat_eq letter 99 then (if nat_eq (length rest) 0 then Some Cross else None)
    else if nat_eq letter 112 then pair_in rest
    else numbered_step letter (number_in rest)

-- a byte before the first word
abbrev pub in_first : ℕ → List (List ℕ) → List (List ℕ)
in_first byte [] = []
in_first byte (first ∷ others) = (byte ∷ first) ∷ others

-- the words between the commas (44)
unfoldable pub words_in : List ℕ → List (List ℕ)
words_in [] = [] ∷ []
words_in (byte ∷ bytes) = if nat_eq byte 44 then [] ∷ words_in bytes else in_first byte (words_in bytes)

-- the steps that words spell, if each spells one
abbrev pub with_step : Option Step → Option (List Step) → Option (List Step)
with_step None steps = None
with_step (Some step) None = None
with_step (Some step) (Some steps) = Some (step ∷ steps)

abbrev pub steps_by : List (List ℕ) → Option (List Step)
steps_by [] = Some []
steps_by (word ∷ words) = with_step (step_of word) (steps_by words)

-- the steps of a schedule
unfoldable pub steps_of : List ℕ → Option (List Step)
steps_of bytes = steps_by (words_in bytes)
