-- Digits on both sides of a point.
use Rattle.std.proofs.Common.{◌≡◌, ℕ, zero, suc, ◌+◌, ◌-◌, ◌*◌, ◌/◌, ◌^◌, ◌<◌, ◌≤◌, Bool, true, false, not, cond, ◌&&◌, nat_eq, nat_le, List, [], ◌∷◌, ◌++◌, length, take, drop, None, Some, refl, arith, ap, ◌∙◌, add-zero, add-suc, subst, min, length-append}
use Rattle.std.specs.Option.{unwrap_or}
use Rattle.std.specs.List.{position, position_or_len}
use Rattle.std.specs.Char.{is_ascii_digit, digit_value}
use Rattle.std.specs.Str.{all_ascii_digits}
use Rattle.std.specs.Str.Parse.{digits_value, digits_value_after}
use Rattle.std.proofs.Math.Nat.{pow-suc}
use Rattle.std.proofs.lemmas.Bool.Decides.{nat_tests}
use Rattle.std.proofs.lemmas.Grind.{common_steps}
use Rattle.std.proofs.lemmas.Str.Parse.{IsNumeralModel, numerals_by_value, tells_all_ascii_digits, digits_value_short}
use Rattle.std.proofs.lemmas.List.{take_rest, drop_min}
use Rattle.nhi_address.specs.Number.{digits_of}
use Rattle.net_graph.specs.Readers.{ticks_of_digits, seconds_of}

numerals : IsNumeralModel (λ ds. all_ascii_digits ds ≡ true) (digits_value 10)
numerals = numerals_by_value (λ ds. all_ascii_digits ds ≡ true) tells_all_ascii_digits

and_assoc : (a b c : Bool) → a && (b && c) ≡ (a && b) && c
and_assoc true b c = refl
and_assoc false b c = refl

all_digits-append : (xs ys : List ℕ) → all_ascii_digits (xs ++ ys) ≡ all_ascii_digits xs && all_ascii_digits ys
all_digits-append [] ys = refl
all_digits-append (x ∷ xs) ys = ap (λ b. is_ascii_digit x && b) (all_digits-append xs ys) ∙ and_assoc (is_ascii_digit x) (all_ascii_digits xs) (all_ascii_digits ys)

after_digit : (n d p q v a b : ℕ) → q ≡ p * 10 → a ≡ (n * 10 + d) * p + v → b ≡ (0 * 10 + d) * p + v → a ≡ n * q + b
after_digit n d p q v a b e f g = rw (e, f, g) (omega arith)

value_after : (n : ℕ) (ds : List ℕ) → digits_value_after 10 n ds ≡ n * 10 ^ length ds + digits_value_after 10 0 ds
value_after n [] = omega arith
value_after n (d ∷ ds) = after_digit n (digit_value d) (10 ^ length ds) (10 ^ suc (length ds)) (digits_value_after 10 0 ds) _ _ (pow-suc 10 (length ds))
    (value_after (n * 10 + digit_value d) ds) (value_after (0 * 10 + digit_value d) ds)

value_after-append : (n : ℕ) (xs ys : List ℕ) → digits_value_after 10 n (xs ++ ys) ≡ digits_value_after 10 (digits_value_after 10 n xs) ys
value_after-append n [] ys = refl
value_after-append n (x ∷ xs) ys = value_after-append (n * 10 + digit_value x) xs ys

pub value-append : (xs ys : List ℕ) → digits_value 10 (xs ++ ys) ≡ digits_value 10 xs * 10 ^ length ys + digits_value 10 ys
value-append xs ys = value_after-append 0 xs ys ∙ value_after (digits_value 10 xs) ys

some_if : (b : Bool) (n m : ℕ) → cond b (Some n) None ≡ Some m → (b ≡ true) × (n ≡ m)
some_if true n m e = (refl, cc)
some_if false n m e = cc

none_if : (b : Bool) (n : ℕ) → cond b (Some n) None ≡ None → b ≡ false
none_if true n e = cc
none_if false n e = refl

and_false : (a b : Bool) → b ≡ false → a && b ≡ false
and_false true b e = e
and_false false b e = refl

no_ticks : (frequency : ℕ) (whole decimals : List ℕ) → all_ascii_digits (whole ++ decimals) ≡ false → ticks_of_digits frequency whole decimals ≡ None
no_ticks frequency whole decimals e = rw e (grind (arith, nat_tests))

pub no_whole : (frequency : ℕ) (whole decimals : List ℕ) → digits_of whole ≡ None → ticks_of_digits frequency whole decimals ≡ None
no_whole frequency whole decimals e =
    no_ticks frequency whole decimals (all_digits-append whole decimals ∙ ap (λ b. b && all_ascii_digits decimals) (none_if (all_ascii_digits whole) (digits_value 10 whole) e))

pub no_decimals : (frequency : ℕ) (whole decimals : List ℕ) → digits_of decimals ≡ None → ticks_of_digits frequency whole decimals ≡ None
no_decimals frequency whole decimals e =
    no_ticks frequency whole decimals (all_digits-append whole decimals ∙ and_false (all_ascii_digits whole) (all_ascii_digits decimals) (none_if (all_ascii_digits decimals) (digits_value 10 decimals) e))

-- too few or too many digits
pub no_digits : (frequency : ℕ) (whole decimals : List ℕ) → length whole + length decimals ≡ 0 → ticks_of_digits frequency whole decimals ≡ None
no_digits frequency whole decimals e = grind (arith, nat_tests, length-append whole decimals)

pub many_digits : (frequency : ℕ) (whole decimals : List ℕ) → 18 < length whole + length decimals → ticks_of_digits frequency whole decimals ≡ None
many_digits frequency whole decimals e = grind (arith, nat_tests, length-append whole decimals)

-- the number that both sides spell together
pub whole_and_decimals : (whole decimals : List ℕ) (w d : ℕ) → digits_of whole ≡ Some w → digits_of decimals ≡ Some d →
    (all_ascii_digits (whole ++ decimals) ≡ true) × (digits_value 10 (whole ++ decimals) ≡ w * 10 ^ length decimals + d)
whole_and_decimals whole decimals w d e f =
    let p = some_if (all_ascii_digits whole) (digits_value 10 whole) w e in
    let q = some_if (all_ascii_digits decimals) (digits_value 10 decimals) d f in (
      all_digits-append whole decimals ∙ (ap (λ b. b && all_ascii_digits decimals) p.0 ∙ q.0),
      value-append whole decimals ∙ (ap (λ n. n * 10 ^ length decimals + digits_value 10 decimals) p.1 ∙ ap (λ n. w * 10 ^ length decimals + n) q.1),
    )

pub both_fit : (whole decimals : List ℕ) (w d : ℕ) → digits_of whole ≡ Some w → digits_of decimals ≡ Some d → length whole + length decimals ≤ 18 → w * 10 ^ length decimals + d < 10 ^ 18
both_fit whole decimals w d e f few =
    let p = whole_and_decimals whole decimals w d e f in
    let short = digits_value_short numerals (whole ++ decimals) 18 p.0 (omega (arith, length-append whole decimals)) in
    omega (arith, p.1, short)

pub ticks_are : (frequency : ℕ) (whole decimals : List ℕ) (w d : ℕ) → digits_of whole ≡ Some w → digits_of decimals ≡ Some d → 0 < length whole + length decimals → length whole + length decimals ≤ 18 →
    cond (nat_le ((w * 10 ^ length decimals + d) * frequency / 10 ^ length decimals) 1000000000000000000) (Some ((w * 10 ^ length decimals + d) * frequency / 10 ^ length decimals)) None ≡ ticks_of_digits frequency whole decimals
ticks_are frequency whole decimals w d e f some few =
    let p = whole_and_decimals whole decimals w d e f in
    let n = length-append whole decimals in
    rw (p.0, p.1) (grind (arith, nat_tests, n))

power_pos : (k : ℕ) → 0 < 10 ^ k
power_pos zero = omega arith
power_pos (suc k) = omega (arith, pow-suc 10 k, power_pos k)

power_le : (k m : ℕ) → 10 ^ k ≤ 10 ^ (k + m)
power_le k zero = rw add-zero (omega arith)
power_le k (suc m) = rw add-suc (omega (arith, pow-suc 10 (k + m), power_le k m))

power_from : (k m : ℕ) → k + m ≡ 18 → (10 ^ k < 2 ^ 64) × (0 < 10 ^ k)
power_from k m e =
    let le = subst (λ (n : ℕ). 10 ^ k ≤ 10 ^ n) e (power_le k m) in
    (omega arith, power_pos k)

-- a power of ten of at most 18 digits
pub small_power : (k : ℕ) → k ≤ 18 → (10 ^ k < 2 ^ 64) × (0 < 10 ^ k)
small_power k le = power_from k (18 - k) (omega arith)

cond_le : (b : Bool) (n m : ℕ) → n ≤ m → cond (not b) (1 + n) 0 ≤ suc m
cond_le true n m le = omega arith
cond_le false n m le = omega arith

position_le : (p : ℕ → Bool) (text : List ℕ) → position_or_len p text ≤ length text
position_le p [] = omega arith
position_le p (x ∷ text) = cond_le (p x) (position_or_len p text) (length text) (position_le p text)

abbrev pub is_point : ℕ → Bool
is_point b = nat_eq b 46

-- the point, or the end where there is none
pub point_or_end : (text : List ℕ) → unwrap_or (position is_point text) (length text) ≡ position_or_len is_point text
point_or_end text = grind (arith, nat_tests, common_steps, position_le is_point text)

-- the two sides of the point
pub sides : (frequency : ℕ) (text : List ℕ) (at : ℕ) → at ≡ position_or_len is_point text → ticks_of_digits frequency (take at text) (drop (at + 1) text) ≡ seconds_of frequency text
sides frequency text at e = subst (λ (i : ℕ). ticks_of_digits frequency (take at text) (drop (at + 1) text) ≡ ticks_of_digits frequency (take i text) (drop (i + 1) text)) e refl

-- what is sliced off behind the point
pub decimals_are : (text : List ℕ) (n m : ℕ) → m ≡ min n (length text) → take (length text - m) (drop m text) ≡ drop n text
decimals_are text n m e = take_rest text m ∙ (ap (λ (i : ℕ). drop i text) e ∙ drop_min n text)
