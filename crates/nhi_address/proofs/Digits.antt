-- Texts of digits: one more digit, a byte that is none, and how large their numbers are.
use Rattle.std.proofs.Common.{◌≡◌, ℕ, zero, suc, ◌+◌, ◌-◌, ◌^◌, ◌<◌, ◌≤◌, Bool, true, false, ◌&&◌, List, [], ◌∷◌, length, get_or, take, None, refl, arith, add-one}
use Rattle.std.specs.Char.{is_ascii_digit, digit_value}
use Rattle.std.specs.Str.{all_ascii_digits}
use Rattle.std.specs.Str.Parse.{digits_value}
use Rattle.std.proofs.lemmas.Bool.Decides.{nat_tests}
use Rattle.std.proofs.lemmas.Str.Parse.{IsNumeralModel, numerals_by_value, tells_all_ascii_digits, digits_value_short}
use Rattle.nhi_address.specs.Number.{digits_of}

pub numerals : IsNumeralModel (λ ds. all_ascii_digits ds ≡ true) (digits_value 10)
numerals = numerals_by_value (λ ds. all_ascii_digits ds ≡ true) tells_all_ascii_digits

both : (a b : Bool) → a ≡ true → b ≡ true → a && b ≡ true
both true b p q = q
both false b p q = p

pub first : (a b : Bool) → a && b ≡ true → a ≡ true
first true b p = refl
first false b p = p

pub second : (a b : Bool) → a && b ≡ true → b ≡ true
second true b p = p
second false b p = cc

not_first : (a b : Bool) → a ≡ false → a && b ≡ false
not_first true b p = cc
not_first false b p = refl

not_second : (a b : Bool) → b ≡ false → a && b ≡ false
not_second true b p = p
not_second false b p = refl

all_digits_suc : (bs : List ℕ) (i : ℕ) → i < length bs → all_ascii_digits (take i bs) ≡ true → is_ascii_digit (get_or bs i 0) ≡ true → all_ascii_digits (take (suc i) bs) ≡ true
all_digits_suc [] i lt all digit = absurd (omega arith)
all_digits_suc (b ∷ bs) zero lt all digit = both _ _ digit refl
all_digits_suc (b ∷ bs) (suc i) lt all digit =
    both _ _ (first _ (all_ascii_digits (take i bs)) all) (all_digits_suc bs i (omega arith) (second (is_ascii_digit b) _ all) digit)

-- one more digit of a text of digits
pub all_digits_more : (bs : List ℕ) (i : ℕ) → i < length bs → all_ascii_digits (take i bs) ≡ true → is_ascii_digit (get_or bs i 0) ≡ true → all_ascii_digits (take (i + 1) bs) ≡ true
all_digits_more bs i lt all digit = rw add-one (all_digits_suc bs i lt all digit)

-- a byte that is no digit
pub not_all_digits : (bs : List ℕ) (i : ℕ) → i < length bs → is_ascii_digit (get_or bs i 0) ≡ false → all_ascii_digits bs ≡ false
not_all_digits [] i lt digit = absurd (omega arith)
not_all_digits (b ∷ bs) zero lt digit = not_first _ _ digit
not_all_digits (b ∷ bs) (suc i) lt digit = not_second (is_ascii_digit b) _ (not_all_digits bs i (omega arith) digit)

-- 17 digits fit 64 bits with room for one more
pub digits_small : (ds : List ℕ) → all_ascii_digits ds ≡ true → length ds ≤ 17 → digits_value 10 ds < 10 ^ 17
digits_small ds all short = digits_value_short numerals ds 17 all short

-- what a digit stands for
pub digit_value_is : (c : ℕ) → is_ascii_digit c ≡ true → digit_value c ≡ c - 48
digit_value_is c h = grind (arith, nat_tests)

-- a text with a byte that is no digit spells no number
pub no_digits : (bs : List ℕ) (i : ℕ) → i < length bs → is_ascii_digit (get_or bs i 0) ≡ false → digits_of bs ≡ None
no_digits bs i lt digit = rw (not_all_digits bs i lt digit) refl
