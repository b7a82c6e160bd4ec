use Rattle.std.proofs.Common.{ℕ, ◌≡◌, ◌<◌, ◌≤◌, ◌+◌, ◌*◌, ◌^◌, List, [], ◌∷◌, length, get_or, true, false, Bool, zero, suc, arith, refl, ◌&&◌}
use Rattle.std.proofs.Math.Nat.{pow-le-pow_right}
use Rattle.std.specs.List.{list_all}
use Rattle.sync_steps.specs.Schedules.{is_number, is_digit}
use Rattle.sync_steps.proofs.schedules.decimal_value.Goals as goal

-- a number has at most 9 digits
short : (digits : List ℕ) → is_number digits ≡ true → length digits ≤ 9
short digits number = grind arith

-- one more digit still fits 32 bits
fits : (n value index : ℕ) → n ≤ 9 → index < n → value < 10 ^ index → 10 * value + 10 ≤ 2 ^ 32
fits n value index most below small =
    let ten : zero < 10 = omega arith in
    let last : index ≤ 8 = omega arith in
    let top : 10 ^ index ≤ 10 ^ 8 = pow-le-pow_right ten last in omega arith

-- all of it are digits
digits_all : (digits : List ℕ) → is_number digits ≡ true → list_all is_digit digits ≡ true
digits_all digits number = grind arith

both : (a b : Bool) → (a && b) ≡ true → (a ≡ true) × (b ≡ true)
both true b h = (refl, h)
both false b h = cc

digit_at : (digits : List ℕ) (index : ℕ) → list_all is_digit digits ≡ true → index < length digits → get_or digits index 0 ≤ 57
digit_at [] index all below = absurd (omega arith)
digit_at (d ∷ ds) zero all below = let h = (both (is_digit d) (list_all is_digit ds) all).0 in grind arith
digit_at (d ∷ ds) (suc index) all below =
    let rest = (both (is_digit d) (list_all is_digit ds) all).1 in
    let lower : index < length ds = omega arith in digit_at ds index rest lower

pub overflow_mul-value : goal.overflow_mul-value
overflow_mul-value c =
    let few = short c.args.digits.now c.requires in
    let room = fits _ _ _ few c.loop-byte-test.true c.loop-byte.invariant.small in omega arith

pub overflow_add-value : goal.overflow_add-value
overflow_add-value c =
    let few = short c.args.digits.now c.requires in
    let digit = digit_at c.args.digits.now _ (digits_all c.args.digits.now c.requires) c.loop-byte-test.true in
    let room = fits _ _ _ few c.loop-byte-test.true c.loop-byte.invariant.small in omega arith
