use Rattle.std.proofs.Common.{◌∙◌, sym, get_or, take, arith}
use Rattle.std.proofs.lemmas.Int.Digits.{digits_value_more}
use Rattle.std.proofs.lemmas.List.{length-take}
use Rattle.nhi_address.proofs.Digits.{all_digits_more, digits_small, digit_value_is, no_digits}
use Rattle.nhi_address.proofs.number.read_digits.Goals as goal

pub returns-then-not-is_ascii_digit : goal.returns-then-not-is_ascii_digit
returns-then-not-is_ascii_digit c = sym (no_digits _ c.loop-byte.byte-index c.loop-byte-test.true (sym c.is_ascii_digit.ensures.value ∙ c.if-not-is_ascii_digit.true))

pub overflow_mul-number : goal.overflow_mul-number
overflow_mul-number c =
    omega (arith, digits_small (take c.loop-byte.byte-index c.args.bytes.now) c.loop-byte.invariant.digits (omega (arith, length-take c.loop-byte.byte-index c.args.bytes.now)))

pub overflow_add-number : goal.overflow_add-number
overflow_add-number c =
    omega (arith, digits_small (take c.loop-byte.byte-index c.args.bytes.now) c.loop-byte.invariant.digits (omega (arith, length-take c.loop-byte.byte-index c.args.bytes.now)), c.if-not-is_ascii_digit.ensures)

pub loop-byte-preserved : goal.loop-byte-preserved
loop-byte-preserved c =
    let digit = sym c.is_ascii_digit.ensures.value ∙ c.if-not-is_ascii_digit.false in
    record {
      digits = all_digits_more _ _ c.loop-byte-test.true c.loop-byte.invariant.digits digit;
      number = omega (arith, digits_value_more 10 c.args.bytes.now c.loop-byte.byte-index c.loop-byte-test.true, digit_value_is (get_or c.args.bytes.now c.loop-byte.byte-index 0) digit);
    }
