use Rattle.std.proofs.Common.{◌≡◌, ◌<◌, ◌^◌, take}
use Rattle.command_words.specs.Numbers.{value_of_digits}
use Rattle.command_words.proofs.number.decimal_value.Given as goal

abbrev pub invariant-loop-byte : goal.invariant-loop-byte
invariant-loop-byte l = record {
  value : l.value ≡ value_of_digits (take l.byte-index l.digits);
  small : l.value < 10 ^ l.byte-index;
}
