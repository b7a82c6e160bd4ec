use Rattle.std.proofs.Common.{◌≡◌, ◌<◌, ◌^◌, take}
use Rattle.sync_steps.specs.Schedules.{value_of}
use Rattle.sync_steps.proofs.schedules.decimal_value.Given as goal

abbrev pub invariant-loop-byte : goal.invariant-loop-byte
invariant-loop-byte l = record {
  value : l.value ≡ value_of (take l.byte-index l.digits);
  small : l.value < 10 ^ l.byte-index;
}
