use Rattle.std.proofs.Common.{◌≡◌, drop}
use Rattle.sync_steps.specs.Between.{promised_among}
use Rattle.sync_steps.proofs.between.promise_among.Given as goal

abbrev pub invariant-loop-cross : goal.invariant-loop-cross
invariant-loop-cross l = promised_among l.fn.outs l.channel l.low l.top ≡ promised_among (drop l.cross-index l.fn.outs) l.channel l.low l.top
