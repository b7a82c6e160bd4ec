use Rattle.std.proofs.Common.{◌≡◌, take}
use Rattle.alignment.specs.Alignment.{timeline_count}
use Rattle.plan_shares.specs.Shares.{out_of}
use Rattle.plan_shares.specs.Lists.{for_each}
use Rattle.plan_shares.proofs.crosses.put_outs.Given as goal

abbrev pub invariant-loop-cross : goal.invariant-loop-cross
invariant-loop-cross l = l.lists ≡ for_each (timeline_count l.fn.alignment) (λ i. out_of l.fn.alignment i (take l.cross-index l.fn.crosses))
