use Rattle.std.proofs.Common.{◌≡◌, take}
use Rattle.alignment.specs.Alignment.{timeline_count}
use Rattle.plan_shares.specs.Shares.{inside_on}
use Rattle.plan_shares.specs.Lists.{for_each}
use Rattle.plan_shares.proofs.crosses.put_inside.Given as goal

abbrev pub invariant-loop-mapping : goal.invariant-loop-mapping
invariant-loop-mapping l = l.lists ≡ for_each (timeline_count l.fn.alignment) (λ i. inside_on l.fn.alignment i (take l.mapping-index l.fn.mappings))
