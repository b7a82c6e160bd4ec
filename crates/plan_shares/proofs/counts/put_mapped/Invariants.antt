use Rattle.std.proofs.Common.{◌≡◌}
use Rattle.alignment.specs.Alignment.{timeline_count}
use Rattle.plan_shares.specs.Lists.{for_each}
use Rattle.plan_shares.proofs.Filling.{with_mapped}
use Rattle.plan_shares.proofs.counts.put_mapped.Given as goal

abbrev pub invariant-loop-mapping : goal.invariant-loop-mapping
invariant-loop-mapping l = l.lists ≡ for_each (timeline_count l.fn.alignment) (with_mapped l.fn.counts l.fn.alignment l.fn.mappings l.fn.lists l.mapping-index)
