use Rattle.std.proofs.Common.{[], get_or, arith}
use Rattle.global_list.proofs.FanOuts.{by_out_next, by_out_all}
use Rattle.global_list.proofs.fan_out.FanOut.new.Goals as goal

pub loop-mapping-preserved : goal.loop-mapping-preserved
loop-mapping-preserved c = λ out.
    by_out_next c.args.mappings c.as_slice-mapping-items.result.now c.loop-mapping.mapping-index out
    (record { channel = 0; out_channel = 0; in_channel = 0; from = 0; to = 0; delay = 0; priority = 0 })
    (get_or c.loop-mapping.by_out.items out []) (get_or c.add.new.by_out.items out [])
    c.as_slice-mapping-items.ensures c.loop-mapping-test.true (c.loop-mapping.invariant out) (c.in_ok-add.ensures out)

pub invariant_of-result : goal.invariant_of-result
invariant_of-result c = λ out.
    by_out_all c.args.mappings c.as_slice-mapping-items.result.now c.loop-mapping.mapping-index out (get_or c.loop-mapping.by_out.items out [])
    c.as_slice-mapping-items.ensures (omega arith) (c.loop-mapping.invariant out)
