use Rattle.ssf_model.proofs.Drafted.{channels_next}
use Rattle.ssf_model.proofs.builder.numbered.Goals as goal

pub loop-mapping-preserved : goal.loop-mapping-preserved
loop-mapping-preserved c =
    channels_next c.args.first c.loop-mapping.mapping-index c.loop-mapping.channel c.args.mappings.now
    (record { channel = 0; out_channel = 0; in_channel = 0; from = 0; to = 0; delay = 0; priority = 0 })
    c.loop-mapping.numbered.items c.push.new.self.items
    c.loop-mapping-test.true c.loop-mapping.invariant.0 c.loop-mapping.invariant.1 c.in_ok-push.ensures.items
