use Rattle.std.proofs.Common.{◌∙◌, ap}
use Rattle.ssf_model.specs.Drafts.{Draft, with_in_channel, with_out_channel}
use Rattle.ring_model.specs.declared.ring.Ring.{Ring}
use Rattle.ring_model.specs.declared.ring.RingState.{RingState}
use Rattle.ring_model.proofs.Counting.{node_added}
use Rattle.ring_model.proofs.ring.add_node.Goals as goal

pub returns-clause-made : goal.returns-clause-made
returns-clause-made c =
    c.in_ok-out_channel.ensures.made.2 ∙ (ap (λ (d : Draft Ring RingState). with_out_channel d c.args.node 0)
    (c.in_ok-in_channel.ensures.made.2 ∙ ap (λ (d : Draft Ring RingState). with_in_channel d c.args.node) c.in_default.ensures.made.2)
    ∙ node_added c.args.builder.now c.args.node c.args.tokens c.requires.entities c.requires.ins c.requires.outs)
