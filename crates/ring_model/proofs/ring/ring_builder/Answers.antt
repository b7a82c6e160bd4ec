use Rattle.std.proofs.Common.{◌∙◌, ap}
use Rattle.ssf_model.specs.Drafts.{Draft}
use Rattle.ring_model.specs.declared.ring.Ring.{Ring}
use Rattle.ring_model.specs.declared.ring.RingState.{RingState}
use Rattle.ring_model.specs.Rings.{with_hops}
use Rattle.ring_model.proofs.Counting.{ring_valid}
use Rattle.ring_model.proofs.ring.ring_builder.Goals as goal

pub returns-clause-valid : goal.returns-clause-valid
returns-clause-valid c =
    ring_valid (record {}) c.args.nodes c.args.tokens.now c.args.hops.now c.add_hops.new.builder c.requires.few
    (c.in_ok-add_hops.ensures.made.1 ∙ ap (λ (d : Draft Ring RingState). with_hops d c.args.hops.now) c.in_ok-builder.ensures.made)
