use Rattle.std.proofs.Common.{◌≡◌, ◌≤◌}
use Rattle.ssf_model.specs.Drafts.{MostChannels}
use Rattle.ring_model.specs.Rings.{ring_draft}
use Rattle.ring_model.proofs.ring.add_nodes.Given as goal

abbrev pub invariant-loop-node : goal.invariant-loop-node
invariant-loop-node l = (l.builder ≡ ring_draft (record {}) l.node l.tokens) × (l.node ≤ MostChannels)
