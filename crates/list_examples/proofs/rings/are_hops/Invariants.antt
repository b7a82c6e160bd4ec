use Rattle.std.proofs.Common.{ℕ, ◌<◌, get_or}
use Rattle.ring_model.specs.declared.ring.Hop.{Hop}
use Rattle.list_examples.proofs.rings.are_hops.Given as goal

abbrev pub invariant-loop-hop : goal.invariant-loop-hop
invariant-loop-hop l = (k : ℕ) (d : Hop) → k < l.hop-index → ((get_or l.hops k d).from < l.nodes) × ((get_or l.hops k d).to < l.nodes)
