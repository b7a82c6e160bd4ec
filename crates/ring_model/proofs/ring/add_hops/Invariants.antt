use Rattle.ring_model.proofs.Counting.{HopsLeft}
use Rattle.ring_model.proofs.ring.add_hops.Given as goal

abbrev pub invariant-loop-hop : goal.invariant-loop-hop
invariant-loop-hop l = HopsLeft l.fn.builder l.builder l.hops l.hop-index
