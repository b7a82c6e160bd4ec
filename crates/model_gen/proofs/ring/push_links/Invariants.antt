use Rattle.model_gen.specs.Draws.{delay}
use Rattle.model_gen.specs.Campus.{lines, ring_link}
use Rattle.model_gen.proofs.Steps.{IsWritten}
use Rattle.model_gen.proofs.ring.push_links.Given as goal

abbrev pub invariant-loop-i : goal.invariant-loop-i
invariant-loop-i l = IsWritten l.seed (λ i. lines 2 (ring_link l.size i (delay l.seed i))) l.fn.out.items l.out.items l.generator l.i
