use Rattle.model_gen.specs.Draws.{server_net}
use Rattle.model_gen.specs.Campus.{lines, pattern_of}
use Rattle.model_gen.proofs.Steps.{IsWritten}
use Rattle.model_gen.proofs.traffic.push_patterns.Given as goal

abbrev pub invariant-loop-i : goal.invariant-loop-i
invariant-loop-i l = IsWritten l.seed (λ i. lines 4 (pattern_of i (server_net l.seed l.size i))) l.fn.out.items l.out.items l.generator l.i
