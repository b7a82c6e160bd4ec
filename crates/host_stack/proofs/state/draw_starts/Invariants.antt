use Rattle.std.proofs.Common.{drop}
use Rattle.rand_pcg.specs.Pcg.{pcg32_of_seed}
use Rattle.rand_core.specs.Pcg32Seed.{pcg32_seed}
use Rattle.host_stack.proofs.Starting.{StartLoop}
use Rattle.host_stack.proofs.state.draw_starts.Given as goal

-- the starts so far and those that are left make all
abbrev pub invariant-loop-client : goal.invariant-loop-client
invariant-loop-client l = StartLoop (pcg32_of_seed (pcg32_seed 16 l.rows.number)) l.clients (drop l.client-index l.clients) l.starts.items l.stream
