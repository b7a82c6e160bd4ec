use Rattle.std.proofs.Common.{◌≡◌, replicate}
use Rattle.net_build.proofs.ring.one_net.Given as goal

abbrev pub invariant-loop : goal.invariant-loop
invariant-loop l = l.nets.items ≡ replicate l.counter 0
