use Rattle.std.proofs.Common.{◌≡◌, drop}
use Rattle.host_rules.specs.Sending.{second_of}
use Rattle.host_sending.proofs.lookup.second_of.Given as goal

-- no pair up to here has the number
abbrev pub invariant-loop-pair : goal.invariant-loop-pair
invariant-loop-pair l = second_of l.pairs l.number ≡ second_of (drop l.pair-index l.pairs) l.number
