use Rattle.net_layout.specs.Ports.{AreOuts}
use Rattle.net_layout.proofs.host_ports.outs.Given as goal

abbrev pub invariant-loop-number : goal.invariant-loop-number
invariant-loop-number l = AreOuts l.network l.number l.outs.items
