use Rattle.net_layout.proofs.Joining.{AreMapped}
use Rattle.net_layout.proofs.wiring.mappings.Given as goal

abbrev pub invariant-loop-number : goal.invariant-loop-number
invariant-loop-number l = AreMapped l.first l.rows l.number l.mappings.items
