use Rattle.std.proofs.Common.{◌≡◌, drop}
use Rattle.std.specs.List.{find}
use Rattle.net_layout.specs.Gateways.{belongs_to_router}
use Rattle.net_layout.proofs.gateways.first_router.Given as goal

abbrev pub invariant-loop-other : goal.invariant-loop-other
invariant-loop-other l = find (belongs_to_router l.network) (drop l.other-index l.others) ≡ find (belongs_to_router l.network) l.others
