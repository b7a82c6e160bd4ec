use Rattle.std.proofs.Common.{◌≡◌, ◌<◌, ◌≤◌, false, length, get_or, All}
use Rattle.spf_routes.specs.declared.graph.Arm.{Arm}
use Rattle.network_tests.proofs.routes.graph.Given as goal

abbrev pub invariant-loop-row : goal.invariant-loop-row
invariant-loop-row g l = All (λ (arm : Arm). (arm.host < length l.relays) × (arm.link < length l.links.items) × (arm.cost ≤ 65535) × (arm.relays ≡ get_or l.relays arm.host false)) l.list.items
