use Rattle.std.proofs.Common.{◌≡◌, ℕ, length, take}
use Rattle.spf_routes.specs.declared.search.Edge.{Edge}
use Rattle.spf_routes.specs.Paths.{IsEdge}
use Rattle.spf_routes.specs.Arms.{AreArms}
use Rattle.spf_routes.proofs.routes.edges.Given as goal

abbrev pub invariant-loop-node : goal.invariant-loop-node
invariant-loop-node l = (length l.edges.items ≡ l._node) × ((n : ℕ) (edge : Edge) → IsEdge l.edges.items n edge → ⊥)

abbrev pub invariant-loop-arm : goal.invariant-loop-arm
invariant-loop-arm l = AreArms (take l.arm-index l.arms) l.links l.nodes l.edges.items
