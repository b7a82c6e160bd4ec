use Rattle.dml_tree.specs.TreeView.{attributes}
use Rattle.net_build.proofs.Plans.{ring_found, passed_ok, passed_err}
use Rattle.net_build.proofs.ring.ring_plan.Goals as goal

pub returns-clause-built : goal.returns-clause-built
returns-clause-built c =
    passed_ok _ _ _ (ring_found (attributes c.args.tree.now) (record { nodes = c.in_ok-keys.keys.nodes; tokens = c.in_ok-keys.keys.tokens; hops = c.in_ok-keys.keys.hops }) c.as_slice.result.now c.as_slice-2.result.now c.in_ok-keys.ensures.read c.as_slice.ensures c.as_slice-2.ensures)
    c.build_ring.ensures.built

pub returns-clause-cause : goal.returns-clause-cause
returns-clause-cause c =
    passed_err _ _ _ (ring_found (attributes c.args.tree.now) (record { nodes = c.in_ok-keys.keys.nodes; tokens = c.in_ok-keys.keys.tokens; hops = c.in_ok-keys.keys.hops }) c.as_slice.result.now c.as_slice-2.result.now c.in_ok-keys.ensures.read c.as_slice.ensures c.as_slice-2.ensures)
    c.build_ring.ensures.cause
