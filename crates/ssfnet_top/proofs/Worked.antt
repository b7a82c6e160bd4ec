-- Worked lines, computed from the definitions.
use Rattle.std.proofs.Common.{◌≡◌, [], ◌∷◌, ◌++◌, None, true, false, refl}
use Rattle.std.specs.Prelude.{codes}
use Rattle.std.specs.Fmt.{digits}
use Rattle.dml_tree.specs.declared.reading.TreeFault.TheVariants as fault
use Rattle.net_graph.specs.declared.fault.ShapeFault.TheVariants as shape
use Rattle.net_graph.specs.declared.rows.Network.{Network}
use Rattle.net_graph.specs.declared.rows.HostRow.{HostRow}
use Rattle.ssfnet_top.specs.declared.refusal.Refusal.TheVariants as refusal
use Rattle.ssfnet_top.specs.Refusals.{line_of, tree_fault_text, shape_fault_text}
use Rattle.ssfnet_top.specs.Counts.{counted, network_line, ring_line}

open_list : line_of (refusal.Dml (codes "m.dml") (fault.OpenList 2)) ≡ codes "dml m.dml OpenList 2"
unfolding line_of tree_fault_text digits
open_list = refl

too_long : line_of (refusal.Dml (1 ∷ 32 ∷ []) fault.TooLong) ≡ codes "dml ?  TooLong 16777216"
unfolding line_of tree_fault_text digits
too_long = refl

bad_priority : line_of (refusal.Shape (shape.BadNumber (codes "priority"))) ≡ codes "shape BadNumber priority"
unfolding line_of shape_fault_text digits
bad_priority = refl

over : line_of (refusal.Budget 5) ≡ codes "budget list 5"
unfolding line_of digits
over = refl

two_nodes : ring_line (record { nodes = 2; tokens = 1; hops = 2 }) ≡ codes "ring nodes 2 tokens 1 hops 2" ++ 10 ∷ []
unfolding ring_line counted digits
two_nodes = refl

a_host : HostRow
a_host = record { net = 0; id = 1; router = false; ospf = false; gateway = None; tcp = record { iss = 0; mss = 1000; receive = 32; send = 32; tries = 12; msl = 60; frequency = 1 } }

two_hosts_and_a_router : Network
two_hosts_and_a_router = record {
  frequency = 1;
  patterns = 0;
  nets = record { parent = None; order = 0; ids = [] } ∷ [];
  hosts = a_host ∷ record a_host { id = 0; router = true } ∷ record a_host { id = 2 } ∷ [];
  interfaces = [];
  links = [];
  sessions = [];
  servers = [];
}

routers_apart : network_line two_hosts_and_a_router ≡ codes "nets 1 hosts 2 routers 1 interfaces 0 links 0 sessions 0 patterns 0 frequency 1" ++ 10 ∷ []
unfolding two_hosts_and_a_router a_host network_line counted digits
routers_apart = refl
