-- Lines of the plan of a network of two hosts and a router between them.
use Rattle.std.proofs.Common.{◌≡◌, ℕ, Bool, true, false, List, [], ◌∷◌, ◌++◌, Some, None, refl}
use Rattle.std.specs.Prelude.{codes}
use Rattle.std.specs.Fmt.{digits}
use Rattle.ip_blocks.specs.Blocks.{blocks_of, parts_from, exponent_of, sum_in, offset_in, base_within}
use Rattle.net_graph.specs.declared.rows.Network.{Network}
use Rattle.net_graph.specs.declared.rows.HostRow.{HostRow}
use Rattle.net_graph.specs.declared.rows.InterfaceRow.{InterfaceRow}
use Rattle.net_graph.specs.declared.rows.LinkRow.{LinkRow}
use Rattle.net_graph.specs.declared.rows.Down.{Down}
use Rattle.net_graph.specs.Networks.{no_net}
use Rattle.ssf_model.specs.declared.plan.Mapping.{Mapping}
use Rattle.net_layout.specs.Arms.{first_interface}
use Rattle.net_layout.specs.Addresses.{network_blocks}
use Rattle.net_build.specs.PlanText.{net_line, down_line, link_line, link_lines, host_text, interface_text, interface_line, route_line, map_line, mapping_line, period_line}

abbrev line : List ℕ → List ℕ
line text = text ++ 10 ∷ []

abbrev host : ℕ → Bool → HostRow
host id router = record { net = 0; id = id; router = router; ospf = router; gateway = None; tcp = record { iss = 0; mss = 1000; receive = 32; send = 32; tries = 12; msl = 60000000000; frequency = 1000000000 } }

abbrev interface : ℕ → ℕ → ℕ → ℕ → InterfaceRow
interface host id link place = record { host = host; id = id; bitrate = 8000000; latency = 0; buffer = 1000000; cost = 1; link = Some (link, place) }

abbrev link : ℕ → ℕ → List ℕ → List Down → LinkRow
link order delay attached downs = record { net = 0; order = order; delay = delay; attached = attached; priority = 0; downs = downs }

abbrev worked : Network
worked = record {
  frequency = 1000000000;
  patterns = 0;
  nets = no_net ∷ [];
  hosts = host 1 false ∷ host 0 true ∷ host 2 false ∷ [];
  interfaces = interface 0 0 0 0 ∷ interface 1 0 0 1 ∷ interface 1 7 1 1 ∷ interface 2 0 1 0 ∷ [];
  links = link 0 1000000 (0 ∷ 1 ∷ []) [] ∷ link 1 2000000 (3 ∷ 2 ∷ []) (record { from = 1; to = 1000000 } ∷ []) ∷ [];
  sessions = [];
  servers = [];
}

abbrev mapping : ℕ → Mapping
mapping priority = record { channel = 10; out_channel = 3; in_channel = 2; from = 0; to = 1; delay = 1100000; priority = priority }

map_worked : map_line (codes "1") (codes "0") (mapping 0) ≡ line (codes "map 10 1 0 1100000")
unfolding map_line digits
map_worked = refl

priority_worked : map_line (codes "1") (codes "0") (mapping 7) ≡ line (codes "map 10 1 0 1100000 7")
unfolding map_line digits
priority_worked = refl

mapping_worked : mapping_line worked (mapping 0) ≡ line (codes "map 10 1 0 1100000")
unfolding mapping_line map_line host_text digits
mapping_worked = refl

down_worked : down_line 1 (record { from = 1; to = 1000000 }) ≡ line (codes "down 1 1 1000000")
unfolding down_line digits
down_worked = refl

period_worked : period_line worked 1000000 ≡ line (codes "period 1000000")
unfolding period_line digits
period_worked = refl

interface_worked : interface_text worked 2 ≡ codes "0(7)"
unfolding interface_text digits
interface_worked = refl

net_worked : net_line worked 0 ≡ line (codes "net - 10.0.0.0/29")
unfolding net_line network_blocks blocks_of parts_from exponent_of sum_in offset_in base_within digits
net_worked = refl

link_worked : link_lines worked 1 ≡ line (codes "link 1 10.0.0.4/30 2000000") ++ line (codes "down 1 1 1000000")
unfolding link_lines link_line down_line network_blocks blocks_of parts_from exponent_of sum_in offset_in base_within digits
link_worked = refl

address_worked : interface_line worked 2 ≡ line (codes "if 0(7) 10.0.0.6")
unfolding interface_line interface_text network_blocks blocks_of parts_from exponent_of sum_in offset_in base_within digits
address_worked = refl

route_worked : route_line worked 1 (record { block = record { base = 167772164; bits = 30 }; interface = 1; next = 0; cost = 1 }) ≡ line (codes "route 0 10.0.0.4/30 7 0.0.0.0 1")
unfolding route_line host_text first_interface digits
route_worked = refl
