-- A network of two hosts and a router between them, and one whose link goes down twice.
use Rattle.std.proofs.Common.{◌≡◌, ℕ, ◌+◌, true, false, List, [], ◌∷◌, Some, None, refl}
use Rattle.net_graph.specs.declared.rows.Network.{Network}
use Rattle.net_graph.specs.declared.rows.HostRow.{HostRow}
use Rattle.net_graph.specs.declared.rows.InterfaceRow.{InterfaceRow}
use Rattle.net_graph.specs.declared.rows.LinkRow.{LinkRow}
use Rattle.net_graph.specs.declared.rows.Down.{Down}
use Rattle.net_graph.specs.declared.rows.SessionKind.TheVariants.{Client}
use Rattle.ip_blocks.specs.Blocks.{blocks_of, parts_from, exponent_of, sum_in, offset_in, base_within}
use Rattle.ssf_model.specs.declared.plan.Mapping.{Mapping}
use Rattle.net_graph.specs.Networks.{no_net}
use Rattle.net_layout.specs.Periods.{periods_of, is_up}
use Rattle.net_layout.specs.Arms.{first_interface, place_of}
use Rattle.net_layout.specs.Addresses.{network_blocks}
use Rattle.net_layout.specs.Wiring.{first_channel, wires_of_link, wires_of, mappings_of}
use Rattle.net_layout.specs.Ports.{ports_of, ins_of, owners_before, owners_of, outs_of, downs_of}
use Rattle.net_layout.specs.Sessions.{timed_of, first_timer, timers_of}

abbrev host : HostRow
host = record { net = 0; id = 0; router = false; ospf = false; gateway = None; tcp = record { iss = 0; mss = 1000; receive = 32; send = 32; tries = 12; msl = 60000000000; frequency = 1000000000 } }

abbrev interface : ℕ → ℕ → ℕ → ℕ → InterfaceRow
interface host latency link place = record { host = host; id = 0; bitrate = 8000000; latency = latency; buffer = 1000000; cost = 1; link = Some (link, place) }

abbrev link : ℕ → ℕ → List ℕ → List Down → LinkRow
link order delay attached downs = record { net = 0; order = order; delay = delay; attached = attached; priority = 0; downs = downs }

abbrev worked : Network
worked = record {
  frequency = 1000000000;
  patterns = 0;
  nets = no_net ∷ [];
  hosts = host ∷ host ∷ host ∷ [];
  interfaces = interface 0 100000 0 0 ∷ interface 1 0 0 1 ∷ interface 1 0 1 1 ∷ interface 2 0 1 0 ∷ [];
  links = link 0 1000000 (0 ∷ 1 ∷ []) [] ∷ link 1 2000000 (3 ∷ 2 ∷ []) (record { from = 5; to = 9 } ∷ record { from = 3; to = 5 } ∷ []) ∷ [];
  sessions = record { host = 0; kind = Client (record { tcp = true; start = 0; window = 0; file = 1500; datagram = 1000; interval = 10000000 }) } ∷ [];
  servers = [];
}

abbrev mapping : ℕ → ℕ → ℕ → ℕ → ℕ → Mapping
mapping number in_channel from to delay = record { channel = 7 + number; out_channel = number; in_channel = in_channel; from = from; to = to; delay = delay; priority = 0 }

mappings_worked : mappings_of worked ≡
    mapping 0 1 0 0 0 ∷ mapping 1 4 1 1 0 ∷ mapping 2 6 2 2 0
    ∷ mapping 3 2 0 1 1100000 ∷ mapping 4 0 1 0 1000000 ∷ mapping 5 3 2 1 2000000 ∷ mapping 6 5 1 2 2000000 ∷ []
unfolding mappings_of wires_of wires_of_link first_channel first_interface
mappings_worked = refl

periods_worked : periods_of worked ≡ 0 ∷ 3 ∷ 5 ∷ 9 ∷ []
unfolding periods_of
periods_worked = refl

places_worked : place_of worked 2 ≡ 1
unfolding first_interface
places_worked = refl

up_worked : is_up (link 0 0 [] (record { from = 5; to = 9 } ∷ [])) 9 ≡ true
up_worked = refl

down_worked : is_up (link 0 0 [] (record { from = 5; to = 9 } ∷ [])) 5 ≡ false
down_worked = refl

ports_worked : ports_of worked 1 ≡ 1 ∷ 2 ∷ []
unfolding first_interface
ports_worked = refl

ins_worked : ins_of worked 1 ≡ 2 ∷ 3 ∷ 4 ∷ []
unfolding first_interface
ins_worked = refl

owners_worked : owners_of worked ≡ 0 ∷ 0 ∷ 1 ∷ 1 ∷ 1 ∷ 2 ∷ 2 ∷ []
unfolding owners_before first_interface
owners_worked = refl

-- the router sends to 10.0.0.5 by its second interface
outs_worked : outs_of worked 2 ≡ (167772165, 6) ∷ []
unfolding outs_of wires_of wires_of_link first_interface network_blocks blocks_of parts_from exponent_of sum_in offset_in base_within
outs_worked = refl

downs_worked : downs_of worked 3 ≡ (5, 9) ∷ (3, 5) ∷ []
downs_worked = refl

-- the start channels are 0 to 2, and the mappings' begin at 7
timers_worked : timers_of worked 0 ≡ 3 ∷ 4 ∷ []
unfolding first_timer
timers_worked = refl

later_timers_worked : timers_of worked 2 ≡ 6 ∷ []
unfolding first_timer
later_timers_worked = refl

timed_worked : timed_of worked 0 ≡ false ∷ true ∷ true ∷ []
unfolding first_interface
timed_worked = refl
