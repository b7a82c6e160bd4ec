-- What IP does with a packet, by the host's own addresses and its routes (RFC 791 section 2.2, RFC 1812 section 5.2).
use Rattle.std.specs.Prelude.{ℕ, ◌-◌, suc, Bool, true, false, ◌&&◌, nat_eq, nat_le, nat_lt, List, [], ◌∷◌, Option, Some, None, if◌then◌else◌}
use Rattle.std.specs.List.{list_any}
use Rattle.std.specs.Option.{option_map}
use Rattle.ip_blocks.specs.declared.block.Block.{Block}
use Rattle.ip_blocks.specs.Blocks.{block_end}
use Rattle.spf_routes.specs.declared.graph.Route.{Route}
use Rattle.spf_routes.specs.Best.{route_at}
use Rattle.sim_base.specs.declared.records.Reason.{Reason}
use Rattle.sim_base.specs.declared.records.Reason.TheVariants.{Ttl, Route as NoRoute}
use Rattle.ip_layer.specs.declared.verdict.Verdict.{Verdict}
use Rattle.ip_layer.specs.declared.verdict.Verdict.TheVariants.{Local, Forward, Dropped}
use Rattle.ip_layer.specs.Packets.{PacketFields}

-- one of these addresses is this one
abbrev pub has_address : List ℕ → ℕ → Bool
has_address own address = list_any (λ a. nat_eq a address) own

-- whether the address lies in the block
abbrev pub is_in : Block → ℕ → Bool
is_in block address = nat_le block.base address && nat_lt address (block_end block)

-- the better of a route, where its block holds the address, and of the best behind it: the longer block, the earlier
-- of equals. Places count from this route on
abbrev pub better : Bool → Route → List Route → Option ℕ → Option ℕ
better false route behind best = option_map suc best
better true route behind None = Some 0
better true route behind (Some place) = if nat_lt route.block.bits (route_at behind place).block.bits then Some (suc place) else Some 0

-- the place of the best route to an address: the one with the longest block that holds it, the first of equals
unfoldable pub best_route : List Route → ℕ → Option ℕ
best_route [] address = None
best_route (route ∷ behind) address = better (is_in route.block address) route behind (best_route behind address)

abbrev pub forward : Option ℕ → Verdict
forward None = Dropped NoRoute
forward (Some place) = Forward place

-- a packet that the host sends or passes on
unfoldable pub sent : List ℕ → List Route → PacketFields → Verdict
sent own routes packet = if has_address own packet.dst then Dropped NoRoute else forward (best_route routes packet.dst)

-- a packet as it leaves a host that passes it on
abbrev pub passed_on : PacketFields → PacketFields
passed_on packet = record packet { ttl = packet.ttl - 1 }

-- a packet that the host receives
unfoldable pub received : List ℕ → List Route → PacketFields → Verdict
received own routes packet =
    if has_address own packet.dst then Local
    else if nat_le packet.ttl 1 then Dropped Ttl
    else sent own routes (passed_on packet)
