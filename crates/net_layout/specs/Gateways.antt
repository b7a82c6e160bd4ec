-- The default routes of hosts.
use Rattle.std.specs.Prelude.{ℕ, Bool, List, [], ◌∷◌, Option, Some, None}
use Rattle.std.specs.Option.{unwrap_or, option_map}
use Rattle.std.specs.List.{find, remove}
use Rattle.net_graph.specs.declared.rows.Network.{Network}
use Rattle.net_graph.specs.declared.rows.Gateway.{Gateway}
use Rattle.spf_routes.specs.declared.graph.Route.{Route}
use Rattle.net_graph.specs.Networks.{host_at, interface_at, link_at, attachment_of}
use Rattle.net_layout.specs.Addresses.{interface_address}
use Rattle.net_layout.specs.Arms.{place_of}

-- the other attachments of the link on which an interface lies
abbrev pub others_at : Network → Option (ℕ × ℕ) → List ℕ
others_at network None = []
others_at network (Some at) = remove (link_at network at.0).attached at.1

abbrev pub others_of : Network → ℕ → List ℕ
others_of network i = others_at network (attachment_of network i)

abbrev pub belongs_to_router : Network → ℕ → Bool
belongs_to_router network i = (host_at network (interface_at network i).host).router

-- the stated next hop, else the first of the others that belongs to a router, else the first of them; none without others
abbrev pub next_hop : Network → Option ℕ → List ℕ → Option ℕ
next_hop network stated [] = None
next_hop network stated (first ∷ rest) = Some (unwrap_or stated (unwrap_or (find (belongs_to_router network) (first ∷ rest)) first))

-- the route to all addresses by an interface, with this next hop
abbrev pub default_route : Network → ℕ → ℕ → Route
default_route network interface next = record { block = record { base = 0; bits = 0 }; interface = place_of network interface; next = unwrap_or (interface_address network next) 0; cost = 0 }

abbrev pub route_by : Network → Gateway → Option Route
route_by network gateway = option_map (default_route network gateway.interface) (next_hop network gateway.next (others_of network gateway.interface))

-- the default route of a host, where it has one
abbrev pub route_of_gateway : Network → Option Gateway → Option Route
route_of_gateway network None = None
route_of_gateway network (Some gateway) = route_by network gateway

unfoldable pub gateway_route : Network → ℕ → Option Route
gateway_route network h = route_of_gateway network (host_at network h).gateway
