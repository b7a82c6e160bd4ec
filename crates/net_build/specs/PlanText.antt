-- The text of a plan: lines for Nets, links, interfaces, routes and mappings; of a ring, lines for mappings alone.
use Rattle.std.specs.Prelude.{ℕ, zero, suc, ◌≡◌, ◌+◌, ◌==◌, List, [], ◌∷◌, ◌++◌, length, slice_index, slice_index_or, Option, Some, None, Ok, decimal, codes, if◌then◌else◌}
use Rattle.std.specs.List.{flat_map}
use Rattle.ip_blocks.specs.declared.block.Block.{Block}
use Rattle.ip_blocks.specs.Blocks.{BlockLists}
use Rattle.ip_blocks.specs.Apart.{no_block, link_block}
use Rattle.spf_routes.specs.declared.graph.Route.{Route}
use Rattle.ssf_model.specs.declared.plan.Mapping.{Mapping}
use Rattle.ssf_model.specs.declared.event.Names.{Names}
use Rattle.nhi_address.specs.NhiText.{ids_text, nhi_text}
use Rattle.trace_writer.specs.Fields.{line_of, address_text}
use Rattle.dml_tree.specs.declared.tree.Attribute.{Attribute}
use Rattle.net_graph.specs.declared.rows.Network.{Network}
use Rattle.net_graph.specs.declared.rows.Down.{Down}
use Rattle.net_graph.specs.Networks.{numbers, net_at, host_at, interface_at, link_at}
use Rattle.net_layout.specs.Periods.{periods_of, has_downs}
use Rattle.net_layout.specs.Addresses.{network_blocks, interface_address}
use Rattle.net_layout.specs.Arms.{first_interface}
use Rattle.net_layout.specs.HostRoutes.{AreHostRoutes}
use Rattle.net_layout.specs.Wiring.{mappings_of}
use Rattle.net_build.specs.RingModel.{Read, then_read, ring_plan_of}

-- a block as CIDR writes it
abbrev pub block_text : Block → List ℕ
block_text block = address_text block.base ++ 47 ∷ decimal block.bits

-- the ids of a Net; the top Net has none
abbrev pub net_text : List ℕ → List ℕ
net_text [] = codes "-"
net_text (id ∷ ids) = ids_text (id ∷ ids)

abbrev pub net_block : BlockLists → ℕ → Block
net_block blocks n = slice_index_or blocks.nets n no_block

unfoldable pub net_line : Network → ℕ → List ℕ
net_line network n = line_of (codes "net" ∷ net_text (net_at network n).ids ∷ block_text (net_block (network_blocks network) n) ∷ [])

unfoldable pub down_line : ℕ → Down → List ℕ
down_line l down = line_of (codes "down" ∷ decimal l ∷ decimal down.from ∷ decimal down.to ∷ [])

unfoldable pub link_line : Network → ℕ → List ℕ
link_line network l = line_of (codes "link" ∷ decimal l ∷ block_text (link_block (network_blocks network) l) ∷ decimal (link_at network l).delay ∷ [])

-- the line of a link, and those of its downs
unfoldable pub link_lines : Network → ℕ → List ℕ
link_lines network l = link_line network l ++ flat_map (down_line l) (link_at network l).downs

-- the address of a host, and of an interface, from the top Net on
abbrev pub host_ids : Network → ℕ → List ℕ
host_ids network h = (net_at network (host_at network h).net).ids ++ (host_at network h).id ∷ []

unfoldable pub host_text : Network → ℕ → List ℕ
host_text network h = nhi_text (record { ids = host_ids network h; interface = None })

unfoldable pub interface_text : Network → ℕ → List ℕ
interface_text network i = nhi_text (record { ids = host_ids network (interface_at network i).host; interface = Some (interface_at network i).id })

abbrev pub address_or_none : Option ℕ → List ℕ
address_or_none None = codes "-"
address_or_none (Some address) = address_text address

unfoldable pub interface_line : Network → ℕ → List ℕ
interface_line network i = line_of (codes "if" ∷ interface_text network i ∷ address_or_none (interface_address network i) ∷ [])

-- the id of the interface at a place of a host's list
abbrev pub id_at : Network → ℕ → ℕ → ℕ
id_at network h place = (interface_at network (first_interface network h + place)).id

unfoldable pub route_line : Network → ℕ → Route → List ℕ
route_line network h route = line_of (codes "route" ∷ host_text network h ∷ block_text route.block ∷ decimal (id_at network h route.interface) ∷ address_text route.next ∷ decimal route.cost ∷ [])

-- the priority as a last field, where it is above 0
abbrev pub priority_fields : ℕ → List (List ℕ)
priority_fields priority = if priority == 0 then [] else decimal priority ∷ []

-- a mapping between the entities of these names
unfoldable pub map_line : List ℕ → List ℕ → Mapping → List ℕ
map_line from to m = line_of (codes "map" ∷ decimal m.channel ∷ from ∷ to ∷ decimal m.delay ∷ priority_fields m.priority)

unfoldable pub mapping_line : Network → Mapping → List ℕ
mapping_line network m = map_line (host_text network m.from) (host_text network m.to) m

-- the mappings of a plan whose entities have these names
abbrev pub name_of : Names → ℕ → List ℕ
name_of names entity = slice_index_or names.names entity []

unfoldable pub maps_text : Names → List Mapping → List ℕ
maps_text names mappings = flat_map (λ (m : Mapping). map_line (name_of names m.from) (name_of names m.to) m) mappings

-- the text of the plan of the ring of a tree, or the first fault
abbrev pub ring_text_of : List Attribute → Read (List ℕ)
ring_text_of root = then_read (ring_plan_of root) (λ built. Ok (maps_text built.names built.plan.mappings))

-- a text of so many pieces, numbered from 0, one behind the other
abbrev pub AreTexts : (ℕ → List ℕ → Type 0) → ℕ → List ℕ → Type 0
AreTexts P zero text = text ≡ []
AreTexts P (suc n) text = (before piece : List ℕ) × AreTexts P n before × P n piece × (text ≡ before ++ piece)

-- the lines of a host's routes at a tick
pub record IsHostText (network : Network) (tick h : ℕ) (text : List ℕ) : Type 0 where
  pub routes : List Route
  pub are_routes : AreHostRoutes network h tick routes
  pub lines : text ≡ flat_map (route_line network h) routes

-- the line of a period, where the network has downs
unfoldable pub period_line : Network → ℕ → List ℕ
period_line network tick = if has_downs network then line_of (codes "period" ∷ decimal tick ∷ []) else []

pub record IsPeriodText (network : Network) (number : ℕ) (text : List ℕ) : Type 0 where
  pub routes : List ℕ
  pub hosts : AreTexts (IsHostText network (slice_index (periods_of network) number)) (length network.hosts) routes
  pub whole : text ≡ period_line network (slice_index (periods_of network) number) ++ routes

-- the routes of all hosts in each period
abbrev pub IsRoutesText : Network → List ℕ → Type 0
IsRoutesText network text = AreTexts (IsPeriodText network) (length (periods_of network)) text

unfoldable pub nets_text : Network → List ℕ
nets_text network = flat_map (net_line network) (numbers (length network.nets))

unfoldable pub links_text : Network → List ℕ
links_text network = flat_map (link_lines network) (numbers (length network.links))

unfoldable pub interfaces_text : Network → List ℕ
interfaces_text network = flat_map (interface_line network) (numbers (length network.interfaces))

unfoldable pub mappings_text : Network → List ℕ
mappings_text network = flat_map (mapping_line network) (mappings_of network)

pub record IsPlanText (network : Network) (text : List ℕ) : Type 0 where
  pub routes : List ℕ
  pub are_routes : IsRoutesText network routes
  pub whole : text ≡ nets_text network ++ (links_text network ++ (interfaces_text network ++ (routes ++ mappings_text network)))
