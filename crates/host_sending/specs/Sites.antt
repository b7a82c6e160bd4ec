-- The rows of a host with what is kept beside them, and a host with other interfaces.
use Rattle.std.specs.Prelude.{ℕ, ◌≡◌, ◌<◌, slice_set, slice_index_or, List, [], length, Option, Some, None}
use Rattle.spf_routes.specs.declared.graph.Route.{Route}
use Rattle.spf_routes.specs.declared.graph.Period.{Period}
use Rattle.route_table.specs.Tables.{KeptPlaces, IsTableOf}
use Rattle.net_iface.specs.InterfaceFields.{InterfaceFields}
use Rattle.net_iface.specs.DropTail.{after_offer}
use Rattle.ip_layer.specs.declared.verdict.Verdict.{Verdict}
use Rattle.ip_layer.specs.declared.verdict.Verdict.TheVariants.{Local, Forward, Dropped}
use Rattle.host_rules.specs.declared.rows.HostRows.{HostRows}
use Rattle.host_rules.specs.Hosts.{Stack}
use Rattle.host_rules.specs.Sending.{own_addresses}
use Rattle.host_rules.specs.Limits.{AreRows}

-- the period of this place
abbrev pub period_at : List Period → ℕ → Period
period_at periods place = slice_index_or periods place (record { from = 0; routes = [] })

-- the routes of the period of this place; none where no period is named
abbrev pub routes_of : List Period → Option ℕ → List Route
routes_of periods None = []
routes_of periods (Some place) = (period_at periods place).routes

abbrev pub table_at : List KeptPlaces → ℕ → KeptPlaces
table_at tables place = slice_index_or tables place (record { bounds = []; places = [] })

-- these are tables of the best routes of the first periods, as many as are said
pub record AreTables (periods : List Period) (count : ℕ) (tables : List KeptPlaces) : Type 0 where
  pub as_many : length tables ≡ count
  pub each : (k : ℕ) → k < count → IsTableOf (period_at periods k).routes (table_at tables k)

-- the rows of a host are in their ranges, and these are the addresses of its interfaces, and the tables of its periods
pub record IsSite (rows : HostRows) (own : List ℕ) (tables : List KeptPlaces) : Type 0 where
  pub ranges : AreRows rows
  pub own_is : own ≡ own_addresses rows
  pub tables_are : AreTables rows.routes (length rows.routes) tables

-- a verdict by which a packet leaves names one of these routes
abbrev pub IsPlaceIn : List Route → Verdict → Type 0
IsPlaceIn routes Local = Unit {0}
IsPlaceIn routes (Forward place) = place < length routes
IsPlaceIn routes (Dropped reason) = Unit {0}

-- the interfaces after the one of this place, where there is one, was offered so many bytes
abbrev pub after_offers : (place bytes now : ℕ) → Option InterfaceFields → List InterfaceFields → List InterfaceFields
after_offers place bytes now None interfaces = interfaces
after_offers place bytes now (Some interface) interfaces = slice_set interfaces place (after_offer interface bytes now)

-- the host with these interfaces
abbrev pub with_interfaces : List InterfaceFields → Stack → Stack
with_interfaces interfaces stack = record stack { interfaces = interfaces }
