-- The routes of each host in each period.
use Rattle.std.specs.Prelude.{ℕ, ◌≡◌, ◌+◌, ◌<◌, ◌≤◌, nat_le, List, [], ◌∷◌, ◌++◌, length, map, take, All, slice_index_or, option_to_list, if◌then◌else◌}
use Rattle.spf_routes.specs.declared.graph.Route.{Route}
use Rattle.spf_routes.specs.declared.graph.Period.{Period}
use Rattle.spf_routes.specs.Walks.{IsTable}
use Rattle.net_graph.specs.declared.rows.Network.{Network}
use Rattle.net_layout.specs.Periods.{periods_of}
use Rattle.net_layout.specs.Arms.{graph_of}
use Rattle.net_layout.specs.Gateways.{gateway_route}

-- the routes of a host at a tick: the least routes, and then that by its gateway, where it has one
pub record AreHostRoutes (network : Network) (h tick : ℕ) (routes : List Route) : Type 0 where
  pub table : List Route
  pub least : IsTable (graph_of network tick) h table
  pub whole : routes ≡ table ++ option_to_list (gateway_route network h)

-- the routes of a host from the tick on at which this period begins
abbrev pub IsPeriodOf : Network → ℕ → Period → Type 0
IsPeriodOf network h period = AreHostRoutes network h period.from period.routes

abbrev pub begin_of : Period → ℕ
begin_of period = period.from

-- the first periods of a host, so many
pub record AreFirstPeriods (network : Network) (h count : ℕ) (periods : List Period) : Type 0 where
  pub begins : map begin_of periods ≡ take count (periods_of network)
  pub routes : All (IsPeriodOf network h) periods

-- the periods of a host: they begin where those of the network do, and each has the host's routes at that tick
pub record ArePeriodsOf (network : Network) (h : ℕ) (periods : List Period) : Type 0 where
  pub begins : map begin_of periods ≡ periods_of network
  pub routes : All (IsPeriodOf network h) periods

-- the periods of each host
pub record AreTables (network : Network) (tables : List (List Period)) : Type 0 where
  pub as_many : length tables ≡ length network.hosts
  pub each : (h : ℕ) → h < length network.hosts → ArePeriodsOf network h (slice_index_or tables h [])

-- the periods of each host so far: one more than so many of the hosts below a number, and so many of the others
pub record AreTablesSoFar (network : Network) (count below : ℕ) (tables : List (List Period)) : Type 0 where
  pub as_many : length tables ≡ length network.hosts
  pub more : (h : ℕ) → h < below → AreFirstPeriods network h (count + 1) (slice_index_or tables h [])
  pub rest : (h : ℕ) → below ≤ h → h < length network.hosts → AreFirstPeriods network h count (slice_index_or tables h [])

-- the routes of the last period that has begun, and these where none has
abbrev pub routes_since : List Route → List Period → ℕ → List Route
routes_since routes [] tick = routes
routes_since routes (period ∷ periods) tick = routes_since (if nat_le period.from tick then period.routes else routes) periods tick

-- the routes at a tick
abbrev pub routes_at : List Period → ℕ → List Route
routes_at periods tick = routes_since [] periods tick
