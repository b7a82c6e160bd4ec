-- The best route for an address: the longest block that holds it, the first of equals.
use Rattle.std.specs.Prelude.{ℕ, ◌<◌, ◌≤◌, List, slice_index_or, Option, MatchOption}
use Rattle.ip_blocks.specs.Blocks.{Holds}
use Rattle.spf_routes.specs.declared.graph.Route.{Route}

abbrev pub no_route : Route
no_route = record { block = record { base = 0; bits = 0 }; interface = 0; next = 0; cost = 0 }

abbrev pub route_at : List Route → ℕ → Route
route_at routes k = slice_index_or routes k no_route

-- the block of the route at this place holds the address
abbrev pub HoldsAt : List Route → ℕ → ℕ → Type 0
HoldsAt routes address k = Holds (route_at routes k).block address

-- of the first routes, as many as are said, this one holds the address by the longest block, and no
-- earlier one has a block as long
pub record IsBest (routes : List Route) (address count place : ℕ) : Type 0 where
  pub there : place < count
  pub holds : HoldsAt routes address place
  pub longest : (k : ℕ) → k < count → HoldsAt routes address k → (route_at routes k).block.bits ≤ (route_at routes place).block.bits
  pub first : (k : ℕ) → k < place → HoldsAt routes address k → (route_at routes k).block.bits < (route_at routes place).block.bits

-- the best of the first routes, or none where none of them holds the address
abbrev pub IsChoice : List Route → ℕ → ℕ → Option ℕ → Type 0
IsChoice routes address count choice = MatchOption choice ((k : ℕ) → k < count → HoldsAt routes address k → ⊥) (IsBest routes address count)
