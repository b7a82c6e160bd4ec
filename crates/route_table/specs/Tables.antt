-- The best routes between the addresses at which blocks begin and end.
use Rattle.std.specs.Prelude.{ℕ, ◌≡◌, ◌-◌, ◌^◌, ◌<◌, nat_le, List, length, slice_index_or, Contains, Option, None}
use Rattle.std.specs.List.{prefix_len}
use Rattle.std.specs.List.Sorted.{IsStrictlyIncreasing}
use Rattle.ip_blocks.specs.Blocks.{block_end}
use Rattle.spf_routes.specs.declared.graph.Route.{Route}
use Rattle.spf_routes.specs.Best.{route_at, IsChoice}
use Rattle.ip_layer.specs.Forwarding.{best_route}

-- addresses, which are the bounds, and what is kept at each of them: the place of a route, where there is one
pub record KeptPlaces : Type 0 where
  pub bounds : List ℕ
  pub places : List (Option ℕ)

-- what is kept at the last of the bounds that is at most the address
abbrev pub place_for : KeptPlaces → ℕ → Option ℕ
place_for kept address = slice_index_or kept.places (prefix_len (λ bound. nat_le bound address) kept.bounds - 1) None

-- for each address the best of these routes is kept
abbrev pub IsTableOf : List Route → KeptPlaces → Type 0
IsTableOf routes kept = (address : ℕ) → address < 2 ^ 32 → place_for kept address ≡ best_route routes address

-- 0 is one of the bounds, and each block of the first routes, as many as are said, begins at one, and ends before one
-- or with the last address of all
pub record HasBounds (routes : List Route) (count : ℕ) (bounds : List ℕ) : Type 0 where
  pub least : Contains bounds 0
  pub begins : (k : ℕ) → k < count → Contains bounds (route_at routes k).block.base
  pub ends : (k : ℕ) → k < count → block_end (route_at routes k).block < 2 ^ 32 → Contains bounds (block_end (route_at routes k).block)

-- there are bounds, in rising order, and as many places are kept
pub record AreBounds (bounds : List ℕ) (places : List (Option ℕ)) : Type 0 where
  pub some : 0 < length bounds
  pub rising : IsStrictlyIncreasing bounds
  pub as_many : length places ≡ length bounds

-- what is kept at each bound is the best of the first routes, as many as are said
pub record AreChosen (routes : List Route) (bounds : List ℕ) (count : ℕ) (places : List (Option ℕ)) : Type 0 where
  pub as_many : length places ≡ length bounds
  pub chosen : (at : ℕ) → at < length bounds → IsChoice routes (slice_index_or bounds at 0) count (slice_index_or places at None)
