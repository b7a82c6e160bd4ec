-- The periods of a network: between the beginnings of two of them no link goes down or comes up.
use Rattle.std.specs.Prelude.{ℕ, ◌≡◌, ◌<◌, ◌≤◌, ◌⊎◌, nat_le, nat_lt, ◌==◌, Bool, ◌&&◌, not, List, [], ◌∷◌, length, Contains, if◌then◌else◌}
use Rattle.std.specs.List.{fold, list_any}
use Rattle.std.specs.List.Sorted.{IsStrictlyIncreasing}
use Rattle.net_graph.specs.declared.rows.Network.{Network}
use Rattle.net_graph.specs.declared.rows.LinkRow.{LinkRow}
use Rattle.net_graph.specs.declared.rows.Down.{Down}

-- a rising list of ticks with one more tick, where it is not there yet
abbrev pub with_tick : List ℕ → ℕ → List ℕ
with_tick [] tick = tick ∷ []
with_tick (t ∷ ts) tick = if nat_lt tick t then tick ∷ t ∷ ts else if tick == t then t ∷ ts else t ∷ with_tick ts tick

-- with the ticks at which a down begins and ends, and with those of all downs of a link
abbrev pub with_down : List ℕ → Down → List ℕ
with_down ticks down = with_tick (with_tick ticks down.from) down.to

abbrev pub with_link : List ℕ → LinkRow → List ℕ
with_link ticks link = fold with_down ticks link.downs

-- 0, and each tick at which a down begins or ends, rising, each once
unfoldable pub periods_of : Network → List ℕ
periods_of network = fold with_link (0 ∷ []) network.links

-- some link has a down
abbrev pub has_downs : Network → Bool
has_downs network = list_any (λ (link : LinkRow). nat_lt 0 (length link.downs)) network.links

-- the link is down at this tick
abbrev pub is_down_at : ℕ → Down → Bool
is_down_at tick down = nat_le down.from tick && nat_lt tick down.to

abbrev pub is_up : LinkRow → ℕ → Bool
is_up link tick = not (list_any (is_down_at tick) link.downs)

-- the down begins or ends at this tick
abbrev pub BeginsOrEnds : Down → ℕ → Type 0
BeginsOrEnds down tick = (tick ≡ down.from) ⊎ (tick ≡ down.to)

-- some down of the link begins or ends at this tick
abbrev pub ChangesAt : LinkRow → ℕ → Type 0
ChangesAt link tick = (down : Down) × Contains link.downs down × BeginsOrEnds down tick

-- some link of the network has a down that begins or ends at this tick
abbrev pub IsChange : Network → ℕ → Type 0
IsChange network tick = (link : LinkRow) × Contains network.links link × ChangesAt link tick

-- the ticks at which the periods of a network begin: 0, each change and nothing else, each once, rising
pub record ArePeriods (network : Network) (ticks : List ℕ) : Type 0 where
  pub rising : IsStrictlyIncreasing ticks
  pub zero : Contains ticks 0
  pub changes : (tick : ℕ) → IsChange network tick → Contains ticks tick
  pub nothing_else : (tick : ℕ) → Contains ticks tick → (tick ≡ 0) ⊎ IsChange network tick

-- no period begins after the one tick and up to the other
abbrev pub NoneBegins : Network → ℕ → ℕ → Type 0
NoneBegins network after last = (begin : ℕ) → Contains (periods_of network) begin → after < begin → begin ≤ last → ⊥
