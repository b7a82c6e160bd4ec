-- A library in memory as its files and the place in the current one.
use Rattle.std.specs.Prelude.{ℕ, ◌≤◌, ◌≡◌, List, length, drop, Option, Some, None, slice_get}
use Rattle.std.specs.Option.{option_map, ForSome}
use Rattle.sim_base.specs.declared.memory_library.MemoryLibrary.TheInside.{Inside}
use Rattle.sim_base.specs.declared.memory_library.Current.{Current}
use Rattle.sim_base.specs.MemoryObjects.{LibraryState}

-- the contents from a place on
abbrev pub ahead_of : List (List ℕ × List ℕ) → Option Current → Option (List ℕ)
ahead_of files None = None
ahead_of files (Some current) = option_map (λ file. drop current.at file.1) (slice_get files current.file)

abbrev pub library_state : Inside → LibraryState
library_state l = record { files = l.files.items; failing = l.failing.items; calls = l.calls; faults = l.faults; ahead = ahead_of l.files.items l.current }

-- the place is within its file
abbrev pub IsCurrent : Inside → Type 0
IsCurrent l = ForSome l.current (λ current. (file : List ℕ × List ℕ) × (slice_get l.files.items current.file ≡ Some file) × (current.at ≤ length file.1))
