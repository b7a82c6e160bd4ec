-- The objects of the outside that stand in memory, as values: what a call answers, and what it leaves.
use Rattle.std.specs.Prelude.{ℕ, nat_lt, ◌+◌, ◌-◌, ◌^◌, min, Bool, nat_eq, nat_le, not, ◌&&◌, ◌||◌, if◌then◌else◌, List, ◌++◌, length, take, drop, Option, None}
use Rattle.std.specs.List.{list_any}
use Rattle.std.specs.Option.{is_none, option_map, option_map_or}
use Rattle.sim_base.specs.Outside.{first_file}

-- one more, or the last value of a count
abbrev pub risen : ℕ → ℕ
risen count = min (count + 1) (2 ^ 64 - 1)

-- a sink: the most bytes that one write takes, the room for all, the numbers of the writes that fail
pub record SinkState : Type 0 where
  pub most : ℕ
  pub room : ℕ
  pub failing : List ℕ
  pub calls : ℕ
  pub faults : ℕ
  pub bytes : List ℕ

-- a write fails by its number, or where it has bytes and no room is left
abbrev pub write_fails : SinkState → List ℕ → Bool
write_fails sink piece = list_any (λ call. nat_eq call sink.calls) sink.failing || (not (nat_eq (length piece) 0) && nat_le sink.room (length sink.bytes))

-- how many bytes a write takes
abbrev pub bytes_taken : SinkState → List ℕ → ℕ
bytes_taken sink piece = min (length piece) (min sink.most (sink.room - length sink.bytes))

-- what a write leaves
abbrev pub after_write : SinkState → List ℕ → SinkState
after_write sink piece =
    if write_fails sink piece
    then record sink { calls = risen sink.calls; faults = risen sink.faults }
    else record sink { calls = risen sink.calls; bytes = sink.bytes ++ take (bytes_taken sink piece) piece }

-- a library: names with contents, the numbers of the calls that fail, and what is ahead in the current file
pub record LibraryState : Type 0 where
  pub files : List (List ℕ × List ℕ)
  pub failing : List ℕ
  pub calls : ℕ
  pub faults : ℕ
  pub ahead : Option (List ℕ)

abbrev pub call_fails : LibraryState → Bool
call_fails library = list_any (λ call. nat_eq call library.calls) library.failing

-- a fetch fails by its number, or where no file has the name
abbrev pub fetch_fails : LibraryState → List ℕ → Bool
fetch_fails library name = call_fails library || is_none (first_file library.files name)

-- what a failed call leaves: no current file
abbrev pub after_failure : LibraryState → LibraryState
after_failure library = record library { calls = risen library.calls; faults = risen library.faults; ahead = None }

-- what a fetch leaves: the first file of that name, wholly ahead
abbrev pub after_fetch : LibraryState → List ℕ → LibraryState
after_fetch library name =
    if fetch_fails library name then after_failure library else record library { calls = risen library.calls; ahead = first_file library.files name }

-- how many bytes a read into a buffer of this length gives
abbrev pub bytes_read : LibraryState → ℕ → ℕ
bytes_read library room = option_map_or (λ bytes. min (length bytes) room) library.ahead 0

-- what a read into a buffer of this length leaves
abbrev pub after_read : LibraryState → ℕ → LibraryState
after_read library room =
    if call_fails library then after_failure library
    else record library { calls = risen library.calls; ahead = option_map (λ bytes. drop (min (length bytes) room) bytes) library.ahead }

-- a gate: how many questions it still answers with true, and how often it answered false
pub record GateState : Type 0 where
  pub left : ℕ
  pub stops : ℕ

-- what a question leaves
abbrev pub after_question : GateState → GateState
after_question gate = if nat_lt 0 gate.left then record gate { left = gate.left - 1 } else record gate { stops = risen gate.stops }
