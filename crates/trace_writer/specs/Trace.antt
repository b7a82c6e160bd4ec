-- The text of a trace: a line for each executed event, each followed by the lines that its actions
-- told, and a line that ends it.
use Rattle.std.specs.Prelude.{ℕ, List, [], ◌∷◌, ◌++◌, codes, decimal, slice_index_or}
use Rattle.std.specs.List.{flat_map}
use Rattle.ssf_model.specs.declared.event.Line.{Line}
use Rattle.ssf_model.specs.declared.event.Line.TheVariants.{Sent, Dropped, Udp, Entered, Delivered}
use Rattle.ssf_model.specs.declared.event.Entry.{Entry}
use Rattle.ssf_model.specs.declared.event.Names.{Names}
use Rattle.trace_writer.specs.Fields.{line_of, address_text, peer_text}
use Rattle.trace_writer.specs.Words.{reason_word, state_word, protocol_word}

-- the line of an event at the entity with this name
unfoldable pub event_line : List ℕ → Entry → List ℕ
event_line name entry =
    line_of (codes "E" ∷ decimal entry.key.time ∷ decimal entry.key.round ∷ decimal entry.key.channel ∷ decimal entry.key.number ∷ name ∷ [])

-- the line of an action
unfoldable pub action_line : Line → List ℕ
action_line (Sent interface next tcp bytes) =
    line_of (codes "S" ∷ decimal interface ∷ address_text next ∷ protocol_word tcp ∷ decimal bytes ∷ [])
action_line (Dropped reason tcp bytes) =
    line_of (codes "X" ∷ reason_word reason ∷ protocol_word tcp ∷ decimal bytes ∷ [])
action_line (Udp port bytes) = line_of (codes "U" ∷ decimal port ∷ decimal bytes ∷ [])
action_line (Entered port peer peer_port state) =
    line_of (codes "C" ∷ decimal port ∷ peer_text peer peer_port ∷ state_word state ∷ [])
action_line (Delivered port peer peer_port bytes) =
    line_of (codes "D" ∷ decimal port ∷ peer_text peer peer_port ∷ decimal bytes ∷ [])

-- the name of an entity
abbrev pub name_of : Names → ℕ → List ℕ
name_of names entity = slice_index_or names.names entity []

-- the record of an executed event: its line, and those of its actions in the order in which they were made
unfoldable pub record_text : Names → Entry → List ℕ
record_text names entry = event_line (name_of names entry.entity) entry ++ flat_map action_line entry.lines

-- the records of executed events, one after another
unfoldable pub entries_text : Names → List Entry → List ℕ
entries_text names entries = flat_map (record_text names) entries

-- the line that ends a trace: the end time, and how many events there were
unfoldable pub end_line : ℕ → ℕ → List ℕ
end_line until count = line_of (codes "end" ∷ decimal until ∷ decimal count ∷ [])

-- the trace of a run up to a time, which executed these events, the last of them the event number `count`
unfoldable pub trace_text : Names → List Entry → ℕ → ℕ → List ℕ
trace_text names entries until count = entries_text names entries ++ end_line until count
