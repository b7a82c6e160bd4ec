-- Several histories as one list, in the order of their keys.
use Rattle.std.specs.Prelude.{ℕ, ◌≡◌, ◌+◌, ◌<◌, ◌≤◌, nat_lt, false, List, [], ◌∷◌, length, max}
use Rattle.std.specs.List.{filter, fold}
use Rattle.event_order.specs.Order.{comes_before}
use Rattle.event_order.specs.Pending.{Among, put_all}
use Rattle.ssf_model.specs.declared.event.Entry.{Entry}
use Rattle.ssf_model.specs.declared.event.Names.{Names}
use Rattle.trace_writer.specs.Report.{events_of}

-- no entry comes before an earlier one
abbrev pub IsInOrder : List Entry → Type 0
IsInOrder [] = Unit {0}
IsInOrder (x ∷ xs) = ((y : Entry) → Among y xs → comes_before y.key x.key ≡ false) × IsInOrder xs

-- entries in the order of their keys; of two with one key the one that stood first
abbrev pub in_key_order : List Entry → List Entry
in_key_order entries = put_all (λ e. e.key) entries []

-- those with a time below a bound
abbrev pub entries_before : ℕ → List Entry → List Entry
entries_before below entries = filter (λ e. nat_lt e.key.time below) entries

-- the entries of histories with a time below a bound, in the order of their keys
abbrev pub merged : List (List Entry) → ℕ → List Entry
merged histories below = in_key_order (entries_before below (events_of histories))

-- each of these histories is in key order, they have fewer than 2^64 entries, and the entity of each has a name
pub record CanMerge (names : Names) (histories : List (List Entry)) : Type 0 where
  pub order : (history : List Entry) → Among history histories → IsInOrder history
  pub few : length (events_of histories) < 18446744073709551616
  pub named : (e : Entry) → Among e (events_of histories) → e.entity < length names.names

-- the greatest length of a name
abbrev pub longest_name : Names → ℕ
longest_name names = fold (λ longest name. max longest (length name)) 0 names.names

-- room for a line, in bytes, and for places in histories
pub record Room : Type 0 where
  pub line : ℕ
  pub places : ℕ

-- there is room for a line with any of these names, and for a place in each of so many histories
pub record HasRoom (names : Names) (histories : ℕ) (room : Room) : Type 0 where
  pub line : longest_name names + 160 ≤ room.line
  pub places : histories ≤ room.places
