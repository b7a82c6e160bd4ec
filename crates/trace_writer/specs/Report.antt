-- The report of a run: sums over the lines that the actions of its events told.
use Rattle.std.specs.Prelude.{ℕ, ◌-◌, ◌^◌, min, max, Bool, true, false, List, [], ◌∷◌, ◌++◌, length, codes, decimal}
use Rattle.std.specs.List.{filter, flat_map, fold, sum_by}
use Rattle.ssf_model.specs.declared.event.Entry.{Entry}
use Rattle.ssf_model.specs.declared.event.Line.{Line}
use Rattle.ssf_model.specs.declared.event.Line.TheVariants.{Sent, Dropped, Udp, Entered, Delivered}
use Rattle.trace_writer.specs.Fields.{line_of}
use Rattle.trace_writer.specs.declared.total.Total.{Total}

-- a sum as the report gives it: 2^128 - 1 where it is greater
abbrev pub capped : ℕ → ℕ
capped n = min n (2 ^ 128 - 1)

-- the four kinds of lines that are summed
abbrev pub is_sent : Line → Bool
is_sent (Sent interface next tcp bytes) = true
is_sent _ = false

abbrev pub is_dropped : Line → Bool
is_dropped (Dropped reason tcp bytes) = true
is_dropped _ = false

abbrev pub is_datagram : Line → Bool
is_datagram (Udp port bytes) = true
is_datagram _ = false

abbrev pub is_delivery : Line → Bool
is_delivery (Delivered port peer peer_port bytes) = true
is_delivery _ = false

-- the bytes of a line, where it has a number of them
abbrev pub bytes_of : Line → ℕ
bytes_of (Sent interface next tcp bytes) = bytes
bytes_of (Dropped reason tcp bytes) = bytes
bytes_of (Udp port bytes) = bytes
bytes_of (Entered port peer peer_port state) = 0
bytes_of (Delivered port peer peer_port bytes) = bytes

-- how many lines there are, and their bytes together
abbrev pub sums : List Line → Total
sums lines = record { count = capped (length lines); bytes = capped (sum_by bytes_of lines) }

-- the same of the lines of a kind
abbrev pub total_of : (Line → Bool) → List Line → Total
total_of kind lines = sums (filter kind lines)

-- all lines of these events
abbrev pub lines_of : List Entry → List Line
lines_of entries = flat_map (λ e. e.lines) entries

-- the greatest time of these events, and 0 without one
abbrev pub last_time : List Entry → ℕ
last_time entries = fold (λ latest e. max latest e.key.time) 0 entries

-- the numbers of a report
pub record Totals : Type 0 where
  pub events : ℕ
  pub last : ℕ
  pub sent : Total
  pub dropped : Total
  pub datagrams : Total
  pub delivered : Total

unfoldable pub totals_of : List Entry → Totals
totals_of entries =
    record {
      events = capped (length entries);
      last = last_time entries;
      sent = total_of is_sent (lines_of entries);
      dropped = total_of is_dropped (lines_of entries);
      datagrams = total_of is_datagram (lines_of entries);
      delivered = total_of is_delivery (lines_of entries);
    }

-- a line with the number of lines of a kind, and their bytes
abbrev pub total_line : List ℕ → Total → List ℕ
total_line word total = line_of (word ∷ decimal total.count ∷ decimal total.bytes ∷ [])

-- a line with one number
abbrev pub number_line : List ℕ → ℕ → List ℕ
number_line word n = line_of (word ∷ decimal n ∷ [])

-- the report with these numbers
unfoldable pub report_with : Totals → List ℕ
report_with t =
    number_line (codes "events") t.events ++ (number_line (codes "last") t.last
    ++ (total_line (codes "sent") t.sent ++ (total_line (codes "dropped") t.dropped
    ++ (total_line (codes "udp") t.datagrams ++ number_line (codes "tcp") t.delivered.bytes))))

-- the report of these events
unfoldable pub report_of : List Entry → List ℕ
report_of entries = report_with (totals_of entries)

-- the events of several lists, one list after another
abbrev pub events_of : List (List Entry) → List Entry
events_of histories = flat_map (λ history. history) histories
