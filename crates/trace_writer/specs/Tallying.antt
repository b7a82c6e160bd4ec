-- What one more line, and one more event, adds to the numbers of a report.
use Rattle.std.specs.Prelude.{ℕ, ◌+◌, max, Bool, if◌then◌else◌}
use Rattle.std.specs.List.{fold}
use Rattle.ssf_model.specs.declared.event.Entry.{Entry}
use Rattle.ssf_model.specs.declared.event.Line.{Line}
use Rattle.trace_writer.specs.Report.{capped, is_sent, is_dropped, is_datagram, is_delivery, bytes_of, Totals}
use Rattle.trace_writer.specs.declared.total.Total.{Total}

abbrev pub added : Total → ℕ → Total
added total bytes = record { count = capped (total.count + 1); bytes = capped (total.bytes + bytes) }

abbrev pub counted : (Line → Bool) → Total → Line → Total
counted kind total line = if kind line then added total (bytes_of line) else total

unfoldable pub with_line : Totals → Line → Totals
with_line t line =
    record t {
      sent = counted is_sent t.sent line;
      dropped = counted is_dropped t.dropped line;
      datagrams = counted is_datagram t.datagrams line;
      delivered = counted is_delivery t.delivered line;
    }

unfoldable pub with_entry : Totals → Entry → Totals
with_entry t entry =
    fold with_line (record t { events = capped (t.events + 1); last = max t.last entry.key.time }) entry.lines
