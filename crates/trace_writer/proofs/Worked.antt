-- Worked rows: a datagram that was sent, and the end of a trace.
use Rattle.std.proofs.Common.{◌≡◌, [], ◌∷◌, false, refl}
use Rattle.std.specs.Prelude.{codes}
use Rattle.std.specs.Fmt.{digits}
use Rattle.sim_base.specs.declared.records.Reason.TheVariants.{Route}
use Rattle.sim_base.specs.declared.records.TcpState.TheVariants.{SynReceived}
use Rattle.ssf_model.specs.declared.event.Line.TheVariants.{Sent, Dropped, Udp, Entered, Delivered}
use Rattle.ssf_model.specs.declared.event.Entry.{Entry}
use Rattle.ssf_model.specs.declared.event.Names.{Names}
use Rattle.trace_writer.specs.Report.{report_of, report_with, totals_of}
use Rattle.trace_writer.specs.Trace.{record_text, event_line, action_line, end_line, entries_text, trace_text}

abbrev names : Names
names = record { names = codes "0" ∷ codes "1" ∷ [] }

abbrev sending : Entry
sending = record {
  key = record { time = 1; round = 0; priority = 7; channel = 3; number = 0 };
  entity = 0;
  lines = Sent 0 167772162 false 1028 ∷ [];
}

abbrev arriving : Entry
arriving = record {
  key = record { time = 2028001; round = 0; priority = 0; channel = 7; number = 0 };
  entity = 1;
  lines = Udp 7 1000 ∷ [];
}

sending_text : record_text names sending ≡ codes "E 1 0 3 0 0\nS 0 10.0.0.2 udp 1028\n"
unfolding record_text event_line action_line digits
sending_text = refl

datagram_trace : trace_text names (sending ∷ arriving ∷ []) 3000000 4 ≡ codes "E 1 0 3 0 0\nS 0 10.0.0.2 udp 1028\nE 2028001 0 7 0 1\nU 7 1000\nend 3000000 4\n"
unfolding trace_text entries_text record_text event_line action_line end_line digits
datagram_trace = refl

dropped_text : action_line (Dropped Route false 1028) ≡ codes "X route udp 1028\n"
unfolding action_line digits
dropped_text = refl

entered_text : action_line (Entered 10 167772161 10000 SynReceived) ≡ codes "C 10 10.0.0.1:10000 SYN_RCVD\n"
unfolding action_line digits
entered_text = refl

delivered_text : action_line (Delivered 10 167772161 10000 1000) ≡ codes "D 10 10.0.0.1:10000 1000\n"
unfolding action_line digits
delivered_text = refl

report_rows : report_of (sending ∷ arriving ∷ []) ≡ codes "events 2\nlast 2028001\nsent 1 1028\ndropped 0 0\nudp 1 1000\ntcp 0\n"
unfolding report_of report_with totals_of digits
report_rows = refl
