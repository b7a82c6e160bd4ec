-- The client: the end that opens a connection and sends. Numbers count positions, which do not wrap.
use Rattle.std.specs.Prelude.{ℕ, zero, suc, ◌+◌, ◌-◌, ◌*◌, ◌/◌, ◌%◌, Bool, true, false, ◌&&◌, not, Option, Some, None, is_some, List, [], ◌∷◌, ◌++◌, max, min, nat_eq, nat_lt, nat_le, if◌then◌else◌}
use Rattle.sim_base.specs.declared.records.TcpConfig.{TcpConfig}
use Rattle.sim_base.specs.declared.records.TcpState.{TcpState}
use Rattle.sim_base.specs.declared.records.TcpState.TheVariants.{SynSent, Established, FinWait1, FinWait2, TimeWait, Closed}
use Rattle.sim_base.specs.SegmentFields.{SegmentFields}
use Rattle.tcp_clock.specs.Retransmission.{Timeout, first_timeout, sampled, backed_off}
use Rattle.tcp_clock.specs.Congestion.{Window, first_window, grown, third_duplicate, timed_out, timed_out_again}
use Rattle.tcp_rules.specs.declared.records.Act.{Act}
use Rattle.tcp_rules.specs.declared.records.Act.TheVariants.{Entered, Send}
use Rattle.tcp_rules.specs.declared.records.Timing.{Timing}
use Rattle.tcp_rules.specs.Segments.{Turn, quiet, before, following, span, syn_segment, data_segment, fin_segment, pure_ack, is_ack_of}

-- what a client keeps (RFC 793 section 3.2): SND.UNA, SND.NXT and the greatest SND.NXT so far; where
-- its data ends, which is the place of its FIN; RCV.NXT and SND.WND; the congestion window, the
-- retransmission timeout and what is being timed for it; how often the timer has run out since the last
-- progress, and how many duplicate acknowledgments came, of which more than four count as four
pub record ClientFields : Type 0 where
  pub config : TcpConfig
  pub state : TcpState
  pub una : ℕ
  pub nxt : ℕ
  pub top : ℕ
  pub end : ℕ
  pub rcv : ℕ
  pub peer : ℕ
  pub window : Window
  pub rto : Timeout
  pub timed : Option Timing
  pub tries : ℕ
  pub duplicates : ℕ
  pub deadline : Option ℕ

-- what it acknowledges
abbrev pub client_ack : ClientFields → SegmentFields
client_ack c = pure_ack c.config c.nxt c.rcv

-- the FIN stands after the last byte
abbrev pub client_fin : ClientFields → SegmentFields
client_fin c = fin_segment c.config c.end c.rcv

-- data of a length at a position
abbrev pub client_data : ClientFields → (position length : ℕ) → SegmentFields
client_data c position length = data_segment c.config position c.rcv length

-- the first segment that is not acknowledged (RFC 6298 section 5.4)
unfoldable pub first_segment : ClientFields → SegmentFields
first_segment c =
    if nat_eq c.una c.config.iss then syn_segment c.config
    else (if nat_eq c.una c.end then client_fin c else client_data c c.una (min c.window.mss (c.end - c.una)))

-- a sample of the round-trip time: from the tick of sending until now, and 0 where that is later
unfoldable pub measured : Timeout → ℕ → Option Timing → Timeout
measured rto now None = rto
measured rto now (Some timing) = sampled rto (now - timing.since)

-- whether the position that is timed lies below another
abbrev pub is_timed_below : ℕ → Option Timing → Bool
is_timed_below position None = false
is_timed_below position (Some timing) = nat_lt timing.position position

-- one position is timed at a time (RFC 6298 section 3)
abbrev pub begin_timing : Option Timing → (position now : ℕ) → Option Timing
begin_timing None position now = Some (record { position = position; since = now })
begin_timing (Some timing) position now = Some timing

-- a segment that is sent again gives no sample (Karn's algorithm, RFC 6298 section 3)
unfoldable pub timing_at_send : ClientFields → ℕ → Option Timing
timing_at_send c now = if nat_lt c.nxt c.top then None else begin_timing c.timed c.nxt now

-- so many positions more are sent
abbrev pub advanced : ClientFields → (now positions : ℕ) → ClientFields
advanced c now positions =
    record c { nxt = c.nxt + positions; top = max c.top (c.nxt + positions); timed = timing_at_send c now }

-- the timer runs while something is not acknowledged (RFC 6298 sections 5.1 to 5.3)
unfoldable pub deadline_at : ClientFields → ℕ → Option ℕ
deadline_at c now = if nat_lt c.una c.nxt then Some (now + c.rto.value) else None

abbrev pub with_deadline : ClientFields → ℕ → ClientFields
with_deadline c now = record c { deadline = deadline_at c now }

-- Opening (RFC 793 section 3.4).
-- The congestion window is made anew when the peer's window is known.
unfoldable pub opened : TcpConfig → (bytes now : ℕ) → ClientFields
opened config bytes now =
    let rto = first_timeout config.frequency in
    record {
      config = config;
      state = SynSent;
      una = config.iss;
      nxt = config.iss + 1;
      top = config.iss + 1;
      end = config.iss + 1 + bytes;
      rcv = 0;
      peer = 0;
      window = first_window config.mss (2 * config.mss);
      rto = rto;
      timed = Some (record { position = config.iss; since = now });
      tries = 0;
      duplicates = 0;
      deadline = Some (now + rto.value);
    }

-- a client's first turn: its SYN
abbrev pub connected : TcpConfig → (bytes now : ℕ) → Turn ClientFields
connected config bytes now =
    record { after = opened config bytes now; acts = Entered SynSent ∷ Send (syn_segment config) ∷ [] }

-- Sending (RFC 793 section 3.7).
-- the least of the congestion window (RFC 5681 section 3.1), the peer's window and the own one
abbrev pub allowed : ClientFields → ℕ
allowed c = min c.window.size (min c.peer (c.config.send * c.config.mss))

-- the position up to which data may be in flight
unfoldable pub edge : ClientFields → ℕ
edge c = c.una + allowed c

-- Data goes out in segments of mss bytes, the last one before the end perhaps shorter, and each goes
-- whole or not at all. So it goes to the end where that lies within the edge, and else by as many
-- whole segments as have room.
unfoldable pub data_stop : ClientFields → ℕ
data_stop c =
    if nat_le c.end (edge c) then c.end
    else (let room = edge c - c.nxt in c.nxt + (room - room % c.window.mss))

-- how many segments that takes
unfoldable pub data_count : ℕ → ClientFields → ℕ
data_count stop c = (stop - c.nxt + (c.window.mss - 1)) / c.window.mss

-- so many segments of data, up to a position
abbrev pub data_sent : (count stop now : ℕ) → ClientFields → Turn ClientFields
data_sent zero stop now c = quiet c
data_sent (suc n) stop now c =
    let length = min c.window.mss (stop - c.nxt) in
    before (Send (client_data c c.nxt length)) (data_sent n stop now (advanced c now length))

-- What this comes to: while data is left and the next segment of it has room beside what is in
-- flight, that segment goes out.
abbrev pub data_out : (now : ℕ) → ClientFields → Turn ClientFields
data_out now c = data_sent (data_count (data_stop c) c) (data_stop c) now c

abbrev pub next_length : ClientFields → ℕ
next_length c = min c.window.mss (c.end - c.nxt)

abbrev pub may_send : ClientFields → Bool
may_send c = nat_lt c.nxt c.end && nat_le (next_length c) (allowed c - (c.nxt - c.una))

abbrev pub sent_next : (now : ℕ) → ClientFields → Turn ClientFields
sent_next now c =
    let length = next_length c in
    if may_send c then before (Send (client_data c c.nxt length)) (data_out now (advanced c now length)) else quiet c

-- the FIN (RFC 793 section 3.5)
abbrev pub is_established : TcpState → Bool
is_established Established = true
is_established _ = false

abbrev pub fin_acts : ClientFields → List Act
fin_acts c = (if is_established c.state then Entered FinWait1 ∷ [] else []) ++ Send (client_fin c) ∷ []

-- after all data
unfoldable pub fin_sent : (now : ℕ) → ClientFields → Turn ClientFields
fin_sent now c =
    if nat_eq c.nxt c.end then record { after = record (advanced c now 1) { state = FinWait1 }; acts = fin_acts c }
    else quiet c

-- what may go out goes out
unfoldable pub sent : (now : ℕ) → ClientFields → Turn ClientFields
sent now c =
    let stop = data_stop c in
    let d = data_sent (data_count stop c) stop now c in
    let f = fin_sent now d.after in
    record { after = with_deadline f.after now; acts = d.acts ++ f.acts }

-- Established (RFC 793 section 3.4, figure 7).
-- mss is at most the own one and the peer's window
abbrev pub synchronized : ClientFields → SegmentFields → ℕ → ClientFields
synchronized c s now =
    let mss = max 1 (min c.config.mss s.window) in
    record c {
      rto = measured c.rto now c.timed;
      timed = None;
      una = c.config.iss + 1;
      rcv = s.seq + 1;
      peer = s.window;
      window = first_window mss (max s.window (2 * mss));
      tries = 0;
      state = Established;
    }

unfoldable pub at_syn_ack : ClientFields → SegmentFields → ℕ → Turn ClientFields
at_syn_ack c s now =
    let next = synchronized c s now in
    before (Entered Established) (before (Send (client_ack next)) (sent now next))

-- Acknowledgments (RFC 793 section 3.9, RFC 5681 section 3).
-- one above una acknowledges new positions
abbrev pub acknowledged : ClientFields → (ack now : ℕ) → ClientFields
acknowledged c ack now =
    record c {
      rto = (if is_timed_below ack c.timed then measured c.rto now c.timed else c.rto);
      timed = (if is_timed_below ack c.timed then None else c.timed);
      tries = 0;
      duplicates = 0;
      window = grown c.window (ack - c.una);
      una = ack;
      nxt = max c.nxt ack;
    }

-- the own FIN is acknowledged
abbrev pub fin_acknowledged : ClientFields → ℕ → ClientFields
fin_acknowledged c now = record (with_deadline c now) { state = FinWait2 }

unfoldable pub at_new_ack : ClientFields → (ack now : ℕ) → Turn ClientFields
at_new_ack c ack now =
    let next = acknowledged c ack now in
    if nat_eq ack (c.end + 1) then record { after = fin_acknowledged next now; acts = Entered FinWait2 ∷ [] }
    else sent now next

-- a duplicate acknowledgment (RFC 5681 section 2) acknowledges una again while something is in
-- flight, and carries nothing
abbrev pub is_duplicate : ClientFields → SegmentFields → (ack : ℕ) → Bool
is_duplicate c s ack = nat_eq ack c.una && (nat_eq s.length 0 && (not s.fin && nat_lt c.una c.nxt))

-- the third one: fast retransmit (RFC 5681 section 3.2)
unfoldable pub at_duplicate : ClientFields → Turn ClientFields
at_duplicate c =
    if nat_eq c.duplicates 2
    then record {
      after = record c { duplicates = 3; window = third_duplicate c.window (c.nxt - c.una); timed = None };
      acts = Send (first_segment c) ∷ [];
    }
    else quiet (record c { duplicates = min 4 (c.duplicates + 1) })

-- one above top, below una, or of no kind above is ignored
unfoldable pub at_ack : ClientFields → SegmentFields → (ack now : ℕ) → Turn ClientFields
at_ack c s ack now =
    if nat_lt c.una ack && nat_le ack c.top then at_new_ack c ack now
    else (if is_duplicate c s ack then at_duplicate c else quiet c)

-- ESTABLISHED and FIN-WAIT-1 hear acknowledgments
abbrev pub hears : TcpState → Bool
hears Established = true
hears FinWait1 = true
hears _ = false

abbrev pub at_any_ack : Option ℕ → ClientFields → SegmentFields → (now : ℕ) → Turn ClientFields
at_any_ack None c s now = quiet c
at_any_ack (Some ack) c s now = at_ack c s ack now

unfoldable pub at_acknowledgment : ClientFields → SegmentFields → (now : ℕ) → Turn ClientFields
at_acknowledgment c s now = if hears c.state then at_any_ack s.ack c s now else quiet c

-- The peer's FIN (RFC 793 section 3.5): twice the maximum segment lifetime follows.
abbrev pub finished : ClientFields → ℕ → ClientFields
finished c now = record c { rcv = c.rcv + 1; state = TimeWait; deadline = Some (now + 2 * c.config.msl) }

unfoldable pub at_last_fin : ClientFields → ℕ → Turn ClientFields
at_last_fin c now =
    let next = finished c now in record { after = next; acts = Entered TimeWait ∷ Send (client_ack next) ∷ [] }

-- FIN-WAIT-2 takes a FIN at rcv, and TIME-WAIT acknowledges each again
abbrev pub at_fin : TcpState → ClientFields → SegmentFields → ℕ → Turn ClientFields
at_fin FinWait2 c s now = if s.fin && nat_eq (s.seq + s.length) c.rcv then at_last_fin c now else quiet c
at_fin TimeWait c s now =
    if s.fin then record { after = c; acts = Send (client_ack c) ∷ [] } else quiet c
at_fin _ c s now = quiet c

-- a segment without SYN: its acknowledgment, and then its FIN
unfoldable pub at_plain : ClientFields → SegmentFields → ℕ → Turn ClientFields
at_plain c s now =
    let first = at_acknowledgment c s now in
    let next = first.after in
    following first.acts (at_fin next.state next s now)

-- Segments (RFC 793 section 3.9). In SYN-SENT a SYN that acknowledges the own one is looked for
unfoldable pub at_opening : ClientFields → SegmentFields → ℕ → Turn ClientFields
at_opening c s now = if s.syn && is_ack_of (c.config.iss + 1) s.ack then at_syn_ack c s now else quiet c

-- in later states: a SYN that acknowledges gets a pure ACK and changes nothing, another SYN nothing, and any other segment is
-- a plain one
unfoldable pub at_later : ClientFields → SegmentFields → ℕ → Turn ClientFields
at_later c s now =
    if s.syn then (if is_some s.ack then record { after = c; acts = Send (client_ack c) ∷ [] } else quiet c)
    else at_plain c s now

abbrev pub client_at : TcpState → ClientFields → SegmentFields → ℕ → Turn ClientFields
client_at SynSent c s now = at_opening c s now
client_at Closed c s now = quiet c
client_at _ c s now = at_later c s now

abbrev pub client_segment : ClientFields → SegmentFields → (now : ℕ) → Turn ClientFields
client_segment c s now = client_at c.state c s now

-- Timeouts (RFC 793 sections 3.7 and 3.9, RFC 6298 sections 5.4 to 5.6, RFC 5681 section 3.1).
abbrev pub client_closed : ClientFields → Turn ClientFields
client_closed c = record { after = record c { state = Closed; deadline = None }; acts = Entered Closed ∷ [] }

-- the congestion window stays as it is until the peer's window is known
unfoldable pub window_after_timeout : TcpState → ClientFields → Window
window_after_timeout SynSent c = c.window
window_after_timeout _ c =
    if nat_eq c.tries 0 then timed_out c.window (c.nxt - c.una) else timed_out_again c.window

-- the first segment goes out again, and nxt stands after it
abbrev pub retransmitted : ClientFields → ℕ → ClientFields
retransmitted c now =
    let after = c.una + span (first_segment c) in
    let rto = backed_off c.rto in
    record c {
      tries = c.tries + 1;
      window = window_after_timeout c.state c;
      rto = rto;
      duplicates = 0;
      timed = None;
      nxt = after;
      top = max c.top after;
      deadline = Some (now + rto.value);
    }

unfoldable pub at_client_timeout : ClientFields → ℕ → Turn ClientFields
at_client_timeout c now =
    if nat_lt c.config.tries (c.tries + 1) then client_closed c
    else record { after = retransmitted c now; acts = Send (first_segment c) ∷ [] }

abbrev pub client_timeout_at : TcpState → ClientFields → ℕ → Turn ClientFields
client_timeout_at TimeWait c now = client_closed c
client_timeout_at _ c now = at_client_timeout c now

abbrev pub client_timeout : ClientFields → (now : ℕ) → Turn ClientFields
client_timeout c now = client_timeout_at c.state c now
