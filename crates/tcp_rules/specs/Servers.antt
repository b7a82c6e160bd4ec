-- The server: the end that a connection is opened to, and that receives.
use Rattle.std.specs.Prelude.{ℕ, zero, suc, ◌+◌, ◌-◌, ◌≡◌, ◌<◌, ◌≤◌, Bool, true, false, ◌&&◌, Option, Some, None, List, [], ◌∷◌, max, nat_lt, nat_le, if◌then◌else◌}
use Rattle.std.specs.List.{list_any, filter}
use Rattle.sim_base.specs.declared.records.TcpConfig.{TcpConfig}
use Rattle.sim_base.specs.declared.records.TcpState.{TcpState}
use Rattle.sim_base.specs.declared.records.TcpState.TheVariants.{SynReceived, Established, LastAck, Closed}
use Rattle.sim_base.specs.SegmentFields.{SegmentFields}
use Rattle.tcp_clock.specs.Retransmission.{Timeout, first_timeout, backed_off}
use Rattle.tcp_rules.specs.declared.records.Act.{Act}
use Rattle.tcp_rules.specs.declared.records.Act.TheVariants.{Entered, Delivered, Send}
use Rattle.tcp_rules.specs.declared.records.Range.{Range}
use Rattle.tcp_rules.specs.Segments.{Turn, quiet, before, following, own_window, carries, data_of, is_ack_of, pure_ack, fin_segment, syn_ack_segment}

-- what a server keeps (RFC 793 section 3.2): IRS, the peer's first position; RCV.NXT; what of later
-- positions has come, in order of beginnings; the place of the peer's FIN once it has come; how many
-- bytes were delivered; the retransmission timeout, and how often the timer has run out since the last
-- progress
pub record ServerFields : Type 0 where
  pub config : TcpConfig
  pub state : TcpState
  pub irs : ℕ
  pub rcv : ℕ
  pub kept : List Range
  pub fin : Option ℕ
  pub delivered : ℕ
  pub rto : Timeout
  pub tries : ℕ
  pub deadline : Option ℕ

-- The own SYN stands at ISS, and the own FIN after it.
abbrev pub server_syn_ack : ServerFields → SegmentFields
server_syn_ack s = syn_ack_segment s.config s.rcv

abbrev pub server_ack : ServerFields → SegmentFields
server_ack s = pure_ack s.config (s.config.iss + 1) s.rcv

abbrev pub server_fin : ServerFields → SegmentFields
server_fin s = fin_segment s.config (s.config.iss + 1) s.rcv

-- Ranges of positions.
abbrev pub holds : Range → ℕ → Bool
holds r position = nat_le r.from position && nat_lt position r.to

-- whether one of the ranges holds a position
abbrev pub covers : List Range → ℕ → Bool
covers rs position = list_any (λ r. holds r position) rs

-- whether a range lies within another
abbrev pub is_within : Range → Range → Bool
is_within r outer = nat_le outer.from r.from && nat_le r.to outer.to

-- a range in its place by rising beginnings, behind those of its own beginning
abbrev pub placed : Range → List Range → List Range
placed r [] = r ∷ []
placed r (k ∷ ks) = if nat_lt r.from k.from then r ∷ k ∷ ks else k ∷ placed r ks

-- a range is added, but for one that a kept range holds already
unfoldable pub added : Range → List Range → List Range
added r ks = if list_any (is_within r) ks then ks else placed r ks

-- the greatest end
abbrev pub furthest : List Range → ℕ
furthest [] = 0
furthest (r ∷ rs) = max r.to (furthest rs)

-- the first of the next n positions that has no mark, or else the position after them
abbrev pub first_unmarked_at : Bool → (ℕ → ℕ) → ℕ → ℕ
first_unmarked_at true later position = later (position + 1)
first_unmarked_at false later position = position

abbrev pub first_unmarked : ℕ → (ℕ → Bool) → ℕ → ℕ
first_unmarked zero marked position = position
first_unmarked (suc n) marked position = first_unmarked_at (marked position) (first_unmarked n marked) position

-- the first position, from a given one on, that no range holds: none holds one beyond the greatest end
unfoldable pub hole : List Range → ℕ → ℕ
hole rs position = first_unmarked (furthest rs - position) (covers rs) position

-- what the hole is: from the given position on all is held up to it, and it is not
pub record IsHole (rs : List Range) (position place : ℕ) : Type 0 where
  pub low : position ≤ place
  pub passed : (p : ℕ) → position ≤ p → p < place → covers rs p ≡ true
  pub stops : covers rs place ≡ false

-- the ranges that hold something from a position on
abbrev pub beyond : ℕ → List Range → List Range
beyond position rs = filter (λ r. nat_lt position r.to) rs

-- Opening (RFC 793 section 3.4).
unfoldable pub listened : TcpConfig → SegmentFields → (now : ℕ) → ServerFields
listened config syn now =
    let rto = first_timeout config.frequency in
    record {
      config = config;
      state = SynReceived;
      irs = syn.seq;
      rcv = syn.seq + 1;
      kept = [];
      fin = None;
      delivered = 0;
      rto = rto;
      tries = 0;
      deadline = Some (now + rto.value);
    }

-- a server's first turn: its SYN, with an acknowledgment of the client's
abbrev pub accepted : TcpConfig → SegmentFields → (now : ℕ) → Turn ServerFields
accepted config syn now =
    let s = listened config syn now in
    record { after = s; acts = Entered SynReceived ∷ Send (server_syn_ack s) ∷ [] }

-- Data (RFC 793 sections 3.7 and 3.9).
-- whether a segment ends within the own window
abbrev pub fits : ServerFields → SegmentFields → Bool
fits s g = nat_le (g.seq + g.length) (s.rcv + own_window s.config)

-- then its data is kept, and the place of its FIN
unfoldable pub kept_with : ServerFields → SegmentFields → List Range
kept_with s g = if fits s g then added (data_of g) s.kept else s.kept

unfoldable pub fin_with : ServerFields → SegmentFields → Option ℕ
fin_with s g = if fits s g && g.fin then Some (g.seq + g.length) else s.fin

abbrev pub keeping : ServerFields → SegmentFields → ServerFields
keeping s g = record s { kept = kept_with s g; fin = fin_with s g }

-- rcv moves over all that is kept without a hole, and those bytes are delivered
abbrev pub moved : ServerFields → ServerFields
moved s =
    let to = hole s.kept s.rcv in
    record s { rcv = to; kept = beyond to s.kept; delivered = s.delivered + (to - s.rcv) }

abbrev pub delivery_of : ℕ → List Act
delivery_of zero = []
delivery_of (suc n) = Delivered (suc n) ∷ []

-- where rcv reaches the peer's FIN it passes it, and the own FIN goes out: there is nothing to send
-- before it (RFC 793 section 3.5, where CLOSE-WAIT takes no time)
abbrev pub finishing : ServerFields → ℕ → ServerFields
finishing s now = record s { rcv = s.rcv + 1; state = LastAck; deadline = Some (now + s.rto.value) }

unfoldable pub at_end : ServerFields → ℕ → Turn ServerFields
at_end s now =
    if is_ack_of s.rcv s.fin
    then (let next = finishing s now in record { after = next; acts = Entered LastAck ∷ Send (server_fin next) ∷ [] })
    else record { after = s; acts = Send (server_ack s) ∷ [] }

unfoldable pub at_kept : ServerFields → ℕ → Turn ServerFields
at_kept s now = following (delivery_of (hole s.kept s.rcv - s.rcv)) (at_end (moved s) now)

-- a segment with data or a FIN
unfoldable pub at_data : ServerFields → SegmentFields → ℕ → Turn ServerFields
at_data s g now = if carries g then at_kept (keeping s g) now else quiet s

-- Segments (RFC 793 section 3.9).
-- the own SYN is acknowledged: the timer stops, and its timeout is a second again
abbrev pub established : ServerFields → ServerFields
established s =
    record s { state = Established; tries = 0; rto = first_timeout s.config.frequency; deadline = None }

abbrev pub opening : ServerFields → SegmentFields → ℕ → Turn ServerFields
opening s g now = before (Entered Established) (at_data (established s) g now)

-- a SYN again gets the own SYN again
unfoldable pub at_start : ServerFields → SegmentFields → ℕ → Turn ServerFields
at_start s g now =
    if g.syn then record { after = s; acts = Send (server_syn_ack s) ∷ [] }
    else (if is_ack_of (s.config.iss + 1) g.ack then opening s g now else quiet s)

abbrev pub server_closed : ServerFields → Turn ServerFields
server_closed s = record { after = record s { state = Closed; deadline = None }; acts = Entered Closed ∷ [] }

-- the own FIN is acknowledged, or data or a FIN gets it again
unfoldable pub at_last : ServerFields → SegmentFields → Turn ServerFields
at_last s g =
    if g.syn then quiet s
    else (if is_ack_of (s.config.iss + 2) g.ack then server_closed s
    else (if carries g then record { after = s; acts = Send (server_fin s) ∷ [] } else quiet s))

abbrev pub server_at : TcpState → ServerFields → SegmentFields → ℕ → Turn ServerFields
server_at SynReceived s g now = at_start s g now
server_at Established s g now = if g.syn then quiet s else at_data s g now
server_at LastAck s g now = at_last s g
server_at _ s g now = quiet s

abbrev pub server_segment : ServerFields → SegmentFields → (now : ℕ) → Turn ServerFields
server_segment s g now = server_at s.state s g now

-- Timeouts (RFC 793 section 3.9, RFC 6298 sections 5.4 to 5.6): the own SYN or FIN goes out again.
abbrev pub server_last : TcpState → ServerFields → SegmentFields
server_last SynReceived s = server_syn_ack s
server_last _ s = server_fin s

abbrev pub waiting : ServerFields → ℕ → ServerFields
waiting s now =
    let rto = backed_off s.rto in record s { tries = s.tries + 1; rto = rto; deadline = Some (now + rto.value) }

unfoldable pub server_timeout : ServerFields → (now : ℕ) → Turn ServerFields
server_timeout s now =
    if nat_lt s.config.tries (s.tries + 1) then server_closed s
    else record { after = waiting s now; acts = Send (server_last s.state s) ∷ [] }
