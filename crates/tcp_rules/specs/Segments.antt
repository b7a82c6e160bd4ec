-- Segments, and what a rule does.
use Rattle.std.specs.Prelude.{◌≡◌, ℕ, ◌+◌, ◌*◌, ◌≤◌, ◌^◌, Bool, true, false, ◌||◌, Option, Some, None, List, [], ◌∷◌, ◌++◌, nat_eq, nat_lt, if◌then◌else◌}
use Rattle.sim_base.specs.declared.records.TcpConfig.{TcpConfig}
use Rattle.sim_base.specs.SegmentFields.{SegmentFields}
use Rattle.sim_base.specs.Traffic.{IsTcp}
use Rattle.tcp_rules.specs.declared.records.Act.{Act}
use Rattle.tcp_rules.specs.declared.records.Act.TheVariants.{Entered, Delivered, Send}
use Rattle.tcp_rules.specs.declared.records.Range.{Range}

-- the settings of TCP on a host with a clock of 1 to 10^12 ticks a second
pub record IsTimedTcp (tcp : TcpConfig) : Type 0 where
  pub settings : IsTcp tcp.frequency tcp
  pub some_frequency : 1 ≤ tcp.frequency
  pub most_frequency : tcp.frequency ≤ 10 ^ 12

-- the window that an end offers, in bytes: SND.WND of its peer (RFC 793 section 3.1)
abbrev pub own_window : TcpConfig → ℕ
own_window config = config.receive * config.mss

-- how many positions a segment takes: its data, and one each for SYN and FIN (RFC 793 section 3.3)
abbrev pub span : SegmentFields → ℕ
span s = s.length + (if s.syn then 1 else 0) + (if s.fin then 1 else 0)

-- whether a segment has data or a FIN
abbrev pub carries : SegmentFields → Bool
carries s = nat_lt 0 s.length || s.fin

-- the positions of a segment's data
abbrev pub data_of : SegmentFields → Range
data_of s = record { from = s.seq; to = s.seq + s.length }

-- whether an acknowledgment is there, of just this position
abbrev pub is_ack_of : ℕ → Option ℕ → Bool
is_ack_of position None = false
is_ack_of position (Some ack) = nat_eq ack position

-- a client's SYN
abbrev pub syn_segment : TcpConfig → SegmentFields
syn_segment config =
    record { seq = config.iss; ack = None; syn = true; fin = false; length = 0; window = own_window config }

-- every other segment acknowledges the position that its sender waits for
abbrev pub data_segment : TcpConfig → (seq ack length : ℕ) → SegmentFields
data_segment config seq ack length =
    record { seq = seq; ack = Some ack; syn = false; fin = false; length = length; window = own_window config }

abbrev pub pure_ack : TcpConfig → (seq ack : ℕ) → SegmentFields
pure_ack config seq ack = data_segment config seq ack 0

abbrev pub fin_segment : TcpConfig → (seq ack : ℕ) → SegmentFields
fin_segment config seq ack =
    record { seq = seq; ack = Some ack; syn = false; fin = true; length = 0; window = own_window config }

-- a server's SYN
abbrev pub syn_ack_segment : TcpConfig → (ack : ℕ) → SegmentFields
syn_ack_segment config ack =
    record { seq = config.iss; ack = Some ack; syn = true; fin = false; length = 0; window = own_window config }

-- what a rule makes of a session: the session afterwards, and what it did, in order
pub record Turn (A : Type 0) : Type 0 where
  pub after : A
  pub acts : List Act

-- nothing is done
abbrev pub quiet : {A : Type 0} → A → Turn A
quiet after = record { after = after; acts = [] }

-- first this, and then a turn
abbrev pub before : {A : Type 0} → Act → Turn A → Turn A
before act turn = record { after = turn.after; acts = act ∷ turn.acts }

-- first these, and then a turn
abbrev pub following : {A : Type 0} → List Act → Turn A → Turn A
following acts turn = record { after = turn.after; acts = acts ++ turn.acts }

-- the segments among the acts
abbrev pub sent_of : List Act → List SegmentFields
sent_of [] = []
sent_of (Entered state ∷ acts) = sent_of acts
sent_of (Delivered bytes ∷ acts) = sent_of acts
sent_of (Send segment ∷ acts) = segment ∷ sent_of acts

-- a fact about each of a list
abbrev pub Each : {A : Type 0} → (A → Type 0) → List A → Type 0
Each P [] = Unit {0}
Each P (x ∷ xs) = P x × Each P xs
