-- What a TCP server has passed of its peer's positions, and what it tells of it.
use Rattle.std.specs.Prelude.{ℕ, ◌≡◌, ◌+◌, true, Some, List, [], ◌∷◌}
use Rattle.event_order.specs.Pending.{Among}
use Rattle.sim_base.specs.declared.records.TcpState.{TcpState}
use Rattle.sim_base.specs.declared.records.TcpState.TheVariants.{SynReceived, Established, LastAck}
use Rattle.sim_base.specs.SegmentFields.{SegmentFields}
use Rattle.tcp_rules.specs.declared.records.Act.{Act}
use Rattle.tcp_rules.specs.declared.records.Act.TheVariants.{Entered, Delivered, Send}
use Rattle.tcp_rules.specs.Servers.{ServerFields}

-- A server in this state waits for the position right after its peer's SYN and all bytes that it has delivered, of which there are none in
-- SYN_RCVD. In LAST_ACK it has passed its peer's FIN too, which stands right after these bytes. No session of a server that is open is
-- in another state.
abbrev pub WaitsAfter : TcpState → ServerFields → Type 0
WaitsAfter SynReceived s = (s.delivered ≡ 0) × (s.rcv ≡ s.irs + 1)
WaitsAfter Established s = s.rcv ≡ s.irs + 1 + s.delivered
WaitsAfter LastAck s = (s.rcv ≡ s.irs + 2 + s.delivered) × (s.fin ≡ Some (s.irs + 1 + s.delivered))
WaitsAfter _ s = ⊥

-- a SYN at this position
pub record IsSynAt (position : ℕ) (segment : SegmentFields) : Type 0 where
  pub syn : segment.syn ≡ true
  pub at : segment.seq ≡ position

-- one of these segments is such a SYN
pub record HasSyn (position : ℕ) (segments : List SegmentFields) : Type 0 where
  pub segment : SegmentFields
  pub among : Among segment segments
  pub is : IsSynAt position segment

-- how many bytes these acts tell as delivered
abbrev pub told : List Act → ℕ
told [] = 0
told (Entered state ∷ acts) = told acts
told (Delivered bytes ∷ acts) = bytes + told acts
told (Send segment ∷ acts) = told acts
