-- The words of a trace for what has a name there.
use Rattle.std.specs.Prelude.{ℕ, List, Bool, codes, if◌then◌else◌}
use Rattle.sim_base.specs.declared.records.Reason.{Reason}
use Rattle.sim_base.specs.declared.records.Reason.TheVariants.{Ttl, Route, Port, Buffer, Link}
use Rattle.sim_base.specs.declared.records.TcpState.{TcpState}
use Rattle.sim_base.specs.declared.records.TcpState.TheVariants.{SynSent, SynReceived, Established, FinWait1, FinWait2, TimeWait, LastAck, Closed}

-- why a packet was dropped
abbrev pub reason_word : Reason → List ℕ
reason_word Ttl = codes "ttl"
reason_word Route = codes "route"
reason_word Port = codes "port"
reason_word Buffer = codes "buffer"
reason_word Link = codes "link"

-- the states of RFC 9293, section 3.3.2
abbrev pub state_word : TcpState → List ℕ
state_word SynSent = codes "SYN_SENT"
state_word SynReceived = codes "SYN_RCVD"
state_word Established = codes "ESTABLISHED"
state_word FinWait1 = codes "FIN_WAIT_1"
state_word FinWait2 = codes "FIN_WAIT_2"
state_word TimeWait = codes "TIME_WAIT"
state_word LastAck = codes "LAST_ACK"
state_word Closed = codes "CLOSED"

-- the protocol of a packet: TCP, or else UDP
abbrev pub protocol_word : Bool → List ℕ
protocol_word tcp = if tcp then codes "tcp" else codes "udp"
