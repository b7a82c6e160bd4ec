-- Sessions of either kind.
use Rattle.std.specs.Prelude.{ℕ, Option}
use Rattle.sim_base.specs.declared.records.TcpConfig.{TcpConfig}
use Rattle.sim_base.specs.declared.records.TcpState.{TcpState}
use Rattle.sim_base.specs.SegmentFields.{SegmentFields}
use Rattle.tcp_rules.specs.Segments.{Turn}
use Rattle.tcp_rules.specs.Clients.{ClientFields, connected, client_segment, client_timeout}
use Rattle.tcp_rules.specs.Servers.{ServerFields, accepted, server_segment, server_timeout}

pub data End : Type 0 where
  Client : ClientFields → End
  Server : ServerFields → End

abbrev pub of_client : Turn ClientFields → Turn End
of_client turn = record { after = Client turn.after; acts = turn.acts }

abbrev pub of_server : Turn ServerFields → Turn End
of_server turn = record { after = Server turn.after; acts = turn.acts }

-- a transfer of so many bytes is opened
unfoldable pub connecting : TcpConfig → (bytes now : ℕ) → Turn End
connecting config bytes now = of_client (connected config bytes now)

-- a SYN is accepted
unfoldable pub accepting : TcpConfig → SegmentFields → (now : ℕ) → Turn End
accepting config syn now = of_server (accepted config syn now)

-- a segment comes
abbrev pub at_segment : End → SegmentFields → (now : ℕ) → Turn End
at_segment (Client c) g now = of_client (client_segment c g now)
at_segment (Server s) g now = of_server (server_segment s g now)

-- the deadline passes
abbrev pub at_timeout : End → (now : ℕ) → Turn End
at_timeout (Client c) now = of_client (client_timeout c now)
at_timeout (Server s) now = of_server (server_timeout s now)

abbrev pub deadline_of : End → Option ℕ
deadline_of (Client c) = c.deadline
deadline_of (Server s) = s.deadline

abbrev pub state_of : End → TcpState
state_of (Client c) = c.state
state_of (Server s) = s.state

-- how many bytes were delivered in order; data goes to the server
abbrev pub delivered_of : End → ℕ
delivered_of (Client c) = 0
delivered_of (Server s) = s.delivered
