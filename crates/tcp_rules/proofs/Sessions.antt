-- The rules of either kind of session.
use Rattle.std.proofs.Common.{ℕ, ◌+◌, ◌≤◌, ◌^◌, [], arith}
use Rattle.sim_base.specs.declared.records.TcpConfig.{TcpConfig}
use Rattle.sim_base.specs.SegmentFields.{SegmentFields, IsSegment}
use Rattle.tcp_rules.specs.Segments.{IsTimedTcp, Turn}
use Rattle.tcp_rules.specs.Clients.{ClientFields}
use Rattle.tcp_rules.specs.Servers.{ServerFields, listened, accepted}
use Rattle.tcp_rules.specs.Sessions.{End, Client, Server, of_client, of_server, connecting, accepting, at_segment, at_timeout}
use Rattle.tcp_rules.specs.Limits.{IsEnd, IsOrderly}
use Rattle.tcp_rules.specs.Transfers.{HoldsOnly}
use Rattle.tcp_rules.proofs.ClientRanges.{IsClientTurn, connected_turn, client_segment_turn, client_timeout_turn}
use Rattle.tcp_rules.proofs.ServerRanges.{IsServerTurn, accepted_turn, server_segment_turn, server_timeout_turn}

of_client_turn : (most : ℕ) (t : Turn ClientFields) → IsClientTurn most t → IsOrderly most (of_client t)
of_client_turn most t turn = record { session = turn.client; segments = turn.segments; few = turn.few }

of_server_turn : (most : ℕ) (t : Turn ServerFields) → 1 ≤ most → IsServerTurn t → IsOrderly most (of_server t)
of_server_turn most t some turn =
    let few = turn.few in record { session = turn.server; segments = turn.segments; few = omega arith }

pub connecting_orderly : (config : TcpConfig) (bytes now : ℕ) → IsTimedTcp config → bytes ≤ 2 ^ 30 → IsOrderly 1 (connecting config bytes now)
unfolding connecting
connecting_orderly config bytes now is few = of_client_turn 1 _ (connected_turn config bytes now is few)

pub accepting_orderly : (config : TcpConfig) (syn : SegmentFields) (now : ℕ) → IsTimedTcp config → IsSegment syn → IsOrderly 1 (accepting config syn now)
unfolding accepting
accepting_orderly config syn now is segment = of_server_turn 1 _ (omega arith) (accepted_turn config syn now is segment)

pub segment_orderly : (e : End) (g : SegmentFields) (now : ℕ) → IsEnd e → IsSegment g → IsOrderly 65538 (at_segment e g now)
segment_orderly (Client c) g now is segment = of_client_turn 65538 _ (client_segment_turn c g now segment is)
segment_orderly (Server s) g now is segment = of_server_turn 65538 _ (omega arith) (server_segment_turn s g now segment is)

pub timeout_orderly : (e : End) (now : ℕ) → IsEnd e → IsOrderly 1 (at_timeout e now)
timeout_orderly (Client c) now is = of_client_turn 1 _ (client_timeout_turn c now is)
timeout_orderly (Server s) now is = of_server_turn 1 _ (omega arith) (server_timeout_turn s now is)

-- a server that has just accepted a SYN has passed no position after it
pub accepted_holds_none : (config : TcpConfig) (syn : SegmentFields) (now : ℕ) → HoldsOnly (syn.seq + 1) [] (accepted config syn now).after
unfolding listened
accepted_holds_none config syn now = record {
  passed = λ p low high. absurd (omega arith);
  keeps = λ p held. absurd (cc);
  fin = λ p is. absurd (cc);
}
