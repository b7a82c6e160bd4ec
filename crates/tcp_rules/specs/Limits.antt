-- The ranges of what a session keeps: no position wraps, and each window is some bytes.
use Rattle.std.specs.Prelude.{◌≡◌, ℕ, ◌+◌, ◌<◌, ◌≤◌, ◌^◌, true, ◌||◌, length, nat_eq, nat_le}
use Rattle.std.specs.Option.{ForSome}
use Rattle.sim_base.specs.SegmentFields.{IsSegment}
use Rattle.tcp_clock.specs.Retransmission.{IsTimeout}
use Rattle.tcp_clock.specs.Congestion.{IsWindow}
use Rattle.tcp_rules.specs.Segments.{IsTimedTcp, Turn, sent_of, Each}
use Rattle.tcp_rules.specs.Clients.{ClientFields}
use Rattle.tcp_rules.specs.Servers.{ServerFields, furthest}
use Rattle.tcp_rules.specs.Sessions.{End, Client, Server}

-- segments are of the own size, unless the peer's window is no greater than one
pub record IsClientEnd (c : ClientFields) : Type 0 where
  pub config : IsTimedTcp c.config
  pub rto : IsTimeout c.rto
  pub window : IsWindow c.window
  pub iss_una : c.config.iss ≤ c.una
  pub iss_nxt : c.config.iss + 1 ≤ c.nxt
  pub una_nxt : c.una ≤ c.nxt
  pub nxt_top : c.nxt ≤ c.top
  pub top_end : c.top ≤ c.end + 1
  pub iss_end : c.config.iss + 1 ≤ c.end
  pub end : c.end ≤ c.config.iss + 1 + 2 ^ 30
  pub rcv : c.rcv ≤ 2 ^ 32
  pub peer : c.peer ≤ 2 ^ 32
  pub segments : (nat_le c.peer c.window.mss || nat_eq c.window.mss c.config.mss) ≡ true
  pub tries : c.tries ≤ c.config.tries
  pub duplicates : c.duplicates ≤ 4

pub record IsServerEnd (s : ServerFields) : Type 0 where
  pub config : IsTimedTcp s.config
  pub rto : IsTimeout s.rto
  pub rcv : s.rcv ≤ 2 ^ 32
  pub kept : furthest s.kept < 2 ^ 32
  pub fin : ForSome s.fin (λ place. place < 2 ^ 32)
  pub delivered : s.irs + 1 + s.delivered ≤ s.rcv
  pub tries : s.tries ≤ s.config.tries

abbrev pub IsEnd : End → Type 0
IsEnd (Client c) = IsClientEnd c
IsEnd (Server s) = IsServerEnd s

-- a turn after which a session is in range, and which sends at most so many segments, all in range
pub record IsOrderly (most : ℕ) (t : Turn End) : Type 0 where
  pub session : IsEnd t.after
  pub segments : Each IsSegment (sent_of t.acts)
  pub few : length (sent_of t.acts) ≤ most
