-- Each rule keeps a server in range, and sends at most one segment, which is in range.
use Rattle.std.proofs.Common.{◌≡◌, ℕ, zero, suc, ◌+◌, ◌-◌, ◌<◌, ◌≤◌, ◌^◌, ◌&&◌, Option, Some, [], ◌∷◌, length, nat_lt, arith}
use Rattle.std.specs.Option.{ForSome}
use Rattle.std.proofs.lemmas.Bool.Decides.{nat_tests}
use Rattle.sim_base.specs.declared.records.TcpConfig.{TcpConfig}
use Rattle.sim_base.specs.declared.records.TcpState.{TcpState}
use Rattle.sim_base.specs.declared.records.TcpState.TheVariants.{SynReceived, Established, LastAck}
use Rattle.sim_base.specs.SegmentFields.{SegmentFields, IsSegment}
use Rattle.tcp_clock.proofs.Ranges.{first_timeout_ranged, backed_off_ranged}
use Rattle.tcp_rules.specs.declared.records.Act.TheVariants.{Send}
use Rattle.tcp_rules.specs.Segments.{IsTimedTcp, Turn, quiet, following, carries, data_of, is_ack_of, sent_of, Each}
use Rattle.tcp_rules.specs.Servers.{ServerFields, server_syn_ack, server_ack, server_fin, furthest, hole, listened, accepted, fits, kept_with, fin_with, keeping, moved, delivery_of, finishing, at_end, at_kept, at_data, established, opening, at_start, server_closed, at_last, server_at, server_segment, server_last, server_timeout}
use Rattle.tcp_rules.specs.Limits.{IsServerEnd}
use Rattle.tcp_rules.proofs.Cases.{if_case}
use Rattle.tcp_rules.proofs.Holes.{hole_low, hole_high, furthest_added, furthest_beyond}
use Rattle.tcp_rules.proofs.Receiving.{ack_is}
use Rattle.tcp_rules.proofs.ClientRanges.{own_most, ack_some}

-- Segments.
syn_ack_is : (s : ServerFields) → IsServerEnd s → IsSegment (server_syn_ack s)
syn_ack_is s is =
    let iss = is.config.settings.iss in
    record { last = omega arith; ack = ack_some s.rcv (2 ^ 32) is.rcv; window = own_most s.config is.config }

server_ack_is : (s : ServerFields) → IsServerEnd s → IsSegment (server_ack s)
server_ack_is s is =
    let iss = is.config.settings.iss in
    record { last = omega arith; ack = ack_some s.rcv (2 ^ 32) is.rcv; window = own_most s.config is.config }

server_fin_is : (s : ServerFields) → IsServerEnd s → IsSegment (server_fin s)
server_fin_is s is =
    let iss = is.config.settings.iss in
    record { last = omega arith; ack = ack_some s.rcv (2 ^ 32) is.rcv; window = own_most s.config is.config }

last_is : (state : TcpState) (s : ServerFields) → IsServerEnd s → IsSegment (server_last state s)
last_is SynReceived s is = syn_ack_is s is
last_is _ s is = server_fin_is s is

-- A turn after which a server is in range, and which sends at most one segment, in range.
pub record IsServerTurn (t : Turn ServerFields) : Type 0 where
  pub server : IsServerEnd t.after
  pub segments : Each IsSegment (sent_of t.acts)
  pub few : length (sent_of t.acts) ≤ 1

quiet_turn : (s : ServerFields) → IsServerEnd s → IsServerTurn (quiet s)
quiet_turn s is = record { server = is; segments = tt; few = omega arith }

one_turn : (s : ServerFields) (g : SegmentFields) → IsServerEnd s → IsSegment g → IsServerTurn (record { after = s; acts = Send g ∷ [] })
one_turn s g is sends = record { server = is; segments = (sends, tt); few = omega arith }

delivery_turn : (bytes : ℕ) (t : Turn ServerFields) → IsServerTurn t → IsServerTurn (following (delivery_of bytes) t)
delivery_turn zero t turn = record { server = turn.server; segments = turn.segments; few = turn.few }
delivery_turn (suc n) t turn = record { server = turn.server; segments = turn.segments; few = turn.few }

-- Opening.
listened_ranged : (config : TcpConfig) (syn : SegmentFields) (now : ℕ) → IsTimedTcp config → IsSegment syn → IsServerEnd (listened config syn now)
unfolding listened
listened_ranged config syn now is segment =
    let last = segment.last in
    record {
      config = is;
      rto = first_timeout_ranged config.frequency is.some_frequency is.most_frequency;
      rcv = omega arith;
      kept = omega arith;
      fin = λ x e. absurd (cc);
      delivered = omega arith;
      tries = omega arith;
    }

pub accepted_turn : (config : TcpConfig) (syn : SegmentFields) (now : ℕ) → IsTimedTcp config → IsSegment syn → IsServerTurn (accepted config syn now)
accepted_turn config syn now is segment =
    let ranged = listened_ranged config syn now is segment in
    record { server = ranged; segments = (syn_ack_is (listened config syn now) ranged, tt); few = omega arith }

-- Data.
keeping_ranged : (s : ServerFields) (g : SegmentFields) → IsSegment g → IsServerEnd s → IsServerEnd (keeping s g)
unfolding kept_with fin_with
keeping_ranged s g segment is =
    let last = segment.last in
    let kept = is.kept in
    record {
      config = is.config;
      rto = is.rto;
      rcv = is.rcv;
      kept = if_case (λ ks. furthest ks < 2 ^ 32) (fits s g)
          (λ e. let most = furthest_added (data_of g) s.kept in omega (arith, most)) (λ e. kept);
      fin = if_case (λ (o : Option ℕ). ForSome o (λ place. place < 2 ^ 32)) (fits s g && g.fin)
          (λ e x k. let same : g.seq + g.length ≡ x = cc in omega arith) (λ e. is.fin);
      delivered = is.delivered;
      tries = is.tries;
    }

moved_ranged : (s : ServerFields) → IsServerEnd s → IsServerEnd (moved s)
moved_ranged s is =
    let low = hole_low s.kept s.rcv in
    let high = hole_high s.kept s.rcv in
    let rcv = is.rcv in
    let kept = is.kept in
    let delivered = is.delivered in
    let rest = furthest_beyond (hole s.kept s.rcv) s.kept in
    record {
      config = is.config;
      rto = is.rto;
      rcv = omega (arith, high);
      kept = omega (arith, rest);
      fin = is.fin;
      delivered = omega (arith, low);
      tries = is.tries;
    }

finishing_ranged : (s : ServerFields) (now : ℕ) → s.fin ≡ Some s.rcv → IsServerEnd s → IsServerEnd (finishing s now)
finishing_ranged s now there is =
    let below = is.fin s.rcv there in
    let delivered = is.delivered in
    record {
      config = is.config;
      rto = is.rto;
      rcv = omega (arith, below);
      kept = is.kept;
      fin = is.fin;
      delivered = omega arith;
      tries = is.tries;
    }

end_turn : (s : ServerFields) (now : ℕ) → IsServerEnd s → IsServerTurn (at_end s now)
unfolding at_end
end_turn s now is = if_case IsServerTurn (is_ack_of s.rcv s.fin)
    (λ e.
    let ranged = finishing_ranged s now (ack_is s.rcv s.fin e) is in
    record { server = ranged; segments = (server_fin_is (finishing s now) ranged, tt); few = omega arith })
    (λ e. one_turn s (server_ack s) is (server_ack_is s is))

data_turn : (s : ServerFields) (g : SegmentFields) (now : ℕ) → IsSegment g → IsServerEnd s → IsServerTurn (at_data s g now)
unfolding at_data at_kept
data_turn s g now segment is = if_case IsServerTurn (carries g)
    (λ e.
    let k = keeping s g in
    delivery_turn (hole k.kept k.rcv - k.rcv) (at_end (moved k) now) (end_turn (moved k) now (moved_ranged k (keeping_ranged s g segment is))))
    (λ e. quiet_turn s is)

-- Segments.
established_ranged : (s : ServerFields) → IsServerEnd s → IsServerEnd (established s)
established_ranged s is = record {
  config = is.config;
  rto = first_timeout_ranged s.config.frequency is.config.some_frequency is.config.most_frequency;
  rcv = is.rcv;
  kept = is.kept;
  fin = is.fin;
  delivered = is.delivered;
  tries = omega arith;
}

opening_turn : (s : ServerFields) (g : SegmentFields) (now : ℕ) → IsSegment g → IsServerEnd s → IsServerTurn (opening s g now)
opening_turn s g now segment is =
    let turn = data_turn (established s) g now segment (established_ranged s is) in
    record { server = turn.server; segments = turn.segments; few = turn.few }

start_turn : (s : ServerFields) (g : SegmentFields) (now : ℕ) → IsSegment g → IsServerEnd s → IsServerTurn (at_start s g now)
unfolding at_start
start_turn s g now segment is = if_case IsServerTurn g.syn
    (λ e. one_turn s (server_syn_ack s) is (syn_ack_is s is))
    (λ e. if_case IsServerTurn (is_ack_of (s.config.iss + 1) g.ack) (λ k. opening_turn s g now segment is) (λ k. quiet_turn s is))

closed_turn : (s : ServerFields) → IsServerEnd s → IsServerTurn (server_closed s)
closed_turn s is = record {
  server = record {
    config = is.config;
    rto = is.rto;
    rcv = is.rcv;
    kept = is.kept;
    fin = is.fin;
    delivered = is.delivered;
    tries = is.tries;
  };
  segments = tt;
  few = omega arith;
}

last_turn : (s : ServerFields) (g : SegmentFields) → IsServerEnd s → IsServerTurn (at_last s g)
unfolding at_last
last_turn s g is = if_case IsServerTurn g.syn
    (λ e. quiet_turn s is)
    (λ e. if_case IsServerTurn (is_ack_of (s.config.iss + 2) g.ack)
    (λ k. closed_turn s is)
    (λ k. if_case IsServerTurn (carries g) (λ f. one_turn s (server_fin s) is (server_fin_is s is)) (λ f. quiet_turn s is)))

at_turn : (state : TcpState) (s : ServerFields) (g : SegmentFields) (now : ℕ) → IsSegment g → IsServerEnd s → IsServerTurn (server_at state s g now)
at_turn SynReceived s g now segment is = start_turn s g now segment is
at_turn Established s g now segment is = if_case IsServerTurn g.syn (λ e. quiet_turn s is) (λ e. data_turn s g now segment is)
at_turn LastAck s g now segment is = last_turn s g is
at_turn _ s g now segment is = quiet_turn s is

pub server_segment_turn : (s : ServerFields) (g : SegmentFields) (now : ℕ) → IsSegment g → IsServerEnd s → IsServerTurn (server_segment s g now)
server_segment_turn s g now segment is = at_turn s.state s g now segment is

-- Timeouts.
pub server_timeout_turn : (s : ServerFields) (now : ℕ) → IsServerEnd s → IsServerTurn (server_timeout s now)
unfolding server_timeout
server_timeout_turn s now is = if_case IsServerTurn (nat_lt s.config.tries (s.tries + 1))
    (λ e. closed_turn s is)
    (λ e. record {
      server = record {
        config = is.config;
        rto = backed_off_ranged s.rto is.rto;
        rcv = is.rcv;
        kept = is.kept;
        fin = is.fin;
        delivered = is.delivered;
        tries = grind (arith, nat_tests);
      };
      segments = (last_is s.state s is, tt);
      few = omega arith;
    })
