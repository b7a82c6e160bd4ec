-- Each rule keeps a client in range, and sends few segments, all in range.
use Rattle.std.proofs.Common.{◌≡◌, ◌⊎◌, ℕ, zero, suc, ◌+◌, ◌-◌, ◌*◌, ◌/◌, ◌<◌, ◌≤◌, ◌^◌, true, ◌&&◌, ◌||◌, Option, Some, None, is_some, List, [], ◌∷◌, ◌++◌, length, max, min, nat_eq, nat_lt, nat_le, refl, sym, subst, ap, inl, inr, arith, length-append, if◌then◌else◌}
use Rattle.std.specs.Option.{ForSome}
use Rattle.std.proofs.Math.Nat.{mul-le-mul, div-lt_iff_lt-mul}
use Rattle.std.proofs.lemmas.Bool.{eqb-true}
use Rattle.std.proofs.lemmas.Bool.Decides.{nat_tests}
use Rattle.sim_base.specs.declared.records.TcpConfig.{TcpConfig}
use Rattle.sim_base.specs.declared.records.TcpState.{TcpState}
use Rattle.sim_base.specs.declared.records.TcpState.TheVariants.{SynSent, FinWait1, FinWait2, TimeWait, Closed}
use Rattle.sim_base.specs.SegmentFields.{SegmentFields, IsSegment}
use Rattle.tcp_clock.specs.Retransmission.{Timeout, IsTimeout}
use Rattle.tcp_clock.specs.Congestion.{Window, IsWindow, first_window, grown, third_duplicate, timed_out, timed_out_again}
use Rattle.tcp_clock.proofs.Ranges.{first_timeout_ranged, sampled_ranged, backed_off_ranged, grown_ranged, third_duplicate_ranged, timed_out_ranged, timed_out_again_ranged}
use Rattle.tcp_rules.specs.declared.records.Act.{Act}
use Rattle.tcp_rules.specs.declared.records.Act.TheVariants.{Send}
use Rattle.tcp_rules.specs.declared.records.Timing.{Timing}
use Rattle.tcp_rules.specs.Segments.{IsTimedTcp, own_window, Turn, quiet, following, span, sent_of, is_ack_of, syn_segment, Each}
use Rattle.tcp_rules.specs.Clients.{ClientFields, client_ack, client_fin, client_data, first_segment, measured, is_timed_below, advanced, deadline_at, with_deadline, opened, connected, allowed, edge, data_stop, data_count, data_sent, fin_sent, is_established, sent, synchronized, at_syn_ack, acknowledged, at_new_ack, is_duplicate, at_duplicate, at_ack, at_any_ack, hears, at_acknowledgment, finished, at_last_fin, at_fin, at_plain, at_opening, at_later, client_at, client_segment, client_closed, window_after_timeout, retransmitted, at_client_timeout, client_timeout_at, client_timeout}
use Rattle.tcp_rules.specs.Limits.{IsClientEnd}
use Rattle.tcp_rules.proofs.Cases.{if_case, both_left, both_right, sent_of-append, each_sent}
use Rattle.tcp_rules.proofs.Holes.{either_is}
use Rattle.tcp_rules.proofs.Sending.{stop_within}

-- Segments.
pub own_most : (config : TcpConfig) → IsTimedTcp config → own_window config ≤ 2 ^ 32
own_most config is =
    let settings = is.settings in
    let most = mul-le-mul settings.receive.1 settings.mss.1 in omega (arith, most)

pub ack_some : (a n : ℕ) → a ≤ n → ForSome (Some a) (λ x. x ≤ n)
ack_some a n most = λ x e. let same : a ≡ x = cc in omega arith

syn_is : (config : TcpConfig) → IsTimedTcp config → IsSegment (syn_segment config)
syn_is config is =
    let iss = is.settings.iss in
    record { last = omega arith; ack = λ x e. absurd (cc); window = own_most config is }

client_ack_is : (c : ClientFields) → IsClientEnd c → IsSegment (client_ack c)
client_ack_is c is =
    let iss = is.config.settings.iss in
    record { last = omega arith; ack = ack_some c.rcv (2 ^ 32) is.rcv; window = own_most c.config is.config }

client_fin_is : (c : ClientFields) → IsClientEnd c → IsSegment (client_fin c)
client_fin_is c is =
    let iss = is.config.settings.iss in
    record { last = omega arith; ack = ack_some c.rcv (2 ^ 32) is.rcv; window = own_most c.config is.config }

client_data_is : (c : ClientFields) (p n : ℕ) → p + n ≤ c.end + 1 → IsClientEnd c → IsSegment (client_data c p n)
client_data_is c p n within is =
    let iss = is.config.settings.iss in
    record { last = omega arith; ack = ack_some c.rcv (2 ^ 32) is.rcv; window = own_most c.config is.config }

first_is : (c : ClientFields) → IsClientEnd c → IsSegment (first_segment c)
unfolding first_segment
first_is c is = if_case IsSegment (nat_eq c.una c.config.iss)
    (λ e. syn_is c.config is.config)
    (λ e. if_case IsSegment (nat_eq c.una c.end)
    (λ k. client_fin_is c is)
    (λ k. client_data_is c c.una (min c.window.mss (c.end - c.una)) (omega arith) is))

-- the first segment takes a position beyond ISS, and none beyond the FIN's
record IsFirstEnd (c : ClientFields) (s : SegmentFields) : Type 0 where
  past : c.config.iss + 1 ≤ c.una + span s
  within : c.una + span s ≤ c.end + 1

first_ends : (c : ClientFields) → IsClientEnd c → IsFirstEnd c (first_segment c)
unfolding first_segment
first_ends c is = if_case (IsFirstEnd c) (nat_eq c.una c.config.iss)
    (λ e. let at = eqb-true c.una c.config.iss e in record { past = omega arith; within = omega arith })
    (λ e.
    let past : c.config.iss + 1 ≤ c.una = grind (arith, nat_tests) in
    if_case (IsFirstEnd c) (nat_eq c.una c.end)
    (λ k. let at = eqb-true c.una c.end k in record { past = omega arith; within = omega arith })
    (λ k. record { past = omega arith; within = omega arith }))

-- A turn after which a client is in range, and which sends at most so many segments, all in range.
pub record IsClientTurn (most : ℕ) (t : Turn ClientFields) : Type 0 where
  pub client : IsClientEnd t.after
  pub segments : Each IsSegment (sent_of t.acts)
  pub few : length (sent_of t.acts) ≤ most

quiet_turn : (most : ℕ) (c : ClientFields) → IsClientEnd c → IsClientTurn most (quiet c)
quiet_turn most c is = record { client = is; segments = tt; few = omega arith }

-- one segment
one_turn : (most : ℕ) (c : ClientFields) (s : SegmentFields) → 1 ≤ most → IsClientEnd c → IsSegment s
    → IsClientTurn most (record { after = c; acts = Send s ∷ [] })
one_turn most c s some is sends = record { client = is; segments = (sends, tt); few = omega arith }

-- two turns in a row
following_turn : (m n : ℕ) (acts : List Act) (t : Turn ClientFields) → Each IsSegment (sent_of acts) → length (sent_of acts) ≤ m
    → IsClientTurn n t → IsClientTurn (m + n) (following acts t)
following_turn m n acts t first few turn = record {
  client = turn.client;
  segments = each_sent IsSegment acts t.acts first turn.segments;
  few = few_of m n acts t.acts few turn.few;
}
  where
    few_of : (m n : ℕ) (xs ys : List Act) → length (sent_of xs) ≤ m → length (sent_of ys) ≤ n → length (sent_of (xs ++ ys)) ≤ m + n
    few_of m n xs ys h k =
        let all = ap (λ (ss : List SegmentFields). length ss) (sent_of-append xs ys) in
        omega (arith, all, length-append (sent_of xs) (sent_of ys))

-- Sending.
measured_ranged : (rto : Timeout) (now : ℕ) (timed : Option Timing) → IsTimeout rto → IsTimeout (measured rto now timed)
unfolding measured
measured_ranged rto now None is = is
measured_ranged rto now (Some timing) is = sampled_ranged rto (now - timing.since) is

advanced_ranged : (c : ClientFields) (now n : ℕ) → c.nxt + n ≤ c.end + 1 → IsClientEnd c → IsClientEnd (advanced c now n)
advanced_ranged c now n within is =
    let top = is.top_end in
    let nxt = is.iss_nxt in
    let una = is.una_nxt in
    record {
      config = is.config;
      rto = is.rto;
      window = is.window;
      iss_una = is.iss_una;
      iss_nxt = omega arith;
      una_nxt = omega arith;
      nxt_top = omega arith;
      top_end = omega arith;
      iss_end = is.iss_end;
      end = is.end;
      rcv = is.rcv;
      peer = is.peer;
      segments = is.segments;
      tries = is.tries;
      duplicates = is.duplicates;
    }

-- the ranges say nothing of the state, the deadline and what is timed; what comes next and the duplicates stay in theirs
changed_ranged : (c : ClientFields) (state : TcpState) (deadline : Option ℕ) (timed : Option Timing) (rcv duplicates : ℕ) → rcv ≤ 2 ^ 32 → duplicates ≤ 4 → IsClientEnd c
    → IsClientEnd (record c { state = state; deadline = deadline; timed = timed; rcv = rcv; duplicates = duplicates })
changed_ranged c state deadline timed rcv duplicates low few is = record {
  config = is.config;
  rto = is.rto;
  window = is.window;
  iss_una = is.iss_una;
  iss_nxt = is.iss_nxt;
  una_nxt = is.una_nxt;
  nxt_top = is.nxt_top;
  top_end = is.top_end;
  iss_end = is.iss_end;
  end = is.end;
  rcv = low;
  peer = is.peer;
  segments = is.segments;
  tries = is.tries;
  duplicates = few;
}

-- another state and deadline
moved_on : (c : ClientFields) (state : TcpState) (deadline : Option ℕ) → IsClientEnd c → IsClientEnd (record c { state = state; deadline = deadline })
moved_on c state deadline is = changed_ranged c state deadline c.timed c.rcv c.duplicates is.rcv is.duplicates is

deadline_ranged : (c : ClientFields) (now : ℕ) → IsClientEnd c → IsClientEnd (with_deadline c now)
deadline_ranged c now is = moved_on c c.state (deadline_at c now) is

data_turn : (n stop now : ℕ) (c : ClientFields) → (c.nxt < stop → stop ≤ c.end) → IsClientEnd c → IsClientTurn n (data_sent n stop now c)
data_turn zero stop now c within is = quiet_turn 0 c is
data_turn (suc n) stop now c within is =
    let m = min c.window.mss (stop - c.nxt) in
    let top = is.top_end in
    let nxt = is.nxt_top in
    let fits : c.nxt + m ≤ c.end + 1 = fit c.nxt m stop c.end c.window.mss refl (omega arith) within in
    let rest = data_turn n stop now (advanced c now m) (λ more. within (omega arith)) (advanced_ranged c now m fits is) in
    let few = rest.few in
    record { client = rest.client; segments = (client_data_is c c.nxt m fits is, rest.segments); few = omega arith }
  where
    fit : (nxt m stop end mss : ℕ) → m ≡ min mss (stop - nxt) → nxt ≤ end + 1 → (nxt < stop → stop ≤ end) → nxt + m ≤ end + 1
    fit nxt m stop end mss is low within = grind arith

fin_turn : (now : ℕ) (c : ClientFields) → IsClientEnd c → IsClientTurn 1 (fin_sent now c)
unfolding fin_sent
fin_turn now c is = if_case (IsClientTurn 1) (nat_eq c.nxt c.end)
    (λ e.
    let at = eqb-true c.nxt c.end e in
    let next = advanced c now 1 in
    record {
      client = moved_on next FinWait1 next.deadline (advanced_ranged c now 1 (omega arith) is);
      segments = if_case (λ acts. Each IsSegment (sent_of (acts ++ Send (client_fin c) ∷ []))) (is_established c.state)
          (λ k. (client_fin_is c is, tt)) (λ k. (client_fin_is c is, tt));
      few = if_case (λ acts. length (sent_of (acts ++ Send (client_fin c) ∷ [])) ≤ 1) (is_established c.state)
          (λ k. omega arith) (λ k. omega arith);
    })
    (λ e. quiet_turn 1 c is)

-- what data takes is allowed
stop_allowed : (c : ClientFields) → c.una ≤ c.nxt → data_stop c ≤ c.nxt + allowed c
unfolding data_stop edge
stop_allowed c low = if_case (λ stop. stop ≤ c.nxt + allowed c) (nat_le c.end (c.una + allowed c))
    (λ e. let within : c.end ≤ c.una + allowed c = grind (arith, nat_tests) in omega arith)
    (λ e. omega arith)

few_pieces : (len mss send : ℕ) → 1 ≤ mss → (len ≤ mss) ⊎ (len ≤ send * mss) → (len + (mss - 1)) / mss ≤ send + 1
few_pieces len mss send some (inl most) =
    let below = (div-lt_iff_lt-mul {k = mss} {x = len + (mss - 1)} {y = send + 2} (omega arith)).1 (omega arith) in omega (arith, below)
few_pieces len mss send some (inr most) =
    let below = (div-lt_iff_lt-mul {k = mss} {x = len + (mss - 1)} {y = send + 2} (omega arith)).1 (omega arith) in omega (arith, below)

pub few_data : (c : ClientFields) → IsClientEnd c → data_count (data_stop c) c ≤ c.config.send + 1
unfolding data_count
few_data c is =
    let within = stop_allowed c is.una_nxt in
    few_pieces (data_stop c - c.nxt) c.window.mss c.config.send is.window.some_mss
    (elim (either_is (nat_le c.peer c.window.mss) (nat_eq c.window.mss c.config.mss) is.segments) [
      | inl e ↦ let small : c.peer ≤ c.window.mss = grind (arith, nat_tests) in inl (omega arith)
      | inr e ↦ let own = eqb-true c.window.mss c.config.mss e in
          let most : data_stop c - c.nxt ≤ c.config.send * c.config.mss = omega arith in
          inr (subst (λ (m : ℕ). data_stop c - c.nxt ≤ c.config.send * m) (sym own) most)
    ])

sent_turn : (now : ℕ) (c : ClientFields) → IsClientEnd c → IsClientTurn 65537 (sent now c)
unfolding sent
sent_turn now c is =
    let stop = data_stop c in
    let d = data_sent (data_count stop c) stop now c in
    let first = data_turn (data_count stop c) stop now c (stop_within c) is in
    let last = fin_turn now d.after first.client in
    let few = few_data c is in
    let most = is.config.settings.send.1 in
    let all = following_turn 65536 1 d.acts (fin_sent now d.after) first.segments (let n = first.few in omega arith) last in
    record { client = deadline_ranged (fin_sent now d.after).after now last.client; segments = all.segments; few = all.few }

-- Opening.
opened_ranged : (config : TcpConfig) (bytes now : ℕ) → IsTimedTcp config → bytes ≤ 2 ^ 30 → IsClientEnd (opened config bytes now)
unfolding opened first_window
opened_ranged config bytes now is few =
    let mss = is.settings.mss in
    record {
      config = is;
      rto = first_timeout_ranged config.frequency is.some_frequency is.most_frequency;
      window = record { some_mss = mss.0; most_mss = mss.1; some = mss.0; most = let m = mss.1 in omega (arith, m) };
      iss_una = omega arith;
      iss_nxt = omega arith;
      una_nxt = omega arith;
      nxt_top = omega arith;
      top_end = omega arith;
      iss_end = omega arith;
      end = omega arith;
      rcv = omega arith;
      peer = omega arith;
      segments = grind (arith, nat_tests);
      tries = omega arith;
      duplicates = omega arith;
    }

pub connected_turn : (config : TcpConfig) (bytes now : ℕ) → IsTimedTcp config → bytes ≤ 2 ^ 30 → IsClientTurn 1 (connected config bytes now)
connected_turn config bytes now is few =
    record { client = opened_ranged config bytes now is few; segments = (syn_is config is, tt); few = omega arith }

-- The peer's SYN.
-- segments are of the own size, or the peer's window is no greater than one
pub sized : (own offered mss : ℕ) → mss ≡ max 1 (min own offered) → 1 ≤ own → (nat_le offered mss || nat_eq mss own) ≡ true
sized own offered mss is some = grind (arith, nat_tests)

synchronized_ranged : (c : ClientFields) (s : SegmentFields) (now : ℕ) → IsSegment s → IsClientEnd c → IsClientEnd (synchronized c s now)
unfolding first_window
synchronized_ranged c s now segment is =
    let mss = max 1 (min c.config.mss s.window) in
    let own = is.config.settings.mss in
    let some = own.0 in
    let most = own.1 in
    let last = segment.last in
    record {
      config = is.config;
      rto = measured_ranged c.rto now c.timed is.rto;
      window = record { some_mss = omega arith; most_mss = omega arith; some = omega arith; most = omega arith };
      iss_una = omega arith;
      iss_nxt = is.iss_nxt;
      una_nxt = is.iss_nxt;
      nxt_top = is.nxt_top;
      top_end = is.top_end;
      iss_end = is.iss_end;
      end = is.end;
      rcv = omega arith;
      peer = segment.window;
      segments = sized c.config.mss s.window mss refl some;
      tries = omega arith;
      duplicates = is.duplicates;
    }

syn_ack_turn : (c : ClientFields) (s : SegmentFields) (now : ℕ) → IsSegment s → IsClientEnd c → IsClientTurn 65538 (at_syn_ack c s now)
unfolding at_syn_ack
syn_ack_turn c s now segment is =
    let next = synchronized c s now in
    let ranged = synchronized_ranged c s now segment is in
    let rest = sent_turn now next ranged in
    let few = rest.few in
    record { client = rest.client; segments = (client_ack_is next ranged, rest.segments); few = omega arith }

-- Acknowledgments.
acknowledged_ranged : (c : ClientFields) (ack now : ℕ) → c.una < ack → ack ≤ c.top → IsClientEnd c → IsClientEnd (acknowledged c ack now)
unfolding grown
acknowledged_ranged c ack now new within is =
    let nxt = is.iss_nxt in
    let top = is.nxt_top in
    let una = is.iss_una in
    record {
      config = is.config;
      rto = if_case IsTimeout (is_timed_below ack c.timed) (λ e. measured_ranged c.rto now c.timed is.rto) (λ e. is.rto);
      window = grown_ranged c.window (ack - c.una) is.window;
      iss_una = omega arith;
      iss_nxt = omega arith;
      una_nxt = omega arith;
      nxt_top = omega arith;
      top_end = is.top_end;
      iss_end = is.iss_end;
      end = is.end;
      rcv = is.rcv;
      peer = is.peer;
      segments = is.segments;
      tries = omega arith;
      duplicates = omega arith;
    }

new_ack_turn : (c : ClientFields) (ack now : ℕ) → c.una < ack → ack ≤ c.top → IsClientEnd c → IsClientTurn 65537 (at_new_ack c ack now)
unfolding at_new_ack
new_ack_turn c ack now new within is =
    let next = acknowledged c ack now in
    let ranged = acknowledged_ranged c ack now new within is in
    if_case (IsClientTurn 65537) (nat_eq ack (c.end + 1))
    (λ e. record {
      client = moved_on next FinWait2 (deadline_at next now) ranged;
      segments = tt;
      few = omega arith;
    })
    (λ e. sent_turn now next ranged)

duplicate_turn : (c : ClientFields) → IsClientEnd c → IsClientTurn 65537 (at_duplicate c)
unfolding at_duplicate third_duplicate
duplicate_turn c is =
    let una = is.una_nxt in
    let top = is.nxt_top in
    let last = is.top_end in
    let end = is.end in
    let iss = is.config.settings.iss in
    if_case (IsClientTurn 65537) (nat_eq c.duplicates 2)
    (λ e. record {
      client = record {
        config = is.config;
        rto = is.rto;
        window = third_duplicate_ranged c.window (c.nxt - c.una) (omega arith) is.window;
        iss_una = is.iss_una;
        iss_nxt = is.iss_nxt;
        una_nxt = is.una_nxt;
        nxt_top = is.nxt_top;
        top_end = is.top_end;
        iss_end = is.iss_end;
        end = is.end;
        rcv = is.rcv;
        peer = is.peer;
        segments = is.segments;
        tries = is.tries;
        duplicates = omega arith;
      };
      segments = (first_is c is, tt);
      few = omega arith;
    })
    (λ e. record {
      client = changed_ranged c c.state c.deadline c.timed c.rcv (min 4 (c.duplicates + 1)) is.rcv (omega arith) is;
      segments = tt;
      few = omega arith;
    })

ack_turn : (c : ClientFields) (s : SegmentFields) (ack now : ℕ) → IsClientEnd c → IsClientTurn 65537 (at_ack c s ack now)
unfolding at_ack
ack_turn c s ack now is = if_case (IsClientTurn 65537) (nat_lt c.una ack && nat_le ack c.top)
    (λ e.
    let new = both_left (nat_lt c.una ack) (nat_le ack c.top) e in
    let within = both_right (nat_lt c.una ack) (nat_le ack c.top) e in
    new_ack_turn c ack now (grind (arith, nat_tests)) (grind (arith, nat_tests)) is)
    (λ e. if_case (IsClientTurn 65537) (is_duplicate c s ack) (λ k. duplicate_turn c is) (λ k. quiet_turn 65537 c is))

any_ack_turn : (o : Option ℕ) (c : ClientFields) (s : SegmentFields) (now : ℕ) → IsClientEnd c → IsClientTurn 65537 (at_any_ack o c s now)
any_ack_turn None c s now is = quiet_turn 65537 c is
any_ack_turn (Some ack) c s now is = ack_turn c s ack now is

acknowledgment_turn : (c : ClientFields) (s : SegmentFields) (now : ℕ) → IsClientEnd c → IsClientTurn 65537 (at_acknowledgment c s now)
unfolding at_acknowledgment
acknowledgment_turn c s now is = if_case (IsClientTurn 65537) (hears c.state) (λ e. any_ack_turn s.ack c s now is) (λ e. quiet_turn 65537 c is)

-- The peer's FIN.
last_fin_turn : (c : ClientFields) (now : ℕ) → c.rcv < 2 ^ 32 → IsClientEnd c → IsClientTurn 1 (at_last_fin c now)
unfolding at_last_fin
last_fin_turn c now below is =
    let ranged : IsClientEnd (finished c now) = changed_ranged c TimeWait (Some (now + 2 * c.config.msl)) c.timed (c.rcv + 1) c.duplicates (omega arith) is.duplicates is in
    record { client = ranged; segments = (client_ack_is (finished c now) ranged, tt); few = omega arith }

peer_fin_turn : (state : TcpState) (c : ClientFields) (s : SegmentFields) (now : ℕ) → IsSegment s → IsClientEnd c → IsClientTurn 1 (at_fin state c s now)
peer_fin_turn FinWait2 c s now segment is = if_case (IsClientTurn 1) (s.fin && nat_eq (s.seq + s.length) c.rcv)
    (λ e.
    let at = eqb-true (s.seq + s.length) c.rcv (both_right s.fin (nat_eq (s.seq + s.length) c.rcv) e) in
    let last = segment.last in
    last_fin_turn c now (omega arith) is)
    (λ e. quiet_turn 1 c is)
peer_fin_turn TimeWait c s now segment is = if_case (IsClientTurn 1) s.fin
    (λ e. one_turn 1 c (client_ack c) (omega arith) is (client_ack_is c is)) (λ e. quiet_turn 1 c is)
peer_fin_turn _ c s now segment is = quiet_turn 1 c is

-- Segments.
plain_turn : (c : ClientFields) (s : SegmentFields) (now : ℕ) → IsSegment s → IsClientEnd c → IsClientTurn 65538 (at_plain c s now)
unfolding at_plain
plain_turn c s now segment is =
    let t = at_acknowledgment c s now in
    let first = acknowledgment_turn c s now is in
    following_turn 65537 1 t.acts (at_fin t.after.state t.after s now) first.segments first.few (peer_fin_turn t.after.state t.after s now segment first.client)

later_turn : (c : ClientFields) (s : SegmentFields) (now : ℕ) → IsSegment s → IsClientEnd c → IsClientTurn 65538 (at_later c s now)
unfolding at_later
later_turn c s now segment is = if_case (IsClientTurn 65538) s.syn
    (λ e. if_case (IsClientTurn 65538) (is_some s.ack)
    (λ k. one_turn 65538 c (client_ack c) (omega arith) is (client_ack_is c is)) (λ k. quiet_turn 65538 c is))
    (λ e. plain_turn c s now segment is)

opening_turn : (c : ClientFields) (s : SegmentFields) (now : ℕ) → IsSegment s → IsClientEnd c → IsClientTurn 65538 (at_opening c s now)
unfolding at_opening
opening_turn c s now segment is = if_case (IsClientTurn 65538) (s.syn && is_ack_of (c.config.iss + 1) s.ack)
    (λ e. syn_ack_turn c s now segment is) (λ e. quiet_turn 65538 c is)

at_turn : (state : TcpState) (c : ClientFields) (s : SegmentFields) (now : ℕ) → IsSegment s → IsClientEnd c → IsClientTurn 65538 (client_at state c s now)
at_turn SynSent c s now segment is = opening_turn c s now segment is
at_turn Closed c s now segment is = quiet_turn 65538 c is
at_turn _ c s now segment is = later_turn c s now segment is

pub client_segment_turn : (c : ClientFields) (s : SegmentFields) (now : ℕ) → IsSegment s → IsClientEnd c → IsClientTurn 65538 (client_segment c s now)
client_segment_turn c s now segment is = at_turn c.state c s now segment is

-- Timeouts.
closed_turn : (c : ClientFields) → IsClientEnd c → IsClientTurn 1 (client_closed c)
closed_turn c is = record { client = moved_on c Closed None is; segments = tt; few = omega arith }

-- a window for segments of the same size
record IsWindowOf (mss : ℕ) (w : Window) : Type 0 where
  ranged : IsWindow w
  same : w.mss ≡ mss

any_timeout_window : (c : ClientFields) → IsClientEnd c → IsWindowOf c.window.mss (if nat_eq c.tries 0 then timed_out c.window (c.nxt - c.una) else timed_out_again c.window)
unfolding timed_out timed_out_again
any_timeout_window c is =
    if_case (IsWindowOf c.window.mss) (nat_eq c.tries 0)
    (λ e. record { ranged = timed_out_ranged c.window (c.nxt - c.una) is.window; same = refl })
    (λ e. record { ranged = timed_out_again_ranged c.window is.window; same = refl })

timeout_window : (state : TcpState) (c : ClientFields) → IsClientEnd c → IsWindowOf c.window.mss (window_after_timeout state c)
unfolding window_after_timeout
timeout_window SynSent c is = record { ranged = is.window; same = refl }
timeout_window _ c is = any_timeout_window c is

retransmitted_ranged : (c : ClientFields) (now : ℕ) → c.tries < c.config.tries → IsClientEnd c → IsClientEnd (retransmitted c now)
retransmitted_ranged c now more is =
    let window = timeout_window c.state c is in
    let ends = first_ends c is in
    let past = ends.past in
    let within = ends.within in
    let top = is.top_end in
    record {
      config = is.config;
      rto = backed_off_ranged c.rto is.rto;
      window = window.ranged;
      iss_una = is.iss_una;
      iss_nxt = past;
      una_nxt = omega arith;
      nxt_top = omega arith;
      top_end = omega arith;
      iss_end = is.iss_end;
      end = is.end;
      rcv = is.rcv;
      peer = is.peer;
      segments = subst (λ (m : ℕ). (nat_le c.peer m || nat_eq m c.config.mss) ≡ true) (sym window.same) is.segments;
      tries = omega arith;
      duplicates = omega arith;
    }

again_turn : (c : ClientFields) (now : ℕ) → IsClientEnd c → IsClientTurn 1 (at_client_timeout c now)
unfolding at_client_timeout
again_turn c now is = if_case (IsClientTurn 1) (nat_lt c.config.tries (c.tries + 1))
    (λ e. closed_turn c is)
    (λ e. record {
      client = retransmitted_ranged c now (grind (arith, nat_tests)) is;
      segments = (first_is c is, tt);
      few = omega arith;
    })

timeout_at_turn : (state : TcpState) (c : ClientFields) (now : ℕ) → IsClientEnd c → IsClientTurn 1 (client_timeout_at state c now)
timeout_at_turn TimeWait c now is = closed_turn c is
timeout_at_turn _ c now is = again_turn c now is

pub client_timeout_turn : (c : ClientFields) (now : ℕ) → IsClientEnd c → IsClientTurn 1 (client_timeout c now)
client_timeout_turn c now is = timeout_at_turn c.state c now is
