-- What a client sends lies within its data, whatever it hears.
use Rattle.std.proofs.Common.{◌≡◌, ℕ, zero, suc, ◌+◌, ◌-◌, ◌<◌, ◌≤◌, true, false, ◌&&◌, Option, Some, None, is_some, List, [], ◌∷◌, ◌++◌, min, nat_eq, nat_lt, nat_le, refl, arith}
use Rattle.std.proofs.lemmas.Bool.Decides.{nat_tests}
use Rattle.sim_base.specs.declared.records.TcpState.{TcpState}
use Rattle.sim_base.specs.declared.records.TcpState.TheVariants.{SynSent, FinWait2, TimeWait, Closed}
use Rattle.sim_base.specs.SegmentFields.{SegmentFields}
use Rattle.tcp_rules.specs.declared.records.Act.{Act}
use Rattle.tcp_rules.specs.declared.records.Act.TheVariants.{Send}
use Rattle.tcp_rules.specs.Segments.{Turn, quiet, following, sent_of, is_ack_of, syn_segment, Each}
use Rattle.tcp_rules.specs.Clients.{ClientFields, client_ack, client_fin, client_data, first_segment, advanced, edge, data_stop, data_count, data_sent, fin_sent, is_established, sent, synchronized, at_syn_ack, acknowledged, at_new_ack, is_duplicate, at_duplicate, at_ack, at_any_ack, hears, at_acknowledgment, at_last_fin, at_fin, at_plain, at_opening, at_later, client_at, client_segment, client_closed, at_client_timeout, client_timeout_at, client_timeout}
use Rattle.tcp_rules.proofs.Cases.{if_case, each_sent}

-- a segment whose data ends at most at an end, where its FIN stands
pub record IsProper (end : ℕ) (s : SegmentFields) : Type 0 where
  pub within : 0 < s.length → s.seq + s.length ≤ end
  pub fin : s.fin ≡ true → s.seq + s.length ≡ end

-- a client whose data is this, and for which no position is acknowledged beyond a bound
pub record IsHeld (end iss most : ℕ) (c : ClientFields) : Type 0 where
  pub end_is : c.end ≡ end
  pub iss_is : c.config.iss ≡ iss
  pub una : c.una ≤ most

-- a turn after which it is such a client, and whose segments are proper
pub record IsGood (end iss most : ℕ) (t : Turn ClientFields) : Type 0 where
  pub held : IsHeld end iss most t.after
  pub proper : Each (IsProper end) (sent_of t.acts)

-- an acknowledgment, if there is one, of at most a position
abbrev pub AtMost : ℕ → Option ℕ → Type 0
AtMost most None = Unit {0}
AtMost most (Some ack) = ack ≤ most

-- data stops within the client's bytes
pub stop_within : (c : ClientFields) → c.nxt < data_stop c → data_stop c ≤ c.end
unfolding data_stop
stop_within c = if_case (λ stop. c.nxt < stop → stop ≤ c.end) (nat_le c.end (edge c))
    (λ e more. omega arith)
    (λ e more. let beyond : edge c < c.end = grind (arith, nat_tests) in omega arith)

module _ (end iss most : ℕ) where
  good_quiet : (c : ClientFields) → IsHeld end iss most c → IsGood end iss most (quiet c)
  good_quiet c held = record { held = held; proper = tt }

  -- two turns in a row
  good_following : (acts : List Act) (t : Turn ClientFields) → Each (IsProper end) (sent_of acts) → IsGood end iss most t
      → IsGood end iss most (following acts t)
  good_following acts t first good = record { held = good.held; proper = each_sent (IsProper end) acts t.acts first good.proper }

  -- a segment without data and FIN
  pub proper_bare : (s : SegmentFields) → s.length ≡ 0 → s.fin ≡ false → IsProper end s
  proper_bare s bare plain = record { within = λ some. absurd (omega arith); fin = λ e. absurd (cc) }

  -- data of some length
  proper_data : (c : ClientFields) (p n : ℕ) → (0 < n → p + n ≤ end) → IsProper end (client_data c p n)
  proper_data c p n within = record { within = within; fin = λ e. absurd (cc) }

  proper_fin : (c : ClientFields) → c.end ≡ end → IsProper end (client_fin c)
  proper_fin c is = record { within = λ some. absurd (omega arith); fin = λ e. omega arith }

  good_data : (n stop now : ℕ) (c : ClientFields) → IsHeld end iss most c → (c.nxt < stop → stop ≤ end) → IsGood end iss most (data_sent n stop now c)
  good_data zero stop now c held within = good_quiet c held
  good_data (suc n) stop now c held within =
      let m = min c.window.mss (stop - c.nxt) in
      let rest = good_data n stop now (advanced c now m) (record { end_is = held.end_is; iss_is = held.iss_is; una = held.una }) (λ more. within (omega arith)) in
      record { held = rest.held; proper = (proper_data c c.nxt m (λ some. let reaches = within (omega arith) in omega arith), rest.proper) }

  good_fin : (now : ℕ) (c : ClientFields) → IsHeld end iss most c → IsGood end iss most (fin_sent now c)
  unfolding fin_sent
  good_fin now c held = if_case (IsGood end iss most) (nat_eq c.nxt c.end)
      (λ e. record {
        held = record { end_is = held.end_is; iss_is = held.iss_is; una = held.una };
        proper = if_case (λ acts. Each (IsProper end) (sent_of (acts ++ Send (client_fin c) ∷ []))) (is_established c.state)
            (λ k. (proper_fin c held.end_is, tt)) (λ k. (proper_fin c held.end_is, tt));
      })
      (λ e. good_quiet c held)

  good_sent : (now : ℕ) (c : ClientFields) → IsHeld end iss most c → IsGood end iss most (sent now c)
  unfolding sent
  good_sent now c held =
      let stop = data_stop c in
      let d = data_sent (data_count stop c) stop now c in
      let first = good_data (data_count stop c) stop now c held (λ more. let k = stop_within c more in let is = held.end_is in omega arith) in
      let last = good_fin now d.after first.held in
      let h = last.held in
      record { held = record { end_is = h.end_is; iss_is = h.iss_is; una = h.una }; proper = each_sent (IsProper end) d.acts (fin_sent now d.after).acts first.proper last.proper }

  pub proper_first : (c : ClientFields) → c.end ≡ end → IsProper end (first_segment c)
  unfolding first_segment
  proper_first c is = if_case (IsProper end) (nat_eq c.una c.config.iss)
      (λ e. proper_bare (syn_segment c.config) refl refl)
      (λ e. if_case (IsProper end) (nat_eq c.una c.end)
      (λ k. proper_fin c is)
      (λ k. proper_data c c.una (min c.window.mss (c.end - c.una)) (λ some. omega arith)))

  good_syn_ack : (c : ClientFields) (s : SegmentFields) (now : ℕ) → iss + 1 ≤ most → IsHeld end iss most c → IsGood end iss most (at_syn_ack c s now)
  unfolding at_syn_ack
  good_syn_ack c s now begun held =
      let next = synchronized c s now in
      let is = held.iss_is in
      let rest = good_sent now next (record { end_is = held.end_is; iss_is = held.iss_is; una = omega arith }) in
      record { held = rest.held; proper = (proper_bare (client_ack next) refl refl, rest.proper) }

  good_new_ack : (c : ClientFields) (ack now : ℕ) → ack ≤ most → IsHeld end iss most c → IsGood end iss most (at_new_ack c ack now)
  unfolding at_new_ack
  good_new_ack c ack now seen held = if_case (IsGood end iss most) (nat_eq ack (c.end + 1))
      (λ e. record { held = record { end_is = held.end_is; iss_is = held.iss_is; una = seen }; proper = tt })
      (λ e. good_sent now (acknowledged c ack now) (record { end_is = held.end_is; iss_is = held.iss_is; una = seen }))

  good_duplicate : (c : ClientFields) → IsHeld end iss most c → IsGood end iss most (at_duplicate c)
  unfolding at_duplicate
  good_duplicate c held = if_case (IsGood end iss most) (nat_eq c.duplicates 2)
      (λ e. record { held = record { end_is = held.end_is; iss_is = held.iss_is; una = held.una }; proper = (proper_first c held.end_is, tt) })
      (λ e. record { held = record { end_is = held.end_is; iss_is = held.iss_is; una = held.una }; proper = tt })

  good_ack : (c : ClientFields) (s : SegmentFields) (ack now : ℕ) → ack ≤ most → IsHeld end iss most c → IsGood end iss most (at_ack c s ack now)
  unfolding at_ack
  good_ack c s ack now seen held = if_case (IsGood end iss most) (nat_lt c.una ack && nat_le ack c.top)
      (λ e. good_new_ack c ack now seen held)
      (λ e. if_case (IsGood end iss most) (is_duplicate c s ack) (λ k. good_duplicate c held) (λ k. good_quiet c held))

  good_any_ack : (o : Option ℕ) (c : ClientFields) (s : SegmentFields) (now : ℕ) → AtMost most o → IsHeld end iss most c
      → IsGood end iss most (at_any_ack o c s now)
  good_any_ack None c s now seen held = good_quiet c held
  good_any_ack (Some ack) c s now seen held = good_ack c s ack now seen held

  good_acknowledgment : (c : ClientFields) (s : SegmentFields) (now : ℕ) → AtMost most s.ack → IsHeld end iss most c → IsGood end iss most (at_acknowledgment c s now)
  unfolding at_acknowledgment
  good_acknowledgment c s now seen held = if_case (IsGood end iss most) (hears c.state) (λ e. good_any_ack s.ack c s now seen held) (λ e. good_quiet c held)

  good_at_fin : (state : TcpState) (c : ClientFields) (s : SegmentFields) (now : ℕ) → IsHeld end iss most c → IsGood end iss most (at_fin state c s now)
  unfolding at_last_fin
  good_at_fin FinWait2 c s now held = if_case (IsGood end iss most) (s.fin && nat_eq (s.seq + s.length) c.rcv)
      (λ e. record { held = record { end_is = held.end_is; iss_is = held.iss_is; una = held.una }; proper = (proper_bare _ refl refl, tt) })
      (λ e. good_quiet c held)
  good_at_fin TimeWait c s now held = if_case (IsGood end iss most) s.fin
      (λ e. record { held = held; proper = (proper_bare (client_ack c) refl refl, tt) })
      (λ e. good_quiet c held)
  good_at_fin _ c s now held = good_quiet c held

  good_plain : (c : ClientFields) (s : SegmentFields) (now : ℕ) → AtMost most s.ack → IsHeld end iss most c → IsGood end iss most (at_plain c s now)
  unfolding at_plain
  good_plain c s now seen held =
      let t = at_acknowledgment c s now in
      let first = good_acknowledgment c s now seen held in
      good_following t.acts (at_fin t.after.state t.after s now) first.proper (good_at_fin t.after.state t.after s now first.held)

  good_later : (c : ClientFields) (s : SegmentFields) (now : ℕ) → AtMost most s.ack → IsHeld end iss most c → IsGood end iss most (at_later c s now)
  unfolding at_later
  good_later c s now seen held = if_case (IsGood end iss most) s.syn
      (λ e. if_case (IsGood end iss most) (is_some s.ack)
      (λ k. record { held = held; proper = (proper_bare (client_ack c) refl refl, tt) })
      (λ k. good_quiet c held))
      (λ e. good_plain c s now seen held)

  good_opening : (c : ClientFields) (s : SegmentFields) (now : ℕ) → iss + 1 ≤ most → IsHeld end iss most c → IsGood end iss most (at_opening c s now)
  unfolding at_opening
  good_opening c s now begun held = if_case (IsGood end iss most) (s.syn && is_ack_of (c.config.iss + 1) s.ack)
      (λ e. good_syn_ack c s now begun held) (λ e. good_quiet c held)

  good_at : (state : TcpState) (c : ClientFields) (s : SegmentFields) (now : ℕ) → iss + 1 ≤ most → AtMost most s.ack → IsHeld end iss most c
      → IsGood end iss most (client_at state c s now)
  good_at SynSent c s now begun seen held = good_opening c s now begun held
  good_at Closed c s now begun seen held = good_quiet c held
  good_at _ c s now begun seen held = good_later c s now seen held

  pub good_segment : (c : ClientFields) (s : SegmentFields) (now : ℕ) → iss + 1 ≤ most → AtMost most s.ack → IsHeld end iss most c
      → IsGood end iss most (client_segment c s now)
  good_segment c s now begun seen held = good_at c.state c s now begun seen held

  good_closed : (c : ClientFields) → IsHeld end iss most c → IsGood end iss most (client_closed c)
  good_closed c held = record { held = record { end_is = held.end_is; iss_is = held.iss_is; una = held.una }; proper = tt }

  good_again : (c : ClientFields) (now : ℕ) → IsHeld end iss most c → IsGood end iss most (at_client_timeout c now)
  unfolding at_client_timeout
  good_again c now held = if_case (IsGood end iss most) (nat_lt c.config.tries (c.tries + 1))
      (λ e. good_closed c held)
      (λ e. record { held = record { end_is = held.end_is; iss_is = held.iss_is; una = held.una }; proper = (proper_first c held.end_is, tt) })

  good_timeout_at : (state : TcpState) (c : ClientFields) (now : ℕ) → IsHeld end iss most c → IsGood end iss most (client_timeout_at state c now)
  good_timeout_at TimeWait c now held = good_closed c held
  good_timeout_at _ c now held = good_again c now held

  pub good_timeout : (c : ClientFields) (now : ℕ) → IsHeld end iss most c → IsGood end iss most (client_timeout c now)
  good_timeout c now held = good_timeout_at c.state c now held
