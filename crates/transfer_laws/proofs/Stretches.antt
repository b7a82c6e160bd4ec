-- What a server's turns make of the positions that it has passed, and what they tell.
use Rattle.std.proofs.Common.{◌≡◌, ℕ, zero, suc, ◌+◌, ◌-◌, ◌⊎◌, Some, List, [], ◌∷◌, ◌++◌, nat_lt, refl, sym, ap, subst, ◌∙◌, inl, inr, arith, zero-add}
use Rattle.sim_base.specs.declared.records.TcpConfig.{TcpConfig}
use Rattle.sim_base.specs.declared.records.TcpState.{TcpState}
use Rattle.sim_base.specs.declared.records.TcpState.TheVariants.{SynReceived, Established, LastAck, Closed}
use Rattle.sim_base.specs.SegmentFields.{SegmentFields}
use Rattle.tcp_rules.specs.declared.records.Act.{Act}
use Rattle.tcp_rules.specs.declared.records.Act.TheVariants.{Entered, Delivered, Send}
use Rattle.tcp_rules.specs.Segments.{Turn, carries, is_ack_of}
use Rattle.tcp_rules.specs.Servers.{ServerFields, hole, keeping, moved, delivery_of, listened, accepted, at_end, at_kept, at_data, established, at_start, at_last, server_at, server_segment, waiting, server_timeout}
use Rattle.tcp_rules.proofs.Cases.{if_case}
use Rattle.tcp_rules.proofs.Holes.{hole_low}
use Rattle.tcp_rules.proofs.Receiving.{ack_is}
use Rattle.transfer_laws.specs.Stretch.{WaitsAfter, told}

-- a server that is not closed waits as its state says
abbrev pub WaitsUnlessClosed : ServerFields → Type 0
WaitsUnlessClosed s = (s.state ≡ Closed) ⊎ WaitsAfter s.state s

-- ---- where it waits

waits_same : (state : TcpState) (s t : ServerFields) → s.irs ≡ t.irs → s.rcv ≡ t.rcv → s.delivered ≡ t.delivered → s.fin ≡ t.fin → WaitsAfter state s → WaitsAfter state t
waits_same SynReceived s t irs rcv delivered fin w = let none = w.0 in let at = w.1 in (omega arith, omega arith)
waits_same Established s t irs rcv delivered fin w = omega arith
waits_same LastAck s t irs rcv delivered fin w =
    let at = w.0 in
    let place : s.irs + 1 + s.delivered ≡ t.irs + 1 + t.delivered = omega arith in
    (omega arith, sym fin ∙ w.1 ∙ ap (λ (p : ℕ). Some p) place)
waits_same _ s t irs rcv delivered fin w = absurd w

in_state : (state : TcpState) (s : ServerFields) → s.state ≡ state → WaitsAfter state s → WaitsUnlessClosed s
in_state state s is w = inr (subst (λ (k : TcpState). WaitsAfter k s) (sym is) w)

waits_end : (s : ServerFields) (now : ℕ) → s.state ≡ Established → s.rcv ≡ s.irs + 1 + s.delivered → WaitsUnlessClosed (at_end s now).after
unfolding at_end
waits_end s now state at = if_case (λ (t : Turn ServerFields). WaitsUnlessClosed t.after) (is_ack_of s.rcv s.fin)
    (λ e. inr (omega arith, ack_is s.rcv s.fin e ∙ ap (λ (p : ℕ). Some p) at))
    (λ e. in_state Established s state at)

waits_data : (s : ServerFields) (g : SegmentFields) (now : ℕ) → s.state ≡ Established → s.rcv ≡ s.irs + 1 + s.delivered → WaitsUnlessClosed (at_data s g now).after
unfolding at_data at_kept
waits_data s g now state at = if_case (λ (t : Turn ServerFields). WaitsUnlessClosed t.after) (carries g)
    (λ e. let low = hole_low (keeping s g).kept s.rcv in waits_end (moved (keeping s g)) now state (omega arith))
    (λ e. in_state Established s state at)

waits_start : (s : ServerFields) (g : SegmentFields) (now : ℕ) → s.state ≡ SynReceived → WaitsAfter SynReceived s → WaitsUnlessClosed (at_start s g now).after
unfolding at_start
waits_start s g now state w =
    let none = w.0 in
    let at = w.1 in
    if_case (λ (t : Turn ServerFields). WaitsUnlessClosed t.after) g.syn
    (λ e. in_state SynReceived s state w)
    (λ e. if_case (λ (t : Turn ServerFields). WaitsUnlessClosed t.after) (is_ack_of (s.config.iss + 1) g.ack)
    (λ k. waits_data (established s) g now refl (omega arith)) (λ k. in_state SynReceived s state w))

waits_last : (s : ServerFields) (g : SegmentFields) → WaitsUnlessClosed s → WaitsUnlessClosed (at_last s g).after
unfolding at_last
waits_last s g w = if_case (λ (t : Turn ServerFields). WaitsUnlessClosed t.after) g.syn (λ e. w)
    (λ e. if_case (λ (t : Turn ServerFields). WaitsUnlessClosed t.after) (is_ack_of (s.config.iss + 2) g.ack) (λ k. inl refl)
    (λ k. if_case (λ (t : Turn ServerFields). WaitsUnlessClosed t.after) (carries g) (λ f. w) (λ f. w)))

not_closed : (state : TcpState) (s : ServerFields) → s.state ≡ state → (state ≡ Closed → ⊥) → WaitsUnlessClosed s → WaitsAfter state s
not_closed state s is running w = elim w [
  | inl closed ↦ absurd (running (sym is ∙ closed))
  | inr w ↦ subst (λ (k : TcpState). WaitsAfter k s) is w
]

waits_at : (state : TcpState) (s : ServerFields) (g : SegmentFields) (now : ℕ) → s.state ≡ state → WaitsUnlessClosed s → WaitsUnlessClosed (server_at state s g now).after
waits_at SynReceived s g now is w = waits_start s g now is (not_closed SynReceived s is (λ e. absurd (cc)) w)
waits_at Established s g now is w = if_case (λ (t : Turn ServerFields). WaitsUnlessClosed t.after) g.syn (λ e. w)
    (λ e. waits_data s g now is (not_closed Established s is (λ e. absurd (cc)) w))
waits_at LastAck s g now is w = waits_last s g w
waits_at _ s g now is w = w

pub waits_segment : (s : ServerFields) (g : SegmentFields) (now : ℕ) → WaitsUnlessClosed s → WaitsUnlessClosed (server_segment s g now).after
waits_segment s g now w = waits_at s.state s g now refl w

pub waits_timeout : (s : ServerFields) (now : ℕ) → WaitsUnlessClosed s → WaitsUnlessClosed (server_timeout s now).after
unfolding server_timeout
waits_timeout s now w = if_case (λ (t : Turn ServerFields). WaitsUnlessClosed t.after) (nat_lt s.config.tries (s.tries + 1))
    (λ e. inl refl)
    (λ e. elim w [
      | inl closed ↦ inl closed
      | inr w ↦ inr (waits_same s.state s (waiting s now) refl refl refl refl w)
    ])

pub waits_accepted : (config : TcpConfig) (syn : SegmentFields) (now : ℕ) → WaitsUnlessClosed (accepted config syn now).after
unfolding listened
waits_accepted config syn now = inr (refl, refl)

-- ---- what it tells

told_append : (xs ys : List Act) → told (xs ++ ys) ≡ told xs + told ys
told_append [] ys = sym (zero-add (told ys))
told_append (Entered state ∷ xs) ys = told_append xs ys
told_append (Delivered bytes ∷ xs) ys = let rest = told_append xs ys in omega arith
told_append (Send segment ∷ xs) ys = told_append xs ys

none_more : (n : ℕ) → n ≡ n + 0
none_more n = omega arith

told_delivery : (n : ℕ) → told (delivery_of n) ≡ n
told_delivery zero = refl
told_delivery (suc n) = sym (none_more (suc n))

-- a turn tells what it adds to the bytes delivered
pub record Tells (delivered : ℕ) (t : Turn ServerFields) : Type 0 where
  pub grows : t.after.delivered ≡ delivered + told t.acts

tells_end : (s : ServerFields) (now : ℕ) → Tells s.delivered (at_end s now)
unfolding at_end
tells_end s now = if_case (Tells s.delivered) (is_ack_of s.rcv s.fin) (λ e. record { grows = none_more s.delivered }) (λ e. record { grows = none_more s.delivered })

tells_kept : (s : ServerFields) (now : ℕ) → Tells s.delivered (at_kept s now)
unfolding at_kept
tells_kept s now =
    let bytes = hole s.kept s.rcv - s.rcv in
    let joined = told_append (delivery_of bytes) (at_end (moved s) now).acts in
    let first = told_delivery bytes in
    let last = (tells_end (moved s) now).grows in
    record { grows = omega (arith, joined, first, last) }

tells_data : (s : ServerFields) (g : SegmentFields) (now : ℕ) → Tells s.delivered (at_data s g now)
unfolding at_data
tells_data s g now = if_case (Tells s.delivered) (carries g) (λ e. record { grows = (tells_kept (keeping s g) now).grows }) (λ e. record { grows = none_more s.delivered })

tells_start : (s : ServerFields) (g : SegmentFields) (now : ℕ) → Tells s.delivered (at_start s g now)
unfolding at_start
tells_start s g now = if_case (Tells s.delivered) g.syn (λ e. record { grows = none_more s.delivered })
    (λ e. if_case (Tells s.delivered) (is_ack_of (s.config.iss + 1) g.ack)
    (λ k. record { grows = (tells_data (established s) g now).grows }) (λ k. record { grows = none_more s.delivered }))

tells_last : (s : ServerFields) (g : SegmentFields) → Tells s.delivered (at_last s g)
unfolding at_last
tells_last s g = if_case (Tells s.delivered) g.syn (λ e. record { grows = none_more s.delivered })
    (λ e. if_case (Tells s.delivered) (is_ack_of (s.config.iss + 2) g.ack) (λ k. record { grows = none_more s.delivered })
    (λ k. if_case (Tells s.delivered) (carries g) (λ f. record { grows = none_more s.delivered }) (λ f. record { grows = none_more s.delivered })))

tells_at : (state : TcpState) (s : ServerFields) (g : SegmentFields) (now : ℕ) → Tells s.delivered (server_at state s g now)
tells_at SynReceived s g now = tells_start s g now
tells_at Established s g now = if_case (Tells s.delivered) g.syn (λ e. record { grows = none_more s.delivered }) (λ e. tells_data s g now)
tells_at LastAck s g now = tells_last s g
tells_at _ s g now = record { grows = none_more s.delivered }

tells_out : (s : ServerFields) (now : ℕ) → Tells s.delivered (server_timeout s now)
unfolding server_timeout
tells_out s now = if_case (Tells s.delivered) (nat_lt s.config.tries (s.tries + 1)) (λ e. record { grows = none_more s.delivered }) (λ e. record { grows = none_more s.delivered })

pub tells_segment : (s : ServerFields) (g : SegmentFields) (now : ℕ) → (server_segment s g now).after.delivered ≡ s.delivered + told (server_segment s g now).acts
tells_segment s g now = (tells_at s.state s g now).grows

pub tells_timeout : (s : ServerFields) (now : ℕ) → (server_timeout s now).after.delivered ≡ s.delivered + told (server_timeout s now).acts
tells_timeout s now = (tells_out s now).grows

pub tells_accepted : (config : TcpConfig) (syn : SegmentFields) (now : ℕ) → (accepted config syn now).after.delivered ≡ told (accepted config syn now).acts
unfolding listened
tells_accepted config syn now = refl
