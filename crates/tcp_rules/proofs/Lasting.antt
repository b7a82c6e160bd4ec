-- What lasts: a server's first position, and what is held from a position on where ranges below it are forgotten.
use Rattle.std.proofs.Common.{◌≡◌, ℕ, ◌+◌, ◌≤◌, Bool, true, false, ◌||◌, List, [], ◌∷◌, nat_lt, refl, sym, ◌∙◌, ap, arith}
use Rattle.std.proofs.lemmas.Bool.Decides.{nat_tests}
use Rattle.sim_base.specs.declared.records.TcpConfig.{TcpConfig}
use Rattle.sim_base.specs.declared.records.TcpState.{TcpState}
use Rattle.sim_base.specs.declared.records.TcpState.TheVariants.{SynReceived, Established, LastAck}
use Rattle.sim_base.specs.SegmentFields.{SegmentFields}
use Rattle.tcp_rules.specs.declared.records.Range.{Range}
use Rattle.tcp_rules.specs.Segments.{Turn, carries, is_ack_of}
use Rattle.tcp_rules.specs.Servers.{ServerFields, accepted, listened, holds, covers, beyond, keeping, moved, at_end, at_kept, at_data, established, at_start, at_last, server_at, server_segment, server_timeout}
use Rattle.tcp_rules.proofs.Cases.{if_case}
use Rattle.tcp_rules.proofs.Holes.{not_held}

-- what is forgotten lies below the position
pub beyond_holds : (rs : List Range) (q p : ℕ) → q ≤ p → covers (beyond q rs) p ≡ covers rs p
beyond_holds [] q p above = refl
beyond_holds (r ∷ rs) q p above = if_case (λ xs. covers xs p ≡ covers (r ∷ rs) p) (nat_lt q r.to)
    (λ e. ap (λ b. holds r p || b) (beyond_holds rs q p above))
    (λ e. let past : r.to ≤ p = grind (arith, nat_tests) in beyond_holds rs q p above ∙ ap (λ b. b || covers rs p) (sym (not_held r p past)))

irs_end : (s : ServerFields) (now : ℕ) → (at_end s now).after.irs ≡ s.irs
unfolding at_end
irs_end s now = if_case (λ (t : Turn ServerFields). t.after.irs ≡ s.irs) (is_ack_of s.rcv s.fin) (λ e. refl) (λ e. refl)

irs_data : (s : ServerFields) (g : SegmentFields) (now : ℕ) → (at_data s g now).after.irs ≡ s.irs
unfolding at_data at_kept
irs_data s g now = if_case (λ (t : Turn ServerFields). t.after.irs ≡ s.irs) (carries g) (λ e. irs_end (moved (keeping s g)) now) (λ e. refl)

irs_start : (s : ServerFields) (g : SegmentFields) (now : ℕ) → (at_start s g now).after.irs ≡ s.irs
unfolding at_start
irs_start s g now = if_case (λ (t : Turn ServerFields). t.after.irs ≡ s.irs) g.syn (λ e. refl)
    (λ e. if_case (λ (t : Turn ServerFields). t.after.irs ≡ s.irs) (is_ack_of (s.config.iss + 1) g.ack) (λ k. irs_data (established s) g now) (λ k. refl))

irs_last : (s : ServerFields) (g : SegmentFields) → (at_last s g).after.irs ≡ s.irs
unfolding at_last
irs_last s g = if_case (λ (t : Turn ServerFields). t.after.irs ≡ s.irs) g.syn (λ e. refl)
    (λ e. if_case (λ (t : Turn ServerFields). t.after.irs ≡ s.irs) (is_ack_of (s.config.iss + 2) g.ack) (λ k. refl)
    (λ k. if_case (λ (t : Turn ServerFields). t.after.irs ≡ s.irs) (carries g) (λ f. refl) (λ f. refl)))

irs_at : (state : TcpState) (s : ServerFields) (g : SegmentFields) (now : ℕ) → (server_at state s g now).after.irs ≡ s.irs
irs_at SynReceived s g now = irs_start s g now
irs_at Established s g now = if_case (λ (t : Turn ServerFields). t.after.irs ≡ s.irs) g.syn (λ e. refl) (λ e. irs_data s g now)
irs_at LastAck s g now = irs_last s g
irs_at _ s g now = refl

pub irs_segment : (s : ServerFields) (g : SegmentFields) (now : ℕ) → (server_segment s g now).after.irs ≡ s.irs
irs_segment s g now = irs_at s.state s g now

pub irs_timeout : (s : ServerFields) (now : ℕ) → (server_timeout s now).after.irs ≡ s.irs
unfolding server_timeout
irs_timeout s now = if_case (λ (t : Turn ServerFields). t.after.irs ≡ s.irs) (nat_lt s.config.tries (s.tries + 1)) (λ e. refl) (λ e. refl)

pub irs_accepted : (config : TcpConfig) (syn : SegmentFields) (now : ℕ) → (accepted config syn now).after.irs ≡ syn.seq
unfolding listened
irs_accepted config syn now = refl
