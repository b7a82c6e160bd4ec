-- Verdicts name routes that there are, and packets for the host are for an address of it.
use Rattle.std.proofs.Common.{◌≡◌, ℕ, ◌<◌, Bool, true, false, List, length, Option, Some, None, refl, sym, subst, if◌then◌else◌}
use Rattle.std.specs.Prelude.{nat_le}
use Rattle.sim_base.specs.declared.records.Reason.TheVariants.{Ttl, Route as NoRoute}
use Rattle.spf_routes.specs.declared.graph.Route.{Route}
use Rattle.spf_routes.specs.Best.{IsChoice}
use Rattle.ip_layer.specs.Packets.{PacketFields}
use Rattle.ip_layer.specs.Forwarding.{has_address, forward, best_route, passed_on, sent, received}
use Rattle.ip_layer.specs.declared.verdict.Verdict.{Verdict}
use Rattle.ip_layer.specs.declared.verdict.Verdict.TheVariants.{Local, Forward, Dropped}
use Rattle.ip_layer.proofs.Best.{best_is}
use Rattle.ip_layer.proofs.Leaving.{sent_leaves, received_leaves}
use Rattle.host_rules.specs.declared.rows.HostRows.{HostRows}
use Rattle.host_rules.specs.Sending.{own_addresses}
use Rattle.host_rules.specs.Sources.{IsOwnAddress}
use Rattle.host_rules.proofs.Lawful.{own_address}
use Rattle.host_sending.specs.Sites.{IsPlaceIn}

best_at : (routes : List Route) (a k : ℕ) (o : Option ℕ) → IsChoice routes a (length routes) o → Some k ≡ o → k < length routes
best_at routes a k None is e = absurd (cc)
best_at routes a k (Some n) is e = let same : n ≡ k = cc in subst (λ (m : ℕ). m < length routes) same is.there

pub best_in : (routes : List Route) (a k : ℕ) → Some k ≡ best_route routes a → k < length routes
best_in routes a k e = best_at routes a k (best_route routes a) (best_is routes a) e

sent_at : (own : List ℕ) (routes : List Route) (p : PacketFields) (v : Verdict) → sent own routes p ≡ v → IsPlaceIn routes v
sent_at own routes p Local e = tt
sent_at own routes p (Forward k) e = let best = sent_leaves own routes p k e in best.there
sent_at own routes p (Dropped reason) e = tt

pub sent_in : (own : List ℕ) (routes : List Route) (p : PacketFields) → IsPlaceIn routes (sent own routes p)
sent_in own routes p = sent_at own routes p (sent own routes p) refl

pub sent_place : (own : List ℕ) (routes : List Route) (p : PacketFields) (v : Verdict) → v ≡ sent own routes p → IsPlaceIn routes v
sent_place own routes p v e = sent_at own routes p v (sym e)

pub received_at : (own : List ℕ) (routes : List Route) (p : PacketFields) (v : Verdict) → received own routes p ≡ v → IsPlaceIn routes v
received_at own routes p Local e = tt
received_at own routes p (Forward k) e = let best = received_leaves own routes p k e in best.there
received_at own routes p (Dropped reason) e = tt

forward_not_local : (o : Option ℕ) → forward o ≡ Local → ⊥
forward_not_local None e = cc
forward_not_local (Some k) e = cc

sent_not_local : (own : List ℕ) (routes : List Route) (p : PacketFields) → sent own routes p ≡ Local → ⊥
unfolding sent
sent_not_local own routes p e = sent_case (has_address own p.dst) e
  where
    sent_case : (b : Bool) → (if b then Dropped NoRoute else forward (best_route routes p.dst)) ≡ Local → ⊥
    sent_case true e = cc
    sent_case false e = forward_not_local (best_route routes p.dst) e

has_local : (own : List ℕ) (routes : List Route) (p : PacketFields) → received own routes p ≡ Local → has_address own p.dst ≡ true
unfolding received
has_local own routes p e = received_case (has_address own p.dst) refl e
  where
    ttl_case : (b : Bool) → (if b then Dropped Ttl else sent own routes (passed_on p)) ≡ Local → ⊥
    ttl_case true e = cc
    ttl_case false e = sent_not_local own routes (passed_on p) e

    received_case : (b : Bool) → has_address own p.dst ≡ b → (if b then Local else if nat_le p.ttl 1 then Dropped Ttl else sent own routes (passed_on p)) ≡ Local → has_address own p.dst ≡ true
    received_case true t e = t
    received_case false t e = absurd (ttl_case (nat_le p.ttl 1) e)

pub local_own : (rows : HostRows) (routes : List Route) (p : PacketFields) → received (own_addresses rows) routes p ≡ Local → IsOwnAddress rows p.dst
local_own rows routes p e = own_address rows p.dst (has_local (own_addresses rows) routes p e)
