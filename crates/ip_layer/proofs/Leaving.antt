-- A packet that leaves does so by the best route.
use Rattle.std.proofs.Common.{◌≡◌, ℕ, Bool, true, false, nat_le, List, length, Option, Some, None, refl, subst, if◌then◌else◌}
use Rattle.spf_routes.specs.declared.graph.Route.{Route}
use Rattle.spf_routes.specs.Best.{IsBest, IsChoice}
use Rattle.sim_base.specs.declared.records.Reason.TheVariants.{Ttl, Route as NoRoute}
use Rattle.ip_layer.specs.declared.verdict.Verdict.{Verdict}
use Rattle.ip_layer.specs.declared.verdict.Verdict.TheVariants.{Local, Forward, Dropped}
use Rattle.ip_layer.specs.Packets.{PacketFields}
use Rattle.ip_layer.specs.Forwarding.{has_address, forward, best_route, passed_on, sent, received}
use Rattle.ip_layer.proofs.Best.{best_is}

forwarded : (routes : List Route) (a k : ℕ) (choice : Option ℕ) → IsChoice routes a (length routes) choice → forward choice ≡ Forward k → IsBest routes a (length routes) k
forwarded routes a k None is h = absurd (cc)
forwarded routes a k (Some n) is h = let same : n ≡ k = cc in subst (IsBest routes a (length routes)) same is

sent_test : (routes : List Route) (a k : ℕ) (own : Bool) → (if own then Dropped NoRoute else forward (best_route routes a)) ≡ Forward k → IsBest routes a (length routes) k
sent_test routes a k true h = absurd (cc)
sent_test routes a k false h = forwarded routes a k (best_route routes a) (best_is routes a) h

pub sent_leaves : (own : List ℕ) (routes : List Route) (p : PacketFields) (k : ℕ) → sent own routes p ≡ Forward k → IsBest routes p.dst (length routes) k
unfolding sent
sent_leaves own routes p k h = sent_test routes p.dst k (has_address own p.dst) h

ttl_test : (own : List ℕ) (routes : List Route) (p : PacketFields) (k : ℕ) (ended : Bool) → (if ended then Dropped Ttl else sent own routes (passed_on p)) ≡ Forward k → IsBest routes p.dst (length routes) k
ttl_test own routes p k true h = absurd (cc)
ttl_test own routes p k false h = sent_leaves own routes (passed_on p) k h

received_test : (own : List ℕ) (routes : List Route) (p : PacketFields) (k : ℕ) (here : Bool) → (if here then Local else if nat_le p.ttl 1 then Dropped Ttl else sent own routes (passed_on p)) ≡ Forward k → IsBest routes p.dst (length routes) k
received_test own routes p k true h = absurd (cc)
received_test own routes p k false h = ttl_test own routes p k (nat_le p.ttl 1) h

pub received_leaves : (own : List ℕ) (routes : List Route) (p : PacketFields) (k : ℕ) → received own routes p ≡ Forward k → IsBest routes p.dst (length routes) k
unfolding received
received_leaves own routes p k h = received_test own routes p k (has_address own p.dst) h
