-- The plan of a ring, and the entries of the run of a plan.
use Rattle.std.proofs.Common.{ℕ, ◌≡◌, ◌<◌, ◌≤◌, ◌+◌, ◌∙◌, sym, ap, subst, List, length, Bool, true, false, Ok, Err, All, arith, cond, nat_lt, decimal}
use Rattle.std.specs.List.{list_any}
use Rattle.std.proofs.lemmas.List.{length-map, length-replicate}
use Rattle.std.proofs.lemmas.List.FromFn.{length-map-range_with_len}
use Rattle.event_order.specs.Machine.{within}
use Rattle.dml_tree.specs.declared.tree.Attribute.{Attribute}
use Rattle.net_graph.specs.declared.fault.ShapeFault.TheVariants.{DelayTooLong, TooManyChannels}
use Rattle.ssf_model.specs.declared.event.Entry.{Entry}
use Rattle.ssf_model.specs.declared.plan.Plan.{Plan}
use Rattle.ssf_model.specs.Reaction.{LatestTime, Reaction, Validity, KeepsValid}
use Rattle.ssf_model.specs.Deliver.{IsModest}
use Rattle.ssf_model.specs.Drafts.{MostChannels}
use Rattle.ring_model.specs.declared.ring.Ring.{Ring}
use Rattle.ring_model.specs.declared.ring.RingState.{RingState}
use Rattle.ring_model.specs.declared.ring.RingPayload.{RingPayload}
use Rattle.net_build.specs.declared.built.Built.{Built}
use Rattle.net_build.specs.PlanText.{host_text}
use Rattle.net_graph.specs.declared.rows.Network.{Network}
use Rattle.net_plan.specs.NetPlan.{IsPlanOf, net_in}
use Rattle.host_stack.specs.declared.host.Host.{Host}
use Rattle.host_rules.specs.Hosts.{HostFields}
use Rattle.ip_layer.specs.Packets.{PacketFields}
use Rattle.net_build.specs.RingModel.{RingKeys, Read, then_read, ring_of, built_of, build, ring_plan_of, is_long}
use Rattle.ssf_model.specs.Run.{Fits, run_entries}
use Rattle.run_health.proofs.Staying.{entries_named}

-- each entry of a run has a name where each entity has one
pub names_fit : {B S P : Type 0} (valid : Validity S) (carried : P → Type 0) (r : Reaction S P) → KeepsValid valid carried r → IsModest valid carried r
    → (plan : Plan B S P) (until budget names : ℕ) (entries given : List Entry) → until ≤ LatestTime → Fits valid carried plan
    → length entries ≤ budget → ((R : ℕ) → budget ≤ R → entries ≡ run_entries r plan until (within R) (length entries)) → names ≡ length plan.entities
    → given ≡ entries → All (λ (e : Entry). e.entity < names) given
names_fit valid carried r sound modest plan until budget names entries given in_time fits few prefix named same =
    let reached : budget ≤ budget = omega arith in
    let all : All (λ (e : Entry). e.entity < length plan.entities) (run_entries r plan until (within budget) (length entries)) =
    entries_named r valid carried sound modest plan until in_time fits (within budget) (length entries) in
    let Q : List Entry → Type 0 = λ es. All (λ (e : Entry). e.entity < length plan.entities) es in
    let N : ℕ → Type 0 = λ n. All (λ (e : Entry). e.entity < n) given in
    subst N (sym named) (subst Q (sym (same ∙ prefix budget reached)) all)

pick : {A F : Type 0} (t u : Bool) (f g : F) (x y : A) → cond t (Err f) (cond u (Err g) (Ok x)) ≡ Ok y → x ≡ y
pick true u f g x y is = absurd (cc)
pick false true f g x y is = absurd (cc)
pick false false f g x y is = cc

-- each node has a Net, and each host
nets_built : (keys : RingKeys) → length (built_of keys).nets ≡ length (built_of keys).names.names
nets_built keys = length-replicate keys.nodes 0 ∙ sym (length-map-range_with_len decimal 0 keys.nodes)

build_nets : (keys : RingKeys) (b : Built Ring RingState RingPayload) → build keys ≡ Ok b → length b.nets ≡ length b.names.names
build_nets keys b is =
    let same : built_of keys ≡ b = pick (list_any is_long keys.hops) (nat_lt MostChannels (keys.nodes + length keys.hops)) DelayTooLong TooManyChannels (built_of keys) b is in
    subst (λ (c : Built Ring RingState RingPayload). length c.nets ≡ length c.names.names) same (nets_built keys)

read_nets : (r : Read RingKeys) (b : Built Ring RingState RingPayload) → then_read r build ≡ Ok b → length b.nets ≡ length b.names.names
read_nets (Ok keys) b is = build_nets keys b is
read_nets (Err fault) b is = absurd (cc)

pub ring_nets : (root : List Attribute) (b : Built Ring RingState RingPayload) → ring_plan_of root ≡ Ok b → length b.nets ≡ length b.names.names
ring_nets root b is = read_nets (ring_of root) b is

pub host_nets : (network : Network) (b : Built Host HostFields PacketFields) → IsPlanOf network b → length b.nets ≡ length b.names.names
host_nets network b is =
    ap length is.nets ∙ (length-map network.hosts net_in ∙ sym (ap length is.names ∙ length-map-range_with_len (host_text network) 0 (length network.hosts)))
