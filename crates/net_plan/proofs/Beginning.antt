-- The plan of a network begins afresh.
use Rattle.std.proofs.Common.{◌≡◌, ℕ, ◌+◌, List, [], ◌∷◌, length, map, refl, sym, ap, subst, ◌∙◌}
use Rattle.std.proofs.lemmas.List.FromFn.{length-map-range_with_len}
use Rattle.spf_routes.specs.declared.graph.Period.{Period}
use Rattle.ssf_model.specs.declared.builder.DraftEntity.{DraftEntity}
use Rattle.ssf_model.specs.declared.entity.Entity.{Entity}
use Rattle.ssf_model.specs.declared.plan.Plan.{Plan}
use Rattle.ssf_model.specs.Reaction.{Each}
use Rattle.ssf_model.specs.Drafts.{timers, first_entities, start, planned}
use Rattle.net_graph.specs.declared.rows.Network.{Network}
use Rattle.net_graph.specs.Networks.{numbers}
use Rattle.net_layout.specs.Wiring.{wires_of}
use Rattle.host_rules.specs.Hosts.{HostFields}
use Rattle.net_hosts.proofs.Ranges.{each_made}
use Rattle.net_plan.specs.NetDraft.{host_entity, net_draft, IsNetBuilt}

-- no session is there
abbrev IsIdle : HostFields → Type 0
IsIdle host = host.stack.sessions ≡ []

each_first : (B P : Type 0) (timer : ℕ) (ds : List (DraftEntity HostFields)) → Each (λ (d : DraftEntity HostFields). IsIdle d.state) ds → Each (λ (e : Entity B HostFields P). IsIdle e.state) (first_entities {B = B} {S = HostFields} {P = P} timer ds)
each_first B P timer [] each = tt
each_first B P timer (d ∷ ds) each = (each.0, each_first B P (timer + timers d.timed) ds each.1)

module _ {B : Type 0} (P : Type 0) (behaviour : B) (network : Network) (tables : List (List Period)) where
  hosts_idle : Each (λ (e : Entity B HostFields P). IsIdle e.state) (planned {B = B} {S = HostFields} {P = P} (net_draft behaviour network tables)).entities
  unfolding planned net_draft
  hosts_idle =
      each_first B P (length (map (host_entity network tables (wires_of network)) (numbers (length network.hosts)))) (map (host_entity network tables (wires_of network)) (numbers (length network.hosts)))
      (each_made (λ (d : DraftEntity HostFields). IsIdle d.state) (host_entity network tables (wires_of network)) 0 (length network.hosts) (λ h low high. refl))

  events_start : (planned {B = B} {S = HostFields} {P = P} (net_draft behaviour network tables)).events ≡ map start (numbers (length network.hosts))
  unfolding planned net_draft
  events_start = ap (λ n. map start (numbers n)) (length-map-range_with_len (host_entity network tables (wires_of network)) 0 (length network.hosts))

pub none_begun : {B P : Type 0} (behaviour : B) (network : Network) (plan : Plan B HostFields P) → IsNetBuilt behaviour network plan → Each (λ (e : Entity B HostFields P). IsIdle e.state) plan.entities
none_begun {B} {P} behaviour network plan built =
    subst (λ (p : Plan B HostFields P). Each (λ (e : Entity B HostFields P). IsIdle e.state) p.entities) (sym built.plan_is) (hosts_idle P behaviour network built.tables)

pub starts_pend : {B P : Type 0} (behaviour : B) (network : Network) (plan : Plan B HostFields P) → IsNetBuilt behaviour network plan → plan.events ≡ map start (numbers (length network.hosts))
starts_pend {B} {P} behaviour network plan built = ap (λ (p : Plan B HostFields P). p.events) built.plan_is ∙ events_start P behaviour network built.tables
