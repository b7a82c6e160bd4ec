-- The host of an address, in a network and in a run of its plan.
use Rattle.std.proofs.Common.{◌≡◌, ℕ, zero, suc, ◌+◌, ◌<◌, ◌≤◌, ◌⊎◌, Bool, true, false, ◌||◌, nat_eq, List, length, map, Option, Some, None, slice_get, refl, sym, ap, subst, ◌∙◌, inl, inr, arith, zero-add}
use Rattle.std.specs.List.{filter_map, cons_option, range_with_len}
use Rattle.std.proofs.lemmas.Bool.{cases_lt, eqb-true, eq-eqb, or_left, or_right}
use Rattle.event_order.specs.declared.key.Key.{Key}
use Rattle.spf_routes.specs.declared.graph.Period.{Period}
use Rattle.ssf_model.specs.declared.builder.DraftEntity.{DraftEntity}
use Rattle.ssf_model.specs.declared.entity.Entity.{Entity}
use Rattle.ssf_model.specs.declared.plan.Plan.{Plan}
use Rattle.ssf_model.specs.Drafts.{timers, first_entity, first_entities, planned}
use Rattle.ssf_model.specs.Run.{world_after}
use Rattle.run_laws.proofs.Continuing.{looks_alike}
use Rattle.ip_layer.specs.Packets.{PacketFields}
use Rattle.ip_layer.specs.Forwarding.{has_address}
use Rattle.net_graph.specs.declared.rows.Network.{Network}
use Rattle.net_graph.specs.Networks.{IsNetwork, interface_at, numbers}
use Rattle.net_layout.specs.Arms.{first_interface}
use Rattle.net_layout.specs.Addresses.{interface_address}
use Rattle.net_layout.specs.Wiring.{wires_of}
use Rattle.net_layout.specs.Ports.{port_count}
use Rattle.net_layout.specs.Faults.{first_fault}
use Rattle.net_layout.specs.Limits.{HasDistinctAddresses}
use Rattle.net_layout.proofs.HostPorts.{first_interface_up, port_host, port_from, port_below}
use Rattle.net_layout.proofs.Limiting.{keeps_limits}
use Rattle.net_layout.proofs.Addressing.{distinct}
use Rattle.host_rules.specs.declared.rows.HostPort.{HostPort}
use Rattle.host_rules.specs.declared.rows.HostRows.{HostRows}
use Rattle.host_rules.specs.Hosts.{HostFields}
use Rattle.host_rules.specs.Sending.{own_addresses}
use Rattle.host_rules.specs.Reacting.{host_reaction}
use Rattle.host_rules.proofs.Sound.{rows_stay}
use Rattle.net_hosts.specs.HostRowsOf.{port_row, host_rows_of}
use Rattle.net_plan.specs.NetDraft.{host_entity, net_draft, IsNetBuilt}
use Rattle.network_transfers.specs.Senders.{HasAddress}

-- ---- in a network

pub one_host : (network : Network) (g h address : ℕ) → IsNetwork network → first_fault network ≡ None → HasAddress network g address → HasAddress network h address → g ≡ h
one_host network g h address is none a b =
    let differ : HasDistinctAddresses network = distinct network is (keeps_limits network is none).addresses in
    let same : a.interface ≡ b.interface = differ.differ a.interface b.interface address a.there b.there a.at b.at in
    sym a.own ∙ ap (λ i. (interface_at network i).host) same ∙ b.own

-- an interface in range has the address
record Has (network : Network) (a n address : ℕ) : Type 0 where
  interface : ℕ
  low : a ≤ interface
  high : interface < a + n
  at : interface_address network interface ≡ Some address

this_or_others : (x address : ℕ) (b others : Bool) → nat_eq x address ≡ b → (b || others) ≡ true → (x ≡ address) ⊎ (others ≡ true)
this_or_others x address true others e h = inl (eqb-true x address e)
this_or_others x address false others e h = inr h

first_or_others : (o : Option ℕ) (own : List ℕ) (address : ℕ) → has_address (cons_option o own) address ≡ true → (o ≡ Some address) ⊎ (has_address own address ≡ true)
first_or_others None own address h = inr h
first_or_others (Some x) own address h = elim (this_or_others x address (nat_eq x address) (has_address own address) refl h) [
  | inl e ↦ inl (ap (λ y. Some y) e)
  | inr more ↦ inr more
]

interface_with : (network : Network) (a n address : ℕ) → has_address (filter_map (λ (port : HostPort). port.address) (map (port_row network) (range_with_len a n))) address ≡ true → Has network a n address
interface_with network a zero address h = let no : false ≡ true = h in absurd (cc)
interface_with network a (suc n) address h =
    elim (first_or_others (interface_address network a) (filter_map (λ (port : HostPort). port.address) (map (port_row network) (range_with_len (a + 1) n))) address h) [
      | inl here ↦ record { interface = a; low = omega arith; high = omega arith; at = here }
      | inr more ↦
          let rest = interface_with network (a + 1) n address more in
          record { interface = rest.interface; low = omega (arith, rest.low); high = omega (arith, rest.high); at = rest.at }
    ]

-- what its rows tell a host are its addresses
own_with : (network : Network) (tables : List (List Period)) (h address : ℕ) → IsNetwork network → has_address (own_addresses (host_rows_of network tables h)) address ≡ true → HasAddress network h address
unfolding own_addresses
own_with network tables h address is has =
    let up = first_interface_up network h (h + 1) (omega arith) in
    let found = interface_with network (first_interface network h) (port_count network h) address has in
    let below : found.interface < first_interface network (h + 1) = omega (arith, found.high) in
    let mine = port_host network is found.interface h found.low below in
    record { interface = found.interface; there = mine.0; own = mine.1; at = found.at }

is_first : (o : Option ℕ) (own : List ℕ) (address : ℕ) → o ≡ Some address → has_address (cons_option o own) address ≡ true
is_first None own address e = absurd (cc)
is_first (Some x) own address e = let same : x ≡ address = cc in or_left (nat_eq x address) (has_address own address) (eq-eqb x address same)

is_other : (o : Option ℕ) (own : List ℕ) (address : ℕ) → has_address own address ≡ true → has_address (cons_option o own) address ≡ true
is_other None own address h = h
is_other (Some x) own address h = or_right (nat_eq x address) (has_address own address) h

address_among : (network : Network) (a n address interface : ℕ) → a ≤ interface → interface < a + n → interface_address network interface ≡ Some address
    → has_address (filter_map (λ (port : HostPort). port.address) (map (port_row network) (range_with_len a n))) address ≡ true
address_among network a zero address interface low high at = absurd (omega (arith, low, high))
address_among network a (suc n) address interface low high at =
    let others : List ℕ = filter_map (λ (port : HostPort). port.address) (map (port_row network) (range_with_len (a + 1) n)) in
    elim (cases_lt a interface) [
      | inl less ↦ is_other (interface_address network a) others address (address_among network (a + 1) n address interface (omega (arith, less)) (omega (arith, high)) at)
      | inr le ↦
          let same : interface ≡ a = omega (arith, low, le) in
          is_first (interface_address network a) others address (ap (interface_address network) (sym same) ∙ at)
    ]

-- and all its addresses are among them
with_own : (network : Network) (tables : List (List Period)) (h address : ℕ) → IsNetwork network → HasAddress network h address → has_address (own_addresses (host_rows_of network tables h)) address ≡ true
unfolding own_addresses
with_own network tables h address is has =
    let from : first_interface network h ≤ has.interface = subst (λ g. first_interface network g ≤ has.interface) has.own (port_from network is has.interface has.there) in
    let below : has.interface < first_interface network (h + 1) = subst (λ g. has.interface < first_interface network (g + 1)) has.own (port_below network is has.interface has.there) in
    let within : has.interface < first_interface network h + port_count network h = omega (arith, from, below) in
    address_among network (first_interface network h) (port_count network h) address has.interface from within has.at

-- ---- in a run

-- an entity at first has the state of its draft
state_at : (B P : Type 0) (f : ℕ → DraftEntity HostFields) (timer a n h : ℕ) (e : Entity B HostFields P) → slice_get (first_entities {B = B} {S = HostFields} {P = P} timer (map f (range_with_len a n))) h ≡ Some e
    → e.state ≡ (f (a + h)).state
state_at B P f timer a zero h e at = let no : None ≡ Some e = at in absurd (cc)
state_at B P f timer a (suc n) zero e at =
    let here : Some (first_entity {B = B} {S = HostFields} {P = P} timer (f a)) ≡ Some e = at in
    let same : first_entity {B = B} {S = HostFields} {P = P} timer (f a) ≡ e = cc in
    let place : a ≡ a + 0 = omega arith in
    sym (ap (λ (x : Entity B HostFields P). x.state) same) ∙ ap (λ k. (f k).state) place
state_at B P f timer a (suc n) (suc h) e at =
    let place : a + 1 + h ≡ a + suc h = omega arith in
    state_at B P f (timer + timers (f a).timed) (a + 1) n h e at ∙ ap (λ k. (f k).state) place

module _ {B : Type 0} (behaviour : B) (network : Network) where
  rows_first : (tables : List (List Period)) (h : ℕ) (e : Entity B HostFields PacketFields)
      → slice_get (planned {B = B} {S = HostFields} {P = PacketFields} (net_draft behaviour network tables)).entities h ≡ Some e → e.state.rows ≡ host_rows_of network tables h
  unfolding planned net_draft
  rows_first tables h e at =
      let f : ℕ → DraftEntity HostFields = host_entity network tables (wires_of network) in
      ap (λ (s : HostFields). s.rows) (state_at B PacketFields f (length (map f (numbers (length network.hosts)))) 0 (length network.hosts) h e at)
      ∙ ap (λ k. host_rows_of network tables k) (zero-add h)

  module _ (plan : Plan B HostFields PacketFields) (built : IsNetBuilt behaviour network plan) (until : ℕ) (kept : Key → Bool) where
    rows_along : (n h : ℕ) (e : Entity B HostFields PacketFields) → slice_get (world_after host_reaction plan until kept n).state.entities h ≡ Some e → e.state.rows ≡ host_rows_of network built.tables h
    rows_along n h e at =
        let first = looks_alike host_reaction (λ (s : HostFields). s.rows) rows_stay plan until kept n h e at in
        first.2 ∙ rows_first built.tables h first.0 (subst (λ (p : Plan B HostFields PacketFields). slice_get p.entities h ≡ Some first.0) built.plan_is first.1)

    -- the addresses of a host of the run are those that it has in the network
    pub address_of_host : (n h address : ℕ) (e : Entity B HostFields PacketFields) → IsNetwork network → slice_get (world_after host_reaction plan until kept n).state.entities h ≡ Some e
        → has_address (own_addresses e.state.rows) address ≡ true → HasAddress network h address
    address_of_host n h address e is at has =
        own_with network built.tables h address is (subst (λ (rows : HostRows). has_address (own_addresses rows) address ≡ true) (rows_along n h e at) has)

    -- and all that it has there are among them
    pub host_of_address : (n h address : ℕ) (e : Entity B HostFields PacketFields) → IsNetwork network → slice_get (world_after host_reaction plan until kept n).state.entities h ≡ Some e
        → HasAddress network h address → has_address (own_addresses e.state.rows) address ≡ true
    host_of_address n h address e is at has =
        subst (λ (rows : HostRows). has_address (own_addresses rows) address ≡ true) (sym (rows_along n h e at)) (with_own network built.tables h address is has)
