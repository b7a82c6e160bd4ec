-- The addresses of hosts, and those of their servers.
use Rattle.std.proofs.Common.{◌≡◌, ℕ, zero, suc, ◌+◌, ◌<◌, ◌≤◌, ◌⊎◌, Bool, true, false, ◌||◌, nat_eq, List, [], ◌∷◌, length, map, Option, Some, None, refl, sym, ap, ◌∙◌, inl, inr, arith}
use Rattle.std.specs.List.{filter_map, cons_option, range_with_len}
use Rattle.std.specs.Option.{is_some, option_map, unwrap_or}
use Rattle.std.proofs.lemmas.Bool.{eq-eqb, eqb-true}
use Rattle.event_order.specs.Pending.{Among}
use Rattle.sim_base.specs.declared.records.ServerRow.{ServerRow}
use Rattle.ssf_model.proofs.Lists.{each_among}
use Rattle.spf_routes.specs.declared.graph.Period.{Period}
use Rattle.ip_blocks.specs.Apart.{address_of}
use Rattle.ip_layer.specs.Forwarding.{has_address}
use Rattle.net_graph.specs.declared.rows.Network.{Network}
use Rattle.net_graph.specs.Networks.{IsNetwork, IsServer, interface_at, attachment_of}
use Rattle.net_layout.specs.Arms.{first_interface}
use Rattle.net_layout.specs.Addresses.{network_blocks, interface_address}
use Rattle.net_layout.specs.Ports.{port_count}
use Rattle.net_layout.specs.Sessions.{servers_of, server_address as address_row}
use Rattle.net_layout.specs.Limits.{HasDistinctAddresses}
use Rattle.net_layout.proofs.HostPorts.{first_interface_up, port_host}
use Rattle.host_rules.specs.declared.rows.HostPort.{HostPort}
use Rattle.host_rules.specs.Sending.{own_addresses, second_of}
use Rattle.host_rules.specs.Hearing.{server_address}
use Rattle.net_hosts.specs.HostRowsOf.{port_row, host_rows_of}
use Rattle.net_hosts.proofs.Joining.{servers_are}
use Rattle.net_hosts.proofs.Ranges.{each_all}

-- an interface in range has the address
record Has (network : Network) (a n address : ℕ) : Type 0 where
  interface : ℕ
  low : a ≤ interface
  high : interface < a + n
  at : interface_address network interface ≡ Some address

either : (x address : ℕ) (b rest : Bool) → nat_eq x address ≡ b → (b || rest) ≡ true → (x ≡ address) ⊎ (rest ≡ true)
either x address true rest e h = inl (eqb-true x address e)
either x address false rest e h = inr h

first_or_rest : (o : Option ℕ) (own : List ℕ) (address : ℕ) → has_address (cons_option o own) address ≡ true → (o ≡ Some address) ⊎ (has_address own address ≡ true)
first_or_rest None own address h = inr h
first_or_rest (Some x) own address h = elim (either x address (nat_eq x address) (has_address own address) refl h) [
  | inl e ↦ inl (ap (λ y. Some y) e)
  | inr more ↦ inr more
]

interface_with : (network : Network) (a n address : ℕ) → has_address (filter_map (λ (port : HostPort). port.address) (map (port_row network) (range_with_len a n))) address ≡ true → Has network a n address
interface_with network a zero address h = let no : false ≡ true = h in absurd (cc)
interface_with network a (suc n) address h =
    elim (first_or_rest (interface_address network a) (filter_map (λ (port : HostPort). port.address) (map (port_row network) (range_with_len (a + 1) n))) address h) [
      | inl here ↦ record { interface = a; low = omega arith; high = omega arith; at = here }
      | inr more ↦
          let rest = interface_with network (a + 1) n address more in
          record { interface = rest.interface; low = omega (arith, rest.low); high = omega (arith, rest.high); at = rest.at }
    ]

-- an address of a host is that of one of its interfaces
record HasOwn (network : Network) (h address : ℕ) : Type 0 where
  interface : ℕ
  there : interface < length network.interfaces
  own : (interface_at network interface).host ≡ h
  at : interface_address network interface ≡ Some address

own_with : (network : Network) (tables : List (List Period)) (h address : ℕ) → IsNetwork network → has_address (own_addresses (host_rows_of network tables h)) address ≡ true → HasOwn network h address
unfolding own_addresses
own_with network tables h address is has =
    let up = first_interface_up network h (h + 1) (omega arith) in
    let found = interface_with network (first_interface network h) (port_count network h) address has in
    let below : found.interface < first_interface network (h + 1) = omega (arith, found.high) in
    let mine = port_host network is found.interface h found.low below in
    record { interface = found.interface; there = mine.0; own = mine.1; at = found.at }

pub hosts_differ : (network : Network) (tables : List (List Period)) (g h address : ℕ) → IsNetwork network → HasDistinctAddresses network → has_address (own_addresses (host_rows_of network tables g)) address ≡ true → has_address (own_addresses (host_rows_of network tables h)) address ≡ true → g ≡ h
hosts_differ network tables g h address is distinct a b =
    let first = own_with network tables g address is a in
    let second = own_with network tables h address is b in
    let same : first.interface ≡ second.interface = distinct.differ first.interface second.interface address first.there second.there first.at second.at in
    sym first.own ∙ ap (λ i. (interface_at network i).host) same ∙ second.own

pub above_zero : (network : Network) (tables : List (List Period)) (h address : ℕ) → IsNetwork network → HasDistinctAddresses network → has_address (own_addresses (host_rows_of network tables h)) address ≡ true → 1 ≤ address
above_zero network tables h address is distinct has =
    let own = own_with network tables h address is has in distinct.above_zero own.interface address own.at

-- servers

abbrev or_zero : Network → ℕ → ℕ
or_zero network i = unwrap_or (interface_address network i) 0

second_here : (network : Network) (s : ServerRow) (ss : List ServerRow) (server : ServerRow) (b : Bool) → nat_eq s.interface server.interface ≡ b → Among server (s ∷ ss)
    → (Among server ss → second_of (map (address_row network) ss) server.interface ≡ Some (or_zero network server.interface))
    → second_of (map (address_row network) (s ∷ ss)) server.interface ≡ Some (or_zero network server.interface)
second_here network s ss server true e has rest = rw e (ap (λ i. Some (or_zero network i)) (eqb-true s.interface server.interface e))
second_here network s ss server false e (inl same) rest =
    let yes : nat_eq s.interface server.interface ≡ true = eq-eqb s.interface server.interface (ap (λ (r : ServerRow). r.interface) (sym same)) in
    let no : true ≡ false = sym yes ∙ e in
    absurd (cc)
second_here network s ss server false e (inr more) rest = rw e (rest more)

second_is : (network : Network) (servers : List ServerRow) (server : ServerRow) → Among server servers → second_of (map (address_row network) servers) server.interface ≡ Some (or_zero network server.interface)
second_is network [] server has = absurd has
second_is network (s ∷ ss) server has = second_here network s ss server (nat_eq s.interface server.interface) refl has (second_is network ss server)

attached_some : (network : Network) (o : Option (ℕ × ℕ)) → is_some o ≡ true → option_map (λ (at : ℕ × ℕ). address_of (network_blocks network) at.0 at.1) o ≡ Some (unwrap_or (option_map (λ (at : ℕ × ℕ). address_of (network_blocks network) at.0 at.1) o) 0)
attached_some network None e = let no : false ≡ true = e in absurd (cc)
attached_some network (Some at) e = refl

pub server_found : (network : Network) (tables : List (List Period)) (h : ℕ) (server : ServerRow) → IsNetwork network → Among server (servers_of network h) → interface_address network server.interface ≡ Some (server_address (host_rows_of network tables h) server)
server_found network tables h server is has =
    let row = each_among (IsServer network) (servers_of network h) server (each_all (IsServer network) (servers_of network h) (servers_are network h is)) has in
    attached_some network (attachment_of network server.interface) row.attached
    ∙ ap (λ (o : Option ℕ). Some (unwrap_or o 0)) (sym (second_is network (servers_of network h) server has))
