-- The channels and processes of a host are those that its rows tell.
use Rattle.std.proofs.Common.{◌≡◌, ℕ, zero, suc, ◌+◌, ◌<◌, ◌≤◌, Bool, true, false, ◌==◌, List, [], ◌∷◌, ◌++◌, length, map, replicate, Option, Some, None, refl, sym, ap, subst, ◌∙◌, inl, inr, arith, if◌then◌else◌}
use Rattle.std.specs.Prelude.{slice_get, slice_index}
use Rattle.std.specs.List.{All, flat_map, filter_map, cons_option, range_with_len, enumerate_from, remove}
use Rattle.std.specs.Option.{unwrap_or}
use Rattle.std.proofs.lemmas.List.{map-append, length-map}
use Rattle.std.proofs.lemmas.List.Elements.{All-append, All-head, All-tail}
use Rattle.std.proofs.lemmas.List.FromFn.{length-range_with_len}
use Rattle.std.proofs.lemmas.Bool.{eq-eqb, eqb-true}
use Rattle.std.proofs.lemmas.Simd.{map-map}
use Rattle.event_order.specs.Pending.{Among}
use Rattle.sim_base.specs.declared.records.ClientRow.{ClientRow}
use Rattle.spf_routes.specs.declared.graph.Period.{Period}
use Rattle.ssf_model.specs.Reaction.{Each}
use Rattle.ssf_model.specs.declared.wait.Wait.TheVariants.{Forever}
use Rattle.ssf_model.proofs.Lists.{each_append, each_of, place_more}
use Rattle.net_graph.specs.declared.rows.Network.{Network}
use Rattle.net_graph.specs.Networks.{IsNetwork, numbers, interface_at, link_at}
use Rattle.net_layout.specs.declared.wiring.Wire.{Wire}
use Rattle.net_layout.specs.Arms.{first_interface}
use Rattle.net_layout.specs.Addresses.{interface_address}
use Rattle.net_layout.specs.Wiring.{poke_channel, poke_wire, link_wire, wires_from, wires_of_link, wires_of}
use Rattle.net_layout.specs.Ports.{port_count, ports_of, ins_of, out_between, out_by, outs_of}
use Rattle.net_layout.specs.Sessions.{clients_of, timed_of}
use Rattle.net_layout.specs.Limits.{KeepsLimits}
use Rattle.net_layout.proofs.Graphs.{All_numbered}
use Rattle.net_layout.proofs.Joining.{All_map}
use Rattle.net_layout.proofs.HostPorts.{ins_of-range}
use Rattle.net_layout.proofs.HostSessions.{length-clients_of}
use Rattle.host_rules.specs.declared.rows.HostPort.{HostPort}
use Rattle.host_rules.specs.declared.rows.HostRows.{HostRows}
use Rattle.host_rules.specs.Hosts.{first_host}
use Rattle.host_rules.specs.Reacting.{Receiver, Clock, clients_from, roles, is_timed_role}
use Rattle.host_rules.specs.Limits.{EachPair, AreWaits, HasOuts, IsPlaced, IsHost}
use Rattle.host_rules.proofs.Starting.{first_valid, forever_are}
use Rattle.net_hosts.specs.HostRowsOf.{port_row, host_rows_of}
use Rattle.net_hosts.specs.HostOuts.{number_from, host_outs}
use Rattle.net_hosts.proofs.Ranges.{each_port, in_range}

-- numbers rise
each_number : (P : ℕ → Type 0) (a n : ℕ) → ((i : ℕ) → a ≤ i → P i) → Each P (range_with_len a n)
each_number P a zero each = tt
each_number P a (suc n) each = (each a (omega arith), each_number P (a + 1) n (λ i low. each i (omega arith)))

pairs_rise : (a n : ℕ) → EachPair (λ (x y : ℕ). x < y) (range_with_len a n)
pairs_rise a zero = tt
pairs_rise a (suc n) = (each_number (λ b. a < b) (a + 1) n (λ i low. omega arith), pairs_rise (a + 1) n)

-- out-channels

among_option : (o : Option ℕ) (n : ℕ) (ns : List ℕ) → Among n ns → Among n (cons_option o ns)
among_option None n ns has = has
among_option (Some m) n ns has = inr has

abbrev numbers_from : ℕ → ℕ → List Wire → List ℕ
numbers_from h a wires = filter_map (number_from h) (enumerate_from a wires)

-- the first of these wires has its number among those from its host
first_among : (h a : ℕ) (w : Wire) (ws : List Wire) → w.from ≡ h → Among a (numbers_from h a (w ∷ ws))
first_among h a w ws e =
    subst (λ (b : Bool). Among a (cons_option (if b then Some a else None) (numbers_from h (a + 1) ws))) (sym (eq-eqb w.from h e)) (inl refl)

-- and each of them
wire_among : (h a k : ℕ) (w : Wire) (wires : List Wire) → slice_get wires k ≡ Some w → w.from ≡ h → Among (a + k) (numbers_from h a wires)
wire_among h a k w [] at e = absurd (cc)
wire_among h a zero w (x ∷ xs) at e =
    let some : Some x ≡ Some w = at in
    let same : x ≡ w = cc in
    let zeros : a ≡ a + 0 = omega arith in
    subst (λ n. Among n (numbers_from h a (x ∷ xs))) zeros (first_among h a x xs (ap (λ (v : Wire). v.from) same ∙ e))
wire_among h a (suc k) w (x ∷ xs) at e =
    let next : a + 1 + k ≡ a + suc k = omega arith in
    subst (λ n. Among n (numbers_from h a (x ∷ xs))) next
    (among_option (number_from h (a, x)) (a + 1 + k) (numbers_from h (a + 1) xs) (wire_among h (a + 1) k w xs at e))

made_at : {B : Type 0} (f : ℕ → B) (a n k : ℕ) → k < n → slice_get (map f (range_with_len a n)) k ≡ Some (f (a + k))
made_at f a zero k lt = absurd (omega arith)
made_at f a (suc n) zero lt = let e : a ≡ a + 0 = omega arith in ap (λ i. Some (f i)) e
made_at f a (suc n) (suc k) lt = let e : a + 1 + k ≡ a + suc k = omega arith in made_at f (a + 1) n k (omega arith) ∙ ap (λ i. Some (f i)) e

-- the poke of each host
poke_at : (network : Network) (h : ℕ) → h < length network.hosts → slice_get (wires_of network) h ≡ Some (poke_wire network h)
unfolding wires_of
poke_at network h lt =
    let zeros : 0 + h ≡ h = omega arith in
    place_more (map (poke_wire network) (numbers (length network.hosts))) (flat_map (wires_of_link network) (numbers (length network.links))) h (poke_wire network h)
    (made_at (poke_wire network) 0 (length network.hosts) h lt ∙ ap (λ i. Some (poke_wire network i)) zeros)

poke_among : (network : Network) (h : ℕ) → h < length network.hosts → Among h (host_outs network h)
unfolding host_outs
poke_among network h lt =
    let zeros : 0 + h ≡ h = omega arith in
    subst (λ n. Among n (numbers_from h 0 (wires_of network))) zeros (wire_among h 0 h (poke_wire network h) (wires_of network) (poke_at network h lt) refl)

-- the sender of a wire belongs to the host from which it leads
abbrev IsSentBy : Network → ℕ → Option (ℕ × ℕ) → Type 0
IsSentBy network from None = Unit {0}
IsSentBy network from (Some ends) = (interface_at network ends.0).host ≡ from

abbrev IsSent : Network → Wire → Type 0
IsSent network wire = IsSentBy network wire.from wire.interfaces

all_sent : (network : Network) → All (IsSent network) (wires_of network)
unfolding wires_of wires_of_link
all_sent network =
    All-append (IsSent network) (map (poke_wire network) (numbers (length network.hosts))) (flat_map (wires_of_link network) (numbers (length network.links)))
    (All_map (IsSent network) (poke_wire network) (numbers (length network.hosts)) (λ h. tt))
    (All_numbered (IsSent network) (wires_of_link network) 0 (length network.links) (λ l low high.
    All_numbered (IsSent network) (wires_from network l (link_at network l).attached) 0 (length (link_at network l).attached) (λ place from below.
    All_map (IsSent network) (link_wire network l (slice_index (link_at network l).attached place)) (remove (link_at network l).attached place) (λ b. refl))))

module _ (network : Network) (i h : ℕ) (own : (interface_at network i).host ≡ h) where
  abbrev IsAmong : List ℕ → (ℕ × ℕ) → Type 0
  IsAmong outs out = Among out.1 outs

  sent_by : (b : Bool) (a : ℕ) (w : Wire) (ws : List Wire) (ends : ℕ × ℕ) → (ends.0 == i) ≡ b → IsSentBy network w.from (Some ends) → Each (IsAmong (numbers_from h a (w ∷ ws))) (if b then (unwrap_or (interface_address network ends.1) 0, a) ∷ [] else [])
  sent_by false a w ws ends e sent = tt
  sent_by true a w ws ends e sent =
      let same : ends.0 ≡ i = eqb-true ends.0 i e in
      let from : w.from ≡ h = sym sent ∙ ap (λ n. (interface_at network n).host) same ∙ own in
      (first_among h a w ws from, tt)

  sent_among : (o : Option (ℕ × ℕ)) (a : ℕ) (w : Wire) (ws : List Wire) → IsSentBy network w.from o → Each (IsAmong (numbers_from h a (w ∷ ws))) (out_between network i a o)
  sent_among None a w ws sent = tt
  sent_among (Some ends) a w ws sent = sent_by (ends.0 == i) a w ws ends refl sent

  outs_among : (a : ℕ) (wires : List Wire) → All (IsSent network) wires → Each (IsAmong (numbers_from h a wires)) (flat_map (out_by network i) (enumerate_from a wires))
  outs_among a [] all = tt
  outs_among a (w ∷ ws) all =
      each_append (IsAmong (numbers_from h a (w ∷ ws))) (out_between network i a w.interfaces) (flat_map (out_by network i) (enumerate_from (a + 1) ws))
      (sent_among w.interfaces a w ws (All-head (IsSent network) w ws all))
      (each_of (IsAmong (numbers_from h (a + 1) ws)) (IsAmong (numbers_from h a (w ∷ ws))) (flat_map (out_by network i) (enumerate_from (a + 1) ws))
      (λ out has. among_option (number_from h (a, w)) out.1 (numbers_from h (a + 1) ws) has)
      (outs_among (a + 1) ws (All-tail (IsSent network) w ws all)))

  has_outs : HasOuts (host_outs network h) (port_row network i)
  unfolding host_outs outs_of
  has_outs = outs_among 0 (wires_of network) (all_sent network)

-- processes

receivers_wait : (ports : List HostPort) → map is_timed_role (map Receiver ports) ≡ replicate (length ports) false
receivers_wait [] = refl
receivers_wait (port ∷ ports) = ap (λ (bs : List Bool). false ∷ bs) (receivers_wait ports)

clients_timed : (client : ℕ) (rows : List ClientRow) → map is_timed_role (clients_from client rows) ≡ replicate (length rows) true
clients_timed client [] = refl
clients_timed client (row ∷ rows) = ap (λ (bs : List Bool). true ∷ bs) (clients_timed (client + 1) rows)

timed_roles : (rows : HostRows) → map is_timed_role (roles rows) ≡ replicate (length rows.ports) false ++ true ∷ replicate (length rows.clients) true
timed_roles rows =
    map-append is_timed_role (map Receiver rows.ports) (Clock ∷ clients_from 0 rows.clients)
    ∙ ap (λ (bs : List Bool). bs ++ true ∷ map is_timed_role (clients_from 0 rows.clients)) (receivers_wait rows.ports)
    ∙ ap (λ (bs : List Bool). replicate (length rows.ports) false ++ true ∷ bs) (clients_timed 0 rows.clients)

timed_is : (network : Network) (tables : List (List Period)) (h : ℕ) → timed_of network h ≡ map is_timed_role (roles (host_rows_of network tables h))
timed_is network tables h =
    let ports : length (map (port_row network) (ports_of network h)) ≡ port_count network h = length-map (ports_of network h) (port_row network) ∙ length-range_with_len (first_interface network h) (port_count network h) in
    sym (
    timed_roles (host_rows_of network tables h)
    ∙ ap (λ n. replicate n false ++ true ∷ replicate (length (clients_of network h)) true) ports
    ∙ ap (λ n. replicate (port_count network h) false ++ true ∷ replicate n true) (length-clients_of network h))

module _ (network : Network) (is : IsNetwork network) (tables : List (List Period)) (h : ℕ) (there : h < length network.hosts) where
  ins_are : ins_of network h ≡ map (λ (port : HostPort). port.in_channel) (map (port_row network) (ports_of network h)) ++ poke_channel network h ∷ []
  ins_are = ap (λ (ins : List ℕ). ins ++ poke_channel network h ∷ []) (sym (map-map (λ (port : HostPort). port.in_channel) (port_row network) (ports_of network h)))

  pub placed : IsPlaced (host_rows_of network tables h) (ins_of network h) (host_outs network h) (timed_of network h) (replicate (length (timed_of network h)) Forever)
  placed = record {
    in_channels = ins_are;
    rising = subst (EachPair (λ (x y : ℕ). x < y)) (sym (ins_of-range network is h)) (pairs_rise (first_interface network h + h) (port_count network h + 1));
    poke = poke_among network h there;
    ways = each_port network h is (HasOuts (host_outs network h)) (λ i lt own. has_outs network i h own);
    timed_is = timed_is network tables h;
    waits_are = subst (λ (timed : List Bool). AreWaits (host_rows_of network tables h) (roles (host_rows_of network tables h)) (replicate (length timed) Forever)) (sym (timed_is network tables h)) (forever_are (host_rows_of network tables h));
  }

  pub begins_valid : KeepsLimits network → IsHost (first_host (host_rows_of network tables h)) (ins_of network h) (host_outs network h) (timed_of network h) (replicate (length (timed_of network h)) Forever)
  begins_valid keeps =
      first_valid (host_rows_of network tables h) (ins_of network h) (host_outs network h) (timed_of network h) (replicate (length (timed_of network h)) Forever) (in_range network is keeps h there tables) placed
