-- A network without a fault keeps its limits.
use Rattle.std.proofs.Common.{◌≡◌, ℕ, ◌+◌, ◌*◌, ◌^◌, ◌<◌, ◌≤◌, Bool, true, false, cond, ◌||◌, ◌==◌, ltb, List, [], ◌∷◌, length, map, get_or, slice_index, Option, Some, None, refl, subst, arith, if◌then◌else◌}
use Rattle.std.specs.Prelude.{codes}
use Rattle.std.specs.List.{All, list_any, filter_map, cons_option, flat_map, remove, range_with_len}
use Rattle.std.proofs.lemmas.List.Folds.{list_any_at}
use Rattle.std.proofs.lemmas.List.Elements.{All-nil, All-cons, All-head, All-tail, All-append, All-from_get_or}
use Rattle.std.proofs.lemmas.Bool.{ltb-false}
use Rattle.sim_base.specs.declared.records.ClientRow.{ClientRow}
use Rattle.sim_base.specs.Traffic.{IsClient, ticks_of}
use Rattle.net_iface.specs.InterfaceFields.{IsRated}
use Rattle.ssf_model.specs.Reaction.{LongestDelay}
use Rattle.ssf_model.specs.Drafts.{MostChannels}
use Rattle.net_graph.specs.declared.rows.Network.{Network}
use Rattle.net_graph.specs.declared.rows.HostRow.{HostRow}
use Rattle.net_graph.specs.declared.rows.InterfaceRow.{InterfaceRow}
use Rattle.net_graph.specs.declared.rows.SessionRow.{SessionRow}
use Rattle.net_graph.specs.declared.rows.SessionKind.{SessionKind}
use Rattle.net_graph.specs.declared.rows.SessionKind.TheVariants.{Silent, Ospf, Tcp, Client, Server}
use Rattle.net_graph.specs.declared.fault.ShapeFault.{ShapeFault}
use Rattle.net_graph.specs.declared.fault.ShapeFault.TheVariants.{TooMany, NoSpace, DelayTooLong, TooManyChannels}
use Rattle.net_graph.specs.Networks.{IsNetwork, IsKind, IsSession, no_host, no_interface, numbers, interface_at, link_at, attachment_of}
use Rattle.net_layout.specs.Addresses.{addresses_needed}
use Rattle.net_layout.specs.Wiring.{first_channel, poke_wire, link_wire, wires_from, wires_of_link, wires_of}
use Rattle.net_layout.specs.Sessions.{client_in, client_of, clients_of, servers_of, client_count, server_count}
use Rattle.net_layout.specs.Faults.{has_many_transfers, has_many_routes, has_no_space, has_long_delay, has_many_channels, first_fault, is_long, is_long_way, is_slow, is_late_client, is_late_kind}
use Rattle.net_layout.specs.Limits.{IsPromptClient, IsPromptWire, KeepsLimits}
use Rattle.net_layout.proofs.Graphs.{All_numbered}
use Rattle.net_layout.proofs.Finding.{some_at}
use Rattle.net_layout.proofs.Joining.{All_map}
use Rattle.net_layout.proofs.HostSessions.{length-clients_of, length-servers_of}

-- no test found a fault

abbrev chain : Bool → Bool → Bool → Bool → Bool → Option ShapeFault
chain t r s d c =
    if t then Some (TooMany (codes "transfers"))
    else if r then Some (TooMany (codes "routes"))
    else if s then Some NoSpace
    else if d then Some DelayTooLong
    else if c then Some TooManyChannels
    else None

record AllFail (t r s d c : Bool) : Type 0 where
  transfers : t ≡ false
  routes : r ≡ false
  space : s ≡ false
  delay : d ≡ false
  channels : c ≡ false

all_fail : (t r s d c : Bool) → chain t r s d c ≡ None → AllFail t r s d c
all_fail true r s d c e = let h : ◌≡◌ {A = Option ShapeFault} (Some (TooMany (codes "transfers"))) None = e in cc
all_fail false true s d c e = let h : ◌≡◌ {A = Option ShapeFault} (Some (TooMany (codes "routes"))) None = e in cc
all_fail false false true d c e = let h : ◌≡◌ {A = Option ShapeFault} (Some NoSpace) None = e in cc
all_fail false false false true c e = let h : ◌≡◌ {A = Option ShapeFault} (Some DelayTooLong) None = e in cc
all_fail false false false false true e = let h : ◌≡◌ {A = Option ShapeFault} (Some TooManyChannels) None = e in cc
all_fail false false false false false e = record { transfers = refl; routes = refl; space = refl; delay = refl; channels = refl }

all_tests : (network : Network) → first_fault network ≡ None → AllFail (has_many_transfers network) (has_many_routes network) (has_no_space network) (has_long_delay network) (has_many_channels network)
all_tests network e = all_fail (has_many_transfers network) (has_many_routes network) (has_no_space network) (has_long_delay network) (has_many_channels network) e

or_first : (a b : Bool) → (a || b) ≡ false → a ≡ false
or_first true b e = e
or_first false b e = refl

or_second : (a b : Bool) → (a || b) ≡ false → b ≡ false
or_second true b e = cc
or_second false b e = e

not_true : (b : Bool) → (b ≡ true → ⊥) → b ≡ false
not_true true never = absurd (never refl)
not_true false never = refl

none_of : {X : Type 0} (p : X → Bool) (xs : List X) (i : ℕ) (d : X) → list_any p xs ≡ false → i < length xs → p (get_or xs i d) ≡ false
none_of p xs i d none lt = not_true (p (get_or xs i d)) (λ passes. let some = list_any_at p xs i d lt passes in cc)

none_at : (p : ℕ → Bool) (n k : ℕ) → list_any p (range_with_len 0 n) ≡ false → k < n → p k ≡ false
none_at p n k none lt = not_true (p k) (λ passes. let some = some_at p n k lt passes in cc)

-- a client session whose test fails is prompt

abbrev no_session : SessionRow
no_session = record { host = 0; kind = Silent }

prompt_client : (client : ClientRow) → IsClient client → is_late_client client ≡ false → IsPromptClient client
prompt_client client ranges e = record {
  ranges = ranges;
  start = ltb-false LongestDelay (client.start + client.window) (or_first (is_long (client.start + client.window)) (is_long client.interval) e);
  interval = ltb-false LongestDelay client.interval (or_second (is_long (client.start + client.window)) (is_long client.interval) e);
}

one_client : (kind : SessionKind) (same : Bool) (rest : List ClientRow) → IsKind kind → is_late_kind kind ≡ false → All IsPromptClient rest → All IsPromptClient (cons_option (cond same (client_in kind) None) rest)
one_client (Client row) true rest is prompt all = All-cons IsPromptClient row rest (prompt_client row is prompt) all
one_client (Client row) false rest is prompt all = all
one_client Silent true rest is prompt all = all
one_client Silent false rest is prompt all = all
one_client Ospf true rest is prompt all = all
one_client Ospf false rest is prompt all = all
one_client Tcp true rest is prompt all = all
one_client Tcp false rest is prompt all = all
one_client (Server port) true rest is prompt all = all
one_client (Server port) false rest is prompt all = all

-- the parts of the test of delays

module _ (network : Network) (short : has_long_delay network ≡ false) where
  no_slow : list_any (is_slow network) network.interfaces ≡ false
  unfolding has_long_delay
  no_slow = or_first (list_any (is_slow network) network.interfaces) (list_any (λ (s : SessionRow). is_late_kind s.kind) network.sessions) (or_first (list_any (is_slow network) network.interfaces || list_any (λ (s : SessionRow). is_late_kind s.kind) network.sessions) (list_any (λ (h : HostRow). is_long (2 * h.tcp.msl)) network.hosts) short)

  no_late : list_any (λ (s : SessionRow). is_late_kind s.kind) network.sessions ≡ false
  unfolding has_long_delay
  no_late = or_second (list_any (is_slow network) network.interfaces) (list_any (λ (s : SessionRow). is_late_kind s.kind) network.sessions) (or_first (list_any (is_slow network) network.interfaces || list_any (λ (s : SessionRow). is_late_kind s.kind) network.sessions) (list_any (λ (h : HostRow). is_long (2 * h.tcp.msl)) network.hosts) short)

  no_lasting : list_any (λ (h : HostRow). is_long (2 * h.tcp.msl)) network.hosts ≡ false
  unfolding has_long_delay
  no_lasting = or_second (list_any (is_slow network) network.interfaces || list_any (λ (s : SessionRow). is_late_kind s.kind) network.sessions) (list_any (λ (h : HostRow). is_long (2 * h.tcp.msl)) network.hosts) short

  not_slow : (i : ℕ) → i < length network.interfaces → is_slow network (interface_at network i) ≡ false
  not_slow i lt = none_of (is_slow network) network.interfaces i no_interface no_slow lt

  -- the latency of an attached interface and the delay of its link
  pub way_short : (i : ℕ) (at : ℕ × ℕ) → i < length network.interfaces → attachment_of network i ≡ Some at → (interface_at network i).latency + (link_at network at.0).delay ≤ LongestDelay
  way_short i at lt e =
      let row : InterfaceRow = interface_at network i in
      let way = or_first (is_long_way network row row.link) (is_long (ticks_of row.bitrate network.frequency (row.buffer + 1))) (not_slow i lt) in
      ltb-false LongestDelay (row.latency + (link_at network at.0).delay) (subst (λ (o : Option (ℕ × ℕ)). is_long_way network row o ≡ false) e way)

  drain_short : (i : ℕ) → i < length network.interfaces → ticks_of (interface_at network i).bitrate network.frequency ((interface_at network i).buffer + 1) ≤ LongestDelay
  drain_short i lt =
      let row : InterfaceRow = interface_at network i in
      ltb-false LongestDelay (ticks_of row.bitrate network.frequency (row.buffer + 1)) (or_second (is_long_way network row row.link) (is_long (ticks_of row.bitrate network.frequency (row.buffer + 1))) (not_slow i lt))

  pub lifetimes_short : All (λ (host : HostRow). 2 * host.tcp.msl ≤ LongestDelay) network.hosts
  lifetimes_short = All-from_get_or (λ (host : HostRow). 2 * host.tcp.msl ≤ LongestDelay) network.hosts no_host (λ h lt.
      ltb-false LongestDelay (2 * (get_or network.hosts h no_host).tcp.msl) (none_of (λ (host : HostRow). is_long (2 * host.tcp.msl)) network.hosts h no_host no_lasting lt))

  module _ (is : IsNetwork network) where
    pub rated : All (λ (i : InterfaceRow). IsRated i.bitrate network.frequency i.buffer) network.interfaces
    rated = All-from_get_or (λ (i : InterfaceRow). IsRated i.bitrate network.frequency i.buffer) network.interfaces no_interface (λ i lt.
        let row = is.interfaces i lt in
        record {
          some_bitrate = row.bitrate.0;
          most_bitrate = row.bitrate.1;
          some_frequency = is.frequency.0;
          most_frequency = is.frequency.1;
          some_buffer = row.buffer.0;
          most_buffer = row.buffer.1;
          short = drain_short i lt;
        })

    -- each wire of a link
    link_prompt : (l : ℕ) → l < length network.links → All IsPromptWire (wires_of_link network l)
    unfolding wires_of_link
    link_prompt l lt =
        let row = is.links l lt in
        All_numbered IsPromptWire (wires_from network l (link_at network l).attached) 0 (length (link_at network l).attached) (λ k low high.
        let place : k < length (link_at network l).attached = omega arith in
        let there : slice_index (link_at network l).attached k < length network.interfaces = row.there k 0 place in
        let way = way_short (slice_index (link_at network l).attached k) (l, k) there (row.attached k place) in
        All_map IsPromptWire (link_wire network l (slice_index (link_at network l).attached k)) (remove (link_at network l).attached k) (λ b. way))

    pub wires_prompt : All IsPromptWire (wires_of network)
    unfolding wires_of
    wires_prompt =
        All-append IsPromptWire (map (poke_wire network) (numbers (length network.hosts))) (flat_map (wires_of_link network) (numbers (length network.links)))
        (All_map IsPromptWire (poke_wire network) (numbers (length network.hosts)) (λ h. omega arith))
        (All_numbered IsPromptWire (wires_of_link network) 0 (length network.links) (λ l low high. link_prompt l (omega arith)))

    clients_in : (h : ℕ) (xs : List SessionRow) → All (IsSession network) xs → All (λ (s : SessionRow). is_late_kind s.kind ≡ false) xs → All IsPromptClient (filter_map (client_of h) xs)
    clients_in h [] all prompt = All-nil IsPromptClient
    clients_in h (s ∷ ss) all prompt =
        one_client s.kind (s.host == h) (filter_map (client_of h) ss) (All-head (IsSession network) s ss all).kind (All-head (λ (s : SessionRow). is_late_kind s.kind ≡ false) s ss prompt)
        (clients_in h ss (All-tail (IsSession network) s ss all) (All-tail (λ (s : SessionRow). is_late_kind s.kind ≡ false) s ss prompt))

    pub clients_prompt : (h : ℕ) → All IsPromptClient (clients_of network h)
    unfolding clients_of
    clients_prompt h =
        clients_in h network.sessions is.sessions (All-from_get_or (λ (s : SessionRow). is_late_kind s.kind ≡ false) network.sessions no_session (λ i lt.
        none_of (λ (s : SessionRow). is_late_kind s.kind) network.sessions i no_session no_late lt))

pub few_channels : (network : Network) → first_fault network ≡ None → first_channel network + length (wires_of network) ≤ MostChannels
unfolding has_many_channels
few_channels network none = ltb-false MostChannels (first_channel network + length (wires_of network)) (all_tests network none).channels

few_addresses : (network : Network) → has_no_space network ≡ false → addresses_needed network ≤ 2 ^ 24
unfolding has_no_space
few_addresses network e = ltb-false (2 ^ 24) (addresses_needed network) e

few_transfers : (network : Network) (h : ℕ) → has_many_transfers network ≡ false → h < length network.hosts → length (clients_of network h) * length (servers_of network h) ≤ 50000
unfolding has_many_transfers
few_transfers network h e lt =
    rw (length-clients_of network h, length-servers_of network h)
    (ltb-false 50000 (client_count network h * server_count network h) (none_at (λ k. ltb 50000 (client_count network k * server_count network k)) (length network.hosts) h e lt))

pub keeps_limits : (network : Network) → IsNetwork network → first_fault network ≡ None → KeepsLimits network
keeps_limits network is none =
    let tests = all_tests network none in
    record {
      transfers = λ h lt. few_transfers network h tests.transfers lt;
      addresses = few_addresses network tests.space;
      rates = rated network tests.delay is;
      clients = clients_prompt network tests.delay is;
      lifetimes = lifetimes_short network tests.delay;
      wires = wires_prompt network tests.delay is;
      channels = few_channels network none;
    }
