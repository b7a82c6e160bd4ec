-- The rows of a host, made of its parts.
use Rattle.std.proofs.Common.{◌≡◌, ℕ, ◌+◌, ◌≤◌, List, [], ◌∷◌, ◌++◌, map, get_or, set, refl, sym, ap, ◌∙◌, zero-add, arith}
use Rattle.std.specs.List.{range_with_len, All}
use Rattle.std.proofs.lemmas.List.{get_or-set_other}
use Rattle.std.proofs.lemmas.List.Elements.{All-filter}
use Rattle.std.proofs.lemmas.List.FromFn.{map-range_with_len_more}
use Rattle.sim_base.specs.declared.records.ServerRow.{ServerRow}
use Rattle.spf_routes.specs.declared.graph.Period.{Period}
use Rattle.net_graph.specs.declared.rows.Network.{Network}
use Rattle.net_graph.specs.Networks.{IsNetwork, IsServer, host_at}
use Rattle.net_layout.specs.Wiring.{poke_channel}
use Rattle.net_layout.specs.Ports.{ports_of}
use Rattle.net_layout.specs.Sessions.{clients_of, servers_of, server_addresses, listens_of}
use Rattle.sim_base.specs.declared.records.ClientRow.{ClientRow}
use Rattle.sim_base.specs.declared.records.TcpConfig.{TcpConfig}
use Rattle.host_rules.specs.declared.rows.HostPort.{HostPort}
use Rattle.host_rules.specs.declared.rows.HostRows.{HostRows}
use Rattle.net_hosts.specs.HostRowsOf.{port_row, host_rows_of}

-- the servers of a host are servers of the network
pub servers_are : (network : Network) (h : ℕ) → IsNetwork network → All (IsServer network) (servers_of network h)
unfolding servers_of
servers_are network h is = All-filter _ (IsServer network) network.servers is.servers

-- tables that have the same periods of a host give it the same rows
pub rows_same : (network : Network) (a b : List (List Period)) (h : ℕ) → get_or a h [] ≡ get_or b h [] → host_rows_of network a h ≡ host_rows_of network b h
rows_same network a b h e = ap (λ (periods : List Period). record (host_rows_of network b h) { routes = periods }) e

-- the rows of the next host
pub rows_more : (network : Network) (tables left : List (List Period)) (rows now : List HostRows) (h : ℕ) (next : HostRows) → rows ≡ map (host_rows_of network tables) (range_with_len 0 h) → next ≡ host_rows_of network left h → get_or left h [] ≡ get_or tables h [] → now ≡ rows ++ next ∷ [] → now ≡ map (host_rows_of network tables) (range_with_len 0 (h + 1))
rows_more network tables left rows now h next e is same more =
    more
    ∙ ap (λ (r : HostRows). rows ++ r ∷ []) (is ∙ rows_same network left tables h same)
    ∙ ap (λ (l : List HostRows). l ++ host_rows_of network tables h ∷ []) e
    ∙ sym (map-range_with_len_more (host_rows_of network tables) 0 h h (zero-add h))

-- the periods of the hosts behind one stay
pub periods_stay : (tables now : List (List Period)) (h : ℕ) → ((k : ℕ) → h ≤ k → get_or now k [] ≡ get_or tables k []) → (k : ℕ) → h + 1 ≤ k → get_or (set now h []) k [] ≡ get_or tables k []
periods_stay tables now h same k le = let other : k ≡ h → ⊥ = λ e. omega arith in get_or-set_other now h k [] [] other ∙ same k (omega arith)

-- the rows of a host, field by field
pub rows_made : (network : Network) (tables : List (List Period)) (h : ℕ) (ports : List HostPort) (routes : List Period) (clients : List ClientRow) (servers : List ServerRow) (addresses : List (ℕ × ℕ)) (listens : List ℕ) (tcp : TcpConfig) (poke : ℕ)
    → ports ≡ map (port_row network) (ports_of network h) → routes ≡ get_or tables h [] → clients ≡ clients_of network h → servers ≡ servers_of network h → addresses ≡ server_addresses network h → listens ≡ listens_of network h → tcp ≡ (host_at network h).tcp → poke ≡ poke_channel network h
    → ◌≡◌ {A = HostRows} (record { number = h; ports = ports; routes = routes; clients = clients; servers = servers; addresses = addresses; listens = listens; tcp = tcp; poke_in = poke; poke_out = h }) (host_rows_of network tables h)
rows_made network tables h ports routes clients servers addresses listens tcp poke a b c d e f g i = rw (a, b, c, d, e, f, g, i) refl
