-- The rows of a host are in range, and what it sends by.
use Rattle.std.proofs.Common.{◌≡◌, ℕ, zero, suc, ◌+◌, ◌<◌, ◌≤◌, List, [], ◌∷◌, length, map, get_or, refl, sym, subst, arith, if◌then◌else◌}
use Rattle.std.specs.Prelude.{nat_le}
use Rattle.std.specs.List.{All, range_with_len}
use Rattle.std.proofs.lemmas.List.Elements.{All-head, All-tail}
use Rattle.sim_base.specs.declared.records.ClientRow.{ClientRow}
use Rattle.sim_base.specs.Traffic.{IsTcp}
use Rattle.spf_routes.specs.declared.graph.Period.{Period}
use Rattle.spf_routes.specs.declared.graph.Route.{Route}
use Rattle.net_iface.specs.InterfaceFields.{IsRated}
use Rattle.tcp_rules.specs.Segments.{IsTimedTcp}
use Rattle.ssf_model.specs.Reaction.{Each}
use Rattle.net_graph.specs.declared.rows.Network.{Network}
use Rattle.net_graph.specs.Networks.{IsNetwork, no_interface, host_at, interface_at}
use Rattle.net_layout.specs.Arms.{first_interface}
use Rattle.net_layout.specs.Ports.{port_count, ports_of}
use Rattle.net_layout.specs.Sessions.{clients_of}
use Rattle.net_layout.specs.HostRoutes.{AreHostRoutes, AreTables, routes_since, routes_at as routes_of}
use Rattle.net_layout.specs.Limits.{IsPromptClient, KeepsLimits}
use Rattle.net_layout.proofs.HostPorts.{first_interface_up, port_host}
use Rattle.net_layout.proofs.HostTables.{routes_now}
use Rattle.host_rules.specs.declared.rows.HostPort.{HostPort}
use Rattle.host_rules.specs.Hosts.{Stack}
use Rattle.host_rules.specs.Sending.{routes_among, routes_at}
use Rattle.host_rules.specs.Limits.{IsTimedClient, AreRows}
use Rattle.net_hosts.specs.HostRowsOf.{port_row, host_rows_of}

-- what holds of each number in range holds of each thing that is made of one
pub each_made : {B : Type 0} (P : B → Type 0) (f : ℕ → B) (a n : ℕ) → ((i : ℕ) → a ≤ i → i < a + n → P (f i)) → Each P (map f (range_with_len a n))
each_made P f a zero each = tt
each_made P f a (suc n) each = (each a (omega arith) (omega arith), each_made P f (a + 1) n (λ i low high. each i (omega arith) (omega arith)))

pub each_all : {A : Type 0} (P : A → Type 0) (xs : List A) → All P xs → Each P xs
each_all P [] all = tt
each_all P (x ∷ xs) all = (All-head P x xs all, each_all P xs (All-tail P x xs all))

timed_client : (client : ClientRow) → IsPromptClient client → IsTimedClient client
timed_client client prompt = record { ranges = prompt.ranges; start = prompt.start; interval = prompt.interval }

-- what holds of each interface of a host holds of each of its ports
pub each_port : (network : Network) (h : ℕ) → IsNetwork network → (P : HostPort → Type 0) → ((i : ℕ) → i < length network.interfaces → (interface_at network i).host ≡ h → P (port_row network i)) → Each P (map (port_row network) (ports_of network h))
each_port network h is P each =
    let up = first_interface_up network h (h + 1) (omega arith) in
    each_made P (port_row network) (first_interface network h) (port_count network h) (λ i low high.
    let below : i < first_interface network (h + 1) = omega arith in
    let own = port_host network is i h low below in
    each i own.0 own.1)

module _ (network : Network) (is : IsNetwork network) (keeps : KeepsLimits network) (h : ℕ) (there : h < length network.hosts) where
  same_frequency : (host_at network h).tcp.frequency ≡ network.frequency
  same_frequency = (is.hosts h there).tcp.frequency_is

  timed_tcp : IsTimedTcp (host_at network h).tcp
  timed_tcp = record {
    settings = subst (λ f. IsTcp f (host_at network h).tcp) (sym same_frequency) (is.hosts h there).tcp;
    some_frequency = omega (arith, same_frequency, is.frequency.0);
    most_frequency = omega (arith, same_frequency, is.frequency.1);
  }

  rated : Each (λ (port : HostPort). IsRated port.bitrate (host_at network h).tcp.frequency port.buffer) (map (port_row network) (ports_of network h))
  rated = each_port network h is (λ (port : HostPort). IsRated port.bitrate (host_at network h).tcp.frequency port.buffer) (λ i lt own.
      subst (λ f. IsRated (interface_at network i).bitrate f (interface_at network i).buffer) (sym same_frequency) (keeps.rates i no_interface lt))

  pub in_range : (tables : List (List Period)) → AreRows (host_rows_of network tables h)
  in_range tables = record {
    tcp = timed_tcp;
    ports = rated;
    clients = each_all IsTimedClient (clients_of network h) (λ k d lt. timed_client (get_or (clients_of network h) k d) (keeps.clients h k d lt));
    transfers = keeps.transfers h there;
  }

-- the two ways to tell the routes are one
same_routes : (routes : List Route) (periods : List Period) (now : ℕ) → routes_among routes periods now ≡ routes_since routes periods now
same_routes routes [] now = refl
same_routes routes (period ∷ periods) now = same_routes (if nat_le period.from now then period.routes else routes) periods now

pub routes_by : (network : Network) (tables : List (List Period)) (h now : ℕ) (stack : Stack) → routes_at (host_rows_of network tables h) stack now ≡ routes_of (get_or tables h []) now
unfolding routes_at
routes_by network tables h now stack = same_routes [] (get_or tables h []) now

pub routes_are : (network : Network) (tables : List (List Period)) (h now : ℕ) (stack : Stack) → AreTables network tables → h < length network.hosts → AreHostRoutes network h now (routes_at (host_rows_of network tables h) stack now)
routes_are network tables h now stack are there =
    subst (AreHostRoutes network h now) (sym (routes_by network tables h now stack)) (routes_now network h now (get_or tables h []) (are.each h there))
