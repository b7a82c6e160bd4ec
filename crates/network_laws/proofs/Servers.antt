-- Servers whose addresses were looked up.
use Rattle.std.proofs.Common.{◌≡◌, ℕ, suc, ◌+◌, ◌<◌, ◌≤◌, Bool, true, false, List, [], ◌∷◌, ◌++◌, length, Option, Some, None, Ok, Err, IfOk, refl, arith, ⊎_elim, inl, ◌⊎◌}
use Rattle.std.specs.Prelude.{All, if◌then◌else◌, IsSome, is_some, sum_by}
use Rattle.std.proofs.lemmas.List.Elements.{All-nil, All-cons, All-head, All-tail}
use Rattle.std.proofs.lemmas.List.Quantifiers.{position-Some}
use Rattle.std.proofs.lemmas.List.Sums.{sum_by-cons}
use Rattle.nhi_address.specs.NhiFields.{NhiFields}
use Rattle.sim_base.specs.declared.records.ServerRow.{ServerRow}
use Rattle.net_graph.specs.declared.fault.ShapeFault.TheVariants.{UnknownNhi}
use Rattle.net_graph.specs.declared.seen.TrafficSeen.{TrafficSeen}
use Rattle.net_graph.specs.declared.seen.TrafficSeen.TheVariants as traffic
use Rattle.net_graph.specs.declared.seen.Seen.{Seen}
use Rattle.net_graph.specs.Names.{same}
use Rattle.net_graph.specs.NetworkOf.{Attachment, full, host_by_ids, interface_by_nhi, attached_at, client_at, server_at, server_rows}
use Rattle.network_laws.proofs.Ranges.{then_if}
use Rattle.network_laws.proofs.Parts.{servers_in, HasPort, IsHeaded}
use Rattle.network_laws.proofs.Attached.{interface_within}

pub record IsServed (seen : Seen) (all : List Attachment) (row : ServerRow) : Type 0 where
  pub client : row.client < length seen.host_names
  pub interface : row.interface < length seen.interfaces
  pub attached : IsSome (attached_at all row.interface)
  pub port : 1 ≤ row.port

client_if : (seen : Seen) (nhi : NhiFields) (ids : List ℕ) (o : Option ℕ) → host_by_ids seen ids ≡ o → IfOk (client_at nhi o) (λ n. n < length seen.host_names)
client_if seen nhi ids None e = tt
client_if seen nhi ids (Some n) e = (position-Some (same ids) seen.host_names n [] e).0

server_by : (seen : Seen) (all : List Attachment) (client interface port : ℕ) (nhi : NhiFields) (b : Bool) → is_some (attached_at all interface) ≡ b → client < length seen.host_names → interface < length seen.interfaces → 1 ≤ port →
    IfOk (if b then Ok (record { client = client; interface = interface; port = port }) else Err (UnknownNhi nhi)) (IsServed seen all)
server_by seen all client interface port nhi true e lt less some = record { client = lt; interface = less; attached = e; port = some }
server_by seen all client interface port nhi false e lt less some = tt

server_if : (seen : Seen) (all : List Attachment) (client port : ℕ) (nhi address : NhiFields) (id o : Option ℕ) → interface_by_nhi seen address id ≡ o → length seen.interfaces ≡ length seen.interface_names → client < length seen.host_names → 1 ≤ port → IfOk (server_at all client nhi port o) (IsServed seen all)
server_if seen all client port nhi address id None e long lt some = tt
server_if seen all client port nhi address id (Some interface) e long lt some =
    server_by seen all client interface port nhi (is_some (attached_at all interface)) refl lt (interface_within seen address id interface long e) some

abbrev pub ServersLooked : Seen → List Attachment → List TrafficSeen → List ServerRow → Type 0
ServersLooked seen all xs rows = (length rows ≡ sum_by servers_in xs) × All (IsServed seen all) rows

client_there : (count client : ℕ) → (client < count) ⊎ ⊥ → client < count
client_there count client first = ⊎_elim (λ lt. lt) (λ none. absurd none) first

-- the client of the servers is there, or a pattern comes first
pub server_rows_if : (seen : Seen) (all : List Attachment) (client : ℕ) (xs : List TrafficSeen) → length seen.interfaces ≡ length seen.interface_names → All HasPort xs → (client < length seen.host_names) ⊎ IsHeaded xs → IfOk (server_rows seen all client xs) (ServersLooked seen all xs)
server_rows_if seen all client [] long ports first = (refl, All-nil (IsServed seen all))
server_rows_if seen all client (traffic.Pattern p ∷ more) long ports first =
    then_if (λ n. n < length seen.host_names) (ServersLooked seen all (traffic.Pattern p ∷ more)) (client_at (full p.path p.client) (host_by_ids seen (p.path ++ p.client.ids))) (λ next. server_rows seen all next more)
    (client_if seen (full p.path p.client) (p.path ++ p.client.ids) (host_by_ids seen (p.path ++ p.client.ids)) refl)
    (λ next lt. server_rows_if seen all next more long (All-tail HasPort (traffic.Pattern p) more ports) (inl lt))
server_rows_if seen all client (traffic.Server s ∷ more) long ports first =
    let lt : client < length seen.host_names = client_there (length seen.host_names) client first in
    then_if (IsServed seen all) (ServersLooked seen all (traffic.Server s ∷ more)) (server_at all client (full s.path s.keys.nhi) s.keys.port (interface_by_nhi seen (full s.path s.keys.nhi) s.keys.nhi.interface)) _
    (server_if seen all client s.keys.port (full s.path s.keys.nhi) (full s.path s.keys.nhi) s.keys.nhi.interface (interface_by_nhi seen (full s.path s.keys.nhi) s.keys.nhi.interface) refl long lt (All-head HasPort (traffic.Server s) more ports)) (λ row served.
    then_if (ServersLooked seen all more) (ServersLooked seen all (traffic.Server s ∷ more)) (server_rows seen all client more) _ (server_rows_if seen all client more long (All-tail HasPort (traffic.Server s) more ports) (inl lt)) (λ rows looked.
    ((let rest = looked.0 in let whole : sum_by servers_in (traffic.Server s ∷ more) ≡ 1 + sum_by servers_in more = sum_by-cons servers_in (traffic.Server s) more in let long : length (row ∷ rows) ≡ suc (length rows) = refl in omega arith), All-cons (IsServed seen all) row rows served looked.1)))
