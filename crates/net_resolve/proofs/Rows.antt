-- The rows of hosts, servers and sessions, and the network of all rows.
use Rattle.std.proofs.Common.{◌≡◌, ℕ, ◌+◌, Bool, List, [], ◌∷◌, ◌++◌, length, map, ◌⊎◌, Option, Some, None, Result, Ok, Err, IfOk, IfErr, ap, ap₂, sym, ◌∙◌, arith, append-nil, append_assoc, length-append, count_by, cond}
use Rattle.std.specs.List.{list_any}
use Rattle.std.proofs.lemmas.List.Sums.{sum_by-cons}
use Rattle.std.specs.Option.{unwrap_or}
use Rattle.sim_base.specs.declared.records.TcpConfig.{TcpConfig}
use Rattle.sim_base.specs.declared.records.ServerRow.{ServerRow}
use Rattle.net_graph.specs.declared.fault.ShapeFault.{ShapeFault}
use Rattle.net_graph.specs.declared.fault.ShapeFault.TheVariants.{Memory}
use Rattle.net_graph.specs.declared.rows.Network.{Network}
use Rattle.net_graph.specs.declared.rows.Gateway.{Gateway}
use Rattle.net_graph.specs.declared.rows.HostRow.{HostRow}
use Rattle.net_graph.specs.declared.rows.InterfaceRow.{InterfaceRow}
use Rattle.net_graph.specs.declared.rows.LinkRow.{LinkRow}
use Rattle.net_graph.specs.declared.rows.SessionRow.{SessionRow}
use Rattle.net_graph.specs.declared.seen.HostSeen.{HostSeen}
use Rattle.net_graph.specs.declared.seen.PatternSeen.{PatternSeen}
use Rattle.net_graph.specs.declared.seen.ServerSeen.{ServerSeen}
use Rattle.net_graph.specs.declared.seen.SessionSeen.{SessionSeen}
use Rattle.net_graph.specs.declared.seen.TrafficSeen.{TrafficSeen}
use Rattle.net_graph.specs.declared.seen.TrafficSeen.TheVariants as traffic
use Rattle.net_graph.specs.declared.seen.Seen.{Seen}
use Rattle.net_graph.specs.ListKeys.{default_tcp}
use Rattle.net_graph.specs.Reads.{Read, then_read}
use Rattle.net_graph.specs.Steps.{is_server}
use Rattle.net_graph.specs.NetworkOf.{Attachment, attachments, attachments_fault, full, gateway_row, host_by_ids, host_rows, interface_by_nhi, client_at, server_at, server_rows, is_ospf, tcp_in, session_row, linked, link_rows, rows_with, rows_of}
use Rattle.net_resolve.specs.declared.build.Parts.{Parts}
use Rattle.net_resolve.specs.declared.hosts.HostSummary.{HostSummary}
use Rattle.net_resolve.specs.Parts.{network_with}
use Rattle.net_resolve.specs.Tables.{host_row}
use Rattle.net_resolve.proofs.Turns.{later, onto, onto_cons, onto_end}

-- hosts

pub host_turn : (f : ℕ) (seen : Seen) (all : List Attachment) (whole : Read (List HostRow)) (before after : List HostRow) (now hs : List HostSeen) (h : HostSeen) (g : Option Gateway) (summary : HostSummary) (row : HostRow) →
    whole ≡ onto before (host_rows f seen all (length before) now) → now ≡ h ∷ hs → gateway_row seen all h h.gateway ≡ Ok g →
    summary.ospf ≡ list_any (is_ospf (length before)) seen.sessions → unwrap_or summary.tcp (default_tcp f) ≡ tcp_in f (length before) seen.sessions → row ≡ host_row f h g summary → after ≡ before ++ row ∷ [] →
    whole ≡ onto after (host_rows f seen all (length after) hs)
host_turn f seen all whole before after now hs h g summary row e is gate ospf tcp made pushed =
    let n = length before in
    let rest = host_rows f seen all (n + 1) hs in
    let longer : length after ≡ n + 1 = ap (λ (rs : List HostRow). length rs) pushed ∙ length-append before (row ∷ []) in
    let make : Option Gateway → Bool → TcpConfig → HostRow = λ gateway o t. record { net = h.net; id = h.id; router = h.router; ospf = o; gateway = gateway; tcp = t } in
    e ∙ (ap (λ (xs : List HostSeen). onto before (host_rows f seen all n xs)) is
    ∙ (ap (λ (r : Read (Option Gateway)). onto before (then_read r (λ gateway. then_read rest (λ rows. Ok (make gateway (list_any (is_ospf n) seen.sessions) (tcp_in f n seen.sessions) ∷ rows))))) gate
    ∙ (ap₂ (λ (o : Bool) (t : TcpConfig). onto before (then_read rest (λ rows. Ok (make g o t ∷ rows)))) (sym ospf) (sym tcp)
    ∙ (ap (λ (r : HostRow). onto before (then_read rest (λ rows. Ok (r ∷ rows)))) (sym made)
    ∙ (onto_cons before row rest
    ∙ (ap (λ (l : List HostRow). onto l rest) (sym pushed)
    ∙ ap (λ (k : ℕ). onto after (host_rows f seen all k hs)) (sym longer)))))))

pub host_stop : (f : ℕ) (seen : Seen) (all : List Attachment) (whole : Read (List HostRow)) (before : List HostRow) (n : ℕ) (now hs : List HostSeen) (h : HostSeen) (fault : ShapeFault) →
    whole ≡ onto before (host_rows f seen all n now) → now ≡ h ∷ hs → gateway_row seen all h h.gateway ≡ Err fault → whole ≡ Err fault
host_stop f seen all whole before n now hs h fault e is gate =
    e ∙ (ap (λ (xs : List HostSeen). onto before (host_rows f seen all n xs)) is
    ∙ ap (λ (r : Read (Option Gateway)). onto before (then_read r (λ gateway. then_read (host_rows f seen all (n + 1) hs) (λ rows.
    Ok (record { net = h.net; id = h.id; router = h.router; ospf = list_any (is_ospf n) seen.sessions; gateway = gateway; tcp = tcp_in f n seen.sessions } ∷ rows))))) gate)

pub host_end : (f : ℕ) (seen : Seen) (all : List Attachment) (whole : Read (List HostRow)) (before : List HostRow) (n : ℕ) (now : List HostSeen) → whole ≡ onto before (host_rows f seen all n now) → now ≡ [] → whole ≡ Ok before
host_end f seen all whole before n now e is = e ∙ (ap (λ (xs : List HostSeen). onto before (host_rows f seen all n xs)) is ∙ onto_end before)

-- patterns

abbrev pub client_read : Seen → PatternSeen → Read ℕ
client_read seen p = client_at (full p.path p.client) (host_by_ids seen (p.path ++ p.client.ids))

abbrev pub server_read : Seen → List Attachment → ℕ → ServerSeen → Read ServerRow
server_read seen all client s = server_at all client (full s.path s.keys.nhi) s.keys.port (interface_by_nhi seen (full s.path s.keys.nhi) s.keys.nhi.interface)

pub pattern_turn : (seen : Seen) (all : List Attachment) (whole : Read (List ServerRow)) (before : List ServerRow) (client next : ℕ) (now more : List TrafficSeen) (p : PatternSeen) →
    whole ≡ onto before (server_rows seen all client now) → now ≡ traffic.Pattern p ∷ more → client_read seen p ≡ Ok next → whole ≡ onto before (server_rows seen all next more)
pattern_turn seen all whole before client next now more p e is here =
    e ∙ (ap (λ (xs : List TrafficSeen). onto before (server_rows seen all client xs)) is
    ∙ ap (λ (r : Read ℕ). onto before (then_read r (λ n. server_rows seen all n more))) here)

pub pattern_stop : (seen : Seen) (all : List Attachment) (whole : Read (List ServerRow)) (before : List ServerRow) (client : ℕ) (now more : List TrafficSeen) (p : PatternSeen) (fault : ShapeFault) →
    whole ≡ onto before (server_rows seen all client now) → now ≡ traffic.Pattern p ∷ more → client_read seen p ≡ Err fault → whole ≡ Err fault
pattern_stop seen all whole before client now more p fault e is here =
    e ∙ (ap (λ (xs : List TrafficSeen). onto before (server_rows seen all client xs)) is
    ∙ ap (λ (r : Read ℕ). onto before (then_read r (λ n. server_rows seen all n more))) here)

pub server_turn : (seen : Seen) (all : List Attachment) (whole : Read (List ServerRow)) (before after : List ServerRow) (client : ℕ) (now more : List TrafficSeen) (s : ServerSeen) (row : ServerRow) →
    whole ≡ onto before (server_rows seen all client now) → now ≡ traffic.Server s ∷ more → server_read seen all client s ≡ Ok row → after ≡ before ++ row ∷ [] → whole ≡ onto after (server_rows seen all client more)
server_turn seen all whole before after client now more s row e is here pushed =
    let rest = server_rows seen all client more in
    e ∙ (ap (λ (xs : List TrafficSeen). onto before (server_rows seen all client xs)) is
    ∙ (ap (λ (r : Read ServerRow). onto before (then_read r (λ x. then_read rest (λ rows. Ok (x ∷ rows))))) here
    ∙ (onto_cons before row rest ∙ ap (λ (l : List ServerRow). onto l rest) (sym pushed))))

pub server_stop : (seen : Seen) (all : List Attachment) (whole : Read (List ServerRow)) (before : List ServerRow) (client : ℕ) (now more : List TrafficSeen) (s : ServerSeen) (fault : ShapeFault) →
    whole ≡ onto before (server_rows seen all client now) → now ≡ traffic.Server s ∷ more → server_read seen all client s ≡ Err fault → whole ≡ Err fault
server_stop seen all whole before client now more s fault e is here =
    e ∙ (ap (λ (xs : List TrafficSeen). onto before (server_rows seen all client xs)) is
    ∙ ap (λ (r : Read ServerRow). onto before (then_read r (λ x. then_read (server_rows seen all client more) (λ rows. Ok (x ∷ rows))))) here)

pub server_end : (seen : Seen) (all : List Attachment) (whole : Read (List ServerRow)) (before : List ServerRow) (client : ℕ) (now : List TrafficSeen) → whole ≡ onto before (server_rows seen all client now) → now ≡ [] → whole ≡ Ok before
server_end seen all whole before client now e is = e ∙ (ap (λ (xs : List TrafficSeen). onto before (server_rows seen all client xs)) is ∙ onto_end before)

-- how many servers are left

pub pattern_count : (total k : ℕ) (now more : List TrafficSeen) (p : PatternSeen) → total ≡ k + count_by is_server now → now ≡ traffic.Pattern p ∷ more → total ≡ k + count_by is_server more
pattern_count total k now more p e is =
    let none : count_by is_server now ≡ 0 + count_by is_server more = ap (count_by is_server) is ∙ sum_by-cons (λ x. cond (is_server x) 1 0) (traffic.Pattern p) more in
    omega (arith, e, none)

pub server_count : (total : ℕ) (before after : List ServerRow) (now more : List TrafficSeen) (s : ServerSeen) (row : ServerRow) → total ≡ length before + count_by is_server now → now ≡ traffic.Server s ∷ more → after ≡ before ++ row ∷ [] →
    total ≡ length after + count_by is_server more
server_count total before after now more s row e is pushed =
    let longer : length after ≡ length before + 1 = ap (λ (rs : List ServerRow). length rs) pushed ∙ length-append before (row ∷ []) in
    let one : count_by is_server now ≡ 1 + count_by is_server more = ap (count_by is_server) is ∙ sum_by-cons (λ x. cond (is_server x) 1 0) (traffic.Server s) more in
    omega (arith, e, longer, one)

-- sessions

pub session_turn : (whole before after : List SessionRow) (now ss : List SessionSeen) (s : SessionSeen) (row : SessionRow) → whole ≡ before ++ map session_row now → now ≡ s ∷ ss → row ≡ session_row s → after ≡ before ++ row ∷ [] → whole ≡ after ++ map session_row ss
session_turn whole before after now ss s row e is made pushed =
    e ∙ (ap (λ (xs : List SessionSeen). before ++ map session_row xs) is
    ∙ (ap (λ (r : SessionRow). before ++ (r ∷ map session_row ss)) (sym made)
    ∙ (sym (append_assoc before (row ∷ []) (map session_row ss)) ∙ ap (λ (l : List SessionRow). l ++ map session_row ss) (sym pushed))))

pub session_end : (whole before : List SessionRow) (now : List SessionSeen) → whole ≡ before ++ map session_row now → now ≡ [] → before ≡ whole
session_end whole before now e is = sym (e ∙ (ap (λ (xs : List SessionSeen). before ++ map session_row xs) is ∙ append-nil before))

-- the network

abbrev network_of_rows : ℕ → Seen → List HostRow → List InterfaceRow → List LinkRow → List SessionRow → List ServerRow → Network
network_of_rows f seen hosts interfaces links sessions servers = record {
  frequency = f;
  patterns = length servers;
  nets = seen.nets;
  hosts = hosts;
  interfaces = interfaces;
  links = links;
  sessions = sessions;
  servers = servers;
}

pub network_is : (f : ℕ) (seen : Seen) (all : List Attachment) (hosts : List HostRow) (servers : List ServerRow) (interfaces : List InterfaceRow) (links : List LinkRow) (sessions : List SessionRow) →
    host_rows f seen all 0 seen.hosts ≡ Ok hosts → server_rows seen all 0 seen.traffic ≡ Ok servers → interfaces ≡ linked all 0 seen.interfaces → links ≡ link_rows all 0 seen.links → sessions ≡ map session_row seen.sessions →
    rows_with f seen all None ≡ Ok (network_of_rows f seen hosts interfaces links sessions servers)
network_is f seen all hosts servers interfaces links sessions h v i l s =
    let ok : Network → Read Network = λ x. Ok x in
    ap (λ (r : Read (List HostRow)). then_read r (λ hs. then_read (server_rows seen all 0 seen.traffic) (λ vs.
    Ok (network_of_rows f seen hs (linked all 0 seen.interfaces) (link_rows all 0 seen.links) (map session_row seen.sessions) vs)))) h
    ∙ (ap (λ (r : Read (List ServerRow)). then_read r (λ vs. Ok (network_of_rows f seen hosts (linked all 0 seen.interfaces) (link_rows all 0 seen.links) (map session_row seen.sessions) vs))) v
    ∙ (ap (λ (x : List InterfaceRow). ok (network_of_rows f seen hosts x (link_rows all 0 seen.links) (map session_row seen.sessions) servers)) (sym i)
    ∙ (ap (λ (x : List LinkRow). ok (network_of_rows f seen hosts interfaces x (map session_row seen.sessions) servers)) (sym l)
    ∙ ap (λ (x : List SessionRow). ok (network_of_rows f seen hosts interfaces links x servers)) (sym s))))

pub hosts_stop : (f : ℕ) (seen : Seen) (all : List Attachment) (fault : ShapeFault) → host_rows f seen all 0 seen.hosts ≡ Err fault → rows_with f seen all None ≡ Err fault
hosts_stop f seen all fault h =
    ap (λ (r : Read (List HostRow)). then_read r (λ hs. then_read (server_rows seen all 0 seen.traffic) (λ vs.
    Ok (network_of_rows f seen hs (linked all 0 seen.interfaces) (link_rows all 0 seen.links) (map session_row seen.sessions) vs)))) h

pub servers_stop : (f : ℕ) (seen : Seen) (all : List Attachment) (hosts : List HostRow) (fault : ShapeFault) → host_rows f seen all 0 seen.hosts ≡ Ok hosts → server_rows seen all 0 seen.traffic ≡ Err fault → rows_with f seen all None ≡ Err fault
servers_stop f seen all hosts fault h v =
    ap (λ (r : Read (List HostRow)). then_read r (λ hs. then_read (server_rows seen all 0 seen.traffic) (λ vs.
    Ok (network_of_rows f seen hs (linked all 0 seen.interfaces) (link_rows all 0 seen.links) (map session_row seen.sessions) vs)))) h
    ∙ ap (λ (r : Read (List ServerRow)). then_read r (λ vs. Ok (network_of_rows f seen hosts (linked all 0 seen.interfaces) (link_rows all 0 seen.links) (map session_row seen.sessions) vs))) v

-- with and without a fault of attachments
pub rows_fine : (f : ℕ) (seen : Seen) (r : Read Network) → attachments_fault [] (attachments seen) ≡ None → rows_with f seen (attachments seen) None ≡ r → rows_of f seen ≡ r
rows_fine f seen r fine e = ap (rows_with f seen (attachments seen)) fine ∙ e

pub rows_stop : (f : ℕ) (seen : Seen) (fault : ShapeFault) → attachments_fault [] (attachments seen) ≡ Some fault → rows_of f seen ≡ Err fault
rows_stop f seen fault e = ap (rows_with f seen (attachments seen)) e

pub parts_end : (f : ℕ) (found : Seen) (r : Result Parts ShapeFault) → attachments_fault [] (attachments found) ≡ None →
    IfOk r (λ p. rows_with f found (attachments found) None ≡ Ok (network_with f found.nets p)) → IfOk r (λ p. rows_of f found ≡ Ok (network_with f found.nets p))
parts_end f found (Ok p) fine e = rows_fine f found (Ok (network_with f found.nets p)) fine e
parts_end f found (Err fault) fine e = tt

pub parts_stop : (f : ℕ) (found : Seen) (r : Result Parts ShapeFault) → attachments_fault [] (attachments found) ≡ None →
    IfErr r (λ e. (e ≡ Memory) ⊎ (rows_with f found (attachments found) None ≡ Err e)) → IfErr r (λ e. (e ≡ Memory) ⊎ (rows_of f found ≡ Err e))
parts_stop f found (Ok p) fine e = tt
parts_stop f found (Err fault) fine e = later (λ h. rows_fine f found (Err fault) fine h) e
