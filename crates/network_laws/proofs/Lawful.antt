-- The network of every resolved tree is lawful.
use Rattle.std.proofs.Common.{◌≡◌, ◌≢◌, ℕ, ◌+◌, ◌<◌, ◌≤◌, List, [], ◌∷◌, ◌++◌, length, map, get_or, Option, Some, None, Ok, Err, IfOk, refl, ap, sym, ◌∙◌, arith, subst, inr, eqb, true, codes}
use Rattle.std.specs.Prelude.{All, EachIndex, IsSome}
use Rattle.std.specs.List.{AllPairs, list_any}
use Rattle.std.specs.List.Sorted.{IsNonDecreasingBy}
use Rattle.std.specs.Option.{MatchOption, option_map}
use Rattle.std.proofs.lemmas.List.{get_or-map, get_or_default, length-map}
use Rattle.std.proofs.lemmas.List.Elements.{All-map, All-weaker}
use Rattle.std.proofs.lemmas.List.Folds.{Any-from_list_any}
use Rattle.std.proofs.lemmas.Map.Made.{IsDistinct-from_AllPairs}
use Rattle.std.proofs.lemmas.Map.Steps.{length-le_from_distinct_below}
use Rattle.std.proofs.lemmas.Bool.{eqb-true}
use Rattle.std.proofs.lemmas.Bool.Decides.{Decides-eqb}
use Rattle.std.proofs.lemmas.Result.{IfOk-at_ok}
use Rattle.dml_tree.specs.Attributes.{Attributes}
use Rattle.dml_tree.specs.TreeView.{attributes}
use Rattle.sim_base.specs.declared.records.ServerRow.{ServerRow}
use Rattle.ip_blocks.specs.declared.layout.LinkSize.{LinkSize}
use Rattle.ip_blocks.specs.declared.layout.NetParent.{NetParent}
use Rattle.ip_blocks.specs.Blocks.{IsLayout}
use Rattle.net_graph.specs.declared.fault.ShapeFault.{ShapeFault}
use Rattle.net_graph.specs.declared.rows.Network.{Network}
use Rattle.net_graph.specs.declared.rows.NetRow.{NetRow}
use Rattle.net_graph.specs.declared.rows.HostRow.{HostRow}
use Rattle.net_graph.specs.declared.rows.Gateway.{Gateway}
use Rattle.net_graph.specs.declared.rows.InterfaceRow.{InterfaceRow}
use Rattle.net_graph.specs.declared.rows.LinkRow.{LinkRow}
use Rattle.net_graph.specs.declared.list_keys.SessionKeys.{SessionKeys}
use Rattle.net_graph.specs.declared.list_keys.SessionKeys.TheVariants as keys
use Rattle.net_graph.specs.declared.seen.LinkSeen.{LinkSeen}
use Rattle.net_graph.specs.declared.seen.Seen.{Seen}
use Rattle.net_graph.specs.Keys.{lists_of, first_of}
use Rattle.net_graph.specs.ListKeys.{frequency_of}
use Rattle.net_graph.specs.Reads.{Read}
use Rattle.net_graph.specs.Visits.{walk}
use Rattle.net_graph.specs.WalkedNets.{seen_by}
use Rattle.net_graph.specs.Steps.{walked, empty}
use Rattle.net_graph.specs.Networks.{IsNetwork, IsSmall, IsGateway, IsHost, IsInterface, IsLink, IsKind, IsSession, IsServer, IsId, no_host, no_interface, no_link, no_net, link_size, net_parent, link_sizes, net_parents, attachment_of, link_of}
use Rattle.net_graph.specs.Networks as rows
use Rattle.net_graph.specs.NetworkOf.{network_of, network_or, rows_of, rows_with, host_rows, server_rows, linked, link_rows, attached_at, attached_numbers, session_row, kind_of, Attachment, attachments, attachments_fault}
use Rattle.net_graph.proofs.AllSeen.{walk_is}
use Rattle.network_laws.proofs.Ranges.{then_if, IsFrequency, frequency_if, IsSessionKeys, IsLinkKeys}
use Rattle.network_laws.proofs.Places.{Spot, net_spot, link_spot, AreApart}
use Rattle.network_laws.proofs.Hosts.{IsRanged, host_name, as_many, interface_at_name}
use Rattle.network_laws.proofs.Growing.{IsMet}
use Rattle.network_laws.proofs.Along.{walk_met}
use Rattle.network_laws.proofs.Attached.{Attaches, attaches, no_link_seen}
use Rattle.network_laws.proofs.Numbered.{EachFrom, each_from, each_at, with_link, length-linked, linked_at, with_attached, length-link_rows, link_row_at, downs_are}
use Rattle.network_laws.proofs.Gateways.{IsOut, IsLooked, IsNumbered, HostsLooked, host_rows_if}
use Rattle.network_laws.proofs.Servers.{IsServed, ServersLooked, server_rows_if}

-- the network of what was seen, with these hosts and servers
abbrev pub made : ℕ → Seen → List Attachment → List HostRow → List ServerRow → Network
made frequency seen all hosts servers = record {
  frequency = frequency;
  patterns = length servers;
  nets = seen.nets;
  hosts = hosts;
  interfaces = linked all 0 seen.interfaces;
  links = link_rows all 0 seen.links;
  sessions = map session_row seen.sessions;
  servers = servers;
}

-- all that is known when the rows are made
record Known (f : ℕ) (seen : Seen) (all : List Attachment) (hosts : List HostRow) (servers : List ServerRow) : Type 0 where
  frequency : IsFrequency f
  met : IsMet f seen
  attaches : Attaches (length seen.links) (length seen.interfaces) all
  hosts_looked : HostsLooked f seen all 0 seen.hosts hosts
  servers_looked : ServersLooked seen all seen.traffic servers

-- how many there are

as_many_hosts : (f : ℕ) (seen : Seen) → IsMet f seen → length seen.hosts ≡ length seen.host_names
as_many_hosts f seen met = sym (ap (λ (l : List (List ℕ)). length l) met.hosts.names_are ∙ length-map seen.hosts host_name)

small : (f : ℕ) (seen : Seen) (all : List Attachment) (hosts : List HostRow) (servers : List ServerRow) → Known f seen all hosts servers → IsSmall (made f seen all hosts servers)
small f seen all hosts servers known =
    let met = known.met in
    let nets = met.nets.same_length in
    let few_nets = met.nets.few in
    let host_count = as_many_hosts f seen met in
    let few_hosts = met.hosts.few in
    let looked = known.hosts_looked.0 in
    let interfaces = as_many seen.interfaces seen.interface_names seen.host_names met.interfaces in
    let few_interfaces = met.interfaces.few in
    let rows = length-linked all 0 seen.interfaces in
    let links = length-link_rows all 0 seen.links in
    let few_links = met.nets.few_links in
    let sessions : length (map session_row seen.sessions) ≡ length seen.sessions = length-map seen.sessions session_row in
    let few_sessions = met.sessions.few in
    let servers_count = known.servers_looked.0 in
    let count = met.traffic.count in
    let few_servers = met.traffic.few in
    let downs = downs_are all 0 seen.links in
    let downs_count = met.links.count in
    let few_downs = met.links.few in
    record {
      nets = omega arith;
      hosts = omega arith;
      interfaces = omega arith;
      links = omega arith;
      sessions = omega arith;
      servers = omega arith;
      downs = omega arith;
    }

-- the layout

net_spots : (nets : List NetRow) → map (λ (net : NetParent). (net.parent, net.order)) (map net_parent nets) ≡ map net_spot nets
net_spots [] = refl
net_spots (net ∷ nets) = ap (λ (l : List Spot). net_spot net ∷ l) (net_spots nets)

link_spots : (all : List Attachment) (n : ℕ) (ls : List LinkSeen) → map (λ (link : LinkSize). (Some link.net, link.order)) (map link_size (link_rows all n ls)) ≡ map link_spot ls
link_spots all n [] = refl
link_spots all n (l ∷ ls) = ap (λ (x : List Spot). link_spot l ∷ x) (link_spots all (n + 1) ls)

layout : (f : ℕ) (seen : Seen) (all : List Attachment) (hosts : List HostRow) (servers : List ServerRow) → Known f seen all hosts servers → IsLayout (link_sizes (made f seen all hosts servers)) (net_parents (made f seen all hosts servers))
layout f seen all hosts servers known =
    let met = known.met in
    let nets = met.nets.same_length in
    let parents : length (map net_parent seen.nets) ≡ length seen.nets = length-map seen.nets net_parent in
    let links = length-link_rows all 0 seen.links in
    record {
      parents = λ i lt. subst (λ (net : NetParent). MatchOption net.parent (i ≡ 0) (λ p. p < i)) (sym (get_or-map net_parent seen.nets i no_net (record { parent = None; order = 0 }) (omega arith))) (met.nets.parents i (omega arith));
      nets_there = All-map (λ (link : LinkSize). link.net < length (map net_parent seen.nets)) link_size (link_rows all 0 seen.links) (λ k d lt.
          subst (λ (row : LinkRow). row.net < length (map net_parent seen.nets)) (sym (link_row_at all 0 seen.links k k d no_link_seen (omega arith) (omega arith)))
          (let there : (get_or seen.links k no_link_seen).net < length seen.net_names = met.nets.within k no_link_seen (omega arith) in omega arith));
      orders_differ = subst AreApart (sym (ap (λ (l : List Spot). l ++ map (λ (link : LinkSize). (Some link.net, link.order)) (map link_size (link_rows all 0 seen.links))) (net_spots seen.nets) ∙ ap (λ (l : List Spot). map net_spot seen.nets ++ l) (link_spots all 0 seen.links))) met.nets.apart;
    }

-- interfaces

interface_row_is : (f : ℕ) (seen : Seen) (all : List Attachment) (hosts : List HostRow) (servers : List ServerRow) (i : ℕ) → i < length seen.interfaces → rows.interface_at (made f seen all hosts servers) i ≡ with_link all i (get_or seen.interfaces i no_interface)
interface_row_is f seen all hosts servers i lt = linked_at all 0 seen.interfaces i i no_interface no_interface (omega arith) lt

link_row_is : (f : ℕ) (seen : Seen) (all : List Attachment) (hosts : List HostRow) (servers : List ServerRow) (l : ℕ) → l < length seen.links → rows.link_at (made f seen all hosts servers) l ≡ with_attached all l (get_or seen.links l no_link_seen)
link_row_is f seen all hosts servers l lt = link_row_at all 0 seen.links l l no_link no_link_seen (omega arith) lt

attachment_is : (f : ℕ) (seen : Seen) (all : List Attachment) (hosts : List HostRow) (servers : List ServerRow) (i : ℕ) → i < length seen.interfaces → attachment_of (made f seen all hosts servers) i ≡ attached_at all i
attachment_is f seen all hosts servers i lt = ap (λ (row : InterfaceRow). row.link) (interface_row_is f seen all hosts servers i lt)

interface_lawful : (f : ℕ) (seen : Seen) (all : List Attachment) (hosts : List HostRow) (servers : List ServerRow) → Known f seen all hosts servers → (i : ℕ) → i < length seen.interfaces → IsInterface (made f seen all hosts servers) i (with_link all i (get_or seen.interfaces i no_interface))
interface_lawful f seen all hosts servers known i lt =
    let met = known.met in
    let long = as_many seen.interfaces seen.interface_names seen.host_names met.interfaces in
    let row = get_or seen.interfaces i no_interface in
    let own = interface_at_name seen.interfaces seen.interface_names seen.host_names i no_interface met.interfaces (omega arith) in
    let host_lt : row.host < length seen.host_names = own.0 in
    let looked = known.hosts_looked.0 in
    let host_count = as_many_hosts f seen met in
    let links = length-link_rows all 0 seen.links in
    let ranged : IsRanged row = met.interfaces.ranged i no_interface lt in
    let bitrate = ranged.bitrate in
    let buffer = ranged.buffer in
    let cost = ranged.cost in
    record {
      host = omega arith;
      id = ranged.id;
      bitrate = (bitrate.0, omega arith);
      latency = ranged.latency;
      buffer = (buffer.0, omega arith);
      cost = (cost.0, omega arith);
      link = λ at e. (let there : at.0 < length seen.links = known.attaches.link i at e in omega arith);
      place = λ at e. subst (λ (l : LinkRow). at.1 < length l.attached) (sym (link_row_is f seen all hosts servers at.0 (known.attaches.link i at e))) (known.attaches.place i at e);
      attached = λ at e. subst (λ (l : LinkRow). get_or l.attached at.1 0 ≡ i) (sym (link_row_is f seen all hosts servers at.0 (known.attaches.link i at e))) (known.attaches.attached i at e);
    }

interfaces_lawful : (f : ℕ) (seen : Seen) (all : List Attachment) (hosts : List HostRow) (servers : List ServerRow) → Known f seen all hosts servers →
    EachIndex (linked all 0 seen.interfaces) (λ i. IsInterface (made f seen all hosts servers) i (rows.interface_at (made f seen all hosts servers) i))
interfaces_lawful f seen all hosts servers known i lt =
    let count = length-linked all 0 seen.interfaces in
    let less : i < length seen.interfaces = omega arith in
    subst (IsInterface (made f seen all hosts servers) i) (sym (interface_row_is f seen all hosts servers i less)) (interface_lawful f seen all hosts servers known i less)

host_by_host : (f : ℕ) (seen : Seen) (all : List Attachment) → IsMet f seen → IsNonDecreasingBy (λ (i : InterfaceRow). i.host) (linked all 0 seen.interfaces)
host_by_host f seen all met i j d le lt =
    let count = length-linked all 0 seen.interfaces in
    let a : (get_or (linked all 0 seen.interfaces) i d).host ≡ (get_or seen.interfaces i no_interface).host = ap (λ (row : InterfaceRow). row.host) (linked_at all 0 seen.interfaces i i d no_interface (omega arith) (omega arith)) in
    let b : (get_or (linked all 0 seen.interfaces) j d).host ≡ (get_or seen.interfaces j no_interface).host = ap (λ (row : InterfaceRow). row.host) (linked_at all 0 seen.interfaces j j d no_interface (omega arith) (omega arith)) in
    let rise : (get_or seen.interfaces i no_interface).host ≤ (get_or seen.interfaces j no_interface).host = met.interfaces.rise i j no_interface le (omega arith) in
    omega arith

-- links

different_default : (xs : List ℕ) (i j d : ℕ) → i < length xs → j < length xs → get_or xs i d ≡ get_or xs j d → get_or xs i 0 ≡ get_or xs j 0
different_default xs i j d lt less e = get_or_default xs i 0 d lt ∙ (e ∙ get_or_default xs j d 0 less)

below_any : (count q : ℕ) (xs : List ℕ) → All (λ i. i < count) xs → list_any (eqb q) xs ≡ true → q < count
below_any count q xs there any =
    let has = Any-from_list_any (eqb q) xs any in
    let same : q ≡ has.1 = eqb-true q has.1 has.4 in
    let at : get_or xs has.0 has.1 ≡ has.1 = has.3 in
    let lt : get_or xs has.0 has.1 < count = there has.0 has.1 has.2 in
    omega arith

-- different interfaces are no more than there are
few_attached : (count l : ℕ) (all : List Attachment) (xs : List ℕ) → All (λ i. i < count) xs → ((k : ℕ) → k < length xs → attached_at all (get_or xs k 0) ≡ Some (l, k)) → length xs ≤ count
few_attached count l all xs there back =
    let apart : AllPairs (λ a b. a ≢ b) xs = λ i j d lt less e.
    (let same : get_or xs i 0 ≡ get_or xs j 0 = different_default xs i j d (omega arith) less e in
    let places : (let p : Option (ℕ × ℕ) = Some (l, i) in p ≡ Some (l, j)) = sym (back i (omega arith)) ∙ (ap (attached_at all) same ∙ back j less) in
    let pairs : (let p : ℕ × ℕ = (l, i) in p ≡ (l, j)) = cc in
    let one : i ≡ j = ap (λ (p : ℕ × ℕ). p.1) pairs in
    omega arith) in
    length-le_from_distinct_below xs count (IsDistinct-from_AllPairs Decides-eqb xs apart) (λ q any. below_any count q xs there any)

link_lawful : (f : ℕ) (seen : Seen) (all : List Attachment) (hosts : List HostRow) (servers : List ServerRow) → Known f seen all hosts servers → (l : ℕ) → l < length seen.links → IsLink (made f seen all hosts servers) l (with_attached all l (get_or seen.links l no_link_seen))
link_lawful f seen all hosts servers known l lt =
    let met = known.met in
    let is : IsLinkKeys (get_or seen.links l no_link_seen).keys = met.links.keys l no_link_seen lt in
    let few_interfaces = met.interfaces.few in
    let long = as_many seen.interfaces seen.interface_names seen.host_names met.interfaces in
    let count = length-linked all 0 seen.interfaces in
    let there = known.attaches.there l in
    let few : length (attached_numbers l all) ≤ length seen.interfaces = few_attached (length seen.interfaces) l all (attached_numbers l all) there (λ k less. known.attaches.back l k lt less) in
    record {
      delay = is.delay;
      priority = is.priority;
      some = known.attaches.some l lt;
      few = omega arith;
      there = All-weaker (λ (i : ℕ). i < length seen.interfaces) (λ (i : ℕ). i < length (linked all 0 seen.interfaces)) (λ i less. omega arith) (attached_numbers l all) there;
      attached = λ k less. attachment_is f seen all hosts servers (get_or (attached_numbers l all) k 0) (there k 0 less) ∙ known.attaches.back l k lt less;
      downs = is.downs;
    }

links_lawful : (f : ℕ) (seen : Seen) (all : List Attachment) (hosts : List HostRow) (servers : List ServerRow) → Known f seen all hosts servers →
    EachIndex (link_rows all 0 seen.links) (λ l. IsLink (made f seen all hosts servers) l (rows.link_at (made f seen all hosts servers) l))
links_lawful f seen all hosts servers known l lt =
    let count = length-link_rows all 0 seen.links in
    let less : l < length seen.links = omega arith in
    subst (IsLink (made f seen all hosts servers) l) (sym (link_row_is f seen all hosts servers l less)) (link_lawful f seen all hosts servers known l less)

-- hosts

gateway_lawful : (f : ℕ) (seen : Seen) (all : List Attachment) (hosts : List HostRow) (servers : List ServerRow) (number : ℕ) (g : Gateway) → IsOut seen all number g → IsGateway (made f seen all hosts servers) number g
gateway_lawful f seen all hosts servers number g out =
    let count = length-linked all 0 seen.interfaces in
    let lt = out.there in
    record {
      there = omega arith;
      own = ap (λ (row : InterfaceRow). row.host) (interface_row_is f seen all hosts servers g.interface out.there) ∙ out.own;
      next_there = λ n e. (let less : n < length seen.interfaces = out.next_there n e in omega arith);
      next_attached = λ n e. subst IsSome (sym (attachment_is f seen all hosts servers n (out.next_there n e))) (out.next_attached n e);
      next_on_link = λ n e. ap (option_map (λ (at : ℕ × ℕ). at.0)) (attachment_is f seen all hosts servers n (out.next_there n e))
          ∙ (out.next_on_link n e ∙ sym (ap (option_map (λ (at : ℕ × ℕ). at.0)) (attachment_is f seen all hosts servers g.interface out.there)));
    }

hosts_lawful : (f : ℕ) (seen : Seen) (all : List Attachment) (hosts : List HostRow) (servers : List ServerRow) → Known f seen all hosts servers → EachIndex hosts (λ h. IsHost (made f seen all hosts servers) h (get_or hosts h no_host))
hosts_lawful f seen all hosts servers known h lt =
    let looked : IsLooked f seen all h (get_or hosts h no_host) = each_at (IsLooked f seen all) 0 hosts h h no_host known.hosts_looked.1 (omega arith) lt in
    let nets = known.met.nets.same_length in
    let net = looked.net in
    record {
      net = omega arith;
      id = looked.id;
      gateway = λ g e. gateway_lawful f seen all hosts servers h g (looked.gateway g e);
      tcp = looked.tcp;
    }

-- sessions and servers

kind_is : (f : ℕ) (k : SessionKeys) → IsSessionKeys f k → IsKind (kind_of k)
kind_is f keys.Silent is = tt
kind_is f keys.Ospf is = tt
kind_is f (keys.Tcp settings) is = tt
kind_is f (keys.Client row) is = is
kind_is f (keys.Server port) is = is

sessions_lawful : (f : ℕ) (seen : Seen) (all : List Attachment) (hosts : List HostRow) (servers : List ServerRow) → Known f seen all hosts servers → All (IsSession (made f seen all hosts servers)) (map session_row seen.sessions)
sessions_lawful f seen all hosts servers known =
    let met = known.met in
    let looked = known.hosts_looked.0 in
    let host_count = as_many_hosts f seen met in
    All-map (IsSession (made f seen all hosts servers)) session_row seen.sessions (λ k d lt.
    record {
      host = (let less : (get_or seen.sessions k d).host < length seen.host_names = met.sessions.within k d lt in omega arith);
      kind = kind_is f (get_or seen.sessions k d).keys (met.sessions.keys k d lt);
    })

servers_lawful : (f : ℕ) (seen : Seen) (all : List Attachment) (hosts : List HostRow) (servers : List ServerRow) → Known f seen all hosts servers → All (IsServer (made f seen all hosts servers)) servers
servers_lawful f seen all hosts servers known =
    let met = known.met in
    let looked = known.hosts_looked.0 in
    let host_count = as_many_hosts f seen met in
    let count = length-linked all 0 seen.interfaces in
    All-weaker (IsServed seen all) (IsServer (made f seen all hosts servers)) (λ row served.
    let client = served.client in
    let interface = served.interface in
    record {
      client = omega arith;
      interface = omega arith;
      attached = subst IsSome (sym (attachment_is f seen all hosts servers row.interface served.interface)) served.attached;
      port = served.port;
    }) servers known.servers_looked.1

-- the whole

made_lawful : (f : ℕ) (seen : Seen) (all : List Attachment) (hosts : List HostRow) (servers : List ServerRow) → Known f seen all hosts servers → IsNetwork (made f seen all hosts servers)
made_lawful f seen all hosts servers known =
    let frequency = known.frequency in
    record {
      small = small f seen all hosts servers known;
      frequency = (frequency.0, omega arith);
      layout = layout f seen all hosts servers known;
      ids = known.met.nets.ids;
      hosts = hosts_lawful f seen all hosts servers known;
      host_by_host = host_by_host f seen all known.met;
      interfaces = interfaces_lawful f seen all hosts servers known;
      links = links_lawful f seen all hosts servers known;
      sessions = sessions_lawful f seen all hosts servers known;
      servers = servers_lawful f seen all hosts servers known;
    }

numbered : (f : ℕ) (seen : Seen) → IsMet f seen → EachFrom (IsNumbered seen) 0 seen.hosts
numbered f seen met = each_from (IsNumbered seen) 0 seen.hosts (λ i m d e lt.
    let here : m ≡ i = omega arith in
    let host_count = as_many_hosts f seen met in
    record {
      net = met.hosts.within i d lt;
      id = met.hosts.ids i d lt;
      within = omega arith;
      named = ap (λ (n : ℕ). get_or seen.host_names n []) here ∙ (ap (λ (l : List (List ℕ)). get_or l i []) met.hosts.names_are ∙ get_or-map host_name seen.hosts i d [] lt);
    })

rows_by : (f : ℕ) (seen : Seen) (o : Option ShapeFault) → attachments_fault [] (attachments seen) ≡ o → IsFrequency f → IsMet f seen → IfOk (rows_with f seen (attachments seen) o) IsNetwork
rows_by f seen (Some fault) e is met = tt
rows_by f seen None e is met =
    let long = as_many seen.interfaces seen.interface_names seen.host_names met.interfaces in
    let attached = attaches seen long (All-weaker (λ (l : LinkSeen). IsLinkKeys l.keys) (λ (l : LinkSeen). 1 ≤ length l.keys.attached) (λ l k. k.some) seen.links met.links.keys) e in
    then_if (HostsLooked f seen (attachments seen) 0 seen.hosts) IsNetwork (host_rows f seen (attachments seen) 0 seen.hosts) _ (host_rows_if f seen (attachments seen) 0 seen.hosts is met (numbered f seen met)) (λ hosts hosts_looked.
    then_if (ServersLooked seen (attachments seen) seen.traffic) IsNetwork (server_rows seen (attachments seen) 0 seen.traffic) _ (server_rows_if seen (attachments seen) 0 seen.traffic long met.traffic.ports (inr met.traffic.headed)) (λ servers servers_looked.
    made_lawful f seen (attachments seen) hosts servers (record { frequency = is; met = met; attaches = attached; hosts_looked = hosts_looked; servers_looked = servers_looked })))

seen_if : (r : Read Seen) (P : Seen → Type 0) → ((w : Seen) → r ≡ Ok w → P w) → IfOk r P
seen_if (Ok w) P h = h w refl
seen_if (Err fault) P h = tt

seen_met : (f : ℕ) → IsFrequency f → (tree : Attributes) → IfOk (seen_by f (walk f tree)) (IsMet f)
seen_met f is tree = subst (λ (r : Read Seen). IfOk r (IsMet f)) (walk_is f (walk f tree)) (seen_if (walked f empty (walk f tree)) (IsMet f) (λ w e. walk_met f is tree w e))

pub net_lawful : (o : Option Attributes) → IfOk (network_or o) IsNetwork
net_lawful None = tt
net_lawful (Some tree) =
    then_if IsFrequency IsNetwork (frequency_of (attributes tree)) _ (frequency_if (attributes tree)) (λ f is.
    then_if (IsMet f) IsNetwork (seen_by f (walk f tree)) (rows_of f) (seen_met f is tree) (λ seen met.
    rows_by f seen (attachments_fault [] (attachments seen)) refl is met))

pub network_lawful : (tree : Attributes) (network : Network) → network_of (attributes tree) ≡ Ok network → IsNetwork network
network_lawful tree network e = IfOk-at_ok IsNetwork e (net_lawful (first_of (lists_of (codes "Net") (attributes tree))))
