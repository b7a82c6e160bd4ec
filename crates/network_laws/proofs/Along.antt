-- What is kept along the walk over the tree of a Net.
use Rattle.std.proofs.Common.{◌≡◌, ℕ, zero, suc, ◌+◌, ◌-◌, ◌<◌, ◌≤◌, Bool, true, false, not, ◌&&◌, ◌||◌, List, [], ◌∷◌, ◌++◌, length, Option, Some, None, Ok, Err, refl, ap, sym, ◌∙◌, arith, length-append, append-nil, subst, codes}
use Rattle.std.specs.Prelude.{All, if◌then◌else◌}
use Rattle.std.specs.List.{flat_map, range_with_len}
use Rattle.std.proofs.lemmas.List.Elements.{All-nil, All-cons, All-push, All-head, All-tail}
use Rattle.std.proofs.lemmas.Result.{IfOk-at_ok}
use Rattle.dml_tree.specs.Attributes.{Attributes, none, plain, list}
use Rattle.dml_tree.specs.TreeView.{attributes}
use Rattle.nhi_address.specs.declared.nhi.IdRange.{IdRange}
use Rattle.net_graph.specs.declared.fault.ShapeFault.{ShapeFault}
use Rattle.net_graph.specs.declared.list_keys.GatewayKeys.{GatewayKeys}
use Rattle.net_graph.specs.declared.list_keys.InterfaceKeys.{InterfaceKeys}
use Rattle.net_graph.specs.declared.list_keys.ServerKeys.{ServerKeys}
use Rattle.net_graph.specs.declared.seen.Seen.{Seen}
use Rattle.net_graph.specs.Keys.{lists_of}
use Rattle.net_graph.specs.ListKeys.{is_text, ids_at, interface_keys, gateway_of, session_keys, client_of, server_keys, link_keys}
use Rattle.net_graph.specs.Reads.{Read, then_read}
use Rattle.net_graph.specs.Visits.{Visit, unread, top_net, nested_net, a_host, an_interface, a_session, a_link, a_pattern, a_server, on_read, ids_in, session_visits, graph_visits, read_interface_list, interface_copy, interface_visits, host_part, host_parts, read_host_list, host_copy, host_visits, server_visits, pattern_visits, traffic_visits, net_copy, net_visits, copies, children, other_visits, part_visits, net_parts, walk}
use Rattle.net_graph.specs.Steps.{visited, walked, or_fault, fault_in, grown_by, empty, with_top, with_net, with_host}
use Rattle.net_graph.specs.Networks.{IsId}
use Rattle.network_laws.proofs.Ranges.{AreIds, IsFrequency, IsInterfaceKeys, IsSessionKeys, ids_if, interface_keys_if, session_keys_if, server_keys_if, link_keys_if}
use Rattle.network_laws.proofs.Names.{IsAt, at_new}
use Rattle.network_laws.proofs.Places.{AreBelow, below_more}
use Rattle.network_laws.proofs.Hosts.{IsLast}
use Rattle.network_laws.proofs.Growing.{IsMet, Kept, new_name, met_top, met_with_net, met_with_host, met_with_interface, met_with_session, met_with_pattern, met_with_server, met_with_link, kept_then, kept_all, kept_at, kept_net, kept_link, kept_inner, below_inner, below_with_net, below_with_link, below_top}

-- visits one after another

split_by : (f : ℕ) (r : Read Seen) (w' : Seen) (xs ys : List Visit) → ((m : Seen) → walked f m (xs ++ ys) ≡ Ok w' → (u : Seen) × (walked f m xs ≡ Ok u) × (walked f u ys ≡ Ok w')) →
    then_read r (λ m. walked f m (xs ++ ys)) ≡ Ok w' → (u : Seen) × (then_read r (λ m. walked f m xs) ≡ Ok u) × (walked f u ys ≡ Ok w')
split_by f (Ok m) w' xs ys next e = next m e
split_by f (Err fault) w' xs ys next e = let no : ⊥ = cc in absurd no

pub split : (f : ℕ) (w w' : Seen) (xs ys : List Visit) → walked f w (xs ++ ys) ≡ Ok w' → (u : Seen) × (walked f w xs ≡ Ok u) × (walked f u ys ≡ Ok w')
unfolding walked
split f w w' [] ys e = (w, refl, e)
split f w w' (x ∷ xs) ys e = split_by f (visited f w x) w' xs ys (λ m here. split f m w' xs ys here) e

first_by : (f : ℕ) (o : Option ShapeFault) (g w' : Seen) (vs : List Visit) → then_read (or_fault o g) (λ m. walked f m vs) ≡ Ok w' → (o ≡ None) × (walked f g vs ≡ Ok w')
first_by f None g w' vs e = (refl, e)
first_by f (Some fault) g w' vs e = let no : ⊥ = cc in absurd no

pub first_visit : (f : ℕ) (w w' : Seen) (v : Visit) (vs : List Visit) → walked f w (v ∷ vs) ≡ Ok w' → (fault_in f w v ≡ None) × (walked f (grown_by f w v) vs ≡ Ok w')
unfolding visited walked
first_visit f w w' v vs e = first_by f (fault_in f w v) (grown_by f w v) w' vs e

no_visit : (f : ℕ) (w w' : Seen) → walked f w [] ≡ Ok w' → w ≡ w'
unfolding walked
no_visit f w w' e = cc

one_visit : (f : ℕ) (w w' : Seen) (v : Visit) → walked f w (v ∷ []) ≡ Ok w' → (fault_in f w v ≡ None) × (grown_by f w v ≡ w')
one_visit f w w' v e = let first = first_visit f w w' v [] e in (first.0, no_visit f (grown_by f w v) w' first.1)

after_read : {A : Type 0} (f : ℕ) (w w' : Seen) (r : Read A) (next : A → List Visit) → walked f w (on_read r next) ≡ Ok w' → (x : A) × (r ≡ Ok x) × (walked f w (next x) ≡ Ok w')
after_read f w w' (Ok x) next e = (x, refl, e)
after_read f w w' (Err fault) next e = let first = (first_visit f w w' (unread fault) [] e).0 in let no : ⊥ = cc in absurd no

each_of : {A : Type 0} (f : ℕ) (I : Seen → Type 0) (P : A → Type 0) (g : A → List Visit) (xs : List A) → All P xs → ((x : A) (w w' : Seen) → P x → I w → walked f w (g x) ≡ Ok w' → I w') →
    (w w' : Seen) → I w → walked f w (flat_map g xs) ≡ Ok w' → I w'
each_of f I P g [] all keeps w w' here e = subst I (no_visit f w w' e) here
each_of f I P g (x ∷ xs) all keeps w w' here e =
    let s = split f w w' (g x) (flat_map g xs) e in
    each_of f I P g xs (All-tail P x xs all) keeps s.0 w' (keeps x w s.0 (All-head P x xs all) here s.1) s.2

any : {A : Type 0} (xs : List A) → All (λ (x : A). Unit {0}) xs
any xs = λ k d lt. tt

either_way : {R : Type 0} (f : ℕ) (w w' : Seen) (b : Bool) (xs ys : List Visit) → (walked f w xs ≡ Ok w' → R) → (walked f w ys ≡ Ok w' → R) → walked f w (if b then xs else ys) ≡ Ok w' → R
either_way f w w' true xs ys h g e = h e
either_way f w w' false xs ys h g e = g e

ids_are : (id n : ℕ) → id + n ≤ 2147483648 → All IsId (range_with_len id n)
ids_are id zero le = All-nil IsId
ids_are id (suc n) le = All-cons IsId id (range_with_len (id + 1) n) (omega arith) (ids_are (id + 1) n (omega arith))

ids_in_are : (ids : IdRange) → AreIds ids → All IsId (ids_in ids)
ids_in_are ids are = let rise = are.rise in let last = are.last in ids_are ids.from (ids.to + 1 - ids.from) (omega arith)

-- what is neither a Net nor a link leaves both as they were
record InNet (f : ℕ) (start w : Seen) : Type 0 where
  met : IsMet f w
  nets : w.nets ≡ start.nets
  names : w.net_names ≡ start.net_names
  links : w.links ≡ start.links

record InHost (f : ℕ) (start : Seen) (h : List ℕ) (w : Seen) : Type 0 where
  inside : InNet f start w
  last : IsLast h w.host_names

-- a host's parts

session_keeps : (f : ℕ) (start : Seen) (h : List ℕ) → IsFrequency f → (x : Attributes) (w w' : Seen) → Unit {0} → InHost f start h w → walked f w (session_visits f x) ≡ Ok w' → InHost f start h w'
session_keeps f start h is x w w' any here e =
    let read = after_read f w w' (session_keys f (attributes x)) (λ keys. a_session keys ∷ []) e in
    let one = one_visit f w w' (a_session read.0) read.2 in
    let keys : IsSessionKeys f read.0 = IfOk-at_ok (IsSessionKeys f) read.1 (session_keys_if f (attributes x) is) in
    subst (InHost f start h) one.1 (record {
      inside = record { met = met_with_session f w h read.0 here.inside.met here.last keys one.0; nets = here.inside.nets; names = here.inside.names; links = here.inside.links };
      last = here.last;
    })

interface_keeps : (f : ℕ) (start : Seen) (h : List ℕ) (keys : InterfaceKeys) → IsInterfaceKeys keys → (id : ℕ) (w w' : Seen) → IsId id → InHost f start h w → walked f w (interface_copy h keys id) ≡ Ok w' → InHost f start h w'
interface_keeps f start h keys are id w w' is_id here e =
    let one = one_visit f w w' (an_interface h id keys) e in
    subst (InHost f start h) one.1 (record {
      inside = record { met = met_with_interface f w h id keys here.inside.met here.last is_id are one.0; nets = here.inside.nets; names = here.inside.names; links = here.inside.links };
      last = here.last;
    })

both_read : {A B : Type 0} (r : Read A) (q : Read B) (p : A × B) → then_read {B = A × B} r (λ x. then_read {B = A × B} q (λ y. Ok (x, y))) ≡ Ok p → (r ≡ Ok p.0) × (q ≡ Ok p.1)
both_read {A} {B} (Ok x) (Ok y) p e = let same : (let z : A × B = (x, y) in z ≡ p) = cc in (ap (λ (z : A × B). let s : Read A = Ok z.0 in s) same, ap (λ (z : A × B). let s : Read B = Ok z.1 in s) same)
both_read (Ok x) (Err fault) p e = let no : ⊥ = cc in absurd no
both_read (Err fault) q p e = let no : ⊥ = cc in absurd no

interfaces_keep : (f : ℕ) (start : Seen) (h : List ℕ) (x : Attributes) (w w' : Seen) → InHost f start h w → walked f w (interface_visits f h x) ≡ Ok w' → InHost f start h w'
interfaces_keep f start h x w w' here e =
    let read = after_read f w w' (read_interface_list f (attributes x)) (λ p. flat_map (interface_copy h p.1) (ids_in p.0)) e in
    let both = both_read (ids_at (attributes x)) (interface_keys f (attributes x)) read.0 read.1 in
    let ids : AreIds read.0.0 = IfOk-at_ok AreIds both.0 (ids_if (attributes x)) in
    let keys : IsInterfaceKeys read.0.1 = IfOk-at_ok IsInterfaceKeys both.1 (interface_keys_if f (attributes x)) in
    each_of f (InHost f start h) IsId (interface_copy h read.0.1) (ids_in read.0.0) (ids_in_are read.0.0 ids) (interface_keeps f start h read.0.1 keys) w w' here read.2

host_part_keeps : (f : ℕ) (start : Seen) (h : List ℕ) → IsFrequency f → (met : Bool) (key : List ℕ) (x : Attributes) (w w' : Seen) → InHost f start h w → walked f w (host_part f h met key x) ≡ Ok w' → InHost f start h w'
host_part_keeps f start h is met key x w w' here e =
    either_way f w w' (is_text (codes "interface") key) (interface_visits f h x) _ (interfaces_keep f start h x w w' here)
    (either_way f w w' (is_text (codes "graph") key && not met) (graph_visits f x) []
    (each_of f (InHost f start h) (λ (y : Attributes). Unit {0}) (session_visits f) (lists_of (codes "ProtocolSession") (attributes x)) (any (lists_of (codes "ProtocolSession") (attributes x))) (session_keeps f start h is) w w' here)
    (λ h'. subst (InHost f start h) (no_visit f w w' h') here)) e

host_parts_keep : (f : ℕ) (start : Seen) (h : List ℕ) → IsFrequency f → (x : Attributes) (met : Bool) (w w' : Seen) → InHost f start h w → walked f w (host_parts f h met x) ≡ Ok w' → InHost f start h w'
host_parts_keep f start h is none met w w' here e = subst (InHost f start h) (no_visit f w w' e) here
host_parts_keep f start h is (plain key place text rest) met w w' here e = host_parts_keep f start h is rest met w w' here e
host_parts_keep f start h is (list key place inner rest) met w w' here e =
    let s = split f w w' (host_part f h met key inner) (host_parts f h (met || is_text (codes "graph") key) rest) e in
    host_parts_keep f start h is rest (met || is_text (codes "graph") key) s.0 w' (host_part_keeps f start h is met key inner w s.0 here s.1) s.2

-- hosts

host_keeps : (f : ℕ) (start : Seen) → IsFrequency f → 0 < length start.net_names → (router : Bool) (net : List ℕ) (x : Attributes) (gateway : Option GatewayKeys) (id : ℕ) (w w' : Seen) → IsId id → InNet f start w →
    walked f w (host_copy f router net x gateway id) ≡ Ok w' → InNet f start w'
host_keeps f start is some router net x gateway id w w' is_id here e =
    let first = first_visit f w w' (a_host net id router gateway) (host_parts f (net ++ id ∷ []) false x) e in
    let long : length w.net_names ≡ length start.net_names = ap (λ (l : List (List ℕ)). length l) here.names in
    let there : InHost f start (net ++ id ∷ []) (with_host w net id router gateway) = record {
      inside = record { met = met_with_host f w net id router gateway here.met (omega arith) is_id first.0; nets = here.nets; names = here.names; links = here.links };
      last = record { before = w.host_names; hosts_are = refl };
    } in
    (host_parts_keep f start (net ++ id ∷ []) is x false (with_host w net id router gateway) w' there first.1).inside

hosts_keep : (f : ℕ) (start : Seen) → IsFrequency f → 0 < length start.net_names → (router : Bool) (net : List ℕ) (x : Attributes) (w w' : Seen) → InNet f start w → walked f w (host_visits f router net x) ≡ Ok w' → InNet f start w'
hosts_keep f start is some router net x w w' here e =
    let read = after_read f w w' (read_host_list (attributes x)) (λ p. flat_map (host_copy f router net x p.1) (ids_in p.0)) e in
    let both = both_read (ids_at (attributes x)) (gateway_of (attributes x)) read.0 read.1 in
    let ids : AreIds read.0.0 = IfOk-at_ok AreIds both.0 (ids_if (attributes x)) in
    each_of f (InNet f start) IsId (host_copy f router net x read.0.1) (ids_in read.0.0) (ids_in_are read.0.0 ids) (host_keeps f start is some router net x read.0.1) w w' here read.2

-- traffic

record InTraffic (f : ℕ) (start w : Seen) : Type 0 where
  inside : InNet f start w
  some : 0 < length w.traffic

server_keeps : (f : ℕ) (start : Seen) (net : List ℕ) (x : Attributes) (w w' : Seen) → Unit {0} → InTraffic f start w → walked f w (server_visits net x) ≡ Ok w' → InTraffic f start w'
server_keeps f start net x w w' any here e =
    let read = after_read f w w' (server_keys (attributes x)) (λ keys. a_server net keys ∷ []) e in
    let one = one_visit f w w' (a_server net read.0) read.2 in
    let port : 1 ≤ read.0.port = IfOk-at_ok (λ (keys : ServerKeys). 1 ≤ keys.port) read.1 (server_keys_if (attributes x)) in
    let some = here.some in
    subst (InTraffic f start) one.1 (record {
      inside = record { met = met_with_server f w net read.0 here.inside.met here.some port one.0; nets = here.inside.nets; names = here.inside.names; links = here.inside.links };
      some = rw length-append (omega arith);
    })

pattern_keeps : (f : ℕ) (start : Seen) (net : List ℕ) (x : Attributes) (w w' : Seen) → Unit {0} → InNet f start w → walked f w (pattern_visits net x) ≡ Ok w' → InNet f start w'
pattern_keeps f start net x w w' any_one here e =
    let servers = flat_map (server_visits net) (lists_of (codes "servers") (attributes x)) in
    let read = after_read f w w' (client_of (attributes x)) (λ client. a_pattern net client ∷ servers) e in
    let first = first_visit f w w' (a_pattern net read.0) servers read.2 in
    let there : InTraffic f start (grown_by f w (a_pattern net read.0)) = record {
      inside = record { met = met_with_pattern f w net read.0 here.met; nets = here.nets; names = here.names; links = here.links };
      some = rw length-append (omega arith);
    } in
    (each_of f (InTraffic f start) (λ (y : Attributes). Unit {0}) (server_visits net) (lists_of (codes "servers") (attributes x)) (any (lists_of (codes "servers") (attributes x))) (server_keeps f start net) (grown_by f w (a_pattern net read.0)) w' there first.1).inside

others_keep : (f : ℕ) (start : Seen) → IsFrequency f → 0 < length start.net_names → (net key : List ℕ) (x : Attributes) (w w' : Seen) → InNet f start w → walked f w (other_visits f net key x) ≡ Ok w' → InNet f start w'
others_keep f start is some net key x w w' here e =
    either_way f w w' (is_text (codes "host") key) (host_visits f false net x) _ (hosts_keep f start is some false net x w w' here)
    (either_way f w w' (is_text (codes "router") key) (host_visits f true net x) _ (hosts_keep f start is some true net x w w' here)
    (either_way f w w' (is_text (codes "traffic") key) (traffic_visits net x) []
    (each_of f (InNet f start) (λ (y : Attributes). Unit {0}) (pattern_visits net) (lists_of (codes "pattern") (attributes x)) (any (lists_of (codes "pattern") (attributes x))) (pattern_keeps f start net) w w' here)
    (λ h. subst (InNet f start) (no_visit f w w' h) here))) e

-- Nets

-- the parts of Net m up to an order were met
record PartMet (f m order : ℕ) (w w' : Seen) : Type 0 where
  met : IsMet f w'
  kept : Kept m w w'
  below : AreBelow m order w'.nets w'.links

record PartsMet (f m : ℕ) (w w' : Seen) : Type 0 where
  met : IsMet f w'
  kept : Kept m w w'

abbrev KeepsParts : ℕ → (List ℕ → List Visit) → Type 0
KeepsParts f parts = (ids : List ℕ) (q : ℕ) (w w' : Seen) → IsMet f w → All IsId ids → IsAt ids q w.net_names → AreBelow q 0 w.nets w.links → walked f w (parts ids) ≡ Ok w' → PartsMet f q w w'

other_part : (f m order : ℕ) (w w' : Seen) → AreBelow m order w.nets w.links → InNet f w w' → PartMet f m order w w'
other_part f m order w w' below inside = record {
  met = inside.met;
  kept = record { more = []; names_are = inside.names ∙ sym (append-nil w.net_names); others = λ n k lt other h. rw (inside.nets, inside.links) h };
  below = rw (inside.nets, inside.links) below;
}

link_part : (f m order : ℕ) (net : List ℕ) (x : Attributes) (w w' : Seen) → IsMet f w → IsAt net m w.net_names → AreBelow m order w.nets w.links → walked f w (a_link net order x ∷ []) ≡ Ok w' → PartMet f m (order + 1) w w'
link_part f m order net x w w' met at below e =
    let one = one_visit f w w' (a_link net order x) e in
    let r = link_keys f w.downs (attributes x) in
    subst (PartMet f m (order + 1) w) one.1 (record {
      met = met_with_link f w net m order r met at below (link_keys_if f w.downs (attributes x)) one.0;
      kept = kept_link w net m order r at;
      below = below_with_link w net m order r at below;
    })

-- one copy of a nested Net
net_copy_part : (f m order first id : ℕ) (parent : List ℕ) (parts : List ℕ → List Visit) (w w' : Seen) → KeepsParts f parts → All IsId parent → IsId id → IsMet f w → IsAt parent m w.net_names →
    AreBelow m (order + (id - first)) w.nets w.links → walked f w (net_copy parent parts order first id) ≡ Ok w' → PartMet f m (order + (id - first) + 1) w w'
net_copy_part f m order first id parent parts w w' keeps ids is_id met at below e =
    let visit = first_visit f w w' (nested_net parent id (order + (id - first))) (parts (parent ++ id ∷ [])) e in
    let u = with_net w parent id (order + (id - first)) in
    let new = new_name w.net_names (parent ++ id ∷ []) (record { ids = parent ++ id ∷ []; interface = None }) 65536 (codes "nets") visit.0 in
    let here : IsAt (parent ++ id ∷ []) (length w.net_names) u.net_names = at_new (parent ++ id ∷ []) w.net_names new.0 in
    let inner : PartsMet f (length w.net_names) u w' = keeps (parent ++ id ∷ []) (length w.net_names) u w'
    (met_with_net f w parent m id (order + (id - first)) met at below ids is_id visit.0) (All-push IsId parent id ids is_id) here (below_inner f w parent m id (order + (id - first)) met at) visit.1 in
    let lt = at.within in
    let more = here.within in
    record {
      met = inner.met;
      kept = kept_inner m (length w.net_names) w u w' (kept_net w parent m id (order + (id - first)) at) inner.kept (omega arith);
      below = inner.kept.others m (order + (id - first) + 1) (omega arith) (λ same. omega arith) (below_with_net w parent m id (order + (id - first)) at below);
    }

-- its copies with the ids from this one on
net_copies_part : (f m order first : ℕ) (parent : List ℕ) (parts : List ℕ → List Visit) → KeepsParts f parts → All IsId parent → (n id : ℕ) → first ≤ id → id + n ≤ 2147483648 → (w w' : Seen) → IsMet f w → IsAt parent m w.net_names →
    AreBelow m (order + (id - first)) w.nets w.links → walked f w (flat_map (net_copy parent parts order first) (range_with_len id n)) ≡ Ok w' → PartMet f m (order + (id + n - first)) w w'
net_copies_part f m order first parent parts keeps ids zero id le few w w' met at below e =
    let end : order + (id + 0 - first) ≡ order + (id - first) = omega arith in
    subst (PartMet f m (order + (id + 0 - first)) w) (no_visit f w w' e) (record { met = met; kept = kept_all m w; below = rw end below })
net_copies_part f m order first parent parts keeps ids (suc n) id le few w w' met at below e =
    let s = split f w w' (net_copy parent parts order first id) (flat_map (net_copy parent parts order first) (range_with_len (id + 1) n)) e in
    let one : PartMet f m (order + (id - first) + 1) w s.0 = net_copy_part f m order first id parent parts w s.0 keeps ids (omega arith) met at below s.1 in
    let next : order + (id - first) + 1 ≡ order + (id + 1 - first) = omega arith in
    let end : order + (id + 1 + n - first) ≡ order + (id + suc n - first) = omega arith in
    let more : PartMet f m (order + (id + 1 + n - first)) s.0 w' = net_copies_part f m order first parent parts keeps ids n (id + 1) (omega arith) (omega arith) s.0 w' one.met (kept_at parent m m w s.0 one.kept at) (rw (← next) one.below) s.2 in
    record { met = more.met; kept = kept_then m w s.0 w' one.kept more.kept; below = subst (λ (k : ℕ). AreBelow m k w'.nets w'.links) end more.below }

net_part : (f m order : ℕ) (net : List ℕ) (x : Attributes) (parts : List ℕ → List Visit) (w w' : Seen) → KeepsParts f parts → All IsId net → IsMet f w → IsAt net m w.net_names → AreBelow m order w.nets w.links →
    walked f w (net_visits net order x parts) ≡ Ok w' → PartMet f m (order + copies (ids_at (attributes x))) w w'
net_part f m order net x parts w w' keeps ids met at below e =
    let read = after_read f w w' (ids_at (attributes x)) (λ r. flat_map (net_copy net parts order r.from) (ids_in r)) e in
    let range = read.0 in
    let are : AreIds range = IfOk-at_ok AreIds read.1 (ids_if (attributes x)) in
    let rise = are.rise in
    let last = are.last in
    let start : order ≡ order + (range.from - range.from) = omega arith in
    let count : order + (range.from + (range.to + 1 - range.from) - range.from) ≡ order + copies (ids_at (attributes x)) = (let made : copies (ids_at (attributes x)) ≡ range.to + 1 - range.from = ap copies read.1 in omega arith) in
    let all : PartMet f m (order + (range.from + (range.to + 1 - range.from) - range.from)) w w' =
    net_copies_part f m order range.from net parts keeps ids (range.to + 1 - range.from) range.from (omega arith) (omega arith) w w' met at (subst (λ (k : ℕ). AreBelow m k w.nets w.links) start below) read.2 in
    record { met = all.met; kept = all.kept; below = subst (λ (k : ℕ). AreBelow m k w'.nets w'.links) count all.below }

by_kind : (P : ℕ → Type 0) (f : ℕ) (w w' : Seen) (b c : Bool) (xs ys zs : List Visit) (x y z : ℕ) → (walked f w xs ≡ Ok w' → P x) → (walked f w ys ≡ Ok w' → P y) → (walked f w zs ≡ Ok w' → P z) →
    walked f w (if b then xs else if c then ys else zs) ≡ Ok w' → P (if b then x else if c then y else z)
by_kind P f w w' true c xs ys zs x y z h g k e = h e
by_kind P f w w' false true xs ys zs x y z h g k e = g e
by_kind P f w w' false false xs ys zs x y z h g k e = k e

part_met : (f m order : ℕ) → IsFrequency f → (net key : List ℕ) (x : Attributes) (parts : List ℕ → List Visit) (w w' : Seen) → KeepsParts f parts → All IsId net → IsMet f w → IsAt net m w.net_names → AreBelow m order w.nets w.links →
    walked f w (part_visits f net order key x parts) ≡ Ok w' → PartMet f m (order + children key x) w w'
part_met f m order is net key x parts w w' keeps ids met at below e =
    by_kind (λ k. PartMet f m (order + k) w w') f w w' (is_text (codes "Net") key) (is_text (codes "link") key) (net_visits net order x parts) (a_link net order x ∷ []) (other_visits f net key x) (copies (ids_at (attributes x))) 1 0
    (net_part f m order net x parts w w' keeps ids met at below)
    (link_part f m order net x w w' met at below)
    (λ h. other_part f m (order + 0) w w' (below_more m order (order + 0) w.nets w.links (omega arith) below)
    (others_keep f w is (let lt = at.within in omega arith) net key x w w' (record { met = met; nets = refl; names = refl; links = refl }) h)) e

parts_met : (f : ℕ) → IsFrequency f → (x : Attributes) (net : List ℕ) (m order : ℕ) (w w' : Seen) → IsMet f w → All IsId net → IsAt net m w.net_names → AreBelow m order w.nets w.links → walked f w (net_parts f net order x) ≡ Ok w' → PartsMet f m w w'
parts_met f is none net m order w w' met ids at below e = subst (PartsMet f m w) (no_visit f w w' e) (record { met = met; kept = kept_all m w })
parts_met f is (plain key place text rest) net m order w w' met ids at below e = parts_met f is rest net m order w w' met ids at below e
parts_met f is (list key place inner rest) net m order w w' met ids at below e =
    let parts = λ (path : List ℕ). net_parts f path 0 inner in
    let s = split f w w' (part_visits f net order key inner parts) (net_parts f net (order + children key inner) rest) e in
    let part = part_met f m order is net key inner parts w s.0 (λ path q u v. parts_met f is inner path q 0 u v) ids met at below s.1 in
    let more = parts_met f is rest net m (order + children key inner) s.0 w' part.met ids (kept_at net m m w s.0 part.kept at) part.below s.2 in
    record { met = more.met; kept = kept_then m w s.0 w' part.kept more.kept }

-- the whole walk
pub walk_met : (f : ℕ) → IsFrequency f → (tree : Attributes) (w : Seen) → walked f empty (walk f tree) ≡ Ok w → IsMet f w
walk_met f is tree w e =
    let first = first_visit f empty w top_net (net_parts f [] 0 tree) e in
    let met : IsMet f (with_top empty) = met_top f in
    (parts_met f is tree [] 0 0 (with_top empty) w met (All-nil IsId) (record { place_is = refl; within = omega arith }) below_top first.1).met
