-- What is seen after each visit is what the definition keeps of the visits: the walk is the first fault or all rows.
use Rattle.std.proofs.Common.{◌≡◌, ℕ, ◌+◌, Bool, true, false, List, [], ◌∷◌, ◌++◌, length, filter, Option, Some, None, refl, ap, sym, ◌∙◌, arith, append_assoc, append-nil, length-append}
use Rattle.std.specs.List.{filter_map, cons_option}
use Rattle.std.proofs.lemmas.List.Elements.{filter_map-append, filter-append}
use Rattle.dml_tree.specs.TreeView.{attributes}
use Rattle.net_graph.specs.declared.fault.ShapeFault.{ShapeFault}
use Rattle.net_graph.specs.declared.rows.NetRow.{NetRow}
use Rattle.net_graph.specs.declared.rows.InterfaceRow.{InterfaceRow}
use Rattle.net_graph.specs.declared.seen.HostSeen.{HostSeen}
use Rattle.net_graph.specs.declared.seen.LinkSeen.{LinkSeen}
use Rattle.net_graph.specs.declared.seen.SessionSeen.{SessionSeen}
use Rattle.net_graph.specs.declared.seen.TrafficSeen.{TrafficSeen}
use Rattle.net_graph.specs.declared.seen.Seen.{Seen}
use Rattle.net_graph.specs.ListKeys.{link_keys}
use Rattle.net_graph.specs.Reads.{then_read}
use Rattle.net_graph.specs.SeenRows.{first_some, downs_more}
use Rattle.net_graph.specs.Visits.{Visit, unread, top_net, nested_net, a_host, an_interface, a_session, a_link, a_pattern, a_server}
use Rattle.net_graph.specs.WalkedNets.{moments_after, kept, count_of, net_path, host_path, interface_path, net_paths, host_paths, interface_paths, net_row, host_seen, interface_row, session_seen, link_seen, traffic_seen, is_server, downs_of, seen_in, fault_at, first_fault, seen_or, seen_by}
use Rattle.net_graph.specs.Steps.{visited, walked, or_fault, fault_in, grown_by, added, empty}

-- one more visit

moments-last : (before xs : List Visit) (v : Visit) → moments_after before (xs ++ v ∷ []) ≡ moments_after before xs ++ (record { before = before ++ xs; visit = v }) ∷ []
moments-last before [] v = ap (λ (b : List Visit). record { before = b; visit = v } ∷ []) (sym (append-nil before))
moments-last before (x ∷ xs) v =
    ap (λ ms. record { before = before; visit = x } ∷ ms) (moments-last (before ++ x ∷ []) xs v
    ∙ ap (λ (b : List Visit). moments_after (before ++ x ∷ []) xs ++ (record { before = b; visit = v }) ∷ []) (append_assoc before (x ∷ []) xs))

last_of : {A : Type 0} (ys : List A) (o : Option A) → ys ++ cons_option o [] ≡ added ys o
last_of ys None = append-nil ys
last_of ys (Some y) = refl

map-last : {X A : Type 0} (h : X → Option A) (xs : List X) (x : X) → filter_map h (xs ++ x ∷ []) ≡ added (filter_map h xs) (h x)
map-last h xs x = filter_map-append h xs (x ∷ []) ∙ last_of (filter_map h xs) (h x)

kept-last : {A : Type 0} (g : List Visit → Visit → Option A) (vs : List Visit) (v : Visit) → kept g (vs ++ v ∷ []) ≡ added (kept g vs) (g vs v)
kept-last g vs v = ap (filter_map (λ m. g m.before m.visit)) (moments-last [] vs v) ∙ map-last (λ m. g m.before m.visit) (moments_after [] vs) (record { before = vs; visit = v })

downs-last : (f downs : ℕ) (vs : List Visit) (v : Visit) → downs_of f downs (vs ++ v ∷ []) ≡ downs_of f (downs_of f downs vs) (v ∷ [])
downs-last f downs [] v = refl
downs-last f downs (a_link n order x ∷ vs) v = downs-last f (downs_more downs (link_keys f downs (attributes x))) vs v
downs-last f downs (unread fault ∷ vs) v = downs-last f downs vs v
downs-last f downs (top_net ∷ vs) v = downs-last f downs vs v
downs-last f downs (nested_net p id order ∷ vs) v = downs-last f downs vs v
downs-last f downs (a_host n id router g ∷ vs) v = downs-last f downs vs v
downs-last f downs (an_interface h id k ∷ vs) v = downs-last f downs vs v
downs-last f downs (a_session k ∷ vs) v = downs-last f downs vs v
downs-last f downs (a_pattern n client ∷ vs) v = downs-last f downs vs v
downs-last f downs (a_server n k ∷ vs) v = downs-last f downs vs v

-- one more where it counts
counted : Bool → ℕ → ℕ
counted true n = n + 1
counted false n = n

one_counted : (is : Visit → Bool) (v : Visit) (n : ℕ) (b : Bool) → is v ≡ b → n + count_of is (v ∷ []) ≡ counted b n
unfolding counted
one_counted is v n true e = let one : count_of is (v ∷ []) ≡ 1 = rw e refl in omega arith
one_counted is v n false e = let no : count_of is (v ∷ []) ≡ 0 = rw e refl in omega arith

-- all that is seen with one more visit
last_seen : ℕ → List Visit → Visit → Seen
last_seen f vs v = record {
  nets = added (kept net_row vs) (net_row vs v);
  net_names = added (net_paths vs) (net_path v);
  hosts = added (kept host_seen vs) (host_seen vs v);
  host_names = added (host_paths vs) (host_path v);
  interfaces = added (kept interface_row vs) (interface_row vs v);
  interface_names = added (interface_paths vs) (interface_path v);
  links = added (kept (link_seen f) vs) (link_seen f vs v);
  downs = downs_of f (downs_of f 0 vs) (v ∷ []);
  sessions = added (kept session_seen vs) (session_seen vs v);
  traffic = added (kept traffic_seen vs) (traffic_seen vs v);
  servers = counted (is_server v) (count_of is_server vs);
}

same_seen : (a0 b0 : List NetRow) (a1 b1 : List (List ℕ)) (a2 b2 : List HostSeen) (a3 b3 : List (List ℕ)) (a4 b4 : List InterfaceRow) (a5 b5 : List (List ℕ)) (a6 b6 : List LinkSeen) (a7 b7 : ℕ) (a8 b8 : List SessionSeen) (a9 b9 : List TrafficSeen) (a10 b10 : ℕ) → a0 ≡ b0 → a1 ≡ b1 → a2 ≡ b2 → a3 ≡ b3 → a4 ≡ b4 → a5 ≡ b5 → a6 ≡ b6 → a7 ≡ b7 → a8 ≡ b8 → a9 ≡ b9 → a10 ≡ b10 →
    (let a : Seen = record { nets = a0; net_names = a1; hosts = a2; host_names = a3; interfaces = a4; interface_names = a5; links = a6; downs = a7; sessions = a8; traffic = a9; servers = a10 } in let b : Seen = record { nets = b0; net_names = b1; hosts = b2; host_names = b3; interfaces = b4; interface_names = b5; links = b6; downs = b7; sessions = b8; traffic = b9; servers = b10 } in a ≡ b)
same_seen a0 b0 a1 b1 a2 b2 a3 b3 a4 b4 a5 b5 a6 b6 a7 b7 a8 b8 a9 b9 a10 b10 e0 e1 e2 e3 e4 e5 e6 e7 e8 e9 e10 = cc

count-last : (is : Visit → Bool) (vs : List Visit) (v : Visit) → count_of is (vs ++ v ∷ []) ≡ counted (is v) (count_of is vs)
count-last is vs v = ap (λ (xs : List Visit). length xs) (filter-append is vs (v ∷ [])) ∙ (length-append (filter is vs) (filter is (v ∷ [])) ∙ one_counted is v (count_of is vs) (is v) refl)

seen-last : (f : ℕ) (vs : List Visit) (v : Visit) → seen_in f (vs ++ v ∷ []) ≡ last_seen f vs v
unfolding last_seen
seen-last f vs v = same_seen
    (kept net_row (vs ++ v ∷ [])) (added (kept net_row vs) (net_row vs v))
    (net_paths (vs ++ v ∷ [])) (added (net_paths vs) (net_path v))
    (kept host_seen (vs ++ v ∷ [])) (added (kept host_seen vs) (host_seen vs v))
    (host_paths (vs ++ v ∷ [])) (added (host_paths vs) (host_path v))
    (kept interface_row (vs ++ v ∷ [])) (added (kept interface_row vs) (interface_row vs v))
    (interface_paths (vs ++ v ∷ [])) (added (interface_paths vs) (interface_path v))
    (kept (link_seen f) (vs ++ v ∷ [])) (added (kept (link_seen f) vs) (link_seen f vs v))
    (downs_of f 0 (vs ++ v ∷ [])) (downs_of f (downs_of f 0 vs) (v ∷ []))
    (kept session_seen (vs ++ v ∷ [])) (added (kept session_seen vs) (session_seen vs v))
    (kept traffic_seen (vs ++ v ∷ [])) (added (kept traffic_seen vs) (traffic_seen vs v))
    (count_of is_server (vs ++ v ∷ [])) (counted (is_server v) (count_of is_server vs))
    (kept-last net_row vs v) (map-last net_path vs v)
    (kept-last host_seen vs v) (map-last host_path vs v)
    (kept-last interface_row vs v) (map-last interface_path vs v)
    (kept-last (link_seen f) vs v) (downs-last f 0 vs v)
    (kept-last session_seen vs v) (kept-last traffic_seen vs v)
    (count-last is_server vs v)

-- what a visit adds to what was seen is what the definition keeps of it
grown_is : (f : ℕ) (vs : List Visit) (v : Visit) → fault_at f vs v ≡ None → grown_by f (seen_in f vs) v ≡ last_seen f vs v
unfolding last_seen counted
grown_is f vs (unread fault) e = let no : ⊥ = cc in absurd no
grown_is f vs top_net e = refl
grown_is f vs (nested_net p id order) e = refl
grown_is f vs (a_host n id router g) e = refl
grown_is f vs (an_interface h id k) e = refl
grown_is f vs (a_session k) e = refl
grown_is f vs (a_link n order x) e = refl
grown_is f vs (a_pattern n client) e = refl
grown_is f vs (a_server n k) e = refl

fault_is : (f : ℕ) (vs : List Visit) (v : Visit) → fault_in f (seen_in f vs) v ≡ fault_at f vs v
fault_is f vs (unread fault) = refl
fault_is f vs top_net = refl
fault_is f vs (nested_net p id order) = refl
fault_is f vs (a_host n id router g) = refl
fault_is f vs (an_interface h id k) = refl
fault_is f vs (a_session k) = refl
fault_is f vs (a_link n order x) = refl
fault_is f vs (a_pattern n client) = refl
fault_is f vs (a_server n k) = refl

-- one visit, by its fault or without one
visit_is : (f : ℕ) (vs : List Visit) (v : Visit) (o : Option ShapeFault) → fault_at f vs v ≡ o → visited f (seen_in f vs) v ≡ or_fault o (seen_in f (vs ++ v ∷ []))
unfolding visited
visit_is f vs v None e = ap (λ (q : Option ShapeFault). or_fault q (grown_by f (seen_in f vs) v)) (fault_is f vs v ∙ e)
    ∙ ap (or_fault None) (grown_is f vs v e ∙ sym (seen-last f vs v))
visit_is f vs v (Some fault) e = ap (λ (q : Option ShapeFault). or_fault q (grown_by f (seen_in f vs) v)) (fault_is f vs v ∙ e)

-- the first fault of visits after others
abbrev fault_after : ℕ → List Visit → List Visit → Option ShapeFault
fault_after f before vs = first_fault f (moments_after before vs)

then_is : (f : ℕ) (before : List Visit) (v : Visit) (vs : List Visit) (o : Option ShapeFault) → fault_at f before v ≡ o →
    (walked f (seen_in f (before ++ v ∷ [])) vs ≡ or_fault (fault_after f (before ++ v ∷ []) vs) (seen_in f ((before ++ v ∷ []) ++ vs))) →
    then_read (visited f (seen_in f before) v) (λ m. walked f m vs) ≡ or_fault (first_some o (fault_after f (before ++ v ∷ []) vs)) (seen_in f (before ++ v ∷ vs))
then_is f before v vs None e next =
    ap (λ r. then_read r (λ m. walked f m vs)) (visit_is f before v None e)
    ∙ (next ∙ ap (λ (l : List Visit). or_fault (fault_after f (before ++ v ∷ []) vs) (seen_in f l)) (append_assoc before (v ∷ []) vs))
then_is f before v vs (Some fault) e next = ap (λ r. then_read r (λ m. walked f m vs)) (visit_is f before v (Some fault) e)

walked_is : (f : ℕ) (before vs : List Visit) → walked f (seen_in f before) vs ≡ or_fault (fault_after f before vs) (seen_in f (before ++ vs))
unfolding walked
walked_is f before [] = ap (λ (l : List Visit). or_fault None (seen_in f l)) (sym (append-nil before))
walked_is f before (v ∷ vs) = then_is f before v vs (fault_at f before v) refl (walked_is f (before ++ v ∷ []) vs)

same_or : (o : Option ShapeFault) (w : Seen) → or_fault o w ≡ seen_or o w
same_or None w = refl
same_or (Some fault) w = refl

-- walking from nothing gives what the definition sees
pub walk_is : (f : ℕ) (vs : List Visit) → walked f empty vs ≡ seen_by f vs
walk_is f vs = walked_is f [] vs ∙ same_or (first_fault f (moments_after [] vs)) (seen_in f vs)
