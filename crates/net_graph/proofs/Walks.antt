-- Walking visit by visit, and in loops over attributes and ids.
use Rattle.std.proofs.Common.{◌≡◌, ℕ, zero, suc, ◌+◌, ◌-◌, ◌<◌, ◌≤◌, Bool, true, false, nat_eq, ◌||◌, List, [], ◌∷◌, ◌++◌, length, drop, get_or, Option, Some, None, Ok, Err, refl, ap, sym, ◌∙◌, arith, length-append, subst, codes, not, ◌&&◌}
use Rattle.std.specs.List.{flat_map, range_with_len}
use Rattle.std.specs.Cmp.Lexicographic.{pointwise}
use Rattle.dml_tree.specs.declared.tree.Attribute.{Attribute}
use Rattle.dml_tree.specs.declared.tree.Place.{Place}
use Rattle.dml_tree.specs.declared.tree.Value.{Value}
use Rattle.dml_tree.specs.declared.tree.Value.TheVariants as value
use Rattle.dml_tree.specs.Attributes.{Attributes, none, plain, list, weight}
use Rattle.dml_tree.specs.TreeView.{attributes, tree_of, with_value}
use Rattle.net_graph.specs.declared.fault.ShapeFault.{ShapeFault}
use Rattle.net_graph.specs.declared.list_keys.LinkKeys.{LinkKeys}
use Rattle.net_graph.specs.declared.seen.Seen.{Seen}
use Rattle.net_graph.specs.declared.seen.LinkSeen.{LinkSeen}
use Rattle.net_graph.specs.SeenRows.{number_in}
use Rattle.net_graph.specs.Keys.{lists_of, lists_in, first_of, values_of}
use Rattle.net_graph.specs.ListKeys.{is_text, link_keys, session_keys, server_keys, client_of, ids_at, interface_keys, gateway_of}
use Rattle.nhi_address.specs.NhiFields.{NhiFields}
use Rattle.nhi_address.specs.declared.nhi.IdRange.{IdRange}
use Rattle.net_graph.specs.declared.list_keys.GatewayKeys.{GatewayKeys}
use Rattle.net_graph.specs.declared.list_keys.InterfaceKeys.{InterfaceKeys}
use Rattle.net_graph.specs.declared.list_keys.ServerKeys.{ServerKeys}
use Rattle.net_graph.specs.declared.list_keys.SessionKeys.{SessionKeys}
use Rattle.net_graph.specs.Reads.{Read, then_read}
use Rattle.net_graph.specs.Visits.{other_visits, on_read, session_visits, interface_copy, interface_visits, read_interface_list, read_host_list, host_copy, host_visits, server_visits, pattern_visits, net_copy, net_visits, ids_in, Visit, unread, top_net, nested_net, a_host, an_interface, a_session, a_link, a_pattern, a_server, net_parts, part_visits, children, host_parts, host_part}
use Rattle.net_graph.specs.Steps.{visited, walked, or_fault, fault_in, grown_by, with_link, kids, list_in, visits_of, attribute_visits, attribute_children, host_attribute_visits, met_after}
use Rattle.net_graph.proofs.Lookup.{drop_item, drop_all, values_skip, values_keep}

-- visits after others

then_more : (f : ℕ) (r : Read Seen) (w' : Seen) (xs ys : List Visit) → ((m : Seen) → walked f m xs ≡ Ok w' → walked f m (xs ++ ys) ≡ walked f w' ys) →
    then_read r (λ m. walked f m xs) ≡ Ok w' → then_read r (λ m. walked f m (xs ++ ys)) ≡ walked f w' ys
then_more f (Ok m) w' xs ys next e = next m e
then_more f (Err fault) w' xs ys next e = cc

pub walked_then : (f : ℕ) (w w' : Seen) (xs ys : List Visit) → walked f w xs ≡ Ok w' → walked f w (xs ++ ys) ≡ walked f w' ys
unfolding walked
walked_then f w w' [] ys e = let same : w ≡ w' = cc in ap (λ (v : Seen). walked f v ys) same
walked_then f w w' (x ∷ xs) ys e = then_more f (visited f w x) w' xs ys (λ m here. walked_then f m w' xs ys here) e

then_stop : (f : ℕ) (r : Read Seen) (fault : ShapeFault) (xs ys : List Visit) → ((m : Seen) → walked f m xs ≡ Err fault → walked f m (xs ++ ys) ≡ Err fault) →
    then_read r (λ m. walked f m xs) ≡ Err fault → then_read r (λ m. walked f m (xs ++ ys)) ≡ Err fault
then_stop f (Ok m) fault xs ys next e = next m e
then_stop f (Err other) fault xs ys next e = cc

pub walked_stop : (f : ℕ) (w : Seen) (fault : ShapeFault) (xs ys : List Visit) → walked f w xs ≡ Err fault → walked f w (xs ++ ys) ≡ Err fault
unfolding walked
walked_stop f w fault [] ys e = cc
walked_stop f w fault (x ∷ xs) ys e = then_stop f (visited f w x) fault xs ys (λ m here. walked_stop f m fault xs ys here) e

-- one visit

pub met_more : (f : ℕ) (w w' : Seen) (v : Visit) (vs : List Visit) → fault_in f w v ≡ None → w' ≡ grown_by f w v → walked f w (v ∷ vs) ≡ walked f w' vs
unfolding visited walked
met_more f w w' v vs fine grown = ap (λ (o : Option ShapeFault). then_read (or_fault o (grown_by f w v)) (λ m. walked f m vs)) fine ∙ ap (λ (m : Seen). walked f m vs) (sym grown)

pub met_one : (f : ℕ) (w w' : Seen) (v : Visit) → fault_in f w v ≡ None → w' ≡ grown_by f w v → walked f w (v ∷ []) ≡ Ok w'
unfolding walked
met_one f w w' v fine grown = met_more f w w' v [] fine grown

pub met_fault : (f : ℕ) (w : Seen) (v : Visit) (vs : List Visit) (fault : ShapeFault) → fault_in f w v ≡ Some fault → walked f w (v ∷ vs) ≡ Err fault
unfolding visited walked
met_fault f w v vs fault e = ap (λ (o : Option ShapeFault). then_read (or_fault o (grown_by f w v)) (λ m. walked f m vs)) e

-- a loop: what is walked as a whole is what is left to walk

pub turn : (f : ℕ) (whole : Read Seen) (w w' : Seen) (now body rest : List Visit) → whole ≡ walked f w now → now ≡ body ++ rest → walked f w body ≡ Ok w' → whole ≡ walked f w' rest
turn f whole w w' now body rest e split here = e ∙ (ap (walked f w) split ∙ walked_then f w w' body rest here)

pub stop : (f : ℕ) (whole : Read Seen) (w : Seen) (fault : ShapeFault) (now body rest : List Visit) → whole ≡ walked f w now → now ≡ body ++ rest → walked f w body ≡ Err fault → whole ≡ Err fault
stop f whole w fault now body rest e split here = e ∙ (ap (walked f w) split ∙ walked_stop f w fault body rest here)

pub done : (f : ℕ) (whole : Read Seen) (w : Seen) (now : List Visit) → whole ≡ walked f w now → now ≡ [] → whole ≡ Ok w
unfolding walked
done f whole w now e none_left = e ∙ ap (walked f w) none_left

-- the lists of a key

kept_value : (g : Attributes → List Visit) (v : Value) (vs : List Value) → flat_map g (lists_in (v ∷ vs)) ≡ visits_of g (first_of (lists_in (v ∷ []))) ++ flat_map g (lists_in vs)
kept_value g (value.Plain text) vs = refl
kept_value g (value.List inner) vs = refl

lists_by : (g : Attributes → List Visit) (key : List ℕ) (x : Attribute) (xs : List Attribute) (b : Bool) → pointwise nat_eq x.key key ≡ b →
    flat_map g (lists_of key (x ∷ xs)) ≡ visits_of g (list_in key x) ++ flat_map g (lists_of key xs)
lists_by g key x xs false e =
    ap (λ vs. flat_map g (lists_in vs)) (values_skip key x xs e)
    ∙ sym (ap (λ vs. visits_of g (first_of (lists_in vs)) ++ flat_map g (lists_of key xs)) (values_skip key x [] e))
lists_by g key x xs true e =
    ap (λ vs. flat_map g (lists_in vs)) (values_keep key x xs e)
    ∙ (kept_value g x.value (values_of key xs)
    ∙ sym (ap (λ vs. visits_of g (first_of (lists_in vs)) ++ flat_map g (lists_of key xs)) (values_keep key x [] e)))

pub lists_next : (g : Attributes → List Visit) (key : List ℕ) (xs : List Attribute) (i : ℕ) (x : Attribute) → i < length xs → x ≡ get_or xs i x →
    flat_map g (lists_of key (drop i xs)) ≡ visits_of g (list_in key x) ++ flat_map g (lists_of key (drop (i + 1) xs))
lists_next g key xs i x lt is = ap (λ ys. flat_map g (lists_of key ys)) (drop_item xs i x lt is) ∙ lists_by g key x (drop (i + 1) xs) (pointwise nat_eq x.key key) refl

pub lists_end : (g : Attributes → List Visit) (key : List ℕ) (xs : List Attribute) (i : ℕ) → length xs ≤ i → flat_map g (lists_of key (drop i xs)) ≡ []
lists_end g key xs i le = ap (λ ys. flat_map g (lists_of key ys)) (drop_all xs i le)

-- the ids of a range

pub ids_next : (g : ℕ → List Visit) (id end : ℕ) → id < end → flat_map g (range_with_len id (end - id)) ≡ g id ++ flat_map g (range_with_len (id + 1) (end - (id + 1)))
ids_next g id end lt =
    let longer : end - id ≡ suc (end - (id + 1)) = omega arith in
    ap (λ (n : ℕ). flat_map g (range_with_len id n)) longer

pub ids_end : (g : ℕ → List Visit) (id end : ℕ) → end ≤ id → flat_map g (range_with_len id (end - id)) ≡ []
ids_end g id end le =
    let empty : end - id ≡ 0 = omega arith in
    ap (λ (n : ℕ). flat_map g (range_with_len id n)) empty

-- the parts of a Net

pub parts_of : ℕ → List ℕ → ℕ → List Attribute → List Visit
parts_of f n order [] = []
parts_of f n order (x ∷ xs) = attribute_visits f n order x ++ parts_of f n (order + attribute_children x) xs

pub parts_are : (f : ℕ) (n : List ℕ) (order : ℕ) (tree : Attributes) → net_parts f n order tree ≡ parts_of f n order (attributes tree)
unfolding parts_of
parts_are f n order none = refl
parts_are f n order (plain key place text rest) = parts_are f n order rest ∙ ap (λ (k : ℕ). parts_of f n k (attributes rest)) (omega arith)
parts_are f n order (list key place inner rest) =
    ap (λ vs. part_visits f n order key inner (λ ids. net_parts f ids 0 inner) ++ vs) (parts_are f n (order + children key inner) rest)

pub parts_next : (f : ℕ) (n : List ℕ) (order : ℕ) (xs : List Attribute) (i : ℕ) (x : Attribute) (next : ℕ) → i < length xs → x ≡ get_or xs i x → next ≡ order + attribute_children x →
    parts_of f n order (drop i xs) ≡ attribute_visits f n order x ++ parts_of f n next (drop (i + 1) xs)
unfolding parts_of
parts_next f n order xs i x next lt is e =
    ap (parts_of f n order) (drop_item xs i x lt is) ∙ ap (λ (k : ℕ). attribute_visits f n order x ++ parts_of f n k (drop (i + 1) xs)) (sym e)

pub parts_end : (f : ℕ) (n : List ℕ) (order : ℕ) (xs : List Attribute) (i : ℕ) → length xs ≤ i → parts_of f n order (drop i xs) ≡ []
unfolding parts_of
parts_end f n order xs i le = ap (parts_of f n order) (drop_all xs i le)

-- the parts of a host

pub host_parts_of : ℕ → List ℕ → Bool → List Attribute → List Visit
host_parts_of f h met [] = []
host_parts_of f h met (x ∷ xs) = host_attribute_visits f h met x ++ host_parts_of f h (met_after met x) xs

or_false : (b : Bool) → b ≡ (b || false)
or_false true = refl
or_false false = refl

pub host_parts_are : (f : ℕ) (h : List ℕ) (met : Bool) (tree : Attributes) → host_parts f h met tree ≡ host_parts_of f h met (attributes tree)
unfolding host_parts_of
host_parts_are f h met none = refl
host_parts_are f h met (plain key place text rest) = host_parts_are f h met rest ∙ ap (λ (b : Bool). host_parts_of f h b (attributes rest)) (or_false met)
host_parts_are f h met (list key place inner rest) =
    ap (λ vs. host_part f h met key inner ++ vs) (host_parts_are f h (met_after met (record { key = key; place = place; value = value.List inner })) rest)

pub host_next : (f : ℕ) (h : List ℕ) (met : Bool) (xs : List Attribute) (i : ℕ) (x : Attribute) (next : Bool) → i < length xs → x ≡ get_or xs i x → next ≡ met_after met x →
    host_parts_of f h met (drop i xs) ≡ host_attribute_visits f h met x ++ host_parts_of f h next (drop (i + 1) xs)
unfolding host_parts_of
host_next f h met xs i x next lt is e =
    ap (host_parts_of f h met) (drop_item xs i x lt is) ∙ ap (λ (b : Bool). host_attribute_visits f h met x ++ host_parts_of f h b (drop (i + 1) xs)) (sym e)

pub host_end : (f : ℕ) (h : List ℕ) (met : Bool) (xs : List Attribute) (i : ℕ) → length xs ≤ i → host_parts_of f h met (drop i xs) ≡ []
unfolding host_parts_of
host_end f h met xs i le = ap (host_parts_of f h met) (drop_all xs i le)

-- links and Nets become no fewer

link_kids : (w : Seen) (n : List ℕ) (order : ℕ) (k : Read LinkKeys) → kids w ≤ kids (with_link w n order k)
link_kids w n order (Ok k) = let l : LinkSeen = record { net = number_in w.net_names n; path = n; order = order; keys = k } in omega (arith, length-append w.links (l ∷ []))
link_kids w n order (Err fault) = omega arith

grown_kids : (f : ℕ) (w : Seen) (v : Visit) → kids w ≤ kids (grown_by f w v)
grown_kids f w (unread fault) = omega arith
grown_kids f w top_net = omega (arith, length-append w.net_names ([] ∷ []))
grown_kids f w (nested_net parent id order) = omega (arith, length-append w.net_names ((parent ++ id ∷ []) ∷ []))
grown_kids f w (a_host n id router gateway) = omega arith
grown_kids f w (an_interface h id k) = omega arith
grown_kids f w (a_session k) = omega arith
grown_kids f w (a_link n order x) = link_kids w n order (link_keys f w.downs (attributes x))
grown_kids f w (a_pattern n client) = omega arith
grown_kids f w (a_server n k) = omega arith

fault_kids : (o : Option ShapeFault) (w g w' : Seen) → kids w ≤ kids g → or_fault o g ≡ Ok w' → kids w ≤ kids w'
fault_kids None w g w' le e = let same : g ≡ w' = cc in subst (λ (v : Seen). kids w ≤ kids v) same le
fault_kids (Some fault) w g w' le e = let no : ⊥ = cc in absurd no

visit_kids : (f : ℕ) (w w' : Seen) (v : Visit) → visited f w v ≡ Ok w' → kids w ≤ kids w'
unfolding visited
visit_kids f w w' v e = fault_kids (fault_in f w v) w (grown_by f w v) w' (grown_kids f w v) e

then_kids : (f : ℕ) (r : Read Seen) (w w' : Seen) (vs : List Visit) → ((m : Seen) → r ≡ Ok m → kids w ≤ kids m) → ((m : Seen) → walked f m vs ≡ Ok w' → kids m ≤ kids w') →
    then_read r (λ m. walked f m vs) ≡ Ok w' → kids w ≤ kids w'
then_kids f (Ok m) w w' vs first next e = let a = first m refl in let b = next m e in omega arith
then_kids f (Err fault) w w' vs first next e = let no : ⊥ = cc in absurd no

pub walked_kids : (f : ℕ) (w w' : Seen) (vs : List Visit) → walked f w vs ≡ Ok w' → kids w ≤ kids w'
unfolding walked
walked_kids f w w' [] e = let same : w ≡ w' = cc in subst (λ (v : Seen). kids w ≤ kids v) same (omega arith)
walked_kids f w w' (v ∷ vs) e = then_kids f (visited f w v) w w' vs (λ m here. visit_kids f w m v here) (λ m here. walked_kids f m w' vs here) e

-- what a walk over a value takes

abbrev pub value_weight : Value → ℕ
value_weight (value.Plain text) = 0
value_weight (value.List inner) = weight inner

first_lighter : (x : Attribute) (v : Value) (key : List ℕ) (place : Place) (rest : Attributes) → value_weight v < weight (with_value key place v rest)
first_lighter x (value.Plain text) key place rest = omega arith
first_lighter x (value.List inner) key place rest = omega arith

rest_lighter : (v : Value) (key : List ℕ) (place : Place) (rest : Attributes) → weight rest < weight (with_value key place v rest)
rest_lighter (value.Plain text) key place rest = omega arith
rest_lighter (value.List inner) key place rest = omega arith

at_lighter : (xs : List Attribute) (i : ℕ) (d : Attribute) → i < length xs → value_weight (get_or xs i d).value < weight (tree_of xs)
at_lighter [] i d lt = absurd (omega arith)
at_lighter (y ∷ ys) zero d lt = first_lighter y y.value y.key y.place (tree_of ys)
at_lighter (y ∷ ys) (suc i) d lt = omega (arith, at_lighter ys i d (omega arith), rest_lighter y.value y.key y.place (tree_of ys))

tree_of-attributes : (t : Attributes) → tree_of (attributes t) ≡ t
tree_of-attributes none = refl
tree_of-attributes (plain key place text rest) = ap (plain key place text) (tree_of-attributes rest)
tree_of-attributes (list key place inner rest) = ap (list key place inner) (tree_of-attributes rest)

pub item_lighter : (t : Attributes) (xs : List Attribute) (i : ℕ) (x : Attribute) → xs ≡ attributes t → i < length xs → x ≡ get_or xs i x → value_weight x.value < weight t
item_lighter t xs i x same lt is =
    let here = at_lighter xs i x lt in
    let item : value_weight x.value ≡ value_weight (get_or xs i x).value = ap (λ (a : Attribute). value_weight a.value) is in
    let whole : weight (tree_of xs) ≡ weight t = ap (λ ys. weight (tree_of ys)) same ∙ ap weight (tree_of-attributes t) in
    omega arith

pub inner_weight : (v : Value) (inner : Attributes) → v ≡ value.List inner → value_weight v ≡ weight inner
inner_weight v inner e = ap value_weight e

-- keys that could be read, and keys that could not

read_more : {A : Type 0} (f : ℕ) (w : Seen) (r : Read A) (next : A → List Visit) (x : A) → r ≡ Ok x → walked f w (on_read r next) ≡ walked f w (next x)
read_more f w r next x e = ap (λ q. walked f w (on_read q next)) e

read_stop : {A : Type 0} (f : ℕ) (w : Seen) (r : Read A) (next : A → List Visit) (fault : ShapeFault) → r ≡ Err fault → walked f w (on_read r next) ≡ Err fault
read_stop f w r next fault e = ap (λ q. walked f w (on_read q next)) e ∙ met_fault f w (unread fault) [] fault refl

pub session_ok : (f : ℕ) (w : Seen) (x : Attributes) (k : SessionKeys) → session_keys f (attributes x) ≡ Ok k → walked f w (session_visits f x) ≡ walked f w (a_session k ∷ [])
session_ok f w x k e = read_more f w (session_keys f (attributes x)) (λ keys. a_session keys ∷ []) k e

pub session_err : (f : ℕ) (w : Seen) (x : Attributes) (fault : ShapeFault) → session_keys f (attributes x) ≡ Err fault → walked f w (session_visits f x) ≡ Err fault
session_err f w x fault e = read_stop f w (session_keys f (attributes x)) (λ keys. a_session keys ∷ []) fault e

pub server_ok : (f : ℕ) (w : Seen) (n : List ℕ) (x : Attributes) (k : ServerKeys) → server_keys (attributes x) ≡ Ok k → walked f w (server_visits n x) ≡ walked f w (a_server n k ∷ [])
server_ok f w n x k e = read_more f w (server_keys (attributes x)) (λ keys. a_server n keys ∷ []) k e

pub server_err : (f : ℕ) (w : Seen) (n : List ℕ) (x : Attributes) (fault : ShapeFault) → server_keys (attributes x) ≡ Err fault → walked f w (server_visits n x) ≡ Err fault
server_err f w n x fault e = read_stop f w (server_keys (attributes x)) (λ keys. a_server n keys ∷ []) fault e

pub pattern_ok : (f : ℕ) (w : Seen) (n : List ℕ) (x : Attributes) (k : NhiFields) → client_of (attributes x) ≡ Ok k →
    walked f w (pattern_visits n x) ≡ walked f w (a_pattern n k ∷ flat_map (server_visits n) (lists_of (codes "servers") (attributes x)))
pattern_ok f w n x k e = read_more f w (client_of (attributes x)) (λ client. a_pattern n client ∷ flat_map (server_visits n) (lists_of (codes "servers") (attributes x))) k e

pub pattern_err : (f : ℕ) (w : Seen) (n : List ℕ) (x : Attributes) (fault : ShapeFault) → client_of (attributes x) ≡ Err fault → walked f w (pattern_visits n x) ≡ Err fault
pattern_err f w n x fault e = read_stop f w (client_of (attributes x)) (λ client. a_pattern n client ∷ flat_map (server_visits n) (lists_of (codes "servers") (attributes x))) fault e

both : {A B : Type 0} (r : Read A) (q : Read B) (a : A) (b : B) → r ≡ Ok a → q ≡ Ok b → then_read {B = A × B} r (λ x. then_read {B = A × B} q (λ y. Ok (x, y))) ≡ Ok (a, b)
both {A} {B} r q a b e h = ap (λ s. then_read {B = A × B} s (λ x. then_read {B = A × B} q (λ y. Ok (x, y)))) e ∙ ap (λ s. then_read {B = A × B} s (λ y. Ok (a, y))) h

first_bad : {A B : Type 0} (r : Read A) (q : Read B) (fault : ShapeFault) → r ≡ Err fault → then_read {B = A × B} r (λ x. then_read {B = A × B} q (λ y. Ok (x, y))) ≡ Err fault
first_bad {A} {B} r q fault e = ap (λ s. then_read {B = A × B} s (λ x. then_read {B = A × B} q (λ y. Ok (x, y)))) e

second_bad : {A B : Type 0} (r : Read A) (q : Read B) (a : A) (fault : ShapeFault) → r ≡ Ok a → q ≡ Err fault → then_read {B = A × B} r (λ x. then_read {B = A × B} q (λ y. Ok (x, y))) ≡ Err fault
second_bad {A} {B} r q a fault e h = ap (λ s. then_read {B = A × B} s (λ x. then_read {B = A × B} q (λ y. Ok (x, y)))) e ∙ ap (λ s. then_read {B = A × B} s (λ y. Ok (a, y))) h

abbrev copies_of_interface : List ℕ → IdRange × InterfaceKeys → List Visit
copies_of_interface h read = flat_map (interface_copy h read.1) (ids_in read.0)

pub interface_ok : (f : ℕ) (w : Seen) (h : List ℕ) (x : Attributes) (ids : IdRange) (k : InterfaceKeys) → ids_at (attributes x) ≡ Ok ids → interface_keys f (attributes x) ≡ Ok k →
    walked f w (interface_visits f h x) ≡ walked f w (flat_map (interface_copy h k) (ids_in ids))
interface_ok f w h x ids k e g = read_more f w (read_interface_list f (attributes x)) (copies_of_interface h) (ids, k) (both (ids_at (attributes x)) (interface_keys f (attributes x)) ids k e g)

pub interface_no_ids : (f : ℕ) (w : Seen) (h : List ℕ) (x : Attributes) (fault : ShapeFault) → ids_at (attributes x) ≡ Err fault → walked f w (interface_visits f h x) ≡ Err fault
interface_no_ids f w h x fault e = read_stop f w (read_interface_list f (attributes x)) (copies_of_interface h) fault (first_bad (ids_at (attributes x)) (interface_keys f (attributes x)) fault e)

pub interface_no_keys : (f : ℕ) (w : Seen) (h : List ℕ) (x : Attributes) (ids : IdRange) (fault : ShapeFault) → ids_at (attributes x) ≡ Ok ids → interface_keys f (attributes x) ≡ Err fault →
    walked f w (interface_visits f h x) ≡ Err fault
interface_no_keys f w h x ids fault e g = read_stop f w (read_interface_list f (attributes x)) (copies_of_interface h) fault (second_bad (ids_at (attributes x)) (interface_keys f (attributes x)) ids fault e g)

abbrev copies_of_host : ℕ → Bool → List ℕ → Attributes → IdRange × Option GatewayKeys → List Visit
copies_of_host f router n x read = flat_map (host_copy f router n x read.1) (ids_in read.0)

pub host_ok : (f : ℕ) (w : Seen) (router : Bool) (n : List ℕ) (x : Attributes) (ids : IdRange) (g : Option GatewayKeys) → ids_at (attributes x) ≡ Ok ids → gateway_of (attributes x) ≡ Ok g →
    walked f w (host_visits f router n x) ≡ walked f w (flat_map (host_copy f router n x g) (ids_in ids))
host_ok f w router n x ids g e h = read_more f w (read_host_list (attributes x)) (copies_of_host f router n x) (ids, g) (both (ids_at (attributes x)) (gateway_of (attributes x)) ids g e h)

pub host_no_ids : (f : ℕ) (w : Seen) (router : Bool) (n : List ℕ) (x : Attributes) (fault : ShapeFault) → ids_at (attributes x) ≡ Err fault → walked f w (host_visits f router n x) ≡ Err fault
host_no_ids f w router n x fault e = read_stop f w (read_host_list (attributes x)) (copies_of_host f router n x) fault (first_bad (ids_at (attributes x)) (gateway_of (attributes x)) fault e)

pub host_no_gateway : (f : ℕ) (w : Seen) (router : Bool) (n : List ℕ) (x : Attributes) (ids : IdRange) (fault : ShapeFault) → ids_at (attributes x) ≡ Ok ids → gateway_of (attributes x) ≡ Err fault →
    walked f w (host_visits f router n x) ≡ Err fault
host_no_gateway f w router n x ids fault e h = read_stop f w (read_host_list (attributes x)) (copies_of_host f router n x) fault (second_bad (ids_at (attributes x)) (gateway_of (attributes x)) ids fault e h)

pub net_ok : (f : ℕ) (w : Seen) (parent : List ℕ) (order : ℕ) (x : Attributes) (parts : List ℕ → List Visit) (ids : IdRange) → ids_at (attributes x) ≡ Ok ids →
    walked f w (net_visits parent order x parts) ≡ walked f w (flat_map (net_copy parent parts order ids.from) (ids_in ids))
net_ok f w parent order x parts ids e = read_more f w (ids_at (attributes x)) (λ ids. flat_map (net_copy parent parts order ids.from) (ids_in ids)) ids e

pub net_no_ids : (f : ℕ) (w : Seen) (parent : List ℕ) (order : ℕ) (x : Attributes) (parts : List ℕ → List Visit) (fault : ShapeFault) → ids_at (attributes x) ≡ Err fault →
    walked f w (net_visits parent order x parts) ≡ Err fault
net_no_ids f w parent order x parts fault e = read_stop f w (ids_at (attributes x)) (λ ids. flat_map (net_copy parent parts order ids.from) (ids_in ids)) fault e

-- turns of the loops

pub list_turn : (f : ℕ) (whole : Read Seen) (w w' : Seen) (g : Attributes → List Visit) (key : List ℕ) (xs : List Attribute) (i : ℕ) (x : Attribute) →
    whole ≡ walked f w (flat_map g (lists_of key (drop i xs))) → i < length xs → x ≡ get_or xs i x → walked f w (visits_of g (list_in key x)) ≡ Ok w' →
    whole ≡ walked f w' (flat_map g (lists_of key (drop (i + 1) xs)))
list_turn f whole w w' g key xs i x e lt is here =
    turn f whole w w' (flat_map g (lists_of key (drop i xs))) (visits_of g (list_in key x)) (flat_map g (lists_of key (drop (i + 1) xs))) e (lists_next g key xs i x lt is) here

pub list_stop : (f : ℕ) (whole : Read Seen) (w : Seen) (fault : ShapeFault) (g : Attributes → List Visit) (key : List ℕ) (xs : List Attribute) (i : ℕ) (x : Attribute) →
    whole ≡ walked f w (flat_map g (lists_of key (drop i xs))) → i < length xs → x ≡ get_or xs i x → walked f w (visits_of g (list_in key x)) ≡ Err fault → whole ≡ Err fault
list_stop f whole w fault g key xs i x e lt is here =
    stop f whole w fault (flat_map g (lists_of key (drop i xs))) (visits_of g (list_in key x)) (flat_map g (lists_of key (drop (i + 1) xs))) e (lists_next g key xs i x lt is) here

pub list_done : (f : ℕ) (whole : Read Seen) (w : Seen) (g : Attributes → List Visit) (key : List ℕ) (xs : List Attribute) (i : ℕ) →
    whole ≡ walked f w (flat_map g (lists_of key (drop i xs))) → length xs ≤ i → whole ≡ Ok w
list_done f whole w g key xs i e le = done f whole w (flat_map g (lists_of key (drop i xs))) e (lists_end g key xs i le)

pub no_list : (f : ℕ) (w : Seen) (g : Attributes → List Visit) (key : List ℕ) (x : Attribute) → None ≡ list_in key x → walked f w (visits_of g (list_in key x)) ≡ Ok w
no_list f w g key x e = done f (walked f w (visits_of g (list_in key x))) w (visits_of g (list_in key x)) refl (sym (ap (visits_of g) e))

pub ids_turn : (f : ℕ) (whole : Read Seen) (w w' : Seen) (g : ℕ → List Visit) (id end : ℕ) →
    whole ≡ walked f w (flat_map g (range_with_len id (end - id))) → id < end → walked f w (g id) ≡ Ok w' → whole ≡ walked f w' (flat_map g (range_with_len (id + 1) (end - (id + 1))))
ids_turn f whole w w' g id end e lt here =
    turn f whole w w' (flat_map g (range_with_len id (end - id))) (g id) (flat_map g (range_with_len (id + 1) (end - (id + 1)))) e (ids_next g id end lt) here

pub ids_stop : (f : ℕ) (whole : Read Seen) (w : Seen) (fault : ShapeFault) (g : ℕ → List Visit) (id end : ℕ) →
    whole ≡ walked f w (flat_map g (range_with_len id (end - id))) → id < end → walked f w (g id) ≡ Err fault → whole ≡ Err fault
ids_stop f whole w fault g id end e lt here =
    stop f whole w fault (flat_map g (range_with_len id (end - id))) (g id) (flat_map g (range_with_len (id + 1) (end - (id + 1)))) e (ids_next g id end lt) here

pub ids_done : (f : ℕ) (whole : Read Seen) (w : Seen) (g : ℕ → List Visit) (id end : ℕ) →
    whole ≡ walked f w (flat_map g (range_with_len id (end - id))) → end ≤ id → whole ≡ Ok w
ids_done f whole w g id end e le = done f whole w (flat_map g (range_with_len id (end - id))) e (ids_end g id end le)

pub part_turn : (f : ℕ) (whole : Read Seen) (w w' : Seen) (n : List ℕ) (order : ℕ) (xs : List Attribute) (i : ℕ) (x : Attribute) (next : ℕ) →
    whole ≡ walked f w (parts_of f n order (drop i xs)) → i < length xs → x ≡ get_or xs i x → next ≡ order + attribute_children x → walked f w (attribute_visits f n order x) ≡ Ok w' →
    whole ≡ walked f w' (parts_of f n next (drop (i + 1) xs))
part_turn f whole w w' n order xs i x next e lt is more here =
    turn f whole w w' (parts_of f n order (drop i xs)) (attribute_visits f n order x) (parts_of f n next (drop (i + 1) xs)) e (parts_next f n order xs i x next lt is more) here

pub part_stop : (f : ℕ) (whole : Read Seen) (w : Seen) (fault : ShapeFault) (n : List ℕ) (order : ℕ) (xs : List Attribute) (i : ℕ) (x : Attribute) →
    whole ≡ walked f w (parts_of f n order (drop i xs)) → i < length xs → x ≡ get_or xs i x → walked f w (attribute_visits f n order x) ≡ Err fault → whole ≡ Err fault
part_stop f whole w fault n order xs i x e lt is here =
    let next = order + attribute_children x in
    stop f whole w fault (parts_of f n order (drop i xs)) (attribute_visits f n order x) (parts_of f n next (drop (i + 1) xs)) e (parts_next f n order xs i x next lt is refl) here

pub part_done : (f : ℕ) (whole : Read Seen) (w : Seen) (n : List ℕ) (order : ℕ) (xs : List Attribute) (i : ℕ) → whole ≡ walked f w (parts_of f n order (drop i xs)) → length xs ≤ i → whole ≡ Ok w
part_done f whole w n order xs i e le = done f whole w (parts_of f n order (drop i xs)) e (parts_end f n order xs i le)

pub host_turn : (f : ℕ) (whole : Read Seen) (w w' : Seen) (h : List ℕ) (met : Bool) (xs : List Attribute) (i : ℕ) (x : Attribute) (next : Bool) →
    whole ≡ walked f w (host_parts_of f h met (drop i xs)) → i < length xs → x ≡ get_or xs i x → next ≡ met_after met x → walked f w (host_attribute_visits f h met x) ≡ Ok w' →
    whole ≡ walked f w' (host_parts_of f h next (drop (i + 1) xs))
host_turn f whole w w' h met xs i x next e lt is more here =
    turn f whole w w' (host_parts_of f h met (drop i xs)) (host_attribute_visits f h met x) (host_parts_of f h next (drop (i + 1) xs)) e (host_next f h met xs i x next lt is more) here

pub host_stop : (f : ℕ) (whole : Read Seen) (w : Seen) (fault : ShapeFault) (h : List ℕ) (met : Bool) (xs : List Attribute) (i : ℕ) (x : Attribute) →
    whole ≡ walked f w (host_parts_of f h met (drop i xs)) → i < length xs → x ≡ get_or xs i x → walked f w (host_attribute_visits f h met x) ≡ Err fault → whole ≡ Err fault
host_stop f whole w fault h met xs i x e lt is here =
    let next = met_after met x in
    stop f whole w fault (host_parts_of f h met (drop i xs)) (host_attribute_visits f h met x) (host_parts_of f h next (drop (i + 1) xs)) e (host_next f h met xs i x next lt is refl) here

pub host_done : (f : ℕ) (whole : Read Seen) (w : Seen) (h : List ℕ) (met : Bool) (xs : List Attribute) (i : ℕ) → whole ≡ walked f w (host_parts_of f h met (drop i xs)) → length xs ≤ i → whole ≡ Ok w
host_done f whole w h met xs i e le = done f whole w (host_parts_of f h met (drop i xs)) e (host_end f h met xs i le)

-- lists that are passed by

pub other_none : (f : ℕ) (n key : List ℕ) (x : Attributes) → is_text (codes "host") key ≡ false → is_text (codes "router") key ≡ false → is_text (codes "traffic") key ≡ false → other_visits f n key x ≡ []
other_none f n key x host router traffic = rw (host, router, traffic) refl

pub host_none : (f : ℕ) (h : List ℕ) (met : Bool) (key : List ℕ) (x : Attributes) → is_text (codes "interface") key ≡ false → (is_text (codes "graph") key && not met) ≡ false → host_part f h met key x ≡ []
host_none f h met key x interface graph = rw (interface, graph) refl
