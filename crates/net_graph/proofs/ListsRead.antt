-- Reading one thing of each list of a key, in their order.
use Rattle.std.proofs.Common.{◌≡◌, ℕ, ◌+◌, ◌<◌, ◌≤◌, Bool, true, false, nat_eq, List, [], ◌∷◌, ◌++◌, length, map, filter, get_or, drop, Some, Ok, Err, refl, arith, ap, sym, ◌∙◌, append-nil, append_assoc, length-append, codes}
use Rattle.std.specs.Cmp.Lexicographic.{pointwise}
use Rattle.dml_tree.specs.declared.tree.Attribute.{Attribute}
use Rattle.dml_tree.specs.declared.tree.Value.{Value}
use Rattle.dml_tree.specs.declared.tree.Value.TheVariants as value
use Rattle.dml_tree.specs.Attributes.{Attributes}
use Rattle.dml_tree.specs.TreeView.{attributes}
use Rattle.net_graph.specs.declared.fault.ShapeFault.{ShapeFault}
use Rattle.net_graph.specs.declared.rows.Down.{Down}
use Rattle.net_graph.specs.Keys.{lists_in, values_of}
use Rattle.net_graph.specs.Reads.{Read, then_read, read_each}
use Rattle.net_graph.specs.ListKeys.{numbered_down, downs_from, is_route, routes_of, first_value_of, is_default, default_or, default_in}
use Rattle.net_graph.proofs.Lookup.{drop_item, drop_all, this_value, next_values}

-- what was read before what is still to be read
abbrev pub onto : {A : Type 0} → List A → Read (List A) → Read (List A)
onto xs (Ok ys) = Ok (xs ++ ys)
onto xs (Err fault) = Err fault

pub onto_nil : {A : Type 0} (r : Read (List A)) → onto [] r ≡ r
onto_nil (Ok ys) = refl
onto_nil (Err fault) = refl

pub onto_cons : {A : Type 0} (xs : List A) (y : A) (r : Read (List A)) → onto xs (then_read r (λ ys. Ok (y ∷ ys))) ≡ onto (xs ++ y ∷ []) r
onto_cons xs y (Ok ys) = ap Ok (sym (append_assoc xs (y ∷ []) ys))
onto_cons xs y (Err fault) = refl

-- one more was read
pub onto_more : {A B : Type 0} (f : A → Read B) (before : List B) (x : A) (xs : List A) (y : B) → f x ≡ Ok y → onto before (read_each f (x ∷ xs)) ≡ onto (before ++ y ∷ []) (read_each f xs)
onto_more f before x xs y e = ap (λ r. onto before (then_read r (λ z. then_read (read_each f xs) (λ zs. Ok (z ∷ zs))))) e ∙ onto_cons before y (read_each f xs)

-- one could not be read
pub onto_fault : {A B : Type 0} (f : A → Read B) (before : List B) (x : A) (xs : List A) (fault : ShapeFault) → f x ≡ Err fault → onto before (read_each f (x ∷ xs)) ≡ Err fault
onto_fault f before x xs fault e = ap (λ r. onto before (then_read r (λ z. then_read (read_each f xs) (λ zs. Ok (z ∷ zs))))) e

-- all were read
pub onto_end : {A : Type 0} (xs : List A) → onto xs (Ok []) ≡ Ok xs
onto_end xs = ap Ok (append-nil xs)

-- one turn of a loop over attributes, whose values with a key are read
pub read_turn : {B : Type 0} (f : Value → Read B) (key : List ℕ) (whole : Read (List B)) (xs : List Attribute) (i : ℕ) (x : Attribute) (before after : List B) (y : B) →
    whole ≡ onto before (read_each f (values_of key (drop i xs))) → i < length xs → x ≡ get_or xs i x → pointwise nat_eq x.key key ≡ true → f x.value ≡ Ok y → after ≡ before ++ y ∷ [] →
    whole ≡ onto after (read_each f (values_of key (drop (i + 1) xs)))
read_turn f key whole xs i x before after y e lt is same read pushed =
    e ∙ (ap (λ (vs : List Value). onto before (read_each f vs)) (this_value key xs i x lt is same)
    ∙ (onto_more f before x.value (values_of key (drop (i + 1) xs)) y read
    ∙ ap (λ l. onto l (read_each f (values_of key (drop (i + 1) xs)))) (sym pushed)))

pub skip_turn : {B : Type 0} (f : Value → Read B) (key : List ℕ) (whole : Read (List B)) (xs : List Attribute) (i : ℕ) (x : Attribute) (before : List B) →
    whole ≡ onto before (read_each f (values_of key (drop i xs))) → i < length xs → x ≡ get_or xs i x → pointwise nat_eq x.key key ≡ false →
    whole ≡ onto before (read_each f (values_of key (drop (i + 1) xs)))
skip_turn f key whole xs i x before e lt is other = e ∙ ap (λ (vs : List Value). onto before (read_each f vs)) (next_values key xs i x lt is other)

-- times in which a link is down, by their numbers

pub downs_more : (frequency start : ℕ) (before : List Down) (x : Attributes) (xs : List Attributes) (d : Down) → numbered_down frequency (start + length before) x ≡ Ok d →
    onto before (downs_from frequency (start + length before) (x ∷ xs)) ≡ onto (before ++ d ∷ []) (downs_from frequency (start + length (before ++ d ∷ [])) xs)
downs_more frequency start before x xs d e =
    let longer : length (before ++ d ∷ []) ≡ length before + 1 = length-append before (d ∷ []) in
    let next : start + length before + 1 ≡ start + length (before ++ d ∷ []) = omega (arith, longer) in
    ap (λ r. onto before (then_read r (λ z. then_read (downs_from frequency (start + length before + 1) xs) (λ zs. Ok (z ∷ zs))))) e
    ∙ (onto_cons before d (downs_from frequency (start + length before + 1) xs)
    ∙ ap (λ (n : ℕ). onto (before ++ d ∷ []) (downs_from frequency n xs)) next)

pub downs_fault : (frequency number : ℕ) (before : List Down) (x : Attributes) (xs : List Attributes) (fault : ShapeFault) → numbered_down frequency number x ≡ Err fault →
    onto before (downs_from frequency number (x ∷ xs)) ≡ Err fault
downs_fault frequency number before x xs fault e = ap (λ r. onto before (then_read r (λ z. then_read (downs_from frequency (number + 1) xs) (λ zs. Ok (z ∷ zs))))) e

-- routes

routes_skip : (x : Attribute) (xs : List Attribute) → is_route x ≡ false → routes_of (x ∷ xs) ≡ routes_of xs
routes_skip x xs e = rw e refl

routes_keep : (x : Attribute) (xs : List Attribute) → is_route x ≡ true → routes_of (x ∷ xs) ≡ lists_in (x.value ∷ map (λ (y : Attribute). y.value) (filter is_route xs))
routes_keep x xs e = rw e refl

pub next_routes : (xs : List Attribute) (i : ℕ) (x : Attribute) → i < length xs → x ≡ get_or xs i x → is_route x ≡ false → routes_of (drop i xs) ≡ routes_of (drop (i + 1) xs)
next_routes xs i x lt is e = ap routes_of (drop_item xs i x lt is) ∙ routes_skip x (drop (i + 1) xs) e

with_value : (v : Value) (w : Value) (vs : List Value) → v ≡ w → lists_in (v ∷ vs) ≡ lists_in (w ∷ vs)
with_value v w vs e = ap (λ y. lists_in (y ∷ vs)) e

pub text_no_route : (xs : List Attribute) (i : ℕ) (x : Attribute) (text : List ℕ) → i < length xs → x ≡ get_or xs i x → is_route x ≡ true → x.value ≡ value.Plain text → routes_of (drop i xs) ≡ routes_of (drop (i + 1) xs)
text_no_route xs i x text lt is e v = ap routes_of (drop_item xs i x lt is) ∙ (routes_keep x (drop (i + 1) xs) e ∙ with_value x.value (value.Plain text) _ v)

pub this_route : (xs : List Attribute) (i : ℕ) (x : Attribute) (inner : Attributes) → i < length xs → x ≡ get_or xs i x → is_route x ≡ true → x.value ≡ value.List inner → routes_of (drop i xs) ≡ inner ∷ routes_of (drop (i + 1) xs)
this_route xs i x inner lt is e v = ap routes_of (drop_item xs i x lt is) ∙ (routes_keep x (drop (i + 1) xs) e ∙ with_value x.value (value.List inner) _ v)

pub no_routes : (xs : List Attribute) (i : ℕ) → length xs ≤ i → routes_of (drop i xs) ≡ []
no_routes xs i le = ap routes_of (drop_all xs i le)

abbrev pub dest_of : Attributes → Read Bool
dest_of route = is_default (first_value_of (codes "dest") (attributes route))

pub other_dest : (route : Attributes) (routes : List Attributes) → dest_of route ≡ Ok false → default_in (route ∷ routes) ≡ default_in routes
other_dest route routes e = ap (λ r. then_read r (default_or route (default_in routes))) e

pub default_dest : (route : Attributes) (routes : List Attributes) → dest_of route ≡ Ok true → default_in (route ∷ routes) ≡ Ok (Some route)
default_dest route routes e = ap (λ r. then_read r (default_or route (default_in routes))) e

pub bad_dest : (route : Attributes) (routes : List Attributes) (fault : ShapeFault) → dest_of route ≡ Err fault → default_in (route ∷ routes) ≡ Err fault
bad_dest route routes fault e = ap (λ r. then_read r (default_or route (default_in routes))) e
