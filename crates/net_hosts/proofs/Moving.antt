-- Lists that are moved out one by one.
use Rattle.std.proofs.Common.{◌≡◌, ℕ, ◌+◌, ◌-◌, ◌<◌, ◌≤◌, List, [], ◌∷◌, ◌++◌, length, map, get_or, set, sym, ap, subst, ◌∙◌, zero-add, arith}
use Rattle.std.specs.List.{range_with_len}
use Rattle.std.proofs.lemmas.List.{length-set, get_or-set_other, get_or_read}
use Rattle.std.proofs.lemmas.List.FromFn.{length-map-range_with_len, get_or-map-range_with_len, map-range_with_len_more}
use Rattle.net_graph.specs.declared.rows.Network.{Network}
use Rattle.net_layout.specs.Arms.{first_interface}
use Rattle.net_layout.specs.Ports.{port_count, ports_of}
use Rattle.net_hosts.specs.HostRowsOf.{port_row}
use Rattle.net_hosts.specs.Left.{AreLeft}

module _ {T : Type 0} (list_of : ℕ → List T) where
  -- all of them are there
  pub left_all : (from n : ℕ) (lists : List (List T)) → lists ≡ map list_of (range_with_len 0 n) → AreLeft list_of from n lists
  left_all from n lists e = record {
    as_many = ap length e ∙ length-map-range_with_len list_of 0 n;
    each = λ k low lt. ap (λ (ls : List (List T)). get_or ls k []) e ∙ get_or-map-range_with_len list_of 0 n k k [] lt (zero-add k);
  }

  -- the next one is moved out
  pub left_next : (from n : ℕ) (lists : List (List T)) → AreLeft list_of from n lists → AreLeft list_of (from + 1) n (set lists from [])
  left_next from n lists left = record {
    as_many = length-set lists from [] ∙ left.as_many;
    each = λ k low lt. let other : k ≡ from → ⊥ = λ e. omega arith in get_or-set_other lists from k [] [] other ∙ left.each k (omega arith) lt;
  }

  pub left_moved : (from n : ℕ) (lists now : List (List T)) → AreLeft list_of from n lists → now ≡ set lists from [] → AreLeft list_of (from + 1) n now
  left_moved from n lists now left e = subst (AreLeft list_of (from + 1) n) (sym e) (left_next from n lists left)

-- the interfaces of a host, made into rows one by one

pub ports_none : (network : Network) (h i : ℕ) → i ≡ first_interface network h → [] ≡ map (port_row network) (range_with_len (first_interface network h) (i - first_interface network h))
ports_none network h i e =
    let none : 0 ≡ i - first_interface network h = omega arith in
    ap (λ n. map (port_row network) (range_with_len (first_interface network h) n)) none

pub ports_more : {X : Type 0} (f : ℕ → X) (rows now : List X) (row : X) (first i : ℕ) → first ≤ i → rows ≡ map f (range_with_len first (i - first)) → row ≡ f i → now ≡ rows ++ row ∷ [] → now ≡ map f (range_with_len first (i + 1 - first))
ports_more f rows now row first i le e is more =
    let place : first + (i - first) ≡ i = omega arith in
    let count : i - first + 1 ≡ i + 1 - first = omega arith in
    more
    ∙ ap (λ x. rows ++ x ∷ []) is
    ∙ ap (λ l. l ++ f i ∷ []) e
    ∙ sym (map-range_with_len_more f first (i - first) i place)
    ∙ ap (λ n. map f (range_with_len first n)) count

pub ports_all : {X : Type 0} (network : Network) (f : ℕ → X) (rows : List X) (h i : ℕ) → i ≡ first_interface network (h + 1) → rows ≡ map f (range_with_len (first_interface network h) (i - first_interface network h)) → rows ≡ map f (ports_of network h)
ports_all network f rows h i e all =
    let count : i - first_interface network h ≡ port_count network h = omega arith in
    all ∙ ap (λ n. map f (range_with_len (first_interface network h) n)) count

-- the list at the next place, as it is read
pub list_read : {T : Type 0} (list_of : ℕ → List T) (n from : ℕ) (lists read : List (List T)) (item : List T) → AreLeft list_of from n lists → from < n → read ≡ lists → item ≡ get_or read from item → item ≡ list_of from
list_read list_of n from lists read item left lt same is =
    let here : from < length lists = omega (arith, left.as_many) in
    let at : item ≡ get_or lists from item = is ∙ ap (λ ls. get_or ls from item) same in
    get_or_read lists from item here at [] ∙ left.each from (omega arith) lt
