-- The interfaces of each host, and its in-channels.
use Rattle.std.proofs.Common.{◌≡◌, ℕ, zero, suc, ◌+◌, ◌-◌, ◌<◌, ◌≤◌, Bool, true, false, cond, ltb, List, [], ◌∷◌, ◌++◌, length, map, get_or, refl, sym, ap, subst, ◌∙◌, inl, inr, add-one, arith}
use Rattle.std.specs.List.{prefix_len, range_with_len, flat_map, Contains}
use Rattle.std.proofs.lemmas.List.{get_or_append_left, get_or-append-add, get_or-replicate, length-append, length-replicate, map-id}
use Rattle.std.proofs.lemmas.List.Sums.{prefix_len_passes, prefix_len_stops, prefix_len-le-length}
use Rattle.std.proofs.lemmas.List.FromFn.{length-range_with_len, get_or-range_with_len, map-range_with_len_more}
use Rattle.std.proofs.lemmas.Bool.{cases_lt, ltb-true, ltb-false, lt-ltb, le-ltb}
use Rattle.net_graph.specs.declared.rows.Network.{Network}
use Rattle.net_graph.specs.declared.rows.InterfaceRow.{InterfaceRow}
use Rattle.net_graph.specs.Networks.{IsNetwork, no_interface, numbers, interface_at}
use Rattle.net_layout.specs.Arms.{first_interface}
use Rattle.net_layout.specs.Wiring.{in_channel, poke_channel}
use Rattle.net_layout.specs.Ports.{port_count, ports_of, ins_of, owners_in, owners_before, owners_of}
use Rattle.net_layout.proofs.Numbered.{flat_map_next}

one_longer : (a b : Bool) (m n : ℕ) → (a ≡ true → b ≡ true) → m ≤ n → cond a (1 + m) 0 ≤ cond b (1 + n) 0
one_longer false b m n more le = omega arith
one_longer true true m n more le = omega arith
one_longer true false m n more le = let no : false ≡ true = more refl in cc

-- the front that passes a weaker test is no shorter
front_longer : {X : Type 0} (p q : X → Bool) → ((x : X) → p x ≡ true → q x ≡ true) → (xs : List X) → prefix_len p xs ≤ prefix_len q xs
front_longer p q more [] = omega arith
front_longer p q more (x ∷ xs) = one_longer (p x) (q x) (prefix_len p xs) (prefix_len q xs) (more x) (front_longer p q more xs)

pub first_interface_up : (network : Network) (g h : ℕ) → g ≤ h → first_interface network g ≤ first_interface network h
unfolding first_interface
first_interface_up network g h le =
    front_longer (λ (i : InterfaceRow). ltb i.host g) (λ (i : InterfaceRow). ltb i.host h) (λ i less. lt-ltb i.host h (omega (arith, ltb-true i.host g less))) network.interfaces

none_before : (xs : List InterfaceRow) → prefix_len (λ (i : InterfaceRow). ltb i.host 0) xs ≡ 0
none_before [] = refl
none_before (i ∷ is) = rw (le-ltb i.host 0 (omega arith)) refl

pub first_interface-first : (network : Network) → first_interface network 0 ≡ 0
unfolding first_interface
first_interface-first network = none_before network.interfaces

module _ (network : Network) (is : IsNetwork network) where
  -- an interface before those of a host belongs to a host before it
  pub host_low : (i h : ℕ) → i < first_interface network h → (interface_at network i).host < h
  unfolding first_interface
  host_low i h lt = ltb-true (interface_at network i).host h (prefix_len_passes (λ (i : InterfaceRow). ltb i.host h) network.interfaces i no_interface lt)

  -- and one behind them to that host or one behind it
  pub host_high : (i h : ℕ) → first_interface network h ≤ i → i < length network.interfaces → h ≤ (interface_at network i).host
  unfolding first_interface
  host_high i h le lt =
      let first : ℕ = prefix_len (λ (i : InterfaceRow). ltb i.host h) network.interfaces in
      let there = ltb-false (interface_at network first).host h (prefix_len_stops (λ (i : InterfaceRow). ltb i.host h) network.interfaces no_interface (omega arith)) in
      let rise = is.host_by_host first i no_interface le lt in
      omega arith

  pub first_most : (h : ℕ) → first_interface network h ≤ length network.interfaces
  unfolding first_interface
  first_most h = prefix_len-le-length (λ (i : InterfaceRow). ltb i.host h) network.interfaces

  -- an interface is one of its host
  pub port_from : (i : ℕ) → i < length network.interfaces → first_interface network (interface_at network i).host ≤ i
  port_from i lt = elim (cases_lt i (first_interface network (interface_at network i).host)) [
    | inl less ↦ let low = host_low i (interface_at network i).host less in absurd (omega arith)
    | inr le ↦ le
  ]

  pub port_below : (i : ℕ) → i < length network.interfaces → i < first_interface network ((interface_at network i).host + 1)
  port_below i lt = elim (cases_lt i (first_interface network ((interface_at network i).host + 1))) [
    | inl less ↦ less
    | inr le ↦ let high = host_high i ((interface_at network i).host + 1) le lt in absurd (omega arith)
  ]

  -- of those that stand from the first one on and before the first of the next host each is one of the host
  pub port_host : (i h : ℕ) → first_interface network h ≤ i → i < first_interface network (h + 1) → (i < length network.interfaces) × ((interface_at network i).host ≡ h)
  port_host i h le lt =
      let most = first_most (h + 1) in
      let low = host_low i (h + 1) lt in
      let there : i < length network.interfaces = omega arith in
      let high = host_high i h le there in
      (there, omega arith)

  pub ports_within : (h i : ℕ) → Contains (ports_of network h) i → (i < length network.interfaces) × ((interface_at network i).host ≡ h)
  ports_within h i has =
      let first : ℕ = first_interface network h in
      let count : ℕ = port_count network h in
      let place : ℕ = has.0 in
      let lt : place < count = omega (arith, has.1, length-range_with_len first count) in
      let here : get_or (range_with_len first count) place i ≡ i = has.2 in
      let at : get_or (range_with_len first count) place i ≡ first + place = get_or-range_with_len first count place i lt in
      port_host i h (omega arith) (omega arith)

  pub ports_all : (i : ℕ) → i < length network.interfaces → Contains (ports_of network (interface_at network i).host) i
  ports_all i lt =
      let h : ℕ = (interface_at network i).host in
      let first : ℕ = first_interface network h in
      let count : ℕ = port_count network h in
      let from : first ≤ i = port_from i lt in
      let below : i < first_interface network (h + 1) = port_below i lt in
      let within : i - first < count = omega arith in
      (i - first, omega (arith, length-range_with_len first count), get_or-range_with_len first count (i - first) i within ∙ omega arith)

  pub first_interface-last : first_interface network (length network.hosts) ≡ length network.interfaces
  first_interface-last =
      let most = first_most (length network.hosts) in
      elim (cases_lt (first_interface network (length network.hosts)) (length network.interfaces)) [
        | inl less ↦
            let i : ℕ = first_interface network (length network.hosts) in
            let high = host_high i (length network.hosts) (omega arith) less in
            let there = (is.interfaces i less).host in
            absurd (omega arith)
        | inr le ↦ omega arith
      ]

-- in-channels

range_push : (a n : ℕ) → range_with_len a n ++ (a + n) ∷ [] ≡ range_with_len a (n + 1)
range_push a n =
    ap (λ (l : List ℕ). l ++ (a + n) ∷ []) (sym (map-id (range_with_len a n))) ∙ sym (map-range_with_len_more (λ (x : ℕ). x) a n (a + n) refl) ∙ map-id (range_with_len a (n + 1))

owners_next : (network : Network) (h : ℕ) → owners_before network (h + 1) ≡ owners_before network h ++ owners_in network h
unfolding owners_before
owners_next network h = sym (flat_map_next (owners_in network) [] (flat_map (owners_in network) (numbers h)) h refl)

owners_none : (network : Network) → length (owners_before network 0) ≡ 0
unfolding owners_before
owners_none network = refl

pub length-owners_before : (network : Network) (h : ℕ) → length (owners_before network h) ≡ first_interface network h + h
length-owners_before network zero = let none = owners_none network in let first = first_interface-first network in omega arith
length-owners_before network (suc h) =
    let joined : length (owners_before network (suc h)) ≡ length (owners_before network h) + (port_count network h + 1) =
    ap (λ m. length (owners_before network m)) (sym (add-one h)) ∙ ap (λ (l : List ℕ). length l) (owners_next network h) ∙ length-append (owners_before network h) (owners_in network h) ∙ ap (λ n. length (owners_before network h) + n) (length-replicate (port_count network h + 1) h) in
    let before = length-owners_before network h in
    let up = first_interface_up network h (h + 1) (omega arith) in
    let same : first_interface network (h + 1) ≡ first_interface network (suc h) = ap (first_interface network) (add-one h) in
    omega arith

-- the in-channels of a host are its own
owner_at : (network : Network) (all h j : ℕ) → h < all → j ≤ port_count network h → get_or (owners_before network all) (first_interface network h + h + j) 0 ≡ h
owner_at network zero h j lt le = absurd (omega arith)
owner_at network (suc all) h j lt le =
    let next : owners_before network (suc all) ≡ owners_before network all ++ owners_in network all = ap (owners_before network) (sym (add-one all)) ∙ owners_next network all in
    let long = length-owners_before network all in
    ap (λ (l : List ℕ). get_or l (first_interface network h + h + j) 0) next
    ∙ elim (cases_lt h all) [
      | inl less ↦
          let up = first_interface_up network (h + 1) all (omega arith) in
          let own = first_interface_up network h (h + 1) (omega arith) in
          get_or_append_left (owners_before network all) (owners_in network all) 0 (first_interface network h + h + j) (omega arith) ∙ owner_at network all h j less le
      | inr last ↦
          let same : h ≡ all = omega arith in
          let place : first_interface network h + h + j ≡ length (owners_before network all) + j = ap (λ m. first_interface network m + m + j) same ∙ ap (λ n. n + j) (sym long) in
          ap (λ k. get_or (owners_before network all ++ owners_in network all) k 0) place
          ∙ get_or-append-add (owners_before network all) (owners_in network all) j 0
          ∙ get_or-replicate (port_count network all + 1) j all 0 (let few : j ≤ port_count network all = subst (λ m. j ≤ port_count network m) same le in omega arith)
          ∙ sym same
    ]

pub owners_poke : (network : Network) (h : ℕ) → h < length network.hosts → get_or (owners_of network) (poke_channel network h) 0 ≡ h
owners_poke network h lt =
    let up = first_interface_up network h (h + 1) (omega arith) in
    let place : poke_channel network h ≡ first_interface network h + h + port_count network h = omega arith in
    ap (λ k. get_or (owners_of network) k 0) place ∙ owner_at network (length network.hosts) h (port_count network h) lt (omega arith)

-- one number more
pub range_grown : (numbers : List ℕ) (first i : ℕ) → first ≤ i → numbers ≡ range_with_len first (i - first) → numbers ++ i ∷ [] ≡ range_with_len first (i + 1 - first)
range_grown numbers first i le e =
    let last : i ≡ first + (i - first) = omega arith in
    let count : i - first + 1 ≡ i + 1 - first = omega arith in
    ap (λ (l : List ℕ). l ++ i ∷ []) e
    ∙ ap (λ k. range_with_len first (i - first) ++ k ∷ []) last
    ∙ range_push first (i - first)
    ∙ ap (range_with_len first) count

module _ (network : Network) (is : IsNetwork network) where
  pub owners_port : (i : ℕ) → i < length network.interfaces → get_or (owners_of network) (in_channel network i) 0 ≡ (interface_at network i).host
  owners_port i lt =
      let h : ℕ = (interface_at network i).host in
      let from = port_from network is i lt in
      let below = port_below network is i lt in
      let there = (is.interfaces i lt).host in
      let place : in_channel network i ≡ first_interface network h + h + (i - first_interface network h) = omega arith in
      ap (λ k. get_or (owners_of network) k 0) place ∙ owner_at network (length network.hosts) h (i - first_interface network h) there (omega arith)

  pub length-owners_of : length (owners_of network) ≡ length network.interfaces + length network.hosts
  length-owners_of = length-owners_before network (length network.hosts) ∙ ap (λ n. n + length network.hosts) (first_interface-last network is)

  in_channels_of : (h a n : ℕ) → first_interface network h ≤ a → a + n ≤ first_interface network (h + 1) → map (in_channel network) (range_with_len a n) ≡ range_with_len (a + h) n
  in_channels_of h a zero low high = refl
  in_channels_of h a (suc n) low high =
      let own = port_host network is a h low (omega arith) in
      let here : in_channel network a ≡ a + h = omega (arith, own.1) in
      let next : a + 1 + h ≡ a + h + 1 = omega arith in
      ap (λ (m : ℕ). m ∷ map (in_channel network) (range_with_len (a + 1) n)) here
      ∙ ap (λ (l : List ℕ). (a + h) ∷ l) (in_channels_of h (a + 1) n (omega arith) (omega arith) ∙ ap (λ m. range_with_len m n) next)

  pub ins_of-range : (h : ℕ) → ins_of network h ≡ range_with_len (first_interface network h + h) (port_count network h + 1)
  ins_of-range h =
      let first : ℕ = first_interface network h in
      let count : ℕ = port_count network h in
      let up = first_interface_up network h (h + 1) (omega arith) in
      let poke : poke_channel network h ≡ first + h + count = omega arith in
      ap (λ (l : List ℕ). l ++ poke_channel network h ∷ []) (in_channels_of h first count (omega arith) (omega arith))
      ∙ ap (λ k. range_with_len (first + h) count ++ k ∷ []) poke
      ∙ range_push (first + h) count
