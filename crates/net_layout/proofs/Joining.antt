-- One wire more, and one attachment more.
use Rattle.std.proofs.Common.{◌≡◌, ℕ, ◌+◌, ◌^◌, ◌<◌, ◌≤◌, suc, lit≤, inl, inr, slice_index, List, [], ◌∷◌, ◌++◌, length, map, get_or, take, drop, None, refl, sym, ap, ◌∙◌, append_assoc, add-one}
use Rattle.std.specs.List.{remove, flat_map, All}
use Rattle.std.proofs.lemmas.List.{get_or_past}
use Rattle.std.proofs.lemmas.List.Elements.{All-nil, All-append, All-map}
use Rattle.std.proofs.lemmas.Bool.{cases_lt}
use Rattle.net_graph.specs.declared.rows.Network.{Network}
use Rattle.net_graph.specs.Networks.{IsNetwork, no_interface, no_link, numbers, interface_at, link_at}
use Rattle.std.proofs.lemmas.List.{map-append, map_more, drop_more, drop_all, append-nil}
use Rattle.ssf_model.specs.declared.plan.Mapping.{Mapping}
use Rattle.net_layout.specs.declared.wiring.Wire.{Wire}
use Rattle.net_layout.specs.Wiring.{mapping_of, mappings_from, poke_wire, link_wire, wires_from, wires_of_link, wires_of, IsShortWire}

pub remove_parts : {A B : Type 0} (f : A → B) (old mid now : List B) (xs : List A) (place : ℕ) → mid ≡ old ++ map f (take place xs) → now ≡ mid ++ map f (drop (place + 1) xs) → now ≡ old ++ map f (remove xs place)
remove_parts f old mid now xs place first second =
    let next : drop (place + 1) xs ≡ drop (suc place) xs = rw add-one refl in
    second
    ∙ ap (λ ys. ys ++ map f (drop (place + 1) xs)) first
    ∙ append_assoc old (map f (take place xs)) (map f (drop (place + 1) xs))
    ∙ ap (λ ys. old ++ (map f (take place xs) ++ map f ys)) next
    ∙ ap (λ ys. old ++ ys) (sym (map-append f (take place xs) (drop (suc place) xs)))

pub map_on : {A B : Type 0} (f : A → B) (old now : List B) (xs : List A) (i : ℕ) (d : A) → i < length xs → now ≡ old ++ map f (take i xs) → now ++ f (get_or xs i d) ∷ [] ≡ old ++ map f (take (i + 1) xs)
map_on f old now xs i d lt e =
    ap (λ ys. ys ++ f (get_or xs i d) ∷ []) e
    ∙ append_assoc old (map f (take i xs)) (f (get_or xs i d) ∷ [])
    ∙ ap (λ ys. old ++ ys) (sym (map_more f xs i d lt))

abbrev pub no_wire : Wire
no_wire = record { from = 0; to = 0; interfaces = None; in_channel = 0; latency = 0; delay = 0; priority = 0 }

All_flat_map : {A B : Type 0} (P : B → Type 0) (f : A → List B) (xs : List A) → ((x : A) → All P (f x)) → All P (flat_map f xs)
All_flat_map P f [] each = All-nil P
All_flat_map P f (x ∷ xs) each = All-append P (f x) (flat_map f xs) (each x) (All_flat_map P f xs each)

pub All_map : {A B : Type 0} (P : B → Type 0) (f : A → B) (xs : List A) → ((x : A) → P (f x)) → All P (map f xs)
All_map P f xs each = All-map P f xs (λ k d lt. each (get_or xs k d))

module _ (network : Network) (is : IsNetwork network) where
  pub latency_short : (i : ℕ) → (interface_at network i).latency ≤ 10 ^ 18
  latency_short i = elim (cases_lt i (length network.interfaces)) [
    | inl lt ↦ (is.interfaces i lt).latency
    | inr past ↦ rw (get_or_past network.interfaces i no_interface past) (lit≤ tt)
  ]

  pub delay_short : (l : ℕ) → (link_at network l).delay ≤ 10 ^ 18
  delay_short l = elim (cases_lt l (length network.links)) [
    | inl lt ↦ (is.links l lt).delay
    | inr past ↦ rw (get_or_past network.links l no_link past) (lit≤ tt)
  ]

  pub wires_short : All IsShortWire (wires_of network)
  unfolding wires_of wires_of_link
  wires_short =
      All-append IsShortWire (map (poke_wire network) (numbers (length network.hosts))) (flat_map (wires_of_link network) (numbers (length network.links)))
      (All_map IsShortWire (poke_wire network) (numbers (length network.hosts)) (λ h. (lit≤ tt, lit≤ tt)))
      (All_flat_map IsShortWire (wires_of_link network) (numbers (length network.links)) (λ l.
      All_flat_map IsShortWire (wires_from network l (link_at network l).attached) (numbers (length (link_at network l).attached)) (λ place.
      All_map IsShortWire (link_wire network l (slice_index (link_at network l).attached place)) (remove (link_at network l).attached place) (λ b.
      (latency_short (slice_index (link_at network l).attached place), delay_short l)))))

-- the mappings so far, and those of the wires that are left, are those of all
abbrev pub AreMapped : ℕ → List Wire → ℕ → List Mapping → Type 0
AreMapped first wires i mappings = mappings ++ mappings_from first i (drop i wires) ≡ mappings_from first 0 wires

pub mapped_more : (first : ℕ) (wires : List Wire) (i : ℕ) (mappings : List Mapping) (d : Wire) → i < length wires → AreMapped first wires i mappings → AreMapped first wires (i + 1) (mappings ++ mapping_of first i (get_or wires i d) ∷ [])
mapped_more first wires i mappings d lt h =
    append_assoc mappings (mapping_of first i (get_or wires i d) ∷ []) (mappings_from first (i + 1) (drop (i + 1) wires))
    ∙ ap (λ xs. mappings ++ mappings_from first i xs) (sym (drop_more wires i d lt))
    ∙ h

pub mapped_all : (first : ℕ) (wires : List Wire) (i : ℕ) (mappings : List Mapping) → length wires ≤ i → AreMapped first wires i mappings → mappings ≡ mappings_from first 0 wires
mapped_all first wires i mappings end h =
    sym (append-nil mappings) ∙ ap (λ xs. mappings ++ mappings_from first i xs) (sym (drop_all i wires end)) ∙ h
