-- The out-channels of each interface.
use Rattle.std.proofs.Common.{◌≡◌, ℕ, ◌+◌, ◌<◌, Bool, cond, List, [], ◌∷◌, length, map, get_or, slice_index, Option, Some, None, refl, sym, ap, subst, ◌∙◌, zero-add, arith}
use Rattle.std.specs.Prelude.{slice_get}
use Rattle.std.specs.List.{flat_map, remove, enumerate_from, All}
use Rattle.std.specs.Option.{unwrap_or}
use Rattle.std.proofs.lemmas.List.{append-nil}
use Rattle.std.proofs.lemmas.List.Concat.{flat_map-append}
use Rattle.std.proofs.lemmas.List.Elements.{All-append, All-map, All-weaker, All-get_or}
use Rattle.std.proofs.lemmas.List.FromFn.{get_or-enumerate_from, length-enumerate_from}
use Rattle.std.proofs.lemmas.Option.{get_or_from_slice_get, slice_get_within}
use Rattle.std.proofs.lemmas.Bool.{eq-eqb, ne_eqb}
use Rattle.net_graph.specs.declared.rows.Network.{Network}
use Rattle.net_graph.specs.Networks.{IsNetwork, numbers, link_at}
use Rattle.net_layout.specs.declared.wiring.Wire.{Wire}
use Rattle.net_layout.specs.Addresses.{interface_address}
use Rattle.net_layout.specs.Wiring.{poke_wire, link_wire, wires_from, wires_of_link, wires_of}
use Rattle.net_layout.specs.Gathered.{appended_at}
use Rattle.net_layout.specs.Ports.{out_between, out_by, AreOuts}
use Rattle.net_layout.proofs.Graphs.{All_numbered}
use Rattle.net_layout.proofs.Finding.{All_remove}
use Rattle.net_layout.proofs.Joining.{no_wire, All_map}
use Rattle.net_layout.proofs.Gathering.{gathered_skip, gathered_more}

-- the interfaces that a wire has are there
abbrev pub AreThere : ℕ → Option (ℕ × ℕ) → Type 0
AreThere n None = Unit {0}
AreThere n (Some ends) = (ends.0 < n) × (ends.1 < n)

abbrev pub IsJoining : ℕ → Wire → Type 0
IsJoining n wire = AreThere n wire.interfaces

module _ (network : Network) (is : IsNetwork network) where
  joined_by : (l : ℕ) → l < length network.links → All (IsJoining (length network.interfaces)) (wires_of_link network l)
  unfolding wires_of_link
  joined_by l lt =
      let row = is.links l lt in
      All_numbered (IsJoining (length network.interfaces)) (wires_from network l (link_at network l).attached) 0 (length (link_at network l).attached) (λ k low high.
      let sender : slice_index (link_at network l).attached k < length network.interfaces = row.there k 0 (omega arith) in
      All-map (IsJoining (length network.interfaces)) (link_wire network l (slice_index (link_at network l).attached k)) (remove (link_at network l).attached k)
      (All-weaker (λ i. i < length network.interfaces) (λ b. IsJoining (length network.interfaces) (link_wire network l (slice_index (link_at network l).attached k) b))
      (λ b there. (sender, there))
      (remove (link_at network l).attached k)
      (All_remove (λ i. i < length network.interfaces) (link_at network l).attached k row.there)))

  wires_joining : All (IsJoining (length network.interfaces)) (wires_of network)
  unfolding wires_of
  wires_joining =
      All-append (IsJoining (length network.interfaces)) (map (poke_wire network) (numbers (length network.hosts))) (flat_map (wires_of_link network) (numbers (length network.links)))
      (All_map (IsJoining (length network.interfaces)) (poke_wire network) (numbers (length network.hosts)) (λ h. tt))
      (All_numbered (IsJoining (length network.interfaces)) (wires_of_link network) 0 (length network.links) (λ l low high. joined_by l (omega arith)))

  module _ (number : ℕ) (wire : Wire) (at : slice_get (wires_of network) number ≡ Some wire) where
    there : number < length (wires_of network)
    there = slice_get_within (wires_of network) number wire at

    wire_is : get_or (wires_of network) number no_wire ≡ wire
    wire_is = get_or_from_slice_get (wires_of network) number wire no_wire at

    pub ends_there : (ends : ℕ × ℕ) → wire.interfaces ≡ Some ends → (ends.0 < length network.interfaces) × (ends.1 < length network.interfaces)
    ends_there ends e =
        let all = All-get_or (IsJoining (length network.interfaces)) (wires_of network) number no_wire there wires_joining in
        let mine : IsJoining (length network.interfaces) wire = subst (IsJoining (length network.interfaces)) wire_is all in
        subst (AreThere (length network.interfaces)) e mine

    numbered_at : get_or (enumerate_from 0 (wires_of network)) number (0, no_wire) ≡ (number, wire)
    numbered_at =
        get_or-enumerate_from 0 (wires_of network) number (0, no_wire) there
        ∙ ap (λ (m : ℕ). (m, get_or (wires_of network) number no_wire)) (zero-add number)
        ∙ ap (λ (w : Wire). (number, w)) wire_is

    number_there : number < length (enumerate_from 0 (wires_of network))
    number_there = rw (length-enumerate_from 0 (wires_of network)) there

    outs_at : (i : ℕ) → flat_map (out_by network i) (get_or (enumerate_from 0 (wires_of network)) number (0, no_wire) ∷ []) ≡ out_between network i number wire.interfaces
    outs_at i =
        ap (λ (n : ℕ × Wire). flat_map (out_by network i) (n ∷ [])) numbered_at ∙ append-nil (out_between network i number wire.interfaces)

    pub outs_skip : (outs : List (List (ℕ × ℕ))) → AreOuts network number outs → wire.interfaces ≡ None → AreOuts network (number + 1) outs
    outs_skip outs are none =
        gathered_skip (λ i. flat_map (out_by network i)) (length network.interfaces) (λ i xs ys. flat_map-append (out_by network i) xs ys) (enumerate_from 0 (wires_of network)) outs number (0, no_wire) number_there are
        (λ i lt. outs_at i ∙ ap (out_between network i number) none)

    pub outs_more : (outs : List (List (ℕ × ℕ))) (ends : ℕ × ℕ) (address : ℕ) → AreOuts network number outs → wire.interfaces ≡ Some ends → address ≡ unwrap_or (interface_address network ends.1) 0 → AreOuts network (number + 1) (appended_at outs ends.0 (Some (address, number)))
    outs_more outs ends address are some known =
        gathered_more (λ i. flat_map (out_by network i)) (length network.interfaces) (λ i xs ys. flat_map-append (out_by network i) xs ys) (enumerate_from 0 (wires_of network)) outs number (0, no_wire) number_there are
        ends.0 (Some (address, number)) ((ends_there ends some).0)
        (outs_at ends.0 ∙ ap (out_between network ends.0 number) some ∙ ap (λ (b : Bool). cond b ((unwrap_or (interface_address network ends.1) 0, number) ∷ []) []) (eq-eqb ends.0 ends.0 refl) ∙ ap (λ (a : ℕ). (a, number) ∷ []) (sym known))
        (λ i ne. outs_at i ∙ ap (out_between network i number) some ∙ ap (λ (b : Bool). cond b ((unwrap_or (interface_address network ends.1) 0, number) ∷ []) []) (ne_eqb ends.0 i (λ e. ne (sym e))))
