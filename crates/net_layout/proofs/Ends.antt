-- The ends of wires and mappings are hosts of the network.
use Rattle.std.proofs.Common.{ℕ, ◌+◌, ◌<◌, List, [], ◌∷◌, length, map, slice_index, arith}
use Rattle.std.specs.List.{flat_map, range_with_len, remove, All}
use Rattle.std.proofs.lemmas.List.Elements.{All-nil, All-cons, All-head, All-tail, All-append, All-map, All-weaker}
use Rattle.std.proofs.lemmas.List.FromFn.{get_or-range_with_len, length-range_with_len}
use Rattle.net_graph.specs.declared.rows.Network.{Network}
use Rattle.ssf_model.specs.declared.plan.Mapping.{Mapping}
use Rattle.net_layout.specs.declared.wiring.Wire.{Wire}
use Rattle.net_graph.specs.Networks.{IsNetwork, numbers, link_at}
use Rattle.net_layout.specs.Wiring.{poke_wire, link_wire, wires_from, wires_of_link, wires_of, mapping_of, mappings_from, mappings_of, first_channel}
use Rattle.net_layout.proofs.Graphs.{All_numbered}
use Rattle.net_layout.proofs.Finding.{All_remove}

abbrev pub Joins : ℕ → Wire → Type 0
Joins hosts wire = (wire.from < hosts) × (wire.to < hosts)

abbrev pub Maps : ℕ → Mapping → Type 0
Maps hosts m = (m.from < hosts) × (m.to < hosts)

below : (n : ℕ) → All (λ h. h < n) (range_with_len 0 n)
below n k d lt =
    let low : k < n = omega (arith, length-range_with_len 0 n) in
    let is = get_or-range_with_len 0 n k d low in
    omega (arith, is)

module _ (network : Network) (is : IsNetwork network) where
  from_link : (l : ℕ) → l < length network.links → All (Joins (length network.hosts)) (wires_of_link network l)
  unfolding wires_of_link
  from_link l lt =
      let row = is.links l lt in
      All_numbered (Joins (length network.hosts)) (wires_from network l (link_at network l).attached) 0 (length (link_at network l).attached) (λ k low high.
      let sender = row.there k 0 (omega arith) in
      All-map (Joins (length network.hosts)) (link_wire network l (slice_index (link_at network l).attached k)) (remove (link_at network l).attached k)
      (All-weaker (λ i. i < length network.interfaces) (λ b. Joins (length network.hosts) (link_wire network l (slice_index (link_at network l).attached k) b))
      (λ b there. ((is.interfaces (slice_index (link_at network l).attached k) sender).host, (is.interfaces b there).host))
      (remove (link_at network l).attached k)
      (All_remove (λ i. i < length network.interfaces) (link_at network l).attached k row.there)))

  pub wires_join : All (Joins (length network.hosts)) (wires_of network)
  unfolding wires_of
  wires_join =
      All-append (Joins (length network.hosts)) (map (poke_wire network) (numbers (length network.hosts))) (flat_map (wires_of_link network) (numbers (length network.links)))
      (All-map (Joins (length network.hosts)) (poke_wire network) (numbers (length network.hosts)) (All-weaker (λ h. h < length network.hosts) (λ h. Joins (length network.hosts) (poke_wire network h)) (λ h lt. (lt, lt)) (numbers (length network.hosts)) (below (length network.hosts))))
      (All_numbered (Joins (length network.hosts)) (wires_of_link network) 0 (length network.links) (λ l low high. from_link l (omega arith)))

all_mapped : (hosts first n : ℕ) (wires : List Wire) → All (Joins hosts) wires → All (Maps hosts) (mappings_from first n wires)
all_mapped hosts first n [] h = All-nil (Maps hosts)
all_mapped hosts first n (w ∷ ws) h =
    All-cons (Maps hosts) (mapping_of first n w) (mappings_from first (n + 1) ws) (All-head (Joins hosts) w ws h) (all_mapped hosts first (n + 1) ws (All-tail (Joins hosts) w ws h))

pub mappings_map : (network : Network) → IsNetwork network → All (Maps (length network.hosts)) (mappings_of network)
unfolding mappings_of
mappings_map network is = all_mapped (length network.hosts) (first_channel network) 0 (wires_of network) (wires_join network is)
