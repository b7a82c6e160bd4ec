-- Each wire leads from a host of the network to the owner of its in-channel.
use Rattle.std.proofs.Common.{◌≡◌, ℕ, ◌+◌, ◌<◌, ◌≤◌, length, map, Some, subst, arith}
use Rattle.std.specs.Prelude.{slice_get, slice_index}
use Rattle.std.specs.List.{All, flat_map, remove}
use Rattle.std.proofs.lemmas.List.Elements.{All-append, All-map, All-weaker}
use Rattle.std.proofs.lemmas.Option.{slice_get_within, get_or_from_slice_get}
use Rattle.ssf_model.specs.Reaction.{LongestDelay}
use Rattle.net_graph.specs.declared.rows.Network.{Network}
use Rattle.net_graph.specs.Networks.{IsNetwork, numbers, link_at}
use Rattle.net_layout.specs.declared.wiring.Wire.{Wire}
use Rattle.net_layout.specs.Wiring.{poke_wire, link_wire, wires_from, wires_of_link, wires_of}
use Rattle.net_layout.specs.Ports.{owners_of}
use Rattle.net_layout.specs.Limits.{IsPromptWire, KeepsLimits}
use Rattle.net_layout.proofs.Graphs.{All_numbered}
use Rattle.net_layout.proofs.Finding.{All_remove}
use Rattle.net_layout.proofs.HostPorts.{first_most, owners_port, owners_poke, length-owners_of}
use Rattle.net_plan.proofs.Growing.{All_made}

pub record IsOwnedWire (network : Network) (wire : Wire) : Type 0 where
  pub from : wire.from < length network.hosts
  pub to : slice_index (owners_of network) wire.in_channel ≡ wire.to
  pub there : wire.in_channel < length (owners_of network)

module _ (network : Network) (is : IsNetwork network) where
  poke_owned : (h : ℕ) → h < length network.hosts → IsOwnedWire network (poke_wire network h)
  poke_owned h lt =
      let all = length-owners_of network is in
      let most = first_most network is (h + 1) in
      record { from = lt; to = owners_poke network h lt; there = omega arith }

  link_owned : (l a b : ℕ) → a < length network.interfaces → b < length network.interfaces → IsOwnedWire network (link_wire network l a b)
  link_owned l a b sender receiver =
      let all = length-owners_of network is in
      let host = (is.interfaces b receiver).host in
      record { from = (is.interfaces a sender).host; to = owners_port network is b receiver; there = omega arith }

  owned_in : (l : ℕ) → l < length network.links → All (IsOwnedWire network) (wires_of_link network l)
  unfolding wires_of_link
  owned_in l lt =
      let row = is.links l lt in
      All_numbered (IsOwnedWire network) (wires_from network l (link_at network l).attached) 0 (length (link_at network l).attached) (λ k low high.
      let sender : slice_index (link_at network l).attached k < length network.interfaces = row.there k 0 (omega arith) in
      All-map (IsOwnedWire network) (link_wire network l (slice_index (link_at network l).attached k)) (remove (link_at network l).attached k)
      (All-weaker (λ i. i < length network.interfaces) (λ b. IsOwnedWire network (link_wire network l (slice_index (link_at network l).attached k) b))
      (λ b there. link_owned l (slice_index (link_at network l).attached k) b sender there)
      (remove (link_at network l).attached k)
      (All_remove (λ i. i < length network.interfaces) (link_at network l).attached k row.there)))

  all_owned : All (IsOwnedWire network) (wires_of network)
  unfolding wires_of
  all_owned =
      All-append (IsOwnedWire network) (map (poke_wire network) (numbers (length network.hosts))) (flat_map (wires_of_link network) (numbers (length network.links)))
      (All_made (IsOwnedWire network) (poke_wire network) 0 (length network.hosts) (λ h low high. poke_owned h (omega arith)))
      (All_numbered (IsOwnedWire network) (wires_of_link network) 0 (length network.links) (λ l low high. owned_in l (omega arith)))

  pub owned : (n : ℕ) (wire : Wire) → slice_get (wires_of network) n ≡ Some wire → IsOwnedWire network wire
  owned n wire at =
      subst (IsOwnedWire network) (get_or_from_slice_get (wires_of network) n wire wire at) (all_owned n wire (slice_get_within (wires_of network) n wire at))

pub prompt : (network : Network) (n : ℕ) (wire : Wire) → KeepsLimits network → slice_get (wires_of network) n ≡ Some wire → wire.latency + wire.delay ≤ LongestDelay
prompt network n wire keeps at =
    subst IsPromptWire (get_or_from_slice_get (wires_of network) n wire wire at) (keeps.wires n wire (slice_get_within (wires_of network) n wire at))
