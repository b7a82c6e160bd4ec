-- The plan of a network without a fault fits: none of the calls that make its draft is refused.
use Rattle.std.proofs.Common.{◌≡◌, ℕ, zero, suc, ◌+◌, ◌<◌, ◌≤◌, ◌^◌, Bool, true, false, List, [], ◌∷◌, length, map, take, get_or, slice_get, replicate, Option, Some, None, refl, sym, ap, subst, ◌∙◌, arith, length-set, length-append, ◌&&◌, ◌==◌, nat_lt, nat_le}
use Rattle.std.specs.Prelude.{slice_index}
use Rattle.std.specs.List.{All, flat_map, remove}
use Rattle.std.proofs.lemmas.Bool.Decides.{nat_tests}
use Rattle.std.proofs.lemmas.List.{length-replicate, take_all}
use Rattle.std.proofs.lemmas.List.Sums.{count_by-le-length}
use Rattle.std.proofs.lemmas.List.Elements.{All-append, All-map, All-weaker}
use Rattle.std.proofs.lemmas.List.FromFn.{length-map-range_with_len}
use Rattle.std.proofs.lemmas.Option.{slice_get-get_or, slice_get_within, get_or_from_slice_get}
use Rattle.spf_routes.specs.declared.graph.Period.{Period}
use Rattle.ssf_model.specs.declared.builder.BuildFault.{BuildFault}
use Rattle.ssf_model.specs.declared.builder.DraftEntity.{DraftEntity}
use Rattle.ssf_model.specs.declared.plan.Plan.{Plan}
use Rattle.ssf_model.specs.Reaction.{LongestDelay}
use Rattle.ssf_model.specs.Drafts.{Draft, MostChannels, MostEnds, timers, channels_of, changed_to, add_in, refuse_if, out_at, in_channel_refusal, planned}
use Rattle.ssf_model.specs.Owners.{IsDraft}
use Rattle.ssf_model.specs.Run.{Fits}
use Rattle.ssf_model.proofs.Owning.{draft_entity, draft_in_channel, draft_out_channel, draft_mapping, kept_new}
use Rattle.ssf_model.proofs.Fitted.{planned_fits}
use Rattle.ip_layer.specs.Packets.{PacketFields, IsPacket}
use Rattle.net_graph.specs.declared.rows.Network.{Network}
use Rattle.net_graph.specs.declared.rows.SessionRow.{SessionRow}
use Rattle.net_graph.specs.Networks.{IsNetwork, numbers, link_at}
use Rattle.net_layout.specs.declared.wiring.Wire.{Wire}
use Rattle.net_layout.specs.Wiring.{is_client, poke_wire, link_wire, wires_from, wires_of_link, wires_of}
use Rattle.net_layout.specs.Ports.{port_count}
use Rattle.net_layout.specs.Sessions.{timed_of, client_count}
use Rattle.net_layout.specs.Faults.{first_fault}
use Rattle.net_layout.specs.Limits.{KeepsLimits}
use Rattle.net_layout.proofs.Graphs.{All_numbered}
use Rattle.net_layout.proofs.Finding.{All_remove}
use Rattle.net_layout.proofs.HostPorts.{first_most}
use Rattle.net_layout.proofs.Limiting.{keeps_limits}
use Rattle.host_rules.specs.Hosts.{HostFields}
use Rattle.host_rules.specs.Limits.{IsHost}
use Rattle.net_plan.specs.NetDraft.{host_state, host_entity, draft_of, net_draft, with_ins, with_host, with_out, IsNetBuilt}
use Rattle.net_plan.proofs.Growing.{All_made}
use Rattle.net_plan.proofs.Owning.{owned}
use Rattle.net_plan.proofs.Making.{nothing_made, host_made, wire_made}
use Rattle.net_plan.proofs.Refusing.{host_fits, in_fits, out_fits, mapping_fits, valid_hosts}

not_refused : (b : Bool) (fault : BuildFault) (rest : Option BuildFault) → refuse_if b fault rest ≡ None → (b ≡ false) × (rest ≡ None)
not_refused true fault rest e = absurd (cc)
not_refused false fault rest e = (refl, e)

below : (m n : ℕ) → nat_le m n ≡ false → n < m
below m n e = grind (arith, nat_tests)

within : (m n : ℕ) → nat_lt m n ≡ false → n ≤ m
within m n e = grind (arith, nat_tests)

length_changed : {S : Type 0} (f : DraftEntity S → DraftEntity S) (es : List (DraftEntity S)) (place : ℕ) (o : Option (DraftEntity S)) → length (changed_to f es place o) ≡ length es
length_changed f es place None = refl
length_changed f es place (Some e) = length-set es place (f e)

ins_entities : {B S : Type 0} (d : Draft B S) (entity n : ℕ) → length (with_ins d entity n).entities ≡ length d.entities
ins_entities d entity zero = refl
ins_entities {B} {S} d entity (suc n) =
    let before : Draft B S = with_ins d entity n in
    length_changed (add_in (length before.in_owners)) before.entities entity (slice_get before.entities entity) ∙ ins_entities d entity n

drafted_ins : {B S : Type 0} (t : ℕ) (d : Draft B S) (h n : ℕ) → h < length d.entities → ((k : ℕ) → k < n → in_channel_refusal (with_ins d h k) ≡ None) → IsDraft t d → IsDraft t (with_ins d h n)
drafted_ins t d h zero lt may is = is
drafted_ins {B} {S} t d h (suc n) lt may is =
    let before : Draft B S = with_ins d h n in
    let same = ins_entities d h n in
    let may_now = not_refused (nat_le MostEnds (length before.in_owners)) _ None (may n (omega arith)) in
    draft_in_channel t before h (omega (arith, lt, same)) (below MostEnds (length before.in_owners) may_now.0) (drafted_ins t d h n lt (λ k less. may k (omega (arith, less))) is)

module _ (network : Network) (is : IsNetwork network) where
  -- a link's priority, and so a wire's, is that of a byte
  abbrev IsLow : Wire → Type 0
  IsLow wire = wire.priority < 2 ^ 8

  low_in : (l : ℕ) → l < length network.links → All IsLow (wires_of_link network l)
  unfolding wires_of_link
  low_in l lt =
      let row = is.links l lt in
      All_numbered IsLow (wires_from network l (link_at network l).attached) 0 (length (link_at network l).attached) (λ k low high.
      All-map IsLow (link_wire network l (slice_index (link_at network l).attached k)) (remove (link_at network l).attached k)
      (All-weaker (λ i. i < length network.interfaces) (λ b. IsLow (link_wire network l (slice_index (link_at network l).attached k) b))
      (λ b there. row.priority)
      (remove (link_at network l).attached k)
      (All_remove (λ i. i < length network.interfaces) (link_at network l).attached k row.there)))

  all_low : All IsLow (wires_of network)
  unfolding wires_of
  all_low =
      All-append IsLow (map (poke_wire network) (numbers (length network.hosts))) (flat_map (wires_of_link network) (numbers (length network.links)))
      (All_made IsLow (poke_wire network) 0 (length network.hosts) (λ h low high. omega arith))
      (All_numbered IsLow (wires_of_link network) 0 (length network.links) (λ l low high. low_in l (omega arith)))

  low_wire : (n : ℕ) (wire : Wire) → slice_get (wires_of network) n ≡ Some wire → IsLow wire
  low_wire n wire at = subst IsLow (get_or_from_slice_get (wires_of network) n wire wire at) (all_low n wire (slice_get_within (wires_of network) n wire at))

  -- a host has few processes
  flags_few : (h : ℕ) → length (timed_of network h) < 2 ^ 32
  flags_few h =
      let most = first_most network is (h + 1) in
      let ports : port_count network h ≤ length network.interfaces = omega (arith, most) in
      let clients = count_by-le-length (λ (s : SessionRow). is_client s && s.host == h) network.sessions in
      let small = is.small in
      let one = length-replicate (client_count network h) true in
      let all : length (timed_of network h) ≡ port_count network h + (1 + client_count network h) =
      length-append (replicate (port_count network h) false) (true ∷ replicate (client_count network h) true)
      ∙ ap (λ n. n + length (true ∷ replicate (client_count network h) true)) (length-replicate (port_count network h) false)
      ∙ ap (λ n. port_count network h + n) (omega (arith, one)) in
      omega (arith, all, ports, clients, small.interfaces, small.sessions)

  module _ {B : Type 0} (behaviour : B) (tables : List (List Period)) (keeps : KeepsLimits network) where
    abbrev part : ℕ → List Wire → Draft B HostFields
    part h ws = draft_of behaviour network tables h ws

    abbrev IsDrafted : ℕ → List Wire → Type 0
    IsDrafted h ws = (t : ℕ) × IsDraft t (part h ws)

    host_drafted : (h : ℕ) → h < length network.hosts → IsDrafted h [] → IsDrafted (h + 1) []
    host_drafted h lt before =
        let d : Draft B HostFields = part h [] in
        let flags = timed_of network h in
        let t : ℕ = before.0 + timers flags in
        let may = not_refused (nat_lt MostChannels (channels_of d + (1 + timers flags))) _ None (host_fits network tables {B = B} behaviour h is keeps lt) in
        let entered : IsDraft t (with_host d network tables h) =
        draft_entity before.0 t d (host_state network tables h) flags (flags_few h) refl (within MostChannels (channels_of d + (1 + timers flags)) may.0) before.1 in
        let count : length d.entities ≡ h = length-map-range_with_len (host_entity network tables []) 0 h in
        let more : length (with_host d network tables h).entities ≡ length d.entities + 1 = length-append d.entities _ in (
          t,
          subst (IsDraft t) (host_made behaviour network tables h is)
              (drafted_ins t (with_host d network tables h) h (port_count network h + 1) (omega (arith, count, more))
              (λ k less. in_fits network tables {B = B} behaviour h k is lt (omega (arith, less))) entered),
        )

    hosts_drafted : (h : ℕ) → h ≤ length network.hosts → IsDrafted h []
    hosts_drafted zero le = (0, subst (IsDraft 0) (sym (nothing_made behaviour network tables)) (kept_new behaviour [] [] [] [] refl refl refl refl))
    hosts_drafted (suc h) le =
        let next : h + 1 ≡ suc h = omega arith in
        subst (λ k. IsDrafted k []) next (host_drafted h (omega (arith, le)) (hosts_drafted h (omega (arith, le))))

    wire_drafted : (n : ℕ) (wire : Wire) → slice_get (wires_of network) n ≡ Some wire → IsDrafted (length network.hosts) (take n (wires_of network)) → IsDrafted (length network.hosts) (take (n + 1) (wires_of network))
    wire_drafted n wire at before =
        let ws : List Wire = take n (wires_of network) in
        let d : Draft B HostFields = part (length network.hosts) ws in
        let m : Draft B HostFields = with_out d wire in
        let count : length d.entities ≡ length network.hosts = length-map-range_with_len (host_entity network tables ws) 0 (length network.hosts) in
        let from = (owned network is n wire at).from in
        let out_may = not_refused (nat_lt LongestDelay wire.latency) _ _ (out_fits network tables {B = B} behaviour n wire keeps at) in
        let ends = not_refused (nat_le MostEnds (length d.outs)) _ None out_may.1 in
        let opened : IsDraft before.0 m = draft_out_channel before.0 d wire.from wire.latency (omega (arith, count, from)) (below MostEnds (length d.outs) ends.0) before.1 in
        let known = not_refused (nat_le (length m.outs) n) _ _ (mapping_fits network tables {B = B} behaviour n wire keeps at is) in
        let led = not_refused (nat_le (length m.in_owners) wire.in_channel) _ _ known.1 in
        let short = not_refused (nat_lt LongestDelay ((out_at m n).delay + wire.delay)) _ _ led.1 in
        let few = not_refused (nat_le MostChannels (channels_of m)) _ None short.1 in (
          before.0,
          subst (IsDraft before.0) (wire_made behaviour network tables n wire is at)
              (draft_mapping before.0 m n wire.in_channel wire.delay wire.priority (below (length m.outs) n known.0) (below (length m.in_owners) wire.in_channel led.0)
              (within LongestDelay ((out_at m n).delay + wire.delay) short.0) (below MostChannels (channels_of m) few.0) (low_wire n wire at) opened),
        )

    wires_drafted : (n : ℕ) → n ≤ length (wires_of network) → IsDrafted (length network.hosts) (take n (wires_of network))
    wires_drafted zero le = hosts_drafted (length network.hosts) (omega arith)
    wires_drafted (suc n) le =
        let wire : Wire = get_or (wires_of network) n (poke_wire network 0) in
        let next : n + 1 ≡ suc n = omega arith in
        subst (λ k. IsDrafted (length network.hosts) (take k (wires_of network))) next
        (wire_drafted n wire (slice_get-get_or (wires_of network) n (poke_wire network 0) (omega (arith, le))) (wires_drafted n (omega (arith, le))))

    draft_fits : Fits IsHost IsPacket (planned {B = B} {S = HostFields} {P = PacketFields} (net_draft behaviour network tables))
    unfolding net_draft
    draft_fits =
        let all = wires_drafted (length (wires_of network)) (omega arith) in
        let whole : IsDraft all.0 (part (length network.hosts) (wires_of network)) =
        subst (λ ws. IsDraft all.0 (part (length network.hosts) ws)) (take_all (length (wires_of network)) (wires_of network) (omega arith)) all.1 in
        planned_fits B HostFields PacketFields IsHost IsPacket all.0 (part (length network.hosts) (wires_of network)) whole (valid_hosts network tables {B = B} behaviour is keeps)

pub network_fits : {B : Type 0} (behaviour : B) (network : Network) (plan : Plan B HostFields PacketFields) → IsNetwork network → first_fault network ≡ None → IsNetBuilt behaviour network plan → Fits IsHost IsPacket plan
network_fits behaviour network plan is none built =
    subst (λ (p : Plan _ HostFields PacketFields). Fits IsHost IsPacket p) (sym built.plan_is) (draft_fits network is behaviour built.tables (keeps_limits network is none))
