-- The draft of a network comes of the calls that make it.
use Rattle.std.proofs.Common.{◌≡◌, ℕ, zero, suc, ◌+◌, ◌<◌, List, [], ◌∷◌, ◌++◌, length, map, take, get_or, replicate, Some, refl, sym, ap, ◌∙◌, append_assoc, add-one, zero-add, arith}
use Rattle.std.specs.Prelude.{slice_get, slice_index}
use Rattle.std.specs.List.{flat_map, range_with_len}
use Rattle.std.proofs.lemmas.List.{append-nil, map_push, length-append, length-map, length-replicate, length-take-le, replicate_more, take_more}
use Rattle.std.proofs.lemmas.List.FromFn.{length-map-range_with_len, map-range_with_len_more}
use Rattle.std.proofs.lemmas.Option.{slice_get_within, get_or_from_slice_get}
use Rattle.spf_routes.specs.declared.graph.Period.{Period}
use Rattle.ssf_model.specs.declared.builder.DraftEntity.{DraftEntity}
use Rattle.ssf_model.specs.declared.builder.OutChannel.{OutChannel}
use Rattle.ssf_model.specs.declared.plan.Mapping.{Mapping}
use Rattle.ssf_model.specs.Drafts.{Draft, empty_draft, add_in, add_out, changed_at, with_in_channel}
use Rattle.ssf_model.proofs.Drafted.{range_suc}
use Rattle.net_graph.specs.declared.rows.Network.{Network}
use Rattle.net_graph.specs.Networks.{IsNetwork, numbers}
use Rattle.net_layout.specs.declared.wiring.Wire.{Wire}
use Rattle.net_layout.specs.Arms.{first_interface}
use Rattle.net_layout.specs.Wiring.{wires_of, mapping_of, mappings_from}
use Rattle.net_layout.specs.Ports.{port_count, ins_of, owners_in, owners_before, owners_of}
use Rattle.net_layout.specs.Sessions.{timed_of}
use Rattle.net_layout.proofs.Numbered.{flat_map_next}
use Rattle.net_layout.proofs.HostPorts.{length-owners_before, ins_of-range}
use Rattle.host_rules.specs.Hosts.{HostFields}
use Rattle.net_plan.specs.NetDraft.{host_state, host_entity, out_channel_of, draft_of, with_ins, with_host, with_wire}
use Rattle.net_plan.proofs.Growing.{changed_last, changed_made, last_at, mappings_push, length-mappings, outs_more, outs_same}
use Rattle.net_plan.proofs.Owning.{owned}

pub nothing_made : {B : Type 0} (behaviour : B) (network : Network) (tables : List (List Period)) → draft_of behaviour network tables 0 [] ≡ empty_draft behaviour
unfolding owners_before
nothing_made behaviour network tables = refl

module _ {B : Type 0} (behaviour : B) (network : Network) (tables : List (List Period)) where
  -- a draft without a wire
  abbrev drafted : List (DraftEntity HostFields) → List ℕ → Draft B HostFields
  drafted entities owners = record { behaviour = behaviour; entities = entities; in_owners = owners; outs = []; mappings = [] }

  -- a host with these in-channels
  abbrev begun : ℕ → List ℕ → DraftEntity HostFields
  begun h ins = record { state = host_state network tables h; timed = timed_of network h; in_channels = ins; out_channels = [] }

  abbrev before : ℕ → List (DraftEntity HostFields)
  before h = map (host_entity network tables []) (numbers h)

  abbrev first_in : ℕ → ℕ
  first_in h = first_interface network h + h

  -- the hosts before one, and that host with so many of its in-channels
  abbrev partly : ℕ → ℕ → Draft B HostFields
  partly h n = drafted (before h ++ begun h (range_with_len (first_in h) n) ∷ []) (owners_before network h ++ replicate n h)

  partly_none : (h : ℕ) → with_host (draft_of behaviour network tables h []) network tables h ≡ partly h 0
  partly_none h = ap (drafted (before h ++ begun h [] ∷ [])) (sym (append-nil (owners_before network h)))

  partly_next : (h n : ℕ) → with_in_channel (partly h n) h ≡ partly h (suc n)
  partly_next h n =
      let owners : List ℕ = owners_before network h ++ replicate n h in
      let place : h ≡ length (before h) = sym (length-map-range_with_len (host_entity network tables []) 0 h) in
      let count : length owners ≡ first_in h + n =
      length-append (owners_before network h) (replicate n h) ∙ ap (λ k. length (owners_before network h) + k) (length-replicate n h) ∙ ap (λ k. k + n) (length-owners_before network h) in
      let ins : range_with_len (first_in h) n ++ length owners ∷ [] ≡ range_with_len (first_in h) (suc n) = ap (λ k. range_with_len (first_in h) n ++ k ∷ []) count ∙ sym (range_suc (first_in h) n) in
      let more : owners ++ h ∷ [] ≡ owners_before network h ++ replicate (suc n) h =
      append_assoc (owners_before network h) (replicate n h) (h ∷ []) ∙ ap (λ (l : List ℕ). owners_before network h ++ l) (replicate_more n h ∙ ap (λ m. replicate m h) (add-one n)) in
      ap (λ (es : List (DraftEntity HostFields)). drafted es (owners ++ h ∷ [])) (changed_last (add_in (length owners)) (before h) (begun h (range_with_len (first_in h) n)) h place)
      ∙ ap (λ (l : List ℕ). drafted (before h ++ begun h l ∷ []) (owners ++ h ∷ [])) ins
      ∙ ap (drafted (before h ++ begun h (range_with_len (first_in h) (suc n)) ∷ [])) more

  pub partly_all : (h n : ℕ) → with_ins (with_host (draft_of behaviour network tables h []) network tables h) h n ≡ partly h n
  partly_all h zero = partly_none h
  partly_all h (suc n) = ap (λ (d : Draft B HostFields). with_in_channel d h) (partly_all h n) ∙ partly_next h n

  owners_next : (h : ℕ) → owners_before network h ++ owners_in network h ≡ owners_before network (h + 1)
  unfolding owners_before
  owners_next h = flat_map_next (owners_in network) [] (flat_map (owners_in network) (numbers h)) h refl

  -- a host with all its in-channels
  pub host_made : (h : ℕ) → IsNetwork network → with_ins (with_host (draft_of behaviour network tables h []) network tables h) h (port_count network h + 1) ≡ draft_of behaviour network tables (h + 1) []
  host_made h is =
      partly_all h (port_count network h + 1)
      ∙ ap (λ (l : List ℕ). drafted (before h ++ begun h l ∷ []) (owners_before network h ++ owners_in network h)) (sym (ins_of-range network is h))
      ∙ ap (λ (es : List (DraftEntity HostFields)). drafted es (owners_before network h ++ owners_in network h)) (sym (map-range_with_len_more (host_entity network tables []) 0 h h (zero-add h)))
      ∙ ap (drafted (before (h + 1))) (owners_next h)

  -- all hosts, with these wires
  abbrev all_hosts : List Wire → List (DraftEntity HostFields)
  all_hosts ws = map (host_entity network tables ws) (numbers (length network.hosts))

  abbrev wired : List (DraftEntity HostFields) → List OutChannel → List Mapping → Draft B HostFields
  wired entities outs mappings = record { behaviour = behaviour; entities = entities; in_owners = owners_of network; outs = outs; mappings = mappings }

  abbrev with_outs : ℕ → List ℕ → DraftEntity HostFields
  with_outs h outs = record { state = host_state network tables h; timed = timed_of network h; in_channels = ins_of network h; out_channels = outs }

  pub hosts_next : (ws : List Wire) (w : Wire) → w.from < length network.hosts → changed_at (add_out (length (map out_channel_of ws))) (all_hosts ws) w.from ≡ all_hosts (ws ++ w ∷ [])
  hosts_next ws w lt =
      let zeros : 0 + w.from ≡ w.from = omega arith in
      ap (λ n. changed_at (add_out n) (all_hosts ws) w.from) (length-map ws out_channel_of)
      ∙ changed_made (add_out (length ws)) (host_entity network tables ws) (host_entity network tables (ws ++ w ∷ [])) 0 (length network.hosts) w.from lt
      (ap (with_outs (0 + w.from)) (outs_more ws w (0 + w.from) (sym zeros)))
      (λ h ne. ap (with_outs h) (outs_same ws w h (λ e. ne (sym e ∙ sym zeros))))

  abbrev leading : OutChannel → ℕ → ℕ → ℕ → Wire → Mapping
  leading out channel number to w = record { channel = channel; out_channel = number; in_channel = w.in_channel; from = out.entity; to = to; delay = out.delay + w.delay; priority = w.priority }

  mapping_is : (w : Wire) (out : OutChannel) (channel number to k : ℕ) → out ≡ out_channel_of w → channel ≡ k → number ≡ k → to ≡ w.to → leading out channel number to w ≡ mapping_of 0 k w
  mapping_is w out channel number to k a b c e =
      let zeros : k ≡ 0 + k = omega arith in
      ap (λ (o : OutChannel). leading o channel number to w) a
      ∙ ap (λ n. leading (out_channel_of w) n number to w) (b ∙ zeros)
      ∙ ap (λ n. leading (out_channel_of w) (0 + k) n to w) c
      ∙ ap (λ n. leading (out_channel_of w) (0 + k) k n w) e

  wire_added : (ws : List Wire) (w : Wire) (n : ℕ) → n ≡ length ws → w.from < length network.hosts → slice_index (owners_of network) w.in_channel ≡ w.to → with_wire (draft_of behaviour network tables (length network.hosts) ws) n w ≡ draft_of behaviour network tables (length network.hosts) (ws ++ w ∷ [])
  wire_added ws w n count lt owner =
      let outs : List OutChannel = map out_channel_of ws ++ out_channel_of w ∷ [] in
      let at : get_or outs n (record { entity = 0; delay = 0 }) ≡ out_channel_of w = last_at (map out_channel_of ws) (out_channel_of w) (record { entity = 0; delay = 0 }) n (count ∙ sym (length-map ws out_channel_of)) in
      let last : 0 + length ws ≡ length ws = omega arith in
      let mapping = mapping_is w (get_or outs n (record { entity = 0; delay = 0 })) (length (mappings_from 0 0 ws)) n (slice_index (owners_of network) w.in_channel) (0 + length ws) at (length-mappings 0 0 ws ∙ sym last) (count ∙ sym last) owner in
      ap (λ (es : List (DraftEntity HostFields)). wired es outs (mappings_from 0 0 ws ++ leading (get_or outs n (record { entity = 0; delay = 0 })) (length (mappings_from 0 0 ws)) n (slice_index (owners_of network) w.in_channel) w ∷ [])) (hosts_next ws w lt)
      ∙ ap (λ (m : Mapping). wired (all_hosts (ws ++ w ∷ [])) outs (mappings_from 0 0 ws ++ m ∷ [])) mapping
      ∙ ap (λ (ms : List Mapping). wired (all_hosts (ws ++ w ∷ [])) outs ms) (sym (mappings_push 0 0 ws w))
      ∙ ap (λ (os : List OutChannel). wired (all_hosts (ws ++ w ∷ [])) os (mappings_from 0 0 (ws ++ w ∷ []))) (sym (map_push out_channel_of ws w))

  pub wires_before : (n : ℕ) (w : Wire) → slice_get (wires_of network) n ≡ Some w → n ≡ length (take n (wires_of network))
  wires_before n w at = let lt = slice_get_within (wires_of network) n w at in sym (length-take-le n (wires_of network) (omega arith))

  pub wires_next : (n : ℕ) (w : Wire) → slice_get (wires_of network) n ≡ Some w → take n (wires_of network) ++ w ∷ [] ≡ take (n + 1) (wires_of network)
  wires_next n w at =
      sym (take_more (wires_of network) n w (slice_get_within (wires_of network) n w at) ∙ ap (λ (x : Wire). take n (wires_of network) ++ x ∷ []) (get_or_from_slice_get (wires_of network) n w w at))

  pub wire_made : (n : ℕ) (w : Wire) → IsNetwork network → slice_get (wires_of network) n ≡ Some w → with_wire (draft_of behaviour network tables (length network.hosts) (take n (wires_of network))) n w ≡ draft_of behaviour network tables (length network.hosts) (take (n + 1) (wires_of network))
  wire_made n w is at =
      let mine = owned network is n w at in
      wire_added (take n (wires_of network)) w n (wires_before n w at) mine.from mine.to
      ∙ ap (draft_of behaviour network tables (length network.hosts)) (wires_next n w at)
