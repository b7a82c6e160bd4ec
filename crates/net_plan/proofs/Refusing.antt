-- None of the calls that make the draft of a network is refused, and its hosts are valid.
use Rattle.std.proofs.Common.{◌≡◌, ℕ, zero, suc, ◌+◌, ◌-◌, ◌<◌, ◌≤◌, Bool, false, List, [], ◌∷◌, ◌++◌, length, map, take, replicate, Option, Some, None, refl, sym, ap, ◌∙◌, add-one, zero-add, arith}
use Rattle.std.specs.Prelude.{slice_get, nat_lt, nat_le}
use Rattle.std.proofs.lemmas.List.{length-append, length-map, length-replicate}
use Rattle.std.proofs.lemmas.List.FromFn.{length-map-range_with_len, sum_by-map-range_with_len_more}
use Rattle.std.proofs.lemmas.Bool.{le-ltb, lt-leb}
use Rattle.std.proofs.lemmas.Option.{slice_get_within}
use Rattle.spf_routes.specs.declared.graph.Period.{Period}
use Rattle.ssf_model.specs.declared.builder.BuildFault.{BuildFault}
use Rattle.ssf_model.specs.declared.builder.BuildFault.TheVariants.{UnknownChannel, DelayTooLong, TooManyChannels}
use Rattle.ssf_model.specs.declared.builder.DraftEntity.{DraftEntity}
use Rattle.ssf_model.specs.declared.builder.OutChannel.{OutChannel}
use Rattle.ssf_model.specs.declared.plan.Plan.{Plan}
use Rattle.ssf_model.specs.Reaction.{Each, LongestDelay}
use Rattle.ssf_model.specs.Drafts.{Draft, MostChannels, MostEnds, timers, all_timers, channels_of, refuse_if, out_at, entity_refusal, in_channel_refusal, out_channel_refusal, mapping_refusal, planned, IsValidDraft}
use Rattle.net_graph.specs.declared.rows.Network.{Network}
use Rattle.net_graph.specs.Networks.{IsNetwork, numbers}
use Rattle.net_layout.specs.declared.wiring.Wire.{Wire}
use Rattle.net_layout.specs.Arms.{first_interface}
use Rattle.net_layout.specs.Wiring.{first_channel, wires_of, mappings_from, mappings_of}
use Rattle.net_layout.specs.Ports.{port_count, owners_before, owners_of}
use Rattle.net_layout.specs.Sessions.{timed_of, first_timer}
use Rattle.net_layout.specs.Limits.{KeepsLimits}
use Rattle.net_layout.proofs.HostPorts.{first_interface_up, first_most, length-owners_before}
use Rattle.net_layout.proofs.HostTables.{tables_one}
use Rattle.net_layout.proofs.HostSessions.{first_timer-first, first_timer-next, first_timer-last, timers-timed_of}
use Rattle.host_rules.specs.Hosts.{HostFields}
use Rattle.host_rules.specs.Limits.{IsHost}
use Rattle.net_hosts.specs.HostOuts.{host_outs}
use Rattle.net_hosts.proofs.Ranges.{each_made}
use Rattle.net_hosts.proofs.Channels.{begins_valid}
use Rattle.net_plan.specs.NetDraft.{host_entity, out_channel_of, draft_of, net_draft, with_ins, with_host, with_out, IsNetBuilt}
use Rattle.net_plan.proofs.Growing.{last_at, length-mappings, channels_are}
use Rattle.net_plan.proofs.Owning.{owned, prompt}
use Rattle.net_plan.proofs.Making.{partly_all, hosts_next, wires_before}

fits : (test : Bool) (fault : BuildFault) (others : Option BuildFault) → test ≡ false → others ≡ None → refuse_if test fault others ≡ None
fits test fault others e rest = ap (λ b. refuse_if b fault others) e ∙ rest

module _ (network : Network) (tables : List (List Period)) where
  -- timers

  timers_of_hosts : (ws : List Wire) (h : ℕ) → all_timers (map (host_entity network tables ws) (numbers h)) + length network.hosts ≡ first_timer network h
  timers_of_hosts ws zero = let none : all_timers (map (host_entity network tables ws) (numbers 0)) ≡ 0 = refl in let first = first_timer-first network in omega arith
  timers_of_hosts ws (suc h) =
      let same : all_timers (map (host_entity network tables ws) (numbers (h + 1))) ≡ all_timers (map (host_entity network tables ws) (numbers (suc h))) = ap (λ n. all_timers (map (host_entity network tables ws) (numbers n))) (add-one h) in
      let joined : all_timers (map (host_entity network tables ws) (numbers (h + 1))) ≡ all_timers (map (host_entity network tables ws) (numbers h)) + timers (timed_of network h) =
      sum_by-map-range_with_len_more (λ (e : DraftEntity HostFields). timers e.timed) (host_entity network tables ws) 0 h h (zero-add h) in
      let own = timers-timed_of network h in
      let before = timers_of_hosts ws h in
      let next = first_timer-next network h in
      let last : first_timer network (h + 1) ≡ first_timer network (suc h) = ap (first_timer network) (add-one h) in
      omega arith

  first_timer_up : (h n : ℕ) → first_timer network h ≤ first_timer network (h + n)
  first_timer_up h zero = let same : first_timer network h ≡ first_timer network (h + 0) = ap (first_timer network) (let e : h ≡ h + 0 = omega arith in e) in omega arith
  first_timer_up h (suc n) =
      let before = first_timer_up h n in
      let next = first_timer-next network (h + n) in
      let place : h + n + 1 ≡ h + suc n = omega arith in
      let same : first_timer network (h + n + 1) ≡ first_timer network (h + suc n) = ap (first_timer network) place in
      omega arith

  module _ {B : Type 0} (behaviour : B) where
    -- the start and timer channels of these hosts
    host_channels : (ws : List Wire) (h : ℕ) → channels_of (draft_of behaviour network tables h ws) + length network.hosts ≡ h + first_timer network h + length ws
    host_channels ws h =
        let count : length (map (host_entity network tables ws) (numbers h)) ≡ h = length-map-range_with_len (host_entity network tables ws) 0 h in
        let timed = timers_of_hosts ws h in
        let mapped = length-mappings 0 0 ws in
        omega arith

    pub host_fits : (h : ℕ) → IsNetwork network → KeepsLimits network → h < length network.hosts → entity_refusal (draft_of behaviour network tables h []) (timed_of network h) ≡ None
    host_fits h is keeps lt =
        let count = host_channels [] h in
        let own = timers-timed_of network h in
        let next = first_timer-next network h in
        let rest : ℕ = length network.hosts - (h + 1) in
        let up = first_timer_up (h + 1) rest in
        let place : h + 1 + rest ≡ length network.hosts = omega arith in
        let end : first_timer network (h + 1 + rest) ≡ first_timer network (length network.hosts) = ap (first_timer network) place in
        let last = first_timer-last network is in
        let most = keeps.channels in
        let none : length {A = Wire} [] ≡ 0 = refl in
        fits (nat_lt MostChannels (channels_of (draft_of behaviour network tables h []) + (1 + timers (timed_of network h)))) TooManyChannels None
        (le-ltb MostChannels (channels_of (draft_of behaviour network tables h []) + (1 + timers (timed_of network h))) (omega arith)) refl

    pub in_fits : (h n : ℕ) → IsNetwork network → h < length network.hosts → n ≤ port_count network h → in_channel_refusal (with_ins (with_host (draft_of behaviour network tables h []) network tables h) h n) ≡ None
    in_fits h n is lt le =
        let count : length (owners_before network h ++ replicate n h) ≡ first_interface network h + h + n =
        length-append (owners_before network h) (replicate n h) ∙ ap (λ k. length (owners_before network h) + k) (length-replicate n h) ∙ ap (λ k. k + n) (length-owners_before network h) in
        let up = first_interface_up network h (h + 1) (omega arith) in
        let most = first_most network is (h + 1) in
        let interfaces = is.small.interfaces in
        let hosts = is.small.hosts in
        ap (λ (d : Draft B HostFields). in_channel_refusal d) (partly_all behaviour network tables h n)
        ∙ fits (nat_le MostEnds (length (owners_before network h ++ replicate n h))) TooManyChannels None
        (lt-leb MostEnds (length (owners_before network h ++ replicate n h)) (omega arith)) refl

    module _ (n : ℕ) (w : Wire) (keeps : KeepsLimits network) (at : slice_get (wires_of network) n ≡ Some w) where
      abbrev ws : List Wire
      ws = take n (wires_of network)

      few_outs : length (map out_channel_of ws) + 1 ≤ MostChannels
      few_outs =
          let count : length (map out_channel_of ws) ≡ n = length-map ws out_channel_of ∙ sym (wires_before behaviour network tables n w at) in
          let lt = slice_get_within (wires_of network) n w at in
          let most = keeps.channels in
          omega arith

      pub out_fits : out_channel_refusal (draft_of behaviour network tables (length network.hosts) ws) w.latency ≡ None
      out_fits =
          let short = prompt network n w keeps at in
          let few = few_outs in
          fits (nat_lt LongestDelay w.latency) DelayTooLong (refuse_if (nat_le MostEnds (length (map out_channel_of ws))) TooManyChannels None)
          (le-ltb LongestDelay w.latency (omega arith))
          (fits (nat_le MostEnds (length (map out_channel_of ws))) TooManyChannels None (lt-leb MostEnds (length (map out_channel_of ws)) (omega arith)) refl)

      few_channels : IsNetwork network → w.from < length network.hosts → n ≡ length ws → channels_of (with_out (draft_of behaviour network tables (length network.hosts) ws) w) < MostChannels
      few_channels is from before =
          let next : List Wire = ws ++ w ∷ [] in
          let same : channels_of (with_out (draft_of behaviour network tables (length network.hosts) ws) w)
          ≡ length (map (host_entity network tables next) (numbers (length network.hosts))) + all_timers (map (host_entity network tables next) (numbers (length network.hosts))) + length (mappings_from 0 0 ws) =
          ap (λ (es : List (DraftEntity HostFields)). length es + all_timers es + length (mappings_from 0 0 ws)) (hosts_next behaviour network tables ws w from) in
          let count : length (map (host_entity network tables next) (numbers (length network.hosts))) ≡ length network.hosts = length-map-range_with_len (host_entity network tables next) 0 (length network.hosts) in
          let timed = timers_of_hosts next (length network.hosts) in
          let last = first_timer-last network is in
          let mapped = length-mappings 0 0 ws in
          let lt = slice_get_within (wires_of network) n w at in
          let most = keeps.channels in
          omega arith

      pub mapping_fits : IsNetwork network → mapping_refusal (with_out (draft_of behaviour network tables (length network.hosts) ws) w) n w.in_channel w.delay ≡ None
      mapping_fits is =
          let d : Draft B HostFields = with_out (draft_of behaviour network tables (length network.hosts) ws) w in
          let mine = owned network is n w at in
          let before : n ≡ length ws = wires_before behaviour network tables n w at in
          let outs : length (map out_channel_of ws ++ out_channel_of w ∷ []) ≡ n + 1 =
          length-append (map out_channel_of ws) (out_channel_of w ∷ []) ∙ ap (λ k. k + 1) (length-map ws out_channel_of ∙ sym before) in
          let out : out_at d n ≡ out_channel_of w = last_at (map out_channel_of ws) (out_channel_of w) (record { entity = 0; delay = 0 }) n (before ∙ sym (length-map ws out_channel_of)) in
          let delay : (out_at d n).delay ≡ w.latency = ap (λ (o : OutChannel). o.delay) out in
          let short = prompt network n w keeps at in
          fits (nat_le (length (map out_channel_of ws ++ out_channel_of w ∷ [])) n) (UnknownChannel n) _ (lt-leb (length (map out_channel_of ws ++ out_channel_of w ∷ [])) n (omega arith))
          (fits (nat_le (length (owners_of network)) w.in_channel) (UnknownChannel w.in_channel) _ (lt-leb (length (owners_of network)) w.in_channel mine.there)
          (fits (nat_lt LongestDelay ((out_at d n).delay + w.delay)) DelayTooLong _ (le-ltb LongestDelay ((out_at d n).delay + w.delay) (omega arith))
          (fits (nat_le MostChannels (channels_of d)) TooManyChannels None (lt-leb MostChannels (channels_of d) (few_channels is mine.from before)) refl)))

    -- each host is valid
    pub valid_hosts : IsNetwork network → KeepsLimits network → Each (IsValidDraft IsHost) (net_draft behaviour network tables).entities
    unfolding net_draft host_outs
    valid_hosts is keeps =
        each_made (IsValidDraft IsHost) (host_entity network tables (wires_of network)) 0 (length network.hosts) (λ h low high. begins_valid network is tables h (omega arith) keeps)

    mappings_with : (P : Type 0) → IsNetwork network → (planned {B = B} {S = HostFields} {P = P} (net_draft behaviour network tables)).mappings ≡ mappings_of network
    unfolding planned net_draft mappings_of
    mappings_with P is =
        let count : length (map (host_entity network tables (wires_of network)) (numbers (length network.hosts))) ≡ length network.hosts = length-map-range_with_len (host_entity network tables (wires_of network)) 0 (length network.hosts) in
        let timed = timers_of_hosts (wires_of network) (length network.hosts) in
        let last = first_timer-last network is in
        channels_are (length (map (host_entity network tables (wires_of network)) (numbers (length network.hosts))) + all_timers (map (host_entity network tables (wires_of network)) (numbers (length network.hosts)))) (first_channel network) 0 (wires_of network) (omega arith)

pub mappings_are : {B P : Type 0} (behaviour : B) (network : Network) (plan : Plan B HostFields P) → IsNetwork network → IsNetBuilt behaviour network plan → plan.mappings ≡ mappings_of network
mappings_are {B} {P} behaviour network plan is built = ap (λ (p : Plan B HostFields P). p.mappings) built.plan_is ∙ mappings_with network built.tables behaviour P is

pub plans_one : {B P : Type 0} (behaviour : B) (network : Network) (a b : Plan B HostFields P) → IsNetBuilt behaviour network a → IsNetBuilt behaviour network b → a ≡ b
plans_one {B} {P} behaviour network a b x y =
    x.plan_is ∙ ap (λ (tables : List (List Period)). planned {B = B} {S = HostFields} {P = P} (net_draft behaviour network tables)) (tables_one network x.tables y.tables x.routes y.routes) ∙ sym y.plan_is
