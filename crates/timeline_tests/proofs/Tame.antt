-- Such a timeline can execute its first event, and stays such a one.
use Rattle.std.proofs.Common.{◌≡◌, ℕ, zero, suc, ◌+◌, ◌-◌, ◌^◌, ◌<◌, ◌≤◌, ◌⊎◌, Bool, true, false, cond, nat_eq, nat_le, List, [], ◌∷◌, length, map, replicate, refl, sym, ap, ◌∙◌, subst, inl, inr, arith, eq-eqb, eqb-true, count_by, Option, Some, None, option_map, unwrap_or, Result, Ok, Err, IfOk, OnOk, OnErr, if◌then◌else◌}
use Rattle.std.specs.List.{flat_map, All}
use Rattle.std.proofs.lemmas.Grind.{common_steps}
use Rattle.event_order.specs.declared.key.Key.{Key}
use Rattle.event_order.specs.Machine.{due}
use Rattle.event_order.specs.Order.{comes_before}
use Rattle.event_order.specs.Pending.{Among, IsApart, put, put_all}
use Rattle.event_order.proofs.Pending.{test_cases}
use Rattle.ssf_model.specs.declared.event.Event.{Event}
use Rattle.ssf_model.specs.declared.event.Parcel.{Parcel}
use Rattle.ssf_model.specs.declared.wait.Kind.{Kind}
use Rattle.ssf_model.specs.declared.wait.Kind.TheVariants.{Begin, Timer, Message}
use Rattle.ssf_model.specs.declared.entity.Entity.{Entity}
use Rattle.ssf_model.specs.declared.process.Process.{Process}
use Rattle.ssf_model.specs.declared.out.Written.{Written}
use Rattle.ssf_model.specs.declared.plan.Mapping.{Mapping}
use Rattle.ssf_model.specs.Reaction.{Each, LatestTime, LongestDelay}
use Rattle.ssf_model.specs.Deliver.{delivered, IsTimely}
use Rattle.ssf_model.specs.Wake.{waits_on}
use Rattle.ssf_model.specs.Channels.{Sent, numbered, is_on, delivered_to}
use Rattle.ssf_model.proofs.Lists.{count_yes, each_all, each_among}
use Rattle.ring_model.specs.declared.ring.RingState.{RingState}
use Rattle.ring_model.specs.declared.ring.RingPayload.{RingPayload}
use Rattle.ring_model.specs.Reacting.{ring_reaction, IsRing, token}
use Rattle.timeline_parts.specs.declared.ends.OutEnd.{OutEnd}
use Rattle.timeline_parts.specs.declared.ends.InEnd.{InEnd}
use Rattle.timeline_parts.specs.Tables.{numbers_of, AreRising, AreNumbered, item_at, changed}
use Rattle.timeline_parts.specs.Sending.{sent_on, count_of, written_of, all_counted, all_put, with_event, IsSendable, MaySend}
use Rattle.timeline_parts.specs.Settling.{staying, AreNew}
use Rattle.timeline_parts.proofs.Tables.{known_item, item_changed, numbers_changed}
use Rattle.timeline_parts.proofs.Sending.{numbers_all_counted, numbers_all_put}
use Rattle.timeline.specs.declared.answers.Ran.{Ran}
use Rattle.timeline.specs.declared.answers.Ran.TheVariants.{Idle, Spent, Ran as RanKey}
use Rattle.timeline_parts.specs.declared.part.Cross.{Cross}
use Rattle.timeline_parts.specs.declared.part.Part.{Part}
use Rattle.timeline.specs.View.{TimelineOf, key_of, routes_by}
use Rattle.timeline_parts.specs.Parts.{channel_of, IsPart}
use Rattle.timeline.specs.Opening.{first_out, IsFirst}
use Rattle.timeline.specs.Moving.{taken_end, posted_end, MayTake, IsTaken, IsHandedOut, entered_at, without}
use Rattle.timeline.specs.Holding.{taken_of, IsInOrder}
use Rattle.timeline.specs.Executing.{refusal, MayRun, IsRun, sent_in, written_in, spent_of}
use Rattle.timeline.proofs.Refusals.{refusal_spent, refusal_idle}
use Rattle.timeline.proofs.Kept.{numbers_first_in, numbers_first_out}
use Rattle.timeline_tests.specs.Tame.{ends_a_wait, IsPlain, HasCome, IsTame, IsNode, IsSimple, IsNodePart, IsSmall, first_count}

timely : (kind : Kind RingPayload) (ps : List Process) → ends_a_wait kind ≡ false → IsTimely kind ps
timely Begin ps h = tt
timely (Timer process ticket) ps h = absurd (cc)
timely (Message channel payload) ps h = tt

replicated : {T : Type 0} (n : ℕ) (x : T) → n ≤ 1 → (replicate n x ≡ []) ⊎ (replicate n x ≡ x ∷ [])
replicated zero x h = inl refl
replicated (suc zero) x h = inr refl
replicated (suc (suc n)) x h = absurd (omega arith)

-- a node writes at most once
few_writes : (now : ℕ) (kind : Kind RingPayload) (s : RingState) (p : Process) → ends_a_wait kind ≡ false → s.tokens ≤ 1 →
    ((delivered ring_reaction now kind 0 s (p ∷ [])).writes ≡ []) ⊎ ((delivered ring_reaction now kind 0 s (p ∷ [])).writes ≡ token s.node ∷ [])
few_writes now Begin s p w few = elim (replicated s.tokens (token s.node) few) [ inl q ↦ inl (rw q refl) | inr q ↦ inr (rw q refl) ]
few_writes now (Timer process ticket) s p w few = absurd (cc)
few_writes now (Message channel payload) s p w few = elim (test_cases (waits_on p.wait channel)) [ inl t ↦ inr (rw t refl) | inr f ↦ inl (rw f refl) ]

-- one message on one mapping
record IsOneSent (outs : List Cross) (ss : List (Sent RingPayload)) : Type 0 where
  cross : Cross
  s : Sent RingPayload
  outs_are : outs ≡ cross ∷ []
  is : ss ≡ s ∷ []
  channel : s.channel ≡ cross.mapping.channel
  delay : s.delay ≤ cross.mapping.delay

sent_few : (outs : List Cross) (n node : ℕ) (ps : List Process) (ws : List (Written RingPayload)) → length outs ≤ 1 → (ws ≡ []) ⊎ (ws ≡ token node ∷ []) →
    (flat_map (sent_on (routes_by [] outs) n ps) ws ≡ []) ⊎ IsOneSent outs (flat_map (sent_on (routes_by [] outs) n ps) ws)
sent_few outs n node ps ws few (inl e) = inl (ap (λ vs. flat_map (sent_on (routes_by [] outs) n ps) vs) e)
sent_few [] n node ps ws few (inr e) = inl (ap (λ vs. flat_map (sent_on (routes_by [] []) n ps) vs) e)
sent_few (o ∷ []) n node ps ws few (inr e) =
    let all : flat_map (sent_on (routes_by [] (o ∷ [])) n ps) ws ≡ flat_map (sent_on (routes_by [] (o ∷ [])) n ps) (token node ∷ []) = ap (λ vs. flat_map (sent_on (routes_by [] (o ∷ [])) n ps) vs) e in
    elim (test_cases (nat_eq o.mapping.out_channel node)) [
      | inl t ↦ inr (record {
        cross = o;
        s = record { channel = o.mapping.channel; priority = o.mapping.priority; delay = o.mapping.delay + 0; entity = o.mapping.to; kind = Message o.mapping.in_channel (record {}) };
        outs_are = refl;
        is = all ∙ rw t refl;
        channel = refl;
        delay = omega arith;
      })
      | inr f ↦ inl (all ∙ rw f refl)
    ]
sent_few (o ∷ q ∷ os) n node ps ws few (inr e) = absurd (omega arith)

more : (o : Option ℕ) → unwrap_or (option_map (λ n. n + 1) o) 0 ≤ unwrap_or o 0 + 1
more None = omega arith
more (Some n) = omega arith

still : (o : Option (OutEnd RingPayload)) → unwrap_or (option_map (λ (y : OutEnd RingPayload). y.written) (option_map posted_end o)) 0 ≡ unwrap_or (option_map (λ (y : OutEnd RingPayload). y.written) o) 0
still None = refl
still (Some y) = refl

more_out : (d : Event RingPayload) (o : Option (OutEnd RingPayload)) → unwrap_or (option_map (λ (y : OutEnd RingPayload). y.written) (option_map (with_event d) o)) 0 ≤ unwrap_or (option_map (λ (y : OutEnd RingPayload). y.written) o) 0 + 1
more_out d None = omega arith
more_out d (Some y) = omega arith

one_more : (c k : ℕ) (counts : List (ℕ × ℕ)) → count_of (changed c (λ n. n + 1) counts) k ≤ count_of counts k + 1
one_more c k counts =
    let now : item_at k (changed c (λ n. n + 1) counts) ≡ cond (nat_eq k c) (option_map (λ n. n + 1) (item_at k counts)) (item_at k counts) = item_changed k c (λ n. n + 1) counts in
    rw now (elim (test_cases (nat_eq k c)) [ inl u ↦ rw u (more (item_at k counts)) | inr f ↦ rw f (omega arith) ])

one_more_out : (d : Event RingPayload) (k : ℕ) (ends : List (ℕ × OutEnd RingPayload)) → written_of (changed d.key.channel (with_event d) ends) k ≤ written_of ends k + 1
one_more_out d k ends =
    let now : item_at k (changed d.key.channel (with_event d) ends) ≡ cond (nat_eq k d.key.channel) (option_map (with_event d) (item_at k ends)) (item_at k ends) = item_changed k d.key.channel (with_event d) ends in
    rw now (elim (test_cases (nat_eq k d.key.channel)) [ inl u ↦ rw u (more_out d (item_at k ends)) | inr f ↦ rw f (omega arith) ])

few_counted : (ss : List (Sent RingPayload)) (outs : List Cross) (key : Key) (cs : ℕ → ℕ) (counts : List (ℕ × ℕ)) (c : ℕ) → (ss ≡ []) ⊎ IsOneSent outs ss → count_of (all_counted (numbered key cs ss) counts) c ≤ count_of counts c + 1
few_counted ss outs key cs counts c (inl e) = rw e (omega arith)
few_counted ss outs key cs counts c (inr one) = rw one.is (one_more one.s.channel c counts)

few_put : (ss : List (Sent RingPayload)) (outs : List Cross) (key : Key) (cs : ℕ → ℕ) (ends : List (ℕ × OutEnd RingPayload)) (c : ℕ) → (ss ≡ []) ⊎ IsOneSent outs ss → written_of (all_put (numbered key cs ss) ends) c ≤ written_of ends c + 1
few_put ss outs key cs ends c (inl e) = rw e (omega arith)
few_put ss outs key cs ends c (inr one) = rw one.is (one_more_out _ c ends)

-- what a node sends
abbrev Sends : {B : Type 0} → TimelineOf B RingState RingPayload → Event RingPayload → Entity B RingState RingPayload → Type 0
Sends t e x = (sent_in ring_reaction t e x ≡ []) ⊎ IsOneSent t.outs (sent_in ring_reaction t e x)

module _ {B : Type 0} (number : ℕ) (t : TimelineOf B RingState RingPayload) (tame : IsTame number t) where
  sends : (e : Event RingPayload) (x : Entity B RingState RingPayload) → IsNode x → IsPlain number e → length t.outs ≤ 1 → Sends t e x
  sends e x node plain few =
      let ws : List (Written RingPayload) = (delivered ring_reaction e.key.time e.kind 0 x.state x.processes).writes in
      let writes : (ws ≡ []) ⊎ (ws ≡ token x.state.node ∷ []) =
      subst (λ ps. ((delivered ring_reaction e.key.time e.kind 0 x.state ps).writes ≡ []) ⊎ ((delivered ring_reaction e.key.time e.kind 0 x.state ps).writes ≡ token x.state.node ∷ []))
      (sym node.one) (few_writes e.key.time e.kind x.state node.process plain.kind node.tokens) in
      subst (λ (inside : List Mapping).
      (flat_map (sent_on (routes_by inside t.outs) e.entity (delivered_to ring_reaction e x).processes) ws ≡ [])
      ⊎ IsOneSent t.outs (flat_map (sent_on (routes_by inside t.outs) e.entity (delivered_to ring_reaction e x).processes) ws))
      (sym tame.inside) (sent_few t.outs e.entity x.state.node (delivered_to ring_reaction e x).processes ws few writes)

  known : (cross : Cross) → t.outs ≡ cross ∷ [] → Among cross.mapping.channel (map channel_of t.outs)
  known cross h = subst (λ (os : List Cross). Among cross.mapping.channel (map channel_of os)) (sym h) (inl refl)

  stays_none : (ss : List (Sent RingPayload)) (key : Key) (counts : ℕ → ℕ) → (ss ≡ []) ⊎ IsOneSent t.outs ss → staying t.out_ends (numbered key counts ss) ≡ []
  stays_none ss key counts (inl e) = rw e refl
  stays_none ss key counts (inr one) =
      let c : ℕ = one.s.channel in
      let there : Among c (numbers_of t.out_ends) = subst (λ ns. Among c ns) (sym tame.ends) (subst (λ k. Among k (map channel_of t.outs)) (sym one.channel) (known one.cross one.outs_are)) in
      let found = known_item c t.out_ends there in
      let at : item_at c t.out_ends ≡ Some found.0 = found.1 in
      rw one.is (rw at refl)

  may_send_one : (e : Event RingPayload) (cross : Cross) (s : Sent RingPayload) → IsPlain number e → e.key.time ≤ LatestTime → AreNumbered t.counts → AreNumbered t.out_ends → t.executed ≤ 10 ^ 12 →
      t.outs ≡ cross ∷ [] → cross.mapping.delay ≤ LongestDelay → s.channel ≡ cross.mapping.channel → s.delay ≤ cross.mapping.delay → MaySend e.key (s ∷ []) t.counts t.out_ends
  may_send_one e cross s plain time counts ends few only short channel delay =
      let there : Among s.channel (map channel_of t.outs) = subst (λ k. Among k (map channel_of t.outs)) (sym channel) (known cross only) in
      let once : count_by (is_on s.channel) (s ∷ []) ≤ 1 = let c = count_yes (is_on s.channel) s [] (eq-eqb s.channel s.channel refl) in omega (arith, c) in
      let n = tame.few s.channel in
      let m = tame.few_out s.channel in
      record {
        time = time;
        round = let r = plain.round in omega (arith, r);
        counts_rise = counts;
        ends_rise = ends;
        sendable = (record { channel = subst (λ ns. Among s.channel ns) (sym tame.counts) there; delay = omega (arith, delay, short) }, tt);
        room = λ z a. elim a [
          | inl q ↦ subst (λ (y : Sent RingPayload). count_of t.counts y.channel + count_by (is_on y.channel) (s ∷ []) < 2 ^ 64) (sym q) (omega (arith, once, n, few))
          | inr q ↦ absurd q
        ];
        room_out = λ z a. elim a [
          | inl q ↦ subst (λ (y : Sent RingPayload). written_of t.out_ends y.channel + count_by (is_on y.channel) (s ∷ []) < 2 ^ 64) (sym q) (omega (arith, once, m, few))
          | inr q ↦ absurd q
        ];
      }

  may_send : (e : Event RingPayload) (ss : List (Sent RingPayload)) → IsPlain number e → e.key.time ≤ LatestTime → AreNumbered t.counts → AreNumbered t.out_ends → t.executed ≤ 10 ^ 12 →
      ((cross : Cross) → t.outs ≡ cross ∷ [] → cross.mapping.delay ≤ LongestDelay) → (ss ≡ []) ⊎ IsOneSent t.outs ss → MaySend e.key ss t.counts t.out_ends
  may_send e ss plain time counts ends few short (inl none) = record {
    time = time;
    round = let r = plain.round in omega (arith, r);
    counts_rise = counts;
    ends_rise = ends;
    sendable = subst (λ (xs : List (Sent RingPayload)). Each (IsSendable t.counts) xs) (sym none) tt;
    room = λ s a. absurd (subst (λ xs. Among s xs) none a);
    room_out = λ s a. absurd (subst (λ xs. Among s xs) none a);
  }
  may_send e ss plain time counts ends few short (inr one) =
      subst (λ (xs : List (Sent RingPayload)). MaySend e.key xs t.counts t.out_ends) (sym one.is)
      (may_send_one e one.cross one.s plain time counts ends few one.outs_are (short one.cross one.outs_are) one.channel one.delay)

  pub may_run : (e : Event RingPayload) (rest : List (Event RingPayload)) (x : Entity B RingState RingPayload) → t.pending ≡ e ∷ rest → t.entities ≡ (number, x) ∷ [] → IsNode x →
      e.key.time ≤ LatestTime → AreNumbered t.counts → AreNumbered t.out_ends → t.executed ≤ 10 ^ 12 → length t.outs ≤ 1 →
      ((cross : Cross) → t.outs ≡ cross ∷ [] → cross.mapping.delay ≤ LongestDelay) → MayRun IsRing ring_reaction t e rest
  may_run e rest x first only node time counts ends few outs short =
      let plain : IsPlain number e = (subst (λ es. Each (IsPlain number) es) first tame.pending).0 in
      let all = sends e x node plain outs in
      record {
        entity = x;
        at = let same : nat_eq number number ≡ true = eq-eqb number number refl in rw (only, plain.entity, same) refl;
        acts = record {
          is_valid = record {
            state = record { in_channel = node.ins; out_channel = node.outs; untimed = rw (node.one, node.untimed) refl; patient = rw node.one node.patient; few = omega (arith, node.tokens) };
            few = rw node.one (omega arith);
          };
          timely = timely e.kind x.processes plain.kind;
          tickets = subst (λ ps. All (λ (p : Process). p.ticket < 2 ^ 64 - 1) ps) (sym node.one) (each_all (λ (p : Process). p.ticket < 2 ^ 64 - 1) (node.process ∷ []) (omega (arith, node.ticket), tt));
        };
        may = may_send e (sent_in ring_reaction t e x) plain time counts ends few short all;
        new = subst (λ (es : List (Event RingPayload)). AreNew es rest) (sym (stays_none (sent_in ring_reaction t e x) e.key (count_of t.counts) all)) (record { apart = tt; others = λ y z a b s. absurd a });
      }

  pub stays_tame : (after : TimelineOf B RingState RingPayload) (x : Entity B RingState RingPayload) (q : IsRun ring_reaction t after) → t.entities ≡ (number, x) ∷ [] → IsNode x → length t.outs ≤ 1 → IsTame number after
  stays_tame after x q only node outs =
      let first : Each (IsPlain number) (q.event ∷ q.rest) = subst (λ es. Each (IsPlain number) es) q.first tame.pending in
      let came : Each (HasCome number t.in_ends) (q.event ∷ q.rest) = subst (λ es. Each (HasCome number t.in_ends) es) q.first tame.come in
      let plain : IsPlain number q.event = first.0 in
      let there : item_at q.event.entity t.entities ≡ Some x = let here : nat_eq number number ≡ true = eq-eqb number number refl in rw (only, plain.entity, here) refl in
      let both : Some q.entity ≡ Some x = sym q.at ∙ there in
      let same : x ≡ q.entity = cc in
      let all : Sends t q.event q.entity = sends q.event q.entity (subst IsNode same node) plain outs in
      let ss : List (Sent RingPayload) = sent_in ring_reaction t q.event q.entity in
      let es : List (Event RingPayload) = written_in ring_reaction t q.event q.entity in
      record {
        pending = subst (λ ds. Each (IsPlain number) ds)
            (sym (ap (λ (a : TimelineOf B RingState RingPayload). a.pending) q.is ∙ ap (λ ds. put_all key_of ds q.rest) (stays_none ss q.event.key (count_of t.counts) all))) first.1;
        come = subst (λ ends. Each (HasCome number ends) after.pending) (sym (ap (λ (a : TimelineOf B RingState RingPayload). a.in_ends) q.is))
            (subst (λ ds. Each (HasCome number t.in_ends) ds)
            (sym (ap (λ (a : TimelineOf B RingState RingPayload). a.pending) q.is ∙ ap (λ ds. put_all key_of ds q.rest) (stays_none ss q.event.key (count_of t.counts) all))) came.1);
        inside = ap (λ (a : TimelineOf B RingState RingPayload). a.inside) q.is ∙ tame.inside;
        counts = ap (λ (a : TimelineOf B RingState RingPayload). numbers_of a.counts) q.is ∙ (numbers_all_counted es t.counts ∙ (tame.counts ∙ sym (ap (λ (a : TimelineOf B RingState RingPayload). map channel_of a.outs) q.is)));
        in_ends = ap (λ (a : TimelineOf B RingState RingPayload). numbers_of a.in_ends) q.is ∙ (tame.in_ends ∙ sym (ap (λ (a : TimelineOf B RingState RingPayload). map channel_of a.ins) q.is));
        ends = ap (λ (a : TimelineOf B RingState RingPayload). numbers_of a.out_ends) q.is ∙ (numbers_all_put es t.out_ends ∙ (tame.ends ∙ sym (ap (λ (a : TimelineOf B RingState RingPayload). map channel_of a.outs) q.is)));
        few = λ c. let now : count_of after.counts c ≡ count_of (all_counted es t.counts) c = ap (λ (a : TimelineOf B RingState RingPayload). count_of a.counts c) q.is in
            let one : after.executed ≡ t.executed + 1 = ap (λ (a : TimelineOf B RingState RingPayload). a.executed) q.is in
            let up = few_counted ss t.outs q.event.key (count_of t.counts) t.counts c all in let old = tame.few c in omega (arith, now, one, up, old);
        few_out = λ c. let now : written_of after.out_ends c ≡ written_of (all_put es t.out_ends) c = ap (λ (a : TimelineOf B RingState RingPayload). written_of a.out_ends c) q.is in
            let one : after.executed ≡ t.executed + 1 = ap (λ (a : TimelineOf B RingState RingPayload). a.executed) q.is in
            let up = few_put ss t.outs q.event.key (count_of t.counts) t.out_ends c all in let old = tame.few_out c in omega (arith, now, one, up, old);
      }

-- ---- a node at first, and after the other calls

option_cases : {T : Type 0} (o : Option T) → (o ≡ None) ⊎ ((x : T) × (o ≡ Some x))
option_cases None = inl refl
option_cases (Some x) = inr (x, refl)

still_written : (c k : ℕ) (ends : List (ℕ × OutEnd RingPayload)) → written_of (changed c posted_end ends) k ≡ written_of ends k
still_written c k ends =
    let now : item_at k (changed c posted_end ends) ≡ cond (nat_eq k c) (option_map posted_end (item_at k ends)) (item_at k ends) = item_changed k c posted_end ends in
    rw now (elim (test_cases (nat_eq k c)) [ inl t ↦ rw t (still (item_at k ends)) | inr f ↦ rw f refl ])

numbers_first_count : (outs : List Cross) → numbers_of (map first_count outs) ≡ map channel_of outs
numbers_first_count [] = refl
numbers_first_count (o ∷ outs) = ap (λ ns. o.mapping.channel ∷ ns) (numbers_first_count outs)

none_counted : (outs : List Cross) (c : ℕ) → count_of (map first_count outs) c ≡ 0
none_counted [] c = refl
none_counted (o ∷ outs) c = elim (test_cases (nat_eq c o.mapping.channel)) [ inl t ↦ rw t refl | inr f ↦ rw f (none_counted outs c) ]

none_written : (outs : List Cross) (c : ℕ) → written_of (map (first_out {P = RingPayload}) outs) c ≡ 0
none_written [] c = refl
none_written (o ∷ outs) c = elim (test_cases (nat_eq c o.mapping.channel)) [ inl t ↦ rw t refl | inr f ↦ rw f (none_written outs c) ]

-- how much was taken from channels, where more was taken from one
grown : (end promise : ℕ) (o : Option InEnd) → unwrap_or (option_map (λ (e : InEnd). e.taken) o) 0 ≤ end →
    unwrap_or (option_map (λ (e : InEnd). e.taken) o) 0 ≤ unwrap_or (option_map (λ (e : InEnd). e.taken) (option_map (taken_end end promise) o)) 0
grown end promise None low = omega arith
grown end promise (Some e) low = low

taken_grows : (c k end promise : ℕ) (ends : List (ℕ × InEnd)) → taken_of ends c ≤ end → taken_of ends k ≤ taken_of (changed c (taken_end end promise) ends) k
taken_grows c k end promise ends low =
    let now : item_at k (changed c (taken_end end promise) ends) ≡ cond (nat_eq k c) (option_map (taken_end end promise) (item_at k ends)) (item_at k ends) = item_changed k c (taken_end end promise) ends in
    rw now (elim (test_cases (nat_eq k c)) [
      | inl t ↦ let same : taken_of ends k ≤ end = subst (λ n. taken_of ends n ≤ end) (sym (eqb-true k c t)) low in rw t (grown end promise (item_at k ends) same)
      | inr f ↦ rw f (omega arith)
    ])

taken_now : (c end promise : ℕ) (ends : List (ℕ × InEnd)) → Among c (numbers_of ends) → taken_of (changed c (taken_end end promise) ends) c ≡ end
taken_now c end promise ends known =
    let found = known_item c ends known in
    let at : item_at c ends ≡ Some found.0 = found.1 in
    let same : nat_eq c c ≡ true = eq-eqb c c refl in
    let now : item_at c (changed c (taken_end end promise) ends) ≡ cond (nat_eq c c) (option_map (taken_end end promise) (item_at c ends)) (item_at c ends) = item_changed c c (taken_end end promise) ends in
    rw (now, same, at) refl

each_put : (Q : Event RingPayload → Type 0) (e : Event RingPayload) (ys : List (Event RingPayload)) → Q e → Each Q ys → Each Q (put key_of e ys)
each_put Q e [] here all = (here, tt)
each_put Q e (y ∷ ys) here all = elim (test_cases (comes_before e.key y.key)) [ inl t ↦ rw t (here, all) | inr f ↦ rw f (all.0, each_put Q e ys here all.1) ]

module _ (number : ℕ) where
  come_still : (c end promise : ℕ) (ends : List (ℕ × InEnd)) (es : List (Event RingPayload)) → taken_of ends c ≤ end → Each (HasCome number ends) es → Each (HasCome number (changed c (taken_end end promise) ends)) es
  come_still c end promise ends [] low come = tt
  come_still c end promise ends (e ∷ es) low come = (
    elim come.0 [
      | inl own ↦ inl own
      | inr below ↦ let more = taken_grows c e.key.channel end promise ends low in inr (omega (arith, below, more))
    ],
    come_still c end promise ends es low come.1,
  )

  come_now : (c taken promise : ℕ) (ends : List (ℕ × InEnd)) (e : Event RingPayload) → Among c (numbers_of ends) → e.key.channel ≡ c → e.key.number ≡ taken → HasCome number (changed c (taken_end (taken + 1) promise) ends) e
  come_now c taken promise ends e there on next =
      let now : taken_of (changed c (taken_end (taken + 1) promise) ends) e.key.channel ≡ taken + 1 =
      ap (λ k. taken_of (changed c (taken_end (taken + 1) promise) ends) k) on ∙ taken_now c (taken + 1) promise ends there in
      inr (omega (arith, now, next))

  -- a parcel with one event that is taken in
  tame_one : (c promise : ℕ) (ends : List (ℕ × InEnd)) (pending : List (Event RingPayload)) (e : Event RingPayload) → Among c (numbers_of ends) → IsPlain number e → e.key.channel ≡ c → e.key.number ≡ taken_of ends c →
      Each (IsPlain number) pending → Each (HasCome number ends) pending →
      Each (IsPlain number) (put key_of e pending) × Each (HasCome number (changed c (taken_end (taken_of ends c + 1) promise) ends)) (put key_of e pending)
  tame_one c promise ends pending e there plain on next all come = (
    each_put (IsPlain number) e pending plain all,
    each_put (HasCome number (changed c (taken_end (taken_of ends c + 1) promise) ends)) e pending (come_now c (taken_of ends c) promise ends e there on next)
        (come_still c (taken_of ends c + 1) promise ends pending (omega arith) come),
  )

  -- the next event of a channel has another key than all that has come
  is_new : (c : ℕ) (ends : List (ℕ × InEnd)) (x y : Event RingPayload) → x.key.channel ≡ c → x.key.number ≡ taken_of ends c → (c ≡ number → ⊥) → HasCome number ends y → key_of x ≡ key_of y → ⊥
  is_new c ends x y on next other come same =
      let channel : y.key.channel ≡ c = sym (ap (λ (k : Key). k.channel) same) ∙ on in
      let count : y.key.number ≡ taken_of ends c = sym (ap (λ (k : Key). k.number) same) ∙ next in
      elim come [
        | inl own ↦ other (sym channel ∙ own)
        | inr below ↦ let low : y.key.number < taken_of ends c = subst (λ k. y.key.number < taken_of ends k) channel below in absurd (omega (arith, low, count))
      ]

module _ {B : Type 0} (number : ℕ) where
  pub is_part : (ins outs : List Cross) (part : Part B RingState RingPayload) → IsNodePart number ins outs part → AreRising (map channel_of ins) → AreRising (map channel_of outs) → IsPart part
  is_part ins outs part n ins_rise outs_rise = record {
    entities = subst AreRising (sym n.numbers) (λ k a. absurd a, tt);
    counts = subst AreRising (sym (ap numbers_of n.counts ∙ numbers_first_count outs)) outs_rise;
    ins = subst (λ cs. AreRising (map channel_of cs)) (sym n.ins_are) ins_rise;
    outs = subst (λ cs. AreRising (map channel_of cs)) (sym n.outs_are) outs_rise;
    events = subst (λ (es : List (Event RingPayload)). IsApart key_of es) (sym n.events) (λ x a. absurd a, tt);
  }

  pub tame_first : (ins outs : List Cross) (part : Part B RingState RingPayload) (until budget : ℕ) (t : TimelineOf B RingState RingPayload) → IsNodePart number ins outs part → IsFirst part until budget t → IsTame number t
  tame_first ins outs part until budget t n q =
      let outs_are : t.outs ≡ outs = q.outs ∙ n.outs_are in
      let counts_are : t.counts ≡ map first_count outs = q.counts ∙ n.counts in
      let ends_are : t.out_ends ≡ map first_out outs = q.out_ends ∙ ap (map first_out) n.outs_are in
      record {
        pending = subst (λ es. Each (IsPlain number) es) (sym (q.pending ∙ ap (λ es. put_all key_of es []) n.events)) (n.plain, tt);
        come = subst (λ es. Each (HasCome number t.in_ends) es) (sym (q.pending ∙ ap (λ es. put_all key_of es []) n.events)) (inl n.own, tt);
        inside = q.inside ∙ n.inside;
        counts = ap numbers_of counts_are ∙ (numbers_first_count outs ∙ sym (ap (map channel_of) outs_are));
        ends = ap numbers_of ends_are ∙ (numbers_first_out RingPayload outs ∙ sym (ap (map channel_of) outs_are));
        in_ends = ap numbers_of q.in_ends ∙ (numbers_first_in part.ins ∙ sym (ap (map channel_of) q.ins));
        few = λ c. let none : count_of t.counts c ≡ 0 = ap (λ cs. count_of cs c) counts_are ∙ none_counted outs c in omega (arith, none);
        few_out = λ c. let none : written_of t.out_ends c ≡ 0 = ap (λ os. written_of os c) ends_are ∙ none_written outs c in omega (arith, none);
      }

  pub tame_entered : (entered : Bool) (window : ℕ) (t after : TimelineOf B RingState RingPayload) → IsTame number t → after ≡ (if entered then entered_at window t else t) → IsTame number after
  tame_entered true window t after h is = subst (IsTame number) (sym is)
      (record { pending = h.pending; come = h.come; inside = h.inside; counts = h.counts; ends = h.ends; in_ends = h.in_ends; few = h.few; few_out = h.few_out })
  tame_entered false window t after h is = subst (IsTame number) (sym is) h

  pub tame_spared : (t after : TimelineOf B RingState RingPayload) → IsTame number t → after ≡ record t { spare = after.spare } → IsTame number after
  tame_spared t after h is = subst (IsTame number) (sym is)
      (record { pending = h.pending; come = h.come; inside = h.inside; counts = h.counts; ends = h.ends; in_ends = h.in_ends; few = h.few; few_out = h.few_out })

  pub tame_without : (below : ℕ) (t after : TimelineOf B RingState RingPayload) → IsTame number t → after ≡ without below t → IsTame number after
  tame_without below t after h is = subst (IsTame number) (sym is)
      (record { pending = h.pending; come = h.come; inside = h.inside; counts = h.counts; ends = h.ends; in_ends = h.in_ends; few = h.few; few_out = h.few_out })

  pub tame_spent : (t after : TimelineOf B RingState RingPayload) → IsTame number t → after ≡ spent_of t after → IsTame number after
  tame_spent t after h is = subst (IsTame number) (sym is)
      (record { pending = h.pending; come = h.come; inside = h.inside; counts = h.counts; ends = h.ends; in_ends = h.in_ends; few = h.few; few_out = h.few_out })

  pub tame_handed : (c : ℕ) (parcel : Parcel RingPayload) (t after : TimelineOf B RingState RingPayload) → IsTame number t → IsHandedOut t c parcel after → IsTame number after
  tame_handed c parcel t after h q =
      let left : after.out_ends ≡ changed c posted_end t.out_ends = q.posted.left in
      let made : TimelineOf B RingState RingPayload = record t { out_ends = after.out_ends } in
      subst (IsTame number) (sym q.same) (record {
        pending = h.pending;
        come = h.come;
        inside = h.inside;
        counts = h.counts;
        ends = ap numbers_of left ∙ (numbers_changed c posted_end t.out_ends ∙ h.ends);
        in_ends = h.in_ends;
        few = h.few;
        few_out = λ k. let same : written_of after.out_ends k ≡ written_of t.out_ends k = ap (λ os. written_of os k) left ∙ still_written c k t.out_ends in let old = h.few_out k in omega (arith, same, old);
      })

  pub tame_taken : (c : ℕ) (parcel : Parcel RingPayload) (t after : TimelineOf B RingState RingPayload) → IsTame number t → IsSmall number c (taken_of t.in_ends c) parcel.events → parcel.first ≡ taken_of t.in_ends c →
      Among c (numbers_of t.in_ends) → IsTaken t c parcel after → IsTame number after
  tame_taken c parcel t after h small first known q =
      let end : ℕ = parcel.first + length parcel.events in
      let ends : List (ℕ × InEnd) = changed c (taken_end end parcel.promise) t.in_ends in
      let both : Each (IsPlain number) (put_all key_of parcel.events t.pending) × Each (HasCome number ends) (put_all key_of parcel.events t.pending) = elim small [
        | inl none ↦ subst (λ es. Each (IsPlain number) (put_all key_of es t.pending) × Each (HasCome number ends) (put_all key_of es t.pending)) (sym none)
            (h.pending, come_still number c end parcel.promise t.in_ends t.pending (omega (arith, first)) h.come)
        | inr one ↦ let size : length parcel.events ≡ 1 = ap length one.is in
            let up : end ≡ taken_of t.in_ends c + 1 = omega (arith, size, first) in
            subst (λ es. Each (IsPlain number) (put_all key_of es t.pending) × Each (HasCome number ends) (put_all key_of es t.pending)) (sym one.is)
            (subst (λ n. Each (IsPlain number) (put key_of one.event t.pending) × Each (HasCome number (changed c (taken_end n parcel.promise) t.in_ends)) (put key_of one.event t.pending)) (sym up)
            (tame_one number c parcel.promise t.in_ends t.pending one.event known one.plain one.on one.next h.pending h.come))
      ] in
      subst (IsTame number) (sym q.is) (record {
        pending = both.0;
        come = both.1;
        inside = h.inside;
        counts = h.counts;
        ends = h.ends;
        in_ends = numbers_changed c (taken_end end parcel.promise) t.in_ends ∙ h.in_ends;
        few = h.few;
        few_out = h.few_out;
      })

  pub may_take : (c : ℕ) (parcel : Parcel RingPayload) (t : TimelineOf B RingState RingPayload) → IsTame number t → IsSmall number c (taken_of t.in_ends c) parcel.events → parcel.first ≡ taken_of t.in_ends c →
      Among c (map channel_of t.ins) → parcel.first ≤ 1000 → MayTake t c parcel
  may_take c parcel t h small begins on first = record {
    known = subst (λ ns. Among c ns) (sym h.in_ends) on;
    new = elim small [
      | inl none ↦ record {
        apart = subst (λ (es : List (Event RingPayload)). IsApart key_of es) (sym none) tt;
        others = λ x y a b s. absurd (subst (λ es. Among x es) none a);
      }
      | inr one ↦ record {
        apart = subst (λ (es : List (Event RingPayload)). IsApart key_of es) (sym one.is) (λ x a. absurd a, tt);
        others = λ x y a b s. elim (subst (λ es. Among x es) one.is a) [
          | inl e ↦ is_new number c t.in_ends one.event y one.on one.next one.other (each_among (HasCome number t.in_ends) t.pending y h.come b) (sym (ap key_of e) ∙ s)
          | inr rest ↦ absurd rest
        ];
      }
    ];
    end = elim small [
      | inl none ↦ let size : length parcel.events ≡ 0 = ap length none in omega (arith, size, first)
      | inr one ↦ let size : length parcel.events ≡ 1 = ap length one.is in omega (arith, size, first)
    ];
  }

  in_time : (t : TimelineOf B RingState RingPayload) (e : Event RingPayload) (rest : List (Event RingPayload)) → refusal t ≡ None → t.pending ≡ e ∷ rest → e.key.time ≤ t.until
  in_time t e rest none is = elim (test_cases t.spent) [
    | inl s ↦ let both : Some Spent ≡ None = sym (refusal_spent t s) ∙ none in absurd (cc)
    | inr live ↦ elim (test_cases (nat_le e.key.time t.until)) [
      | inl l ↦ grind (arith, common_steps)
      | inr late ↦
          let no : due key_of t.until t.pending ≡ None = ap (λ ps. due key_of t.until ps) is ∙ rw late refl in
          let both : Some Idle ≡ None = sym (refusal_idle t live no) ∙ none in absurd (cc)
    ]
  ]

  live : (t : TimelineOf B RingState RingPayload) → refusal t ≡ None → t.spent ≡ false
  live t none = elim (test_cases t.spent) [
    | inl s ↦ let both : Some Spent ≡ None = sym (refusal_spent t s) ∙ none in absurd (cc)
    | inr f ↦ f
  ]

  pub may_execute : (t : TimelineOf B RingState RingPayload) → IsTame number t → (t.spent ≡ false → IsSimple number t) → IsInOrder t →
      (e : Event RingPayload) (rest : List (Event RingPayload)) → t.pending ≡ e ∷ rest → refusal t ≡ None → MayRun IsRing ring_reaction t e rest
  may_execute t h simple order e rest is none =
      let time = in_time t e rest none is in
      let q = simple (live t none) in
      may_run number t h e rest q.one.node is q.one.is q.one.small (omega (arith, time, order.until)) order.counts order.out_ends (omega (arith, order.few, order.budget)) q.few
      (λ cross only. (subst (λ os. Each (λ (c : Cross). c.mapping.delay ≤ LongestDelay) os) only q.short).0)

  pub tame_executed : {M : Type 0} (result : Result Ran M) (t after : TimelineOf B RingState RingPayload) → IsTame number t → (t.spent ≡ false → IsSimple number t) →
      ((told : Ran) → refusal t ≡ Some told → (result ≡ Ok told) × (after ≡ t)) →
      (refusal t ≡ None → IfOk result (λ told. (run : IsRun ring_reaction t after) × (told ≡ RanKey run.event.key))) →
      OnErr result ((refusal t ≡ None) × (after ≡ spent_of t after)) → IsTame number after
  tame_executed (Ok told) t after h simple refused ran spent = elim (option_cases (refusal t)) [
    | inl none ↦ let q = simple (live t none) in stays_tame number t h after q.one.node (ran none).0 q.one.is q.one.small q.few
    | inr some ↦ subst (IsTame number) (sym (refused some.0 some.1).1) h
  ]
  tame_executed (Err m) t after h simple refused ran spent = tame_spent t after h spent.1

  pub tame_tried : {U M : Type 0} (result : Result U M) (c : ℕ) (parcel : Parcel RingPayload) (t after : TimelineOf B RingState RingPayload) →
      IsTame number t → IsSmall number c (taken_of t.in_ends c) parcel.events → parcel.first ≡ taken_of t.in_ends c → Among c (numbers_of t.in_ends) →
      OnOk result (IsTaken t c parcel after) → OnErr result (after ≡ t) → IsTame number after
  tame_tried (Ok u) c parcel t after h small first known taken kept = tame_taken c parcel t after h small first known taken
  tame_tried (Err m) c parcel t after h small first known taken kept = subst (IsTame number) (sym kept) h

  pub on_outs : (c : ℕ) (t : TimelineOf B RingState RingPayload) → IsTame number t → Among c (map channel_of t.outs) → Among c (numbers_of t.out_ends)
  on_outs c t h on = subst (λ ns. Among c ns) (sym h.ends) on

  pub on_ins : (c : ℕ) (t : TimelineOf B RingState RingPayload) → IsTame number t → Among c (map channel_of t.ins) → Among c (numbers_of t.in_ends)
  on_ins c t h on = subst (λ ns. Among c ns) (sym h.in_ends) on

pub rising_short : (xs : List Cross) → length xs < 2 → AreRising (map channel_of xs)
rising_short [] h = tt
rising_short (x ∷ []) h = (λ k a. absurd a, tt)
rising_short (x ∷ y ∷ xs) h = absurd (omega arith)
