-- What an event sends: where it comes from, and how much of it goes on one channel.
use Rattle.std.proofs.Common.{◌≡◌, ◌⊎◌, ℕ, zero, suc, ◌+◌, ◌<◌, ◌≤◌, true, cond, nat_eq, List, [], ◌∷◌, map, filter, refl, sym, ◌∙◌, subst, inl, inr, arith, count_by, Option, Some, None, slice_get, eqb-true}
use Rattle.std.specs.List.{flat_map, range_with_len}
use Rattle.std.proofs.lemmas.Grind.{common_steps}
use Rattle.event_order.specs.Pending.{Among}
use Rattle.event_order.proofs.Pending.{test_cases, filter_among}
use Rattle.ssf_model.specs.declared.wait.Kind.TheVariants.{Timer}
use Rattle.ssf_model.specs.declared.out.Written.{Written}
use Rattle.ssf_model.specs.declared.out.Written.TheVariants.{Channel, Timer as TimerWrite}
use Rattle.ssf_model.specs.declared.process.Process.{Process}
use Rattle.ssf_model.specs.declared.plan.Mapping.{Mapping}
use Rattle.ssf_model.specs.Reaction.{Each}
use Rattle.ssf_model.specs.Deliver.{is_write_on}
use Rattle.ssf_model.specs.Channels.{Sent, message, wait_end, timer_of, sent}
use Rattle.ssf_model.specs.Channels.{is_on}
use Rattle.ssf_model.proofs.Lists.{among_flat, among_map, count_append, count_cons, count_yes, count_no}
use Rattle.run_health.proofs.Delivers.{is_timer}

-- ---- where it comes from

-- a message that the entity wrote on a mapping
pub record FromWrite {P : Type 0} (ms : List Mapping) (ws : List (Written P)) (s : Sent P) : Type 0 where
  pub mapping : Mapping
  pub delay : ℕ
  pub payload : P
  pub among : Among mapping ms
  pub written : Among (Channel mapping.out_channel delay payload) ws
  pub is : s ≡ message delay payload mapping

-- the end of a wait
pub record FromWait {P : Type 0} (entity : ℕ) (ps : List Process) (ws : List (Written P)) (s : Sent P) : Type 0 where
  pub process : ℕ
  pub delay : ℕ
  pub ticket : ℕ
  pub channel : ℕ
  pub timer : timer_of (slice_get ps process) ≡ Some channel
  pub written : Among (TimerWrite process delay ticket) ws
  pub is : s ≡ record { channel = channel; priority = 0; delay = delay; entity = entity; kind = Timer process ticket }

module _ {P : Type 0} (ms : List Mapping) (entity : ℕ) (ps : List Process) (ws : List (Written P)) where
  from_wait : (process delay ticket : ℕ) (s : Sent P) (o : Option ℕ) → timer_of (slice_get ps process) ≡ o → Among (TimerWrite process delay ticket) ws →
      Among s (wait_end entity process delay ticket o) → FromWait entity ps ws s
  from_wait process delay ticket s None e w a = absurd a
  from_wait process delay ticket s (Some channel) e w (inl is) =
      record { process = process; delay = delay; ticket = ticket; channel = channel; timer = e; written = w; is = is }
  from_wait process delay ticket s (Some channel) e w (inr a) = absurd a

  from_written : (w : Written P) (s : Sent P) → Among w ws → Among s (sent ms entity ps w) → FromWrite ms ws s ⊎ FromWait entity ps ws s
  from_written (Channel out delay payload) s w a =
      let found = among_map (message delay payload) s (filter (λ m. nat_eq m.out_channel out) ms) a in
      let m = found.of in
      let passed = filter_among (λ (m' : Mapping). nat_eq m'.out_channel out) m ms found.among in
      let same : m.out_channel ≡ out = eqb-true m.out_channel out passed.passes in
      inl (record {
        mapping = m;
        delay = delay;
        payload = payload;
        among = passed.among;
        written = subst (λ c. Among (Channel c delay payload) ws) (sym same) w;
        is = found.is;
      })
  from_written (TimerWrite process delay ticket) s w a = inr (from_wait process delay ticket s (timer_of (slice_get ps process)) refl w a)

  pub sent_from : (s : Sent P) → Among s (flat_map (sent ms entity ps) ws) → FromWrite ms ws s ⊎ FromWait entity ps ws s
  sent_from s a = let c = among_flat (sent ms entity ps) s ws a in from_written c.of s c.among c.within

-- ---- how much goes on one channel

-- no two mappings have one channel
abbrev pub IsOneChannelEach : List Mapping → Type 0
IsOneChannelEach [] = Unit {0}
IsOneChannelEach (m ∷ ms) = Each (λ n. n.channel ≡ m.channel → ⊥) ms × IsOneChannelEach ms

others_of : (ms : List Mapping) (c first n : ℕ) → c < first → map (λ (m : Mapping). m.channel) ms ≡ range_with_len first n → Each (λ (k : Mapping). k.channel ≡ c → ⊥) ms
others_of [] c first n l e = tt
others_of (m ∷ ms) c first zero l e = absurd (cc)
others_of (m ∷ ms) c first (suc n) l e =
    let own : m.channel ≡ first = cc in
    let later : map (λ (k : Mapping). k.channel) ms ≡ range_with_len (first + 1) n = cc in
    ((λ same. absurd (omega arith)), others_of ms c (first + 1) n (omega arith) later)

pub one_channel_each : (ms : List Mapping) (first n : ℕ) → map (λ (m : Mapping). m.channel) ms ≡ range_with_len first n → IsOneChannelEach ms
one_channel_each [] first n e = tt
one_channel_each (m ∷ ms) first zero e = absurd (cc)
one_channel_each (m ∷ ms) first (suc n) e =
    let own : m.channel ≡ first = cc in
    let later : map (λ (k : Mapping). k.channel) ms ≡ range_with_len (first + 1) n = cc in
    (others_of ms m.channel (first + 1) n (omega arith) later, one_channel_each ms (first + 1) n later)

-- the out-channel whose mapping has this channel, if there is one
out_of : ℕ → List Mapping → ℕ
out_of c [] = 0
out_of c (m ∷ ms) = cond (nat_eq m.channel c) m.out_channel (out_of c ms)

test_back : (a b : ℕ) → nat_eq a b ≡ true → nat_eq b a ≡ true
test_back a b h = grind (arith, common_steps)

wait_end_count : (P : Type 0) (c place process delay ticket : ℕ) (o : Option ℕ) → count_by (is_on {P = P} c) (wait_end place process delay ticket o) ≤ 1
wait_end_count P c place process delay ticket None = omega arith
wait_end_count P c place process delay ticket (Some k) =
    let s : Sent P = record { channel = k; priority = 0; delay = delay; entity = place; kind = Timer process ticket } in
    elim (test_cases (nat_eq k c)) [ inl t ↦ let h = count_yes (is_on c) s [] t in omega arith | inr f ↦ let h = count_no (is_on c) s [] f in omega arith ]

module _ {P : Type 0} where
  none_on : (c out delay : ℕ) (payload : P) (ms : List Mapping) → Each (λ m. m.channel ≡ c → ⊥) ms →
      count_by (is_on c) (map (message delay payload) (filter (λ m. nat_eq m.out_channel out) ms)) ≡ 0
  none_on c out delay payload [] e = refl
  none_on c out delay payload (m ∷ ms) e = elim (test_cases (nat_eq m.out_channel out)) [
    | inl t ↦ elim (test_cases (nat_eq m.channel c)) [
      | inl same ↦ absurd (e.0 (eqb-true m.channel c same))
      | inr other ↦ rw t (count_no (is_on c) (message delay payload m) (map (message delay payload) (filter (λ m. nat_eq m.out_channel out) ms)) other ∙ none_on c out delay payload ms e.1)
    ]
    | inr f ↦ rw f (none_on c out delay payload ms e.1)
  ]

  message_count : (c out delay : ℕ) (payload : P) (ms : List Mapping) → IsOneChannelEach ms →
      count_by (is_on c) (map (message delay payload) (filter (λ m. nat_eq m.out_channel out) ms)) ≤ cond (nat_eq out (out_of c ms)) 1 0
  unfolding out_of
  message_count c out delay payload [] one = omega arith
  message_count c out delay payload (m ∷ ms) one =
      let on = message delay payload m in
      let others = map (message delay payload) (filter (λ m. nat_eq m.out_channel out) ms) in
      elim (test_cases (nat_eq m.channel c)) [
        | inl same ↦
            let e : m.channel ≡ c = eqb-true m.channel c same in
            let none = none_on c out delay payload ms (subst (λ k. Each (λ (n : Mapping). n.channel ≡ k → ⊥) ms) e one.0) in
            elim (test_cases (nat_eq m.out_channel out)) [
              | inl t ↦ let back : nat_eq out m.out_channel ≡ true = test_back m.out_channel out t in
                  rw (t, same, back) (let h = count_yes (is_on c) on others same in omega arith)
              | inr f ↦ rw (f, same) (omega arith)
            ]
        | inr other ↦ let h = message_count c out delay payload ms one.1 in elim (test_cases (nat_eq m.out_channel out)) [
          | inl t ↦ rw (t, other) (let g = count_no (is_on c) on others other in omega arith)
          | inr f ↦ rw (f, other) h
        ]
      ]

  sent_count_by : (c place : ℕ) (ps : List Process) (ms : List Mapping) (ws : List (Written P)) → IsOneChannelEach ms →
      count_by (is_on c) (flat_map (sent ms place ps) ws) ≤ count_by (is_write_on (out_of c ms)) ws + count_by is_timer ws
  sent_count_by c place ps ms [] one = omega arith
  sent_count_by c place ps ms (Channel out delay payload ∷ ws) one =
      let h = sent_count_by c place ps ms ws one in
      let m = message_count c out delay payload ms one in
      let a = count_cons (is_write_on (out_of c ms)) (Channel out delay payload) ws in
      let b = count_cons is_timer (Channel out delay payload) ws in
      omega (arith, count_append (is_on c) (map (message delay payload) (filter (λ m. nat_eq m.out_channel out) ms)) (flat_map (sent ms place ps) ws))
  sent_count_by c place ps ms (TimerWrite process delay ticket ∷ ws) one =
      let h = sent_count_by c place ps ms ws one in
      let a = count_cons (is_write_on {P = P} (out_of c ms)) (TimerWrite process delay ticket) ws in
      let b = count_cons (is_timer {P = P}) (TimerWrite process delay ticket) ws in
      let w = wait_end_count P c place process delay ticket (timer_of (slice_get ps process)) in
      omega (arith, count_append (is_on {P = P} c) (wait_end place process delay ticket (timer_of (slice_get ps process))) (flat_map (sent ms place ps) ws))

  pub sent_count : (c place : ℕ) (ps : List Process) (ms : List Mapping) (ws : List (Written P)) (most timers : ℕ) → IsOneChannelEach ms →
      ((out : ℕ) → count_by (is_write_on out) ws ≤ most) → count_by is_timer ws ≤ timers → count_by (is_on c) (flat_map (sent ms place ps) ws) ≤ most + timers
  sent_count c place ps ms ws most timers one writes waits = let h = sent_count_by c place ps ms ws one in let w = writes (out_of c ms) in omega arith
