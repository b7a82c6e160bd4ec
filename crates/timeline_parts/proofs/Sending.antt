-- One write, and several writes one after another.
use Rattle.std.proofs.Common.{◌≡◌, ℕ, zero, suc, ◌+◌, ◌^◌, ◌<◌, ◌≤◌, Bool, true, false, cond, nat_eq, List, [], ◌∷◌, ◌++◌, length, get_or, refl, sym, ap, ◌∙◌, subst, inl, inr, arith, count_by, append-nil, eq-eqb, eqb-true, Option, Some, None, option_map, unwrap_or}
use mathlib.Core.Path.{fun_ext}
use Rattle.std.specs.Result.{OnOk, OnErr, IsOk}
use Rattle.std.proofs.Common.{Result, Ok, Err}
use Rattle.event_order.specs.declared.key.Key.{Key}
use Rattle.event_order.specs.Order.{child_of}
use Rattle.event_order.specs.Pending.{Among}
use Rattle.event_order.proofs.Pending.{test_cases, among_append_left, among_append_right}
use Rattle.ssf_model.specs.declared.wait.Kind.{Kind}
use Rattle.ssf_model.specs.declared.event.Event.{Event}
use Rattle.ssf_model.specs.Reaction.{Each}
use Rattle.ssf_model.specs.Channels.{Sent, raised, counted, numbered, is_on}
use Rattle.ssf_model.proofs.Lists.{each_first, each_rest, each_of, count_append, count_yes, count_no}
use Rattle.ssf_model.proofs.Counts.{counted_is}
use Rattle.timeline_parts.specs.declared.ends.OutEnd.{OutEnd}
use Rattle.timeline_parts.specs.Tables.{numbers_of, AreRising, AreNumbered, item_at, changed}
use Rattle.timeline_parts.specs.Sending.{sent_as, count_of, count_on, all_counted, with_event, put_one, all_put, written_of, IsSendable, MaySend, IsSent, IsSentInPart}
use Rattle.timeline_parts.proofs.Tables.{numbers_changed, item_here, item_changed, known_item}

pub on_ok : {A E : Type 0} {P Q : Type 0} (r : Result A E) → (P → Q) → OnOk r P → OnOk r Q
on_ok (Ok x) f h = f h
on_ok (Err e) f h = h

pub on_err_of : {A E : Type 0} {P : Type 0} (r : Result A E) → P → OnErr r P
on_err_of (Ok x) h = tt
on_err_of (Err e) h = h

pub ok_holds : {A E : Type 0} {P : Type 0} (r : Result A E) → IsOk r → OnOk r P → P
ok_holds (Ok x) ok h = h
ok_holds (Err e) ok h = absurd (cc)

pub append_same : {T : Type 0} (xs ys zs : List T) → (xs ++ ys) ++ zs ≡ xs ++ (ys ++ zs)
append_same [] ys zs = refl
append_same (x ∷ xs) ys zs = ap (λ ws. x ∷ ws) (append_same xs ys zs)

-- ---- counts

pub count_here : (xs : List (ℕ × ℕ)) (n i : ℕ) (x : ℕ × ℕ) → AreNumbered xs → i < length xs → get_or (numbers_of xs) i 0 ≡ n → x ≡ get_or xs i x → x.1 ≡ count_of xs n
count_here xs n i x r h p e = sym (ap (λ o. unwrap_or o 0) (item_here xs n i x r h p e))

-- one write more on a channel that is counted
raised_by : (c : ℕ) (counts : List (ℕ × ℕ)) → Among c (numbers_of counts) → (k : ℕ) → count_of (count_on c counts) k ≡ raised (count_of counts) c k
raised_by c counts a k = ap (λ (o : Option ℕ). unwrap_or o 0) (item_changed k c (λ n. n + 1) counts) ∙ (elim (test_cases (nat_eq k c)) [
  | inl t ↦ let same : k ≡ c = eqb-true k c t in let known = known_item c counts a in
      let here : item_at k counts ≡ Some known.0 = ap (λ j. item_at j counts) same ∙ known.1 in rw (t, here) refl
  | inr f ↦ rw f refl
])

module _ {P : Type 0} where
  pub numbers_all_counted : (es : List (Event P)) (counts : List (ℕ × ℕ)) → numbers_of (all_counted es counts) ≡ numbers_of counts
  numbers_all_counted [] counts = refl
  numbers_all_counted (e ∷ es) counts = numbers_all_counted es (count_on e.key.channel counts) ∙ numbers_changed e.key.channel (λ n. n + 1) counts

  pub numbers_all_put : (es : List (Event P)) (ends : List (ℕ × OutEnd P)) → numbers_of (all_put es ends) ≡ numbers_of ends
  numbers_all_put [] ends = refl
  numbers_all_put (e ∷ es) ends = numbers_all_put es (put_one e ends) ∙ numbers_changed e.key.channel (with_event e) ends

  pub all_counted_append : (es ds : List (Event P)) (counts : List (ℕ × ℕ)) → all_counted (es ++ ds) counts ≡ all_counted ds (all_counted es counts)
  all_counted_append [] ds counts = refl
  all_counted_append (e ∷ es) ds counts = all_counted_append es ds (count_on e.key.channel counts)

  pub all_put_append : (es ds : List (Event P)) (ends : List (ℕ × OutEnd P)) → all_put (es ++ ds) ends ≡ all_put ds (all_put es ends)
  all_put_append [] ds ends = refl
  all_put_append (e ∷ es) ds ends = all_put_append es ds (put_one e ends)

  pub written_here : (xs : List (ℕ × OutEnd P)) (n i : ℕ) (x : ℕ × OutEnd P) → AreNumbered xs → i < length xs → get_or (numbers_of xs) i 0 ≡ n → x ≡ get_or xs i x → written_of xs n ≡ x.1.written
  written_here xs n i x r h p e = ap (λ (o : Option (OutEnd P)). unwrap_or (option_map (λ (y : OutEnd P). y.written) o) 0) (item_here xs n i x r h p e)

  more : (e : Event P) (o : Option (OutEnd P)) → unwrap_or (option_map (λ (y : OutEnd P). y.written) (option_map (with_event e) o)) 0 ≤ unwrap_or (option_map (λ (y : OutEnd P). y.written) o) 0 + 1
  more e None = omega arith
  more e (Some y) = omega arith

  written_one : (e : Event P) (ends : List (ℕ × OutEnd P)) (k : ℕ) → written_of (put_one e ends) k ≤ written_of ends k + cond (nat_eq k e.key.channel) 1 0
  written_one e ends k =
      let now : item_at k (put_one e ends) ≡ cond (nat_eq k e.key.channel) (option_map (with_event e) (item_at k ends)) (item_at k ends) = item_changed k e.key.channel (with_event e) ends in
      rw now (elim (test_cases (nat_eq k e.key.channel)) [
        | inl t ↦ rw t (more e (item_at k ends))
        | inr f ↦ rw f (omega arith)
      ])

  counted_append : (counts : ℕ → ℕ) (ss ts : List (Sent P)) → counted counts (ss ++ ts) ≡ counted (counted counts ss) ts
  counted_append counts [] ts = refl
  counted_append counts (s ∷ ss) ts = counted_append (raised counts s.channel) ss ts

  pub numbered_append : (key : Key) (counts : ℕ → ℕ) (ss ts : List (Sent P)) → numbered key counts (ss ++ ts) ≡ numbered key counts ss ++ numbered key (counted counts ss) ts
  numbered_append key counts [] ts = refl
  numbered_append key counts (s ∷ ss) ts =
      ap (λ (es : List (Event P)). record { key = child_of key s.delay s.priority s.channel (counts s.channel); entity = s.entity; kind = s.kind } ∷ es)
      (numbered_append key (raised counts s.channel) ss ts)

  -- how many were written on a channel after these
  written_all : (key : Key) (counts : ℕ → ℕ) (ss : List (Sent P)) (ends : List (ℕ × OutEnd P)) (k : ℕ) →
      written_of (all_put (numbered key counts ss) ends) k ≤ written_of ends k + count_by (is_on k) ss
  written_all key counts [] ends k = omega arith
  written_all key counts (s ∷ ss) ends k =
      let e : Event P = record { key = child_of key s.delay s.priority s.channel (counts s.channel); entity = s.entity; kind = s.kind } in
      let rest = written_all key (raised counts s.channel) ss (put_one e ends) k in
      let one = written_one e ends k in
      elim (test_cases (nat_eq k s.channel)) [
        | inl t ↦ let u : is_on k s ≡ true = eq-eqb s.channel k (sym (eqb-true k s.channel t)) in
            let first : written_of (put_one e ends) k ≤ written_of ends k + 1 = rw t at one in
            omega (arith, rest, first, count_yes (is_on k) s ss u)
        | inr f ↦ let first : written_of (put_one e ends) k ≤ written_of ends k + 0 = rw f at one in
            elim (test_cases (is_on k s)) [
              | inl u ↦ omega (arith, rest, first, count_yes (is_on k) s ss u)
              | inr v ↦ omega (arith, rest, first, count_no (is_on k) s ss v)
            ]
      ]

  -- ---- sending

  pub sent_none : (parent : Key) (c : List (ℕ × ℕ)) (o : List (ℕ × OutEnd P)) (w : List (Event P)) → IsSent parent [] c o w c o w
  sent_none parent c o w = record { written = sym (append-nil w); counts = refl; ends = refl; counted_is = refl }

  pub sent_one : (parent : Key) (delay priority channel entity : ℕ) (kind : Kind P) (c0 c1 : List (ℕ × ℕ)) (o0 o1 : List (ℕ × OutEnd P)) (w0 w1 : List (Event P)) (key : Key) (n : ℕ) →
      Among channel (numbers_of c0) → n ≡ count_of c0 channel → key ≡ child_of parent delay priority channel n → c1 ≡ count_on channel c0 →
      o1 ≡ put_one (record { key = key; entity = entity; kind = kind }) o0 → w1 ≡ w0 ++ record { key = key; entity = entity; kind = kind } ∷ [] →
      IsSent parent (sent_as delay priority channel entity kind ∷ []) c0 o0 w0 c1 o1 w1
  sent_one parent delay priority channel entity kind c0 c1 o0 o1 w0 w1 key n a ne ke ce oe we =
      let is : key ≡ child_of parent delay priority channel (count_of c0 channel) = ke ∙ ap (λ m. child_of parent delay priority channel m) ne in
      record {
        written = we ∙ ap (λ (k : Key). w0 ++ record { key = k; entity = entity; kind = kind } ∷ []) is;
        counts = ce;
        ends = oe ∙ ap (λ (k : Key). put_one (record { key = k; entity = entity; kind = kind }) o0) is;
        counted_is = ap count_of ce ∙ fun_ext (raised_by channel c0 a);
      }

  pub sent_append : (parent : Key) (ss ts : List (Sent P)) (c0 c1 c2 : List (ℕ × ℕ)) (o0 o1 o2 : List (ℕ × OutEnd P)) (w0 w1 w2 : List (Event P)) →
      IsSent parent ss c0 o0 w0 c1 o1 w1 → IsSent parent ts c1 o1 w1 c2 o2 w2 → IsSent parent (ss ++ ts) c0 o0 w0 c2 o2 w2
  sent_append parent ss ts c0 c1 c2 o0 o1 o2 w0 w1 w2 a b =
      let first : List (Event P) = numbered parent (count_of c0) ss in
      let second : List (Event P) = numbered parent (counted (count_of c0) ss) ts in
      let same : numbered parent (count_of c1) ts ≡ second = ap (λ (f : ℕ → ℕ). numbered parent f ts) a.counted_is in
      let all : first ++ second ≡ numbered parent (count_of c0) (ss ++ ts) = sym (numbered_append parent (count_of c0) ss ts) in
      record {
        written = b.written ∙ (ap (λ es. w1 ++ es) same ∙ (ap (λ es. es ++ second) a.written ∙ (append_same w0 first second ∙ ap (λ es. w0 ++ es) all)));
        counts = b.counts ∙ (ap (λ es. all_counted es c1) same ∙ (ap (λ c. all_counted second c) a.counts ∙ (sym (all_counted_append first second c0) ∙ ap (λ es. all_counted es c0) all)));
        ends = b.ends ∙ (ap (λ es. all_put es o1) same ∙ (ap (λ o. all_put second o) a.ends ∙ (sym (all_put_append first second o0) ∙ ap (λ es. all_put es o0) all)));
        counted_is = b.counted_is ∙ (ap (λ (f : ℕ → ℕ). counted f ts) a.counted_is ∙ sym (counted_append (count_of c0) ss ts));
      }

  pub part_none : (c : List (ℕ × ℕ)) (o : List (ℕ × OutEnd P)) (w : List (Event P)) → IsSentInPart c o w c o w
  part_none c o w = record { some = []; written = sym (append-nil w); counts = refl; ends = refl }

  pub part_after : (parent : Key) (ss : List (Sent P)) (c0 c1 c2 : List (ℕ × ℕ)) (o0 o1 o2 : List (ℕ × OutEnd P)) (w0 w1 w2 : List (Event P)) →
      IsSent parent ss c0 o0 w0 c1 o1 w1 → IsSentInPart c1 o1 w1 c2 o2 w2 → IsSentInPart c0 o0 w0 c2 o2 w2
  part_after parent ss c0 c1 c2 o0 o1 o2 w0 w1 w2 a b =
      let first : List (Event P) = numbered parent (count_of c0) ss in
      record {
        some = first ++ b.some;
        written = b.written ∙ (ap (λ es. es ++ b.some) a.written ∙ append_same w0 first b.some);
        counts = b.counts ∙ (ap (λ c. all_counted b.some c) a.counts ∙ sym (all_counted_append first b.some c0));
        ends = b.ends ∙ (ap (λ o. all_put b.some o) a.ends ∙ sym (all_put_append first b.some o0));
      }

  -- room for one
  pub one_room : (parent : Key) (s : Sent P) (c : List (ℕ × ℕ)) (o : List (ℕ × OutEnd P)) → MaySend parent (s ∷ []) c o → count_of c s.channel + 1 < 2 ^ 64
  one_room parent s c o m =
      let room = m.room s (inl refl) in let one = count_yes (is_on s.channel) s [] (eq-eqb s.channel s.channel refl) in omega arith

  pub one_room_out : (parent : Key) (s : Sent P) (c : List (ℕ × ℕ)) (o : List (ℕ × OutEnd P)) → MaySend parent (s ∷ []) c o → written_of o s.channel + 1 < 2 ^ 64
  one_room_out parent s c o m =
      let room = m.room_out s (inl refl) in let one = count_yes (is_on s.channel) s [] (eq-eqb s.channel s.channel refl) in omega arith

  pub may_first : (parent : Key) (ss ts : List (Sent P)) (c : List (ℕ × ℕ)) (o : List (ℕ × OutEnd P)) → MaySend parent (ss ++ ts) c o → MaySend parent ss c o
  may_first parent ss ts c o m = record {
    time = m.time;
    round = m.round;
    counts_rise = m.counts_rise;
    ends_rise = m.ends_rise;
    sendable = each_first (IsSendable c) ss ts m.sendable;
    room = λ s a. let all = m.room s (among_append_left s ss ts a) in omega (arith, count_append (is_on s.channel) ss ts);
    room_out = λ s a. let all = m.room_out s (among_append_left s ss ts a) in omega (arith, count_append (is_on s.channel) ss ts);
  }

  pub may_rest : (parent : Key) (ss ts : List (Sent P)) (c c' : List (ℕ × ℕ)) (o o' : List (ℕ × OutEnd P)) (w w' : List (Event P)) →
      MaySend parent (ss ++ ts) c o → IsSent parent ss c o w c' o' w' → MaySend parent ts c' o'
  may_rest parent ss ts c c' o o' w w' m q =
      let es : List (Event P) = numbered parent (count_of c) ss in
      let counts_same : numbers_of c ≡ numbers_of c' = sym (ap numbers_of q.counts ∙ numbers_all_counted es c) in
      let ends_same : numbers_of o ≡ numbers_of o' = sym (ap numbers_of q.ends ∙ numbers_all_put es o) in
      record {
        time = m.time;
        round = m.round;
        counts_rise = subst AreRising counts_same m.counts_rise;
        ends_rise = subst AreRising ends_same m.ends_rise;
        sendable = each_of (IsSendable c) (IsSendable c') ts (λ s p. record { channel = subst (λ ns. Among s.channel ns) counts_same p.channel; delay = p.delay }) (each_rest (IsSendable c) ss ts m.sendable);
        room = λ s a. let k : ℕ = s.channel in let all = m.room s (among_append_right s ss ts a) in let now : count_of c' k ≡ counted (count_of c) ss k = ap (λ (f : ℕ → ℕ). f k) q.counted_is in
            omega (arith, count_append (is_on k) ss ts, counted_is (count_of c) ss k);
        room_out = λ s a. let k : ℕ = s.channel in let all = m.room_out s (among_append_right s ss ts a) in
            let now : written_of o' k ≡ written_of (all_put es o) k = ap (λ x. written_of x k) q.ends in
            omega (arith, count_append (is_on k) ss ts, written_all parent (count_of c) ss o k);
      }
