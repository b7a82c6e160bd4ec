-- What a sound timeline takes in and hands out, and how it goes on to a later window: it stays sound.
use Rattle.std.proofs.Common.{◌≡◌, ℕ, ◌+◌, ◌<◌, ◌≤◌, Bool, true, false, cond, nat_eq, nat_le, nat_lt, min, List, [], ◌∷◌, ◌++◌, length, slice_index, refl, sym, ap, ◌∙◌, subst, inl, inr, arith, Option, Some, None, option_map, unwrap_or}
use Rattle.std.specs.List.{filter}
use Rattle.event_order.specs.declared.key.Key.{Key}
use Rattle.event_order.specs.Order.{comes_before, IsBefore}
use Rattle.event_order.specs.Pending.{Among, IsRising, put, put_all}
use Rattle.event_order.proofs.Order.{before_asym, before_time, earlier}
use Rattle.event_order.proofs.Pending.{test_cases}
use Rattle.event_order.proofs.Steps.{le_true, le_test, le_false}
use Rattle.ssf_model.specs.declared.event.Event.{Event}
use Rattle.ssf_model.specs.declared.event.Entry.{Entry}
use Rattle.ssf_model.specs.declared.event.Parcel.{Parcel}
use Rattle.ssf_model.specs.declared.plan.Plan.{Plan}
use Rattle.ssf_model.specs.Run.{States}
use Rattle.ssf_model.specs.Scene.{Scene, event_at, time_of}
use Rattle.ssf_model.specs.Truth.{is_on_line, line_entries, IsTrueParcel, IsCut, IsWindow}
use Rattle.ssf_model.proofs.Places.{stretch_length}
use Rattle.sync_rules.specs.Parts.{BarrierOf}
use Rattle.sync_rules.specs.Bounds.{IsInto, IsOutOf, bound_of, low_of, promise_of}
use Rattle.sync_rules.specs.Shared.{IsShared}
use Rattle.sync_rules.specs.Sound.{made, HasDone, IsSoundLine, IsSoundBarrier}
use Rattle.sync_rules.specs.Steps.{CanEnter, taken_line, posted_line, entered_line}
use Rattle.sync_rules.proofs.Posts.{none_late, taken_bound, taken_is_sound, outbox_is_true, posted_is_sound}
use Rattle.sync_rules.proofs.Enters.{entered_is_sound, enters_soundly}
use Rattle.sync_rules.proofs.Wholes.{comes_after, take_low, enter_low}
use Rattle.sync_rules.proofs.Bounds.{bound_rises}
use Rattle.timeline_parts.specs.declared.ends.InEnd.{InEnd}
use Rattle.timeline_parts.specs.declared.ends.OutEnd.{OutEnd}
use Rattle.timeline_parts.specs.Tables.{numbers_of, AreRising, AreNumbered, item_at, changed}
use Rattle.timeline_parts.specs.Sending.{written_of}
use Rattle.timeline_parts.proofs.Tables.{item_changed, numbers_changed}
use Rattle.timeline.specs.View.{TimelineOf, key_of}
use Rattle.timeline.specs.Holding.{bound_in, low_in, has_taken, taken_of, IsInOrder}
use Rattle.timeline.specs.Executing.{refusal, spent_of}
use Rattle.timeline.specs.Moving.{taken_end, posted_end, IsTaken, can_enter, entered_at, IsHandedOut, without}
use Rattle.timeline.specs.Lines.{line_of, mail_of, posted_of, outbox_of, IsPlacedIn}
use Rattle.timeline.specs.Sound.{CountsAt, HasNext, IsSoundTimeline}
use Rattle.timeline.proofs.TellsBounds.{number_among, among_item, item_among, bound_is, low_is}
use Rattle.timeline.proofs.Kept.{filled_posted}
use Rattle.timeline.proofs.Free.{both, less_of, next_of}
use Rattle.timeline.proofs.Refusals.{lt_true}
use Rattle.timeline.proofs.Lined.{taken_as, posted_as, entered_as}

-- ---- lists

module _ {T : Type 0} (key : T → Key) where
  -- what comes after the first leaves it the first
  put_later : (x h : T) (rest : List T) → (key h).time < (key x).time → put key x (h ∷ rest) ≡ h ∷ put key x rest
  put_later x h rest late = elim (test_cases (comes_before (key x) (key h))) [
    | inl t ↦ absurd (before_asym (key x) (key h) t (earlier (key h) (key x) late))
    | inr f ↦ rw f refl
  ]

  head_stays : (xs : List T) (h : T) (rest : List T) → ((x : T) → Among x xs → (key h).time < (key x).time) → put_all key xs (h ∷ rest) ≡ h ∷ put_all key xs rest
  head_stays [] h rest late = refl
  head_stays (x ∷ xs) h rest late = ap (put_all key xs) (put_later x h rest (late x (inl refl))) ∙ head_stays xs h (put key x rest) (λ y a. late y (inr a))

module _ (below : ℕ) where
  abbrev from_on : Entry → Bool
  from_on e = nat_le below e.key.time

  all_from : (es : List Entry) → ((e : Entry) → Among e es → below ≤ e.key.time) → filter from_on es ≡ es
  all_from [] late = refl
  all_from (e ∷ es) late = elim (test_cases (from_on e)) [
    | inl t ↦ rw t (ap (λ ds. e ∷ ds) (all_from es (λ d a. late d (inr a))))
    | inr f ↦ absurd (let less = le_false below e.key.time f in let more = late e (inl refl) in omega (arith, less, more))
  ]

  -- of entries in key order those from a time on are the last ones
  pub last_ones : (es : List Entry) → IsRising (λ (e : Entry). e.key) es → (before : List Entry) × (before ++ filter from_on es ≡ es)
  last_ones [] rising = ([], refl)
  last_ones (e ∷ es) rising = elim (test_cases (from_on e)) [
    | inl t ↦ (
      [],
      all_from (e ∷ es) (λ d a. elim (let b : Among d (e ∷ es) = a in b) [
        | inl same ↦ (let late = le_true below e.key.time t in let one = ap (λ (x : Entry). x.key.time) same in omega (arith, late, one))
        | inr c ↦ (let late = le_true below e.key.time t in let order = before_time e.key d.key (rising.0 d c) in omega (arith, late, order))
      ]),
    )
    | inr f ↦ (let rest = last_ones es rising.1 in (e ∷ rest.0, rw f (ap (λ ds. e ∷ ds) rest.1)))
  ]

rising_rest : (xs ys : List Entry) → IsRising (λ (e : Entry). e.key) (xs ++ ys) → IsRising (λ (e : Entry). e.key) ys
rising_rest [] ys rising = rising
rising_rest (x ∷ xs) ys rising = rising_rest xs ys rising.1

append_same : {T : Type 0} (xs ys zs : List T) → (xs ++ ys) ++ zs ≡ xs ++ (ys ++ zs)
append_same [] ys zs = refl
append_same (x ∷ xs) ys zs = ap (λ ws. x ∷ ws) (append_same xs ys zs)

taken_each : (ends : List (ℕ × InEnd)) (counts : List ℕ) → has_taken ends counts ≡ true → (x : ℕ × InEnd) → Among x ends → slice_index counts x.1.place ≤ x.1.taken
taken_each [] counts h x a = absurd a
taken_each (e ∷ es) counts h x (inl same) =
    let low = le_true (slice_index counts e.1.place) e.1.taken (both _ _ h).0 in
    subst (λ (y : ℕ × InEnd). slice_index counts y.1.place ≤ y.1.taken) (sym same) low
taken_each (e ∷ es) counts h x (inr a) = taken_each es counts (both _ _ h).1 x a

taken_all : (ends : List (ℕ × InEnd)) (counts : List ℕ) → ((x : ℕ × InEnd) → Among x ends → slice_index counts x.1.place ≤ x.1.taken) → has_taken ends counts ≡ true
taken_all [] counts all = refl
taken_all (e ∷ es) counts all =
    let first = le_test (slice_index counts e.1.place) e.1.taken (all e (inl refl)) in
    let rest = taken_all es counts (λ x a. all x (inr a)) in
    rw (first, rest) refl

-- ---- calls

module _ {B S P : Type 0} (plan : Plan B S P) (line : ℕ → ℕ) (s : Scene (States B S P) (Event P)) (keys : s.machine.key ≡ key_of) (sh : IsShared s) (i m : ℕ) (t : TimelineOf B S P)
    (sound : IsSoundTimeline plan line s i m t) where
  time_is : (e : Event P) → time_of s e ≡ e.key.time
  time_is e = ap (λ (key : Event P → Key). (key e).time) keys

  bound_same : bound_in t ≡ bound_of s.net i (line_of m t)
  bound_same = bound_is s.net sh.joining i t sound.order.in_ends sound.placed m

  low_same : low_in t ≡ low_of s i (line_of m t)
  low_same = low_is s keys i m t bound_same

  taken_at : (c : ℕ) (e : InEnd) → item_at c t.in_ends ≡ Some e → taken_of t.in_ends c ≡ e.taken
  taken_at c e at = ap (λ (o : Option InEnd). unwrap_or (option_map (λ (x : InEnd). x.taken) o) 0) at

  -- ---- take in

  module _ (c : ℕ) (parcel : Parcel P) (after : TimelineOf B S P) (known : Among c (numbers_of t.in_ends)) (is : IsTaken t c parcel after) (first : parcel.first ≡ taken_of t.in_ends c)
      (true_parcel : IsTrueParcel s c parcel.first parcel.events (parcel.first + length parcel.events) parcel.promise) where
    into : IsInto s.net i c
    into = sound.placed.into c known

    end_number : ℕ
    end_number = parcel.first + length parcel.events

    parcel_as : IsTrueParcel s c (taken_of t.in_ends c) parcel.events (parcel.first + length parcel.events) parcel.promise
    parcel_as = subst (λ k. IsTrueParcel s c k parcel.events (parcel.first + length parcel.events) parcel.promise) first true_parcel

    pub take_line : line_of m after ≡ taken_line s c (line_of m t) (mail_of parcel)
    take_line = taken_as s m t c parcel after keys known is

    pub take_late : (e : Event P) → Among e parcel.events → bound_in t ≤ e.key.time
    take_late e a = (let late = none_late s sh i (line_of m t) sound.sound c into (mail_of parcel) parcel_as e a in omega (arith, late, bound_same, time_is e))

    pub take_after : (j : ℕ) (d e : Event P) → j < m → event_at s j ≡ Some d → is_on_line s i d ≡ true → Among e parcel.events → IsBefore d.key e.key
    take_after j d e early at own a =
        subst (λ (key : Event P → Key). IsBefore (key d) (key e)) keys (comes_after s sh i (line_of m t) sound.sound c into (mail_of parcel) parcel_as j d e early at own a)

    abbrev change : InEnd → InEnd
    change = taken_end (parcel.first + length parcel.events) parcel.promise

    abbrev taken_made : TimelineOf B S P
    taken_made = record t { in_ends = changed c change t.in_ends; pending = put_all key_of parcel.events t.pending; spare = after.spare }

    made_line : line_of m taken_made ≡ taken_line s c (line_of m t) (mail_of parcel)
    made_line = ap (line_of m) (sym is.is) ∙ take_line

    made_order : AreNumbered (changed c change t.in_ends)
    made_order = subst AreRising (sym (numbers_changed c change t.in_ends)) sound.order.in_ends

    made_ins : (b : ℕ) (e : InEnd) → item_at b t.in_ends ≡ Some e → (d : InEnd) × (item_at b (changed c change t.in_ends) ≡ Some d) × (d.appointed ≡ e.appointed)
    made_ins b e at = elim (test_cases (nat_eq b c)) [
      | inl u ↦ (change e, item_changed b c change t.in_ends ∙ rw u (ap (option_map change) at), refl)
      | inr f ↦ (e, item_changed b c change t.in_ends ∙ rw f at, refl)
    ]

    made_placed : IsPlacedIn s.net i taken_made
    made_placed = record {
      into = λ b a. sound.placed.into b (subst (λ ns. Among b ns) (numbers_changed c change t.in_ends) a);
      ins = λ b to. (let found = sound.placed.ins b to in let now = made_ins b found.0 found.1 in (now.0, now.1, now.2 ∙ found.2));
      out = sound.placed.out;
      outs = sound.placed.outs;
    }

    made_bound : bound_in taken_made ≡ bound_of s.net i (line_of m taken_made)
    made_bound = bound_is s.net sh.joining i taken_made made_order made_placed m

    bound_up : bound_in t ≤ bound_in taken_made
    bound_up =
        let rise = taken_bound s sh i (line_of m t) sound.sound c into (mail_of parcel) parcel_as in
        let same : bound_of s.net i (line_of m taken_made) ≡ bound_of s.net i (taken_line s c (line_of m t) (mail_of parcel)) = ap (bound_of s.net i) made_line in
        omega (arith, rise, same, made_bound, bound_same)

    made_stopped : HasNext t → HasNext taken_made
    made_stopped h = record {
      event = h.event;
      rest = put_all key_of parcel.events h.rest;
      is = ap (put_all key_of parcel.events) h.is ∙ head_stays key_of parcel.events h.event h.rest (λ x a. omega (arith, take_late x a, h.below));
      in_time = h.in_time;
      below = omega (arith, h.below, bound_up);
    }

    made_sound : IsSoundTimeline plan line s i m taken_made
    made_sound = record {
      order = record { until = sound.order.until; budget = sound.order.budget; few = sound.order.few; entities = sound.order.entities; counts = sound.order.counts; in_ends = made_order; out_ends = sound.order.out_ends; filled = sound.order.filled };
      until = sound.until;
      sound = subst (λ l. IsSoundLine s i l) (sym made_line) (taken_is_sound s sh i (line_of m t) sound.sound c into (mail_of parcel) parcel_as);
      counted = record { executed = sound.counted.executed; few = sound.counted.few };
      placed = made_placed;
      mappings = record { inside = sound.mappings.inside; outs = sound.mappings.outs };
      entities = λ awake. record { each = (sound.entities awake).each; own = (sound.entities awake).own };
      counts = sound.counts;
      given_up = sound.given_up;
      history = sound.history;
      stopped = λ spent. made_stopped (sound.stopped spent);
    }

    pub take_sound : IsSoundTimeline plan line s i m after
    take_sound = subst (λ z. IsSoundTimeline plan line s i m z) (sym is.is) made_sound

    pub take_low_in : low_in t ≤ low_in after
    take_low_in =
        let rise = take_low s sh i (line_of m t) sound.sound c into (mail_of parcel) parcel_as in
        let then : low_in taken_made ≡ low_of s i (line_of m taken_made) = low_is s keys i m taken_made made_bound in
        let same : low_of s i (line_of m taken_made) ≡ low_of s i (taken_line s c (line_of m t) (mail_of parcel)) = ap (low_of s i) made_line in
        let now : low_in after ≡ low_in taken_made = ap low_in is.is in
        omega (arith, rise, then, same, now, low_same)

  -- ---- enter

  enough_taken : (counts : List ℕ) (count : ℕ → ℕ) → CountsAt t.in_ends counts count → has_taken t.in_ends counts ≡ true → (c : ℕ) → IsInto s.net i c → count c ≤ taken_of t.in_ends c
  enough_taken counts count at has c into =
      let found = sound.placed.ins c into in
      let low = taken_each t.in_ends counts has (c, found.0) (item_among c found.0 t.in_ends found.1) in
      omega (arith, low, at c found.0 found.1, taken_at c found.0 found.1)

  pub may_enter : (counts : List ℕ) (b : BarrierOf) → CountsAt t.in_ends counts b.counts → can_enter t b.window counts ≡ true → CanEnter s.net i (line_of m t) b
  may_enter counts b at can =
      let two = both _ _ can in
      record { later = less_of t.entered b.window two.0; taken = enough_taken counts b.counts at two.1 }

  -- it may enter where the rules let it
  pub enters_if_may : (counts : List ℕ) (b : BarrierOf) → CountsAt t.in_ends counts b.counts → CanEnter s.net i (line_of m t) b → can_enter t b.window counts ≡ true
  enters_if_may counts b at may =
      let all : has_taken t.in_ends counts ≡ true = taken_all t.in_ends counts (λ x a. (
      let here = among_item x t.in_ends sound.order.in_ends a in
      let enough : b.counts x.0 ≤ taken_of t.in_ends x.0 = may.taken x.0 (sound.placed.into x.0 (number_among x t.in_ends a)) in
      omega (arith, enough, at x.0 x.1 here, taken_at x.0 x.1 here))) in
      let later : nat_lt t.entered b.window ≡ true = lt_true t.entered b.window may.later in
      rw (later, all) refl

  pub enters_line : (window : ℕ) → line_of m (entered_at window t) ≡ entered_line s window (line_of m t)
  enters_line window = entered_as s m t window (sym sound.until)

  module _ (window : ℕ) (later : t.entered ≤ window) (line_sound : IsSoundLine s i (entered_line s window (line_of m t))) where
    entered_bound_up : bound_in t ≤ bound_in (entered_at window t)
    entered_bound_up =
        let made = entered_at window t in
        let rise = bound_rises s.net i (line_of m t) (line_of m made) later (λ c. omega arith) in
        let then : bound_in made ≡ bound_of s.net i (line_of m made) = bound_is s.net sh.joining i made sound.order.in_ends (record { into = sound.placed.into; ins = sound.placed.ins; out = sound.placed.out; outs = sound.placed.outs }) m in
        omega (arith, rise, then, bound_same)

    enter_sound : IsSoundTimeline plan line s i m (entered_at window t)
    enter_sound = record {
      order = record { until = sound.order.until; budget = sound.order.budget; few = sound.order.few; entities = sound.order.entities; counts = sound.order.counts; in_ends = sound.order.in_ends; out_ends = sound.order.out_ends; filled = sound.order.filled };
      until = sound.until;
      sound = subst (λ l. IsSoundLine s i l) (sym (enters_line window)) line_sound;
      counted = record { executed = sound.counted.executed; few = sound.counted.few };
      placed = record { into = sound.placed.into; ins = sound.placed.ins; out = sound.placed.out; outs = sound.placed.outs };
      mappings = record { inside = sound.mappings.inside; outs = sound.mappings.outs };
      entities = λ awake. record { each = (sound.entities awake).each; own = (sound.entities awake).own };
      counts = sound.counts;
      given_up = sound.given_up;
      history = sound.history;
      stopped = λ spent. (let h = sound.stopped spent in record { event = h.event; rest = h.rest; is = h.is; in_time = h.in_time; below = omega (arith, h.below, entered_bound_up) });
    }

  pub enters_by_barrier : (v : ℕ) (b : BarrierOf) (counts : List ℕ) → IsSoundBarrier s v b → CountsAt t.in_ends counts b.counts → can_enter t b.window counts ≡ true → HasDone s i v (line_of m t)
      → IsSoundTimeline plan line s i m (entered_at b.window t)
  enters_by_barrier v b counts barrier at can done =
      let may = may_enter counts b at can in
      let later = may.later in
      enter_sound b.window (omega (arith, later)) (enters_soundly s sh i (line_of m t) sound.sound v b barrier may done)

  pub enters_window : (k v x at : ℕ) (counts : List ℕ) → IsWindow s k v x → IsCut s v at → CountsAt t.in_ends counts (λ c. made s c at) → can_enter t x counts ≡ true → HasDone s i v (line_of m t)
      → IsSoundTimeline plan line s i m (entered_at x t)
  enters_window k v x at counts window cut stand can done =
      let two = both _ _ can in
      let later = less_of t.entered x two.0 in
      enter_sound x (omega (arith, later)) (entered_is_sound s sh i (line_of m t) sound.sound k v x at window cut later (enough_taken counts (λ c. made s c at) stand two.1) done)

  pub enters_low : (x : ℕ) → t.entered ≤ x → low_in t ≤ low_in (entered_at x t)
  enters_low x later =
      let made = entered_at x t in
      let rise = enter_low s sh i x (line_of m t) sound.sound later in
      let bound : bound_in made ≡ bound_of s.net i (line_of m made) = bound_is s.net sh.joining i made sound.order.in_ends (record { into = sound.placed.into; ins = sound.placed.ins; out = sound.placed.out; outs = sound.placed.outs }) m in
      let then : low_in made ≡ low_of s i (line_of m made) = low_is s keys i m made bound in
      let same : low_of s i (line_of m made) ≡ low_of s i (entered_line s x (line_of m t)) = ap (low_of s i) (enters_line x) in
      omega (arith, rise, then, same, low_same)

  -- ---- outbox

  module _ (c : ℕ) (parcel : Parcel P) (after : TimelineOf B S P) (known : Among c (numbers_of t.out_ends)) (is : IsHandedOut t c parcel after) where
    out : IsOutOf s.net i c
    out = sound.placed.out c known

    abbrev end : OutEnd P
    end = is.posted.end

    end_is : (part : OutEnd P → ℕ) → unwrap_or (option_map part (item_at c t.out_ends)) 0 ≡ part end
    end_is part = ap (λ (o : Option (OutEnd P)). unwrap_or (option_map part o) 0) is.posted.at

    pub post_first : parcel.first ≡ posted_of t.out_ends c
    post_first = ap (λ (q : Parcel P). q.first) is.posted.handed ∙ sym (end_is (λ o. o.posted))

    pub post_events : parcel.events ≡ outbox_of t.out_ends c
    post_events = ap (λ (q : Parcel P). q.events) is.posted.handed ∙ sym (ap (λ (o : Option (OutEnd P)). unwrap_or (option_map (λ (b : OutEnd P). b.outbox) o) []) is.posted.at)

    pub post_promise : parcel.promise ≡ promise_of s i c (line_of m t)
    post_promise =
        let found = sound.placed.outs c out in
        let same : found.0 ≡ end = (let two : Some found.0 ≡ Some end = sym found.1 ∙ is.posted.at in cc) in
        let appointed : end.appointed ≡ s.net.appointed c = ap (λ (o : OutEnd P). o.appointed) (sym same) ∙ found.2 in
        let delay : end.delay ≡ s.net.delay c = ap (λ (o : OutEnd P). o.delay) (sym same) ∙ found.3 in
        ap (λ (q : Parcel P). q.promise) is.posted.handed
        ∙ (ap (λ b. cond b (min (low_in t + end.delay) (t.until + 1)) 0) appointed
        ∙ (ap (λ d. cond (s.net.appointed c) (min (low_in t + d) (t.until + 1)) 0) delay
        ∙ (ap (λ u. cond (s.net.appointed c) (min (low_in t + s.net.delay c) (u + 1)) 0) sound.until
        ∙ ap (λ l. cond (s.net.appointed c) (min (l + s.net.delay c) (s.until + 1)) 0) low_same)))

    outbox_true : IsTrueParcel s c (posted_of t.out_ends c) (outbox_of t.out_ends c) (written_of t.out_ends c) (promise_of s i c (line_of m t))
    outbox_true = outbox_is_true s sh i (line_of m t) sound.sound c out

    -- it ends with all that was written
    pub post_end : parcel.first + length parcel.events ≡ written_of t.out_ends c
    post_end =
        let long = stretch_length s c (posted_of t.out_ends c) (written_of t.out_ends c) (outbox_of t.out_ends c) outbox_true.events in
        omega (arith, long, post_first, ap length post_events)

    pub post_true : IsTrueParcel s c parcel.first parcel.events (parcel.first + length parcel.events) parcel.promise
    post_true =
        subst (λ k. IsTrueParcel s c k parcel.events (parcel.first + length parcel.events) parcel.promise) (sym post_first)
        (subst (λ es. IsTrueParcel s c (posted_of t.out_ends c) es (parcel.first + length parcel.events) parcel.promise) (sym post_events)
        (subst (λ k. IsTrueParcel s c (posted_of t.out_ends c) (outbox_of t.out_ends c) k parcel.promise) (sym post_end)
        (subst (λ p. IsTrueParcel s c (posted_of t.out_ends c) (outbox_of t.out_ends c) (written_of t.out_ends c) p) (sym post_promise) outbox_true)))

    pub post_line : line_of m after ≡ posted_line c (line_of m t)
    post_line = posted_as s m t c parcel after is

    abbrev posted_made : TimelineOf B S P
    posted_made = record t { out_ends = changed c posted_end t.out_ends }

    after_is : after ≡ posted_made
    after_is = is.same ∙ ap (λ (ends : List (ℕ × OutEnd P)). record t { out_ends = ends }) is.posted.left

    posted_outs : (b : ℕ) (o : OutEnd P) → item_at b t.out_ends ≡ Some o → (d : OutEnd P) × (item_at b (changed c posted_end t.out_ends) ≡ Some d) × (d.appointed ≡ o.appointed) × (d.delay ≡ o.delay)
    posted_outs b o at = elim (test_cases (nat_eq b c)) [
      | inl u ↦ (posted_end o, item_changed b c posted_end t.out_ends ∙ rw u (ap (option_map posted_end) at), refl, refl)
      | inr f ↦ (o, item_changed b c posted_end t.out_ends ∙ rw f at, refl, refl)
    ]

    posted_sound : IsSoundTimeline plan line s i m posted_made
    posted_sound = record {
      order = record {
        until = sound.order.until;
        budget = sound.order.budget;
        few = sound.order.few;
        entities = sound.order.entities;
        counts = sound.order.counts;
        in_ends = sound.order.in_ends;
        out_ends = subst AreRising (sym (numbers_changed c posted_end t.out_ends)) sound.order.out_ends;
        filled = filled_posted c t.out_ends sound.order.filled;
      };
      until = sound.until;
      sound = subst (λ l. IsSoundLine s i l) (sym (ap (line_of m) (sym after_is) ∙ post_line)) (posted_is_sound s sh i (line_of m t) sound.sound c);
      counted = record { executed = sound.counted.executed; few = sound.counted.few };
      placed = record {
        into = sound.placed.into;
        ins = sound.placed.ins;
        out = λ b a. sound.placed.out b (subst (λ ns. Among b ns) (numbers_changed c posted_end t.out_ends) a);
        outs = λ b to. (let found = sound.placed.outs b to in let now = posted_outs b found.0 found.1 in (now.0, now.1, now.2 ∙ found.2, now.3 ∙ found.3));
      };
      mappings = record { inside = sound.mappings.inside; outs = sound.mappings.outs };
      entities = λ awake. record { each = (sound.entities awake).each; own = (sound.entities awake).own };
      counts = sound.counts;
      given_up = sound.given_up;
      history = sound.history;
      stopped = λ spent. (let h = sound.stopped spent in record { event = h.event; rest = h.rest; is = h.is; in_time = h.in_time; below = h.below });
    }

    pub post_sound : IsSoundTimeline plan line s i m after
    post_sound = subst (λ z. IsSoundTimeline plan line s i m z) (sym after_is) posted_sound

    pub post_low : low_in after ≡ low_in t
    post_low = ap low_in after_is

  -- ---- room, and entries that are given up

  pub roomy : (n : ℕ) → IsSoundTimeline plan line s i m (record t { spare = n })
  roomy n = record {
    order = record { until = sound.order.until; budget = sound.order.budget; few = sound.order.few; entities = sound.order.entities; counts = sound.order.counts; in_ends = sound.order.in_ends; out_ends = sound.order.out_ends; filled = sound.order.filled };
    until = sound.until;
    sound = sound.sound;
    counted = record { executed = sound.counted.executed; few = sound.counted.few };
    placed = record { into = sound.placed.into; ins = sound.placed.ins; out = sound.placed.out; outs = sound.placed.outs };
    mappings = record { inside = sound.mappings.inside; outs = sound.mappings.outs };
    entities = λ awake. record { each = (sound.entities awake).each; own = (sound.entities awake).own };
    counts = sound.counts;
    given_up = sound.given_up;
    history = sound.history;
    stopped = λ spent. (let h = sound.stopped spent in record { event = h.event; rest = h.rest; is = h.is; in_time = h.in_time; below = h.below });
  }

  pub given_up_sound : (below : ℕ) → IsRising (λ (e : Entry). e.key) t.history → IsSoundTimeline plan line s i m (without below t)
  given_up_sound below rising = (let last = last_ones below t.history rising in record {
    order = record { until = sound.order.until; budget = sound.order.budget; few = sound.order.few; entities = sound.order.entities; counts = sound.order.counts; in_ends = sound.order.in_ends; out_ends = sound.order.out_ends; filled = sound.order.filled };
    until = sound.until;
    sound = sound.sound;
    counted = record { executed = sound.counted.executed; few = sound.counted.few };
    placed = record { into = sound.placed.into; ins = sound.placed.ins; out = sound.placed.out; outs = sound.placed.outs };
    mappings = record { inside = sound.mappings.inside; outs = sound.mappings.outs };
    entities = λ awake. record { each = (sound.entities awake).each; own = (sound.entities awake).own };
    counts = sound.counts;
    given_up = sound.given_up ++ last.0;
    history = append_same sound.given_up last.0 (filter (λ (e : Entry). nat_le below e.key.time) t.history) ∙ (ap (λ es. sound.given_up ++ es) last.1 ∙ sound.history);
    stopped = λ spent. (let h = sound.stopped spent in record { event = h.event; rest = h.rest; is = h.is; in_time = h.in_time; below = h.below });
  })

  pub history_rises : IsRising (λ (e : Entry). e.key) (line_entries s i m) → IsRising (λ (e : Entry). e.key) t.history
  history_rises rising = rising_rest sound.given_up t.history (subst (λ es. IsRising (λ (e : Entry). e.key) es) (sym sound.history) rising)

  pub spent_sound : (after : TimelineOf B S P) → refusal t ≡ None → after ≡ spent_of t after → IsInOrder after → IsSoundTimeline plan line s i m after
  spent_sound after none is order = (let h = next_of t none in subst (λ z. IsSoundTimeline plan line s i m z) (sym is) (record {
    order = subst (λ z. IsInOrder z) is order;
    until = sound.until;
    sound = sound.sound;
    counted = record { executed = sound.counted.executed; few = sound.counted.few };
    placed = record { into = sound.placed.into; ins = sound.placed.ins; out = sound.placed.out; outs = sound.placed.outs };
    mappings = record { inside = sound.mappings.inside; outs = sound.mappings.outs };
    entities = λ awake. absurd (let wrong : true ≡ false = awake in cc);
    counts = sound.counts;
    given_up = sound.given_up;
    history = sound.history;
    stopped = λ spent. record { event = h.event; rest = h.rest; is = h.is; in_time = h.in_time; below = h.below };
  }))
