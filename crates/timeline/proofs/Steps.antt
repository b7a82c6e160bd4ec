-- What the execution of an event makes of a timeline is what the step makes of its view.
use Rattle.std.proofs.Common.{◌≡◌, ℕ, suc, ◌+◌, ◌≤◌, ◌⊎◌, Bool, true, false, cond, nat_eq, nat_le, ◌&&◌, min, not, List, [], ◌∷◌, ◌++◌, length, refl, sym, ap, ◌∙◌, subst, inl, inr, arith, append-nil, Option, Some, None, is_some, option_map, unwrap_or}
use mathlib.Core.Path.{fun_ext}
use Rattle.std.specs.List.{filter}
use Rattle.event_order.specs.declared.key.Key.{Key}
use Rattle.event_order.specs.Pending.{Among, IsApart, IsRising, put_all}
use Rattle.event_order.proofs.Pending.{test_cases, among_filter, filter_among, filter_apart}
use Rattle.ssf_model.specs.declared.event.Event.{Event}
use Rattle.ssf_model.specs.declared.event.Entry.{Entry}
use Rattle.ssf_model.specs.declared.entity.Entity.{Entity}
use Rattle.ssf_model.specs.Scene.{Scene, world_at, event_at, time_of, channel_of}
use Rattle.ssf_model.specs.Truth.{is_on_line, has_channel, IsKeptWrite, IsStanding}
use Rattle.sync_rules.specs.Bounds.{IsOutOf, goes_out}
use Rattle.sync_rules.specs.Shared.{IsShared, IsRouted}
use Rattle.sync_rules.specs.Sound.{HasCome, IsSoundLine}
use Rattle.sync_rules.specs.Steps.{stays, leaves, least_arrival, executed_line}
use Rattle.sync_rules.proofs.Runs.{one_key}
use Rattle.sync_rules.proofs.Bounds.{true_or_not, out_of, goes as goes_test, line_is, is_line}
use Rattle.timeline_parts.specs.declared.ends.OutEnd.{OutEnd}
use Rattle.timeline_parts.specs.Tables.{numbers_of, item_at}
use Rattle.timeline_parts.specs.Sending.{written_of, all_put}
use Rattle.timeline_parts.specs.Settling.{goes, staying, least_arriving, AreNew}
use Rattle.timeline_parts.proofs.Tables.{item_none}
use Rattle.timeline.specs.View.{TimelineOf, key_of, time_in}
use Rattle.timeline.specs.Holding.{taken_of}
use Rattle.timeline.specs.Lines.{line_of, posted_of, outbox_of, IsPlacedIn}
use Rattle.timeline.proofs.Channels.{on, AreSameOn, same_among, same_back, same_on, with_all, end_after, least_where, least_same, put_same}
use Rattle.timeline.proofs.TellsBounds.{number_among, item_among}

none_or_some : {T : Type 0} (o : Option T) → ((x : T) × (o ≡ Some x)) ⊎ (o ≡ None)
none_or_some None = inr refl
none_or_some (Some x) = inl (x, refl)

some_known : {T : Type 0} (n : ℕ) (xs : List (ℕ × T)) → is_some (item_at n xs) ≡ true → Among n (numbers_of xs)
some_known {T} n xs h = elim (none_or_some (item_at n xs)) [
  | inl found ↦ number_among (n, found.0) xs (item_among n found.0 xs found.1)
  | inr none ↦ absurd (let wrong : true ≡ false = sym h ∙ ap is_some none in cc)
]

-- ---- arrivals

module _ {P X : Type 0} (s : Scene X (Event P)) (from : ℕ) where
  arriving_is : (ends : List (ℕ × OutEnd P)) (es : List (Event P)) (found : ℕ) → least_arriving ends from es found ≡ least_where time_in (λ e. goes ends e && nat_le from e.key.time) es found
  arriving_is ends [] found = refl
  arriving_is ends (e ∷ es) found = arriving_is ends es (cond (goes ends e && nat_le from e.key.time) (min e.key.time found) found)

  abbrev arrival_by : (Event P → Key) → List (Event P) → ℕ → ℕ
  arrival_by key ds found = least_where (λ d. (key d).time) (λ d. s.net.cross (key d).channel && nat_le from (key d).time) ds found

  arrival_is : (ds : List (Event P)) (found : ℕ) → least_arrival s from ds found ≡ arrival_by s.machine.key ds found
  arrival_is [] found = refl
  arrival_is (d ∷ ds) found = arrival_is ds (cond (s.net.cross (channel_of s d) && nat_le from (time_of s d)) (min (time_of s d) found) found)

-- ---- the step

module _ {B S P X : Type 0} (s : Scene X (Event P)) (keys : s.machine.key ≡ key_of) (sh : IsShared s) (i m : ℕ) (t : TimelineOf B S P) (placed : IsPlacedIn s.net i t)
    (sound : IsSoundLine s i (line_of m t)) (e : Event P) (rest : List (Event P)) (first : t.pending ≡ e ∷ rest) (n : ℕ) (from : m ≤ n) (is : event_at s n ≡ Some e) where
  abbrev its : List (Event P)
  its = s.machine.writes (world_at s n).state e

  key_is : (d : Event P) → s.machine.key d ≡ d.key
  key_is d = ap (λ (key : Event P → Key). key d) keys

  channel_is : (d : Event P) → channel_of s d ≡ d.key.channel
  channel_is d = ap (λ (k : Key). k.channel) (key_is d)

  standing : IsStanding s i m (HasCome s (taken_of t.in_ends)) (e ∷ rest)
  standing = subst (λ ps. IsStanding s i m (HasCome s (taken_of t.in_ends)) ps) first sound.standing

  own : is_on_line s i e ≡ true
  own = standing.own e (inl refl)

  line_own : s.line e ≡ i
  line_own = line_is s sh i e own

  routed : (d : Event P) → Among d its → IsRouted s e d
  routed d a = sh.routed n e d (record { is = is; among = a })

  goes_cross : (d : Event P) → Among d its → s.net.cross (channel_of s d) ≡ true → goes t.out_ends d ≡ true
  goes_cross d a t1 =
      let out : IsOutOf s.net i (channel_of s d) = record { cross = t1; sender = sym ((routed d a).sent t1) ∙ line_own } in
      let found = placed.outs (channel_of s d) out in
      ap is_some (ap (λ k. item_at k t.out_ends) (sym (channel_is d)) ∙ found.1)

  goes_inside : (d : Event P) → s.net.cross (channel_of s d) ≡ false → goes t.out_ends d ≡ false
  goes_inside d f = true_or_not (goes t.out_ends d) (λ g.
      let out = placed.out d.key.channel (some_known d.key.channel t.out_ends g) in
      let wrong : true ≡ false = sym out.cross ∙ ap s.net.cross (sym (channel_is d)) ∙ f in cc)

  goes_is : (d : Event P) → Among d its → goes t.out_ends d ≡ s.net.cross (channel_of s d)
  goes_is d a = elim (test_cases (s.net.cross (channel_of s d))) [
    | inl c ↦ goes_cross d a c ∙ sym c
    | inr f ↦ goes_inside d f ∙ sym f
  ]

  stays_own : (d : Event P) → Among d its → s.net.cross (channel_of s d) ≡ false → is_on_line s i d ≡ true
  stays_own d a f = is_line s sh i d (sym ((routed d a).inside f) ∙ line_own)

  crosses_not : (d : Event P) → Among d its → is_on_line s i d ≡ true → s.net.cross (channel_of s d) ≡ false
  crosses_not d a on_own = true_or_not (s.net.cross (channel_of s d)) (λ c.
      let r = routed d a in
      sh.joining.apart (channel_of s d) c (sym (r.sent c) ∙ line_own ∙ sym (line_is s sh i d on_own) ∙ r.reached c))

  module _ (ws : List (Event P)) (same : AreSameOn ws its) (apart : IsApart key_of ws) (kept : (d : Event P) → Among d its → s.net.cross (channel_of s d) ≡ false → s.kept (s.machine.key d) ≡ true) where
    record IsStaying (d : Event P) : Type 0 where
      among : Among d its
      inside : s.net.cross (channel_of s d) ≡ false
      own_line : is_on_line s i d ≡ true
      passes : s.kept (s.machine.key d) ≡ true

    to_its : (d : Event P) → Among d ws → Among d its
    to_its = same_among ws its same

    to_ws : (d : Event P) → Among d its → Among d ws
    to_ws = same_among its ws (same_back ws its same)

    not_true : (b : Bool) → not b ≡ true → b ≡ false
    not_true true h = absurd (cc)
    not_true false h = refl

    staying_is : (d : Event P) → Among d (staying t.out_ends ws) → IsStaying d
    staying_is d a =
        let q = filter_among (λ x. not (goes t.out_ends x)) d ws a in
        let among = to_its d q.among in
        let inside : s.net.cross (channel_of s d) ≡ false = sym (goes_is d among) ∙ not_true (goes t.out_ends d) q.passes in
        record { among = among; inside = inside; own_line = stays_own d among inside; passes = kept d among inside }

    to_run : (d : Event P) → Among d (staying t.out_ends ws) → Among d (stays s i its)
    to_run d a =
        let q = staying_is d a in
        among_filter (is_on_line s i) d (filter (λ x. s.kept (s.machine.key x)) its) (among_filter (λ x. s.kept (s.machine.key x)) d its q.among q.passes) q.own_line

    from_run : (d : Event P) → Among d (stays s i its) → Among d (staying t.out_ends ws)
    from_run d a =
        let one = filter_among (is_on_line s i) d (filter (λ x. s.kept (s.machine.key x)) its) a in
        let among = (filter_among (λ x. s.kept (s.machine.key x)) d its one.among).among in
        let stays_here : goes t.out_ends d ≡ false = goes_is d among ∙ crosses_not d among one.passes in
        among_filter (λ x. not (goes t.out_ends x)) d ws (to_ws d among) (rw stays_here refl)

    -- what stays is new: it is none of the pending events
    new_keys : (x z : Event P) → Among x (staying t.out_ends ws) → Among z rest → key_of x ≡ key_of z → ⊥
    new_keys x z a b equal =
        let q = staying_is x a in
        let w : IsKeptWrite s n x = record { by = e; is = is; among = q.among; passes = q.passes } in
        let one : x ≡ z = one_key s sh x z (inr (n, w)) (standing.arises z (inr b)) (key_is x ∙ equal ∙ sym (key_is z)) in
        let early = standing.before x n (inr (subst (λ y. Among y rest) (sym one) b)) w own in
        omega (arith, early, from)

    pub new_writes : AreNew (staying t.out_ends ws) rest
    new_writes = record { apart = filter_apart key_of (λ x. not (goes t.out_ends x)) ws apart; others = new_keys }

    its_apart : IsApart key_of its
    its_apart = subst (λ (key : Event P → Key). IsApart key its) keys (sh.lawful.apart (world_at s n).state e)

    pending_as : put_all key_of (staying t.out_ends ws) rest ≡ put_all s.machine.key (stays s i its) rest
    pending_as =
        put_same key_of (staying t.out_ends ws) (stays s i its) rest (subst (λ (key : Event P → Key). IsRising key rest) keys standing.rising.1)
        new_writes.apart (filter_apart key_of (is_on_line s i) (filter (λ x. s.kept (s.machine.key x)) its) (filter_apart key_of (λ x. s.kept (s.machine.key x)) its its_apart))
        new_keys to_run from_run
        ∙ ap (λ (key : Event P → Key). put_all key (stays s i its) rest) (sym keys)

    arrival_as : least_arriving t.out_ends t.entered ws t.arrival ≡ least_arrival s t.entered its t.arrival
    arrival_as =
        arriving_is s t.entered t.out_ends ws t.arrival
        ∙ (least_same time_in (λ d. goes t.out_ends d && nat_le t.entered d.key.time) (λ d. s.net.cross d.key.channel && nat_le t.entered d.key.time) ws its t.arrival to_ws to_its
        (λ d a. ap (λ b. b && nat_le t.entered d.key.time) (goes_is d (to_its d a) ∙ ap s.net.cross (channel_is d)))
        ∙ (ap (λ (key : Event P → Key). arrival_by s t.entered key its t.arrival) (sym keys) ∙ sym (arrival_is s t.entered its t.arrival)))

    -- ---- outboxes

    on_channel : (c : ℕ) → filter (on c) ws ≡ filter (has_channel s c) its
    on_channel c = same_on ws its same c ∙ ap (λ (key : Event P → Key). filter (λ d. nat_eq (key d).channel c) its) (sym keys)

    no_end : (c : ℕ) → goes_out s.net i c ≡ false → item_at c t.out_ends ≡ None
    no_end c f = item_none c t.out_ends (λ a. let wrong : true ≡ false = sym (goes_test s.net i c (placed.out c a)) ∙ f in cc)

    left : (c : ℕ) → goes_out s.net i c ≡ true → leaves s i c its ≡ filter (has_channel s c) its
    left c g = rw g refl

    none_left : (c : ℕ) → goes_out s.net i c ≡ false → leaves s i c its ≡ []
    none_left c f = rw f refl

    abbrev written_in_end : Option (OutEnd P) → ℕ
    written_in_end o = unwrap_or (option_map (λ (x : OutEnd P). x.written) o) 0

    abbrev outbox_in_end : Option (OutEnd P) → List (Event P)
    outbox_in_end o = unwrap_or (option_map (λ (x : OutEnd P). x.outbox) o) []

    abbrev posted_in_end : Option (OutEnd P) → ℕ
    posted_in_end o = unwrap_or (option_map (λ (x : OutEnd P). x.posted) o) 0

    written_as : (c : ℕ) → written_of (all_put ws t.out_ends) c ≡ written_of t.out_ends c + length (leaves s i c its)
    written_as c =
        let after = end_after ws t.out_ends c in
        elim (test_cases (goes_out s.net i c)) [
          | inl g ↦
              let found = placed.outs c (out_of s.net i c g) in
              let now : written_of (all_put ws t.out_ends) c ≡ found.0.written + length (filter (on c) ws) = ap written_in_end (after ∙ ap (option_map (with_all (filter (on c) ws))) found.1) in
              let here : written_of t.out_ends c ≡ found.0.written = ap written_in_end found.1 in
              omega (arith, now, here, ap length (on_channel c ∙ sym (left c g)))
          | inr f ↦
              let now : written_of (all_put ws t.out_ends) c ≡ 0 = ap written_in_end (after ∙ ap (option_map (with_all (filter (on c) ws))) (no_end c f)) in
              let here : written_of t.out_ends c ≡ 0 = ap written_in_end (no_end c f) in
              omega (arith, now, here, ap length (none_left c f))
        ]

    outbox_as : (c : ℕ) → outbox_of (all_put ws t.out_ends) c ≡ outbox_of t.out_ends c ++ leaves s i c its
    outbox_as c =
        let after = end_after ws t.out_ends c in
        elim (test_cases (goes_out s.net i c)) [
          | inl g ↦
              let found = placed.outs c (out_of s.net i c g) in
              let now : outbox_of (all_put ws t.out_ends) c ≡ found.0.outbox ++ filter (on c) ws = ap outbox_in_end (after ∙ ap (option_map (with_all (filter (on c) ws))) found.1) in
              let here : outbox_of t.out_ends c ≡ found.0.outbox = ap outbox_in_end found.1 in
              now ∙ (ap (λ ds. ds ++ filter (on c) ws) (sym here) ∙ ap (λ ds. outbox_of t.out_ends c ++ ds) (on_channel c ∙ sym (left c g)))
          | inr f ↦
              let now : outbox_of (all_put ws t.out_ends) c ≡ [] = ap outbox_in_end (after ∙ ap (option_map (with_all (filter (on c) ws))) (no_end c f)) in
              let here : outbox_of t.out_ends c ≡ [] = ap outbox_in_end (no_end c f) in
              now ∙ (sym here ∙ (sym (append-nil (outbox_of t.out_ends c)) ∙ ap (λ ds. outbox_of t.out_ends c ++ ds) (sym (none_left c f))))
        ]

    posted_kept : (es : List (Event P)) (o : Option (OutEnd P)) → posted_in_end (option_map (with_all es) o) ≡ posted_in_end o
    posted_kept es None = refl
    posted_kept es (Some o) = refl

    posted_as : (c : ℕ) → posted_of (all_put ws t.out_ends) c ≡ posted_of t.out_ends c
    posted_as c = ap posted_in_end (end_after ws t.out_ends c) ∙ posted_kept (filter (on c) ws) (item_at c t.out_ends)

    -- the view after the event
    pub executed_as : (after : TimelineOf B S P) (es : List (ℕ × Entity B S P)) (cs : List (ℕ × ℕ)) (sp : ℕ) (hs : List Entry) → after ≡ record t {
      entities = es;
      counts = cs;
      out_ends = all_put ws t.out_ends;
      pending = put_all key_of (staying t.out_ends ws) rest;
      spare = sp;
      arrival = least_arriving t.out_ends t.entered ws t.arrival;
      executed = t.executed + 1;
      history = hs;
    } → line_of (suc n) after ≡ executed_line s i n its rest (line_of m t)
    executed_as after es cs sp hs q =
        let written : written_of (all_put ws t.out_ends) ≡ (λ c. written_of t.out_ends c + length (leaves s i c its)) = fun_ext written_as in
        let outbox : outbox_of (all_put ws t.out_ends) ≡ (λ c. outbox_of t.out_ends c ++ leaves s i c its) = fun_ext outbox_as in
        let posted : posted_of (all_put ws t.out_ends) ≡ posted_of t.out_ends = fun_ext posted_as in
        ap (line_of (suc n)) q ∙ rw (posted, written, outbox, pending_as, arrival_as) refl
