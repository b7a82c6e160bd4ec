-- The execution of the next event of a sound timeline of the run of a plan that fits.
use Rattle.std.proofs.Common.{◌≡◌, ℕ, suc, ◌+◌, ◌-◌, ◌*◌, ◌^◌, ◌<◌, ◌≤◌, ◌⊎◌, Bool, true, false, nat_eq, List, [], ◌∷◌, ◌++◌, length, count_by, refl, sym, ap, ◌∙◌, subst, inl, inr, arith, eq-eqb, eqb-true, Option, Some, None, option_map, unwrap_or, slice_get, slice_set}
use Rattle.std.specs.List.{filter, All}
use Rattle.event_order.specs.declared.key.Key.{Key}
use Rattle.event_order.specs.Order.{IsBefore}
use Rattle.event_order.specs.Pending.{Among, put_all}
use Rattle.event_order.specs.Run.{share, acted}
use Rattle.event_order.proofs.Pending.{among_append_right, test_cases, among_filter, filter_among}
use Rattle.event_order.proofs.Local.{share_same}
use Rattle.ssf_model.specs.declared.out.Written.TheVariants.{Channel}
use Rattle.ssf_model.specs.declared.event.Event.{Event}
use Rattle.ssf_model.specs.declared.event.Entry.{Entry}
use Rattle.ssf_model.specs.declared.process.Process.{Process}
use Rattle.ssf_model.specs.declared.entity.Entity.{Entity}
use Rattle.ssf_model.specs.declared.plan.Plan.{Plan}
use Rattle.ssf_model.specs.Reaction.{Reaction, Validity, KeepsValid, LatestTime, LongestDelay}
use Rattle.ssf_model.specs.Deliver.{IsModest, IsTimely}
use Rattle.ssf_model.specs.Channels.{Sent, delivered_to, entity_after, sent_by, counted, numbered, is_on}
use Rattle.ssf_model.specs.Run.{States, acts_at, writes_at, machine_of, opening, entry_by, timers_of, Fits}
use Rattle.ssf_model.specs.Scene.{Net, Scene, scene_of, world_at, event_at, time_of, channel_of}
use Rattle.ssf_model.specs.Truth.{is_on_line, line_events, line_entries, IsNext}
use Rattle.ssf_model.proofs.Lists.{different, each_all, each_of, get_set_own, get_set_other, within_of, count_yes, count_no}
use Rattle.ssf_model.proofs.Histories.{among_told}
use Rattle.ssf_model.proofs.Owning.{each_from_among}
use Rattle.ssf_model.proofs.Counts.{counted_is, writes_rounded}
use Rattle.run_laws.proofs.ByPlace.{count_after as channel_count}
use Rattle.run_health.specs.Groups.{IsWriterOn, IsSameGroup}
use Rattle.run_health.specs.Healthy.{MostEvents, spent_by}
use Rattle.run_health.proofs.Sends.{one_channel_each}
use Rattle.run_health.proofs.Delivers.{given_timely}
use Rattle.run_health.proofs.Healths.{leads_from, given}
use Rattle.run_health.proofs.Along.{IsPlaced, placed, sends_fine, tickets_fit, round_fits, counts_fit}
use Rattle.run_health.proofs.OfFitting.{own_rounds}
use Rattle.run_health.proofs.Grouped.{group_is_own}
use Rattle.sync_rules.specs.Bounds.{bound_of, low_of}
use Rattle.sync_rules.specs.Sound.{IsSoundLine, IsCounted}
use Rattle.sync_rules.specs.Steps.{CanExecute, IsOver, executed_line}
use Rattle.sync_rules.proofs.Runs.{rises, next_state}
use Rattle.sync_rules.proofs.Writes.{made_up}
use Rattle.sync_rules.proofs.Bounds.{head_next, line_is}
use Rattle.sync_rules.proofs.Executes.{executed_is_sound, executed_is_counted}
use Rattle.sync_rules.proofs.Wholes.{execute_low}
use Rattle.sync_rules.proofs.States.{entries_next}
use Rattle.timeline_parts.specs.declared.ends.OutEnd.{OutEnd}
use Rattle.timeline_parts.specs.Tables.{numbers_of, AreRising, item_at, changed}
use Rattle.timeline_parts.specs.Sending.{count_of, written_of, all_counted, all_put, IsSendable, MaySend}
use Rattle.timeline_parts.specs.Settling.{staying, least_arriving}
use Rattle.timeline_parts.proofs.Tables.{item_changed, numbers_changed}
use Rattle.timeline_parts.proofs.Sending.{numbers_all_counted, numbers_all_put}
use Rattle.timeline.specs.View.{TimelineOf, key_of, routes_by}
use Rattle.timeline.specs.Holding.{bound_in, is_over, low_in, IsInOrder}
use Rattle.timeline.specs.Executing.{refusal, sent_in, written_in, MayRun}
use Rattle.timeline.specs.Lines.{line_of, IsPlacedIn}
use Rattle.timeline.specs.Sound.{HasNext, IsSoundTimeline, IsRunOnLines}
use Rattle.timeline.proofs.Kept.{filled_put}
use Rattle.timeline.proofs.TellsBounds.{bound_is, low_is, number_among, item_among}
use Rattle.timeline.proofs.Free.{IsFree, free_of, next_of, free_again, over_is, over_again}
use Rattle.timeline.proofs.Channels.{on, AreSameOn, numbered_same, numbered_apart, numbered_count, count_after, end_after, with_all, same_back}
use Rattle.timeline.proofs.Sends.{routes_same, sends_same}
use Rattle.timeline.proofs.Steps.{new_writes, executed_as}

none_or_some : {T : Type 0} (o : Option T) → ((x : T) × (o ≡ Some x)) ⊎ (o ≡ None)
none_or_some None = inr refl
none_or_some (Some x) = inl (x, refl)

filter_length : {T : Type 0} (p : T → Bool) (xs : List T) → length (filter p xs) ≤ length xs
filter_length p [] = omega arith
filter_length p (x ∷ xs) = elim (test_cases (p x)) [
  | inl h ↦ rw h (let rest = filter_length p xs in omega arith)
  | inr f ↦ rw f (let rest = filter_length p xs in omega arith)
]

filter_counts : {T : Type 0} (p : T → Bool) (xs : List T) → length (filter p xs) ≡ count_by p xs
filter_counts p [] = refl
filter_counts p (x ∷ xs) = elim (test_cases (p x)) [
  | inl h ↦ (let here : length (filter p (x ∷ xs)) ≡ suc (length (filter p xs)) = rw h refl in omega (arith, here, filter_counts p xs, count_yes p x xs h))
  | inr f ↦ (let here : length (filter p (x ∷ xs)) ≡ length (filter p xs) = rw f refl in omega (arith, here, filter_counts p xs, count_no p x xs f))
]

append_same : {T : Type 0} (xs ys zs : List T) → (xs ++ ys) ++ zs ≡ xs ++ (ys ++ zs)
append_same [] ys zs = refl
append_same (x ∷ xs) ys zs = ap (λ ws. x ∷ ws) (append_same xs ys zs)

-- what the call makes of a timeline, at this entity
abbrev pub run_made : {B S P : Type 0} → Reaction S P → TimelineOf B S P → Event P → List (Event P) → Entity B S P → ℕ → TimelineOf B S P
run_made {B} {S} {P} r t e rest k sp = record t {
  entities = changed e.entity (λ (j : Entity B S P). entity_after (delivered_to r e k) k) t.entities;
  counts = all_counted (written_in r t e k) t.counts;
  out_ends = all_put (written_in r t e k) t.out_ends;
  pending = put_all key_of (staying t.out_ends (written_in r t e k)) rest;
  spare = sp;
  arrival = least_arriving t.out_ends t.entered (written_in r t e k) t.arrival;
  executed = t.executed + 1;
  history = t.history ++ entry_by r e (Some k) ∷ [];
}

-- ---- the run of a plan

module _ {B S P : Type 0} (r : Reaction S P) (valid : Validity S) (carried : P → Type 0) (law : KeepsValid valid carried r) (modest : IsModest valid carried r)
    (plan : Plan B S P) (until : ℕ) (in_time : until ≤ LatestTime) (fits : Fits valid carried plan) (kept : Key → Bool) (line : ℕ → ℕ) (net : Net) where
  abbrev pub s : Scene (States B S P) (Event P)
  s = scene_of r plan until kept line net

  pub keys : s.machine.key ≡ key_of
  unfolding machine_of
  keys = refl

  -- where no event of timeline i comes between, its part of the state stays
  unmoved : (i m : ℕ) (e : Event P) → (q : IsNext s i m e) → IsSameGroup plan (λ k. nat_eq (line k) i) (world_at s m).state (world_at s (q.wait + m)).state
  unmoved i m e q =
      let own : ℕ → Bool = λ k. nat_eq (line k) i in
      let one = group_is_own r valid carried law modest plan until kept in_time fits own m in
      let two = group_is_own r valid carried law modest plan until kept in_time fits own (q.wait + m) in
      let same = share_same s.machine s.until s.kept s.opening (is_on_line s i) q.wait m q.none in
      let moved = subst (λ es. IsSameGroup plan own (world_at s (q.wait + m)).state (acted s.machine s.opening.state es)) same two in
      record {
        entities = λ k h. one.entities k h ∙ sym (moved.entities k h);
        counts = λ k c h w. one.counts k c h w ∙ sym (moved.counts k c h w);
      }

  module _ (i m : ℕ) (t : TimelineOf B S P) (shares : IsRunOnLines plan line t.budget s) (sound : IsSoundTimeline plan line s i m t) where
    pub bound_same : bound_in t ≡ bound_of net i (line_of m t)
    bound_same = bound_is net shares.shared.joining i t sound.order.in_ends sound.placed m

    has_next : (e : Event P) (rest : List (Event P)) → t.pending ≡ e ∷ rest → time_of s e ≤ until → time_of s e < bound_of net i (line_of m t) → HasNext t
    unfolding machine_of
    has_next e rest first early below = (let end = sound.until in record { event = e; rest = rest; is = first; in_time = omega (arith, early, end); below = omega (arith, below, bound_same) })

    -- the rules let the timeline execute its next event just where it is not refused
    pub can_execute : refusal t ≡ None → CanExecute s t.budget i (line_of m t)
    unfolding machine_of
    can_execute none = (let h = next_of t none in let few = (free_of t h.event h.rest h.is none).few in let end = sound.until in
        record { head = h.event; rest = h.rest; is = h.is; in_time = omega (arith, h.in_time, end); below = omega (arith, h.below, bound_same); few = few })

    pub may_execute : CanExecute s t.budget i (line_of m t) → t.spent ≡ false → refusal t ≡ None
    may_execute can awake = free_again t (has_next can.head can.rest can.is can.in_time can.below) awake can.few

    pub is_over_here : is_over t ≡ true → IsOver s t.budget i (line_of m t)
    unfolding machine_of
    is_over_here over = (let q = over_is t over in let end = sound.until in
        record { head = q.0.event; rest = q.0.rest; is = q.0.is; in_time = omega (arith, q.0.in_time, end); below = omega (arith, q.0.below, bound_same); spent = q.1 })

    pub is_over_if : IsOver s t.budget i (line_of m t) → is_over t ≡ true
    is_over_if over = over_again t (has_next over.head over.rest over.is over.in_time over.below) over.spent

    -- an entry of the history is that of an event that was executed
    pub record IsOfEvent (x : Entry) : Type 0 where
      pub number : ℕ
      pub event : Event P
      pub below : number < m
      pub is : event_at s number ≡ Some event
      pub own_event : is_on_line s i event ≡ true
      pub key_is : x.key ≡ event.key

    entry_key : (d : Event P) (o : Option (Entity B S P)) → (entry_by r d o).key ≡ d.key
    entry_key d None = refl
    entry_key d (Some k) = refl

    pub of_history : (x : Entry) → Among x t.history → IsOfEvent x
    of_history x a =
        let told = among_told s (is_on_line s i) m x (subst (λ es. Among x es) sound.history (among_append_right x sound.given_up t.history a)) in
        record {
          number = told.number;
          event = told.event;
          below = told.below;
          is = told.is;
          own_event = told.passes;
          key_is = ap (λ (y : Entry). y.key) told.told ∙ entry_key told.event (slice_get (world_at s told.number).state.entities told.event.entity);
        }

    module _ (e : Event P) (rest : List (Event P)) (first : t.pending ≡ e ∷ rest) (none : refusal t ≡ None) where
      free : IsFree t e rest
      free = free_of t e rest first none

      in_run : time_of s e ≤ until
      unfolding machine_of
      in_run = let low = free.in_time in let end = sound.until in omega (arith, low, end)

      below_bound : time_of s e < bound_of net i (line_of m t)
      unfolding machine_of
      below_bound = let low = free.below in omega (arith, low, bound_same)

      pub next : IsNext s i m e
      next = head_next s shares.shared i (line_of m t) sound.sound e rest first in_run below_bound

      abbrev pub n : ℕ
      n = next.wait + m

      abbrev x : States B S P
      x = (world_at s n).state

      own : line e.entity ≡ i
      own = line_is s shares.shared i e (sound.sound.standing.own e (subst (λ ps. Among e ps) (sym first) (inl refl)))

      group : IsSameGroup plan (λ k. nat_eq (line k) i) (world_at s m).state x
      group = unmoved i m e next

      on_own : (k : ℕ) → line k ≡ i → nat_eq (line k) i ≡ true
      on_own k h = eq-eqb (line k) i h

      pub at_run : IsPlaced r valid carried law modest plan until in_time fits kept n e
      at_run = placed r valid carried law modest plan until in_time fits kept n e next.is

      abbrev entity : Entity B S P
      entity = at_run.entity

      pub item : item_at e.entity t.entities ≡ Some entity
      item = (sound.entities free.awake).each e.entity own ∙ group.entities e.entity (on_own e.entity own) ∙ at_run.at

      abbrev ss : List (Sent P)
      ss = sent_by r plan.mappings e entity

      abbrev ts : List (Sent P)
      ts = sent_in r t e entity

      -- what it sends is alike on each channel
      alike : (c : ℕ) → filter (is_on c) ss ≡ filter (is_on c) ts
      alike = (let d = delivered_to r e entity in
          sends_same plan.mappings (routes_by t.inside t.outs) e.entity d.processes d.writes (λ out delay payload w.
          routes_same line i plan.mappings t.inside t.outs sound.mappings.inside sound.mappings.outs
          (one_channel_each plan.mappings (length plan.entities + length (timers_of plan.entities)) (length plan.mappings) fits.wired.channels) out
          (λ k a q. ap line (leads_from r valid carried law modest plan fits.wired (λ j. length (share (machine_of {B = B} r plan.mappings) until kept (opening plan) (λ b. nat_eq 0 0) n)) x e [] entity at_run.at at_run.due at_run.healthy k delay payload a
          (subst (λ o. Among (Channel o delay payload) d.writes) (sym q) w)) ∙ own)))

      fine : (u : Sent P) → Among u ss → IsWriterOn plan e.entity u.channel × (u.entity < length plan.entities) × (u.delay ≤ 2 * LongestDelay)
      fine u a = sends_fine r valid carried law modest plan until in_time fits kept n e next.is entity at_run.at u a

      -- the counts are those of the run there
      count_item : (c : ℕ) → IsWriterOn plan e.entity c → item_at c t.counts ≡ Some (x.counts c)
      count_item c w = sound.counts e.entity c own w ∙ ap (λ k. Some k) (group.counts e.entity c (on_own e.entity own) w)

      count_same : (c : ℕ) → IsWriterOn plan e.entity c → x.counts c ≡ count_of t.counts c
      count_same c w = sym (ap (λ o. unwrap_or o 0) (count_item c w))

      pub its_are : s.machine.writes x e ≡ numbered e.key x.counts ss
      unfolding machine_of
      its_are = ap (λ o. writes_at r plan.mappings x e o) at_run.at

      same_writes : AreSameOn (written_in r t e entity) (s.machine.writes x e)
      same_writes =
          subst (λ ds. AreSameOn (written_in r t e entity) ds) (sym its_are)
          (same_back (numbered e.key x.counts ss) (written_in r t e entity)
          (numbered_same e.key x.counts (count_of t.counts) ss ts alike (λ u a. count_same u.channel (fine u a).0)))

      executed_is : length (line_events s i n) ≡ t.executed
      executed_is = ap length (share_same s.machine s.until s.kept s.opening (is_on_line s i) next.wait m next.none) ∙ sym sound.counted.executed

      round_low : e.key.round ≤ t.executed
      round_low =
          let rounds = own_rounds r valid carried law modest plan until in_time fits kept line shares.aligned net n e next.is in
          let few = filter_length (λ (b : Event P). nat_eq (time_of s b) e.key.time) (line_events s (line e.entity) n) in
          let here : length (line_events s (line e.entity) n) ≡ length (line_events s i n) = ap (λ j. length (line_events s j n)) own in
          omega (arith, rounds, few, here, executed_is)

      uncut : (d : Event P) → Among d (s.machine.writes x e) → kept (s.machine.key d) ≡ true
      unfolding machine_of
      uncut d a = shares.keeps d.key (elim (writes_rounded r plan.mappings x e d (slice_get x.entities e.entity) a) [
        | inl later ↦ omega (arith, later.0)
        | inr same ↦ omega (arith, same.0, round_low, free.few)
      ])

      -- ---- it may be executed

      abbrev spent_all : ℕ → ℕ
      spent_all j = length (share (machine_of {B = B} r plan.mappings) until kept (opening plan) (λ b. nat_eq 0 0) n)

      own_time : IsTimely e.kind entity.processes
      own_time = given_timely e.kind entity.processes (given r valid carried law modest plan fits.wired spent_all x e [] entity at_run.at at_run.due at_run.healthy)

      few_events : spent_by r plan until kept line n e.entity < MostEvents
      few_events =
          let here : length (line_events s (line e.entity) n) ≡ length (line_events s i n) = ap (λ j. length (line_events s j n)) own in
          let most = sound.order.budget in
          let less = free.few in
          omega (arith, here, executed_is, less, most)

      tickets_low : All (λ (p : Process). p.ticket < 2 ^ 64 - 1) entity.processes
      tickets_low = each_all (λ (p : Process). p.ticket < 2 ^ 64 - 1) entity.processes
          (each_of (λ (p : Process). p.ticket + 1 < 2 ^ 64) (λ (p : Process). p.ticket < 2 ^ 64 - 1) entity.processes (λ p low. omega (arith, low))
          (tickets_fit r valid carried law modest plan until in_time fits kept line shares.aligned n e next.is entity at_run.at few_events))

      sent_among : (u : Sent P) → Among u ts → Among u ss
      sent_among u a =
          let here : Among u (filter (is_on u.channel) ts) = among_filter (is_on u.channel) u ts a (eq-eqb u.channel u.channel refl) in
          (filter_among (is_on u.channel) u ss (subst (λ us. Among u us) (sym (alike u.channel)) here)).among

      same_count : (c : ℕ) → count_by (is_on c) ts ≡ count_by (is_on c) ss
      same_count c = sym (filter_counts (is_on c) ts) ∙ (ap length (sym (alike c)) ∙ filter_counts (is_on c) ss)

      known_channel : (c : ℕ) → IsWriterOn plan e.entity c → Among c (numbers_of t.counts)
      known_channel c w = number_among (c, x.counts c) t.counts (item_among c (x.counts c) t.counts (count_item c w))

      counts_low : (u : Sent P) → Among u ss → x.counts u.channel + count_by (is_on u.channel) ss < 2 ^ 64
      counts_low u a = counts_fit r valid carried law modest plan until in_time fits kept line shares.aligned n e next.is entity at_run.at few_events u a

      -- what was written on a channel is at most its count
      written_low : (c : ℕ) → written_of t.out_ends c ≤ x.counts c
      written_low c = elim (none_or_some (item_at c t.out_ends)) [
        | inr empty ↦ (let zero : written_of t.out_ends c ≡ 0 = ap (λ (o : Option (OutEnd P)). unwrap_or (option_map (λ (k : OutEnd P). k.written) o) 0) empty in omega (arith, zero))
        | inl found ↦
            let out = sound.placed.out c (number_among (c, found.0) t.out_ends (item_among c found.0 t.out_ends found.1)) in
            let total = channel_count r plan until kept line net c n in
            omega (arith, sound.sound.written c out, made_up s c m n (omega arith), total)
      ]

      may_send : MaySend e.key ts t.counts t.out_ends
      may_send = record {
        time = at_run.due;
        round = round_fits r valid carried law modest plan until in_time fits kept line shares.aligned n e next.is entity at_run.at few_events;
        counts_rise = sound.order.counts;
        ends_rise = sound.order.out_ends;
        sendable = each_from_among (IsSendable t.counts) ts (λ u a. (let good = fine u (sent_among u a) in record { channel = known_channel u.channel good.0; delay = good.2 }));
        room = λ u a. (let b = sent_among u a in omega (arith, counts_low u b, same_count u.channel, count_same u.channel (fine u b).0));
        room_out = λ u a. (let b = sent_among u a in omega (arith, counts_low u b, same_count u.channel, written_low u.channel));
      }

      from_moment : m ≤ n
      from_moment = omega arith

      uncut_inside : (d : Event P) → Among d (s.machine.writes x e) → net.cross (channel_of s d) ≡ false → kept (s.machine.key d) ≡ true
      uncut_inside d a f = uncut d a

      pub may_run : MayRun valid r t e rest
      may_run = record {
        entity = entity;
        at = item;
        acts = record { is_valid = (at_run.healthy.entities e.entity entity at_run.at).is_valid; timely = own_time; tickets = tickets_low };
        may = may_send;
        new = new_writes s keys shares.shared i m t sound.placed sound.sound e rest first n from_moment next.is (written_in r t e entity) same_writes
            (numbered_apart e.key (count_of t.counts) ts) uncut_inside;
      }

      -- ---- what it makes of the timeline

      abbrev pub its : List (Event P)
      its = s.machine.writes x e

      abbrev ws : List (Event P)
      ws = written_in r t e entity

      abbrev acts : Entity B S P → Entity B S P
      acts k = entity_after (delivered_to r e entity) entity

      pub line_as : (sp : ℕ) → line_of (suc n) (run_made r t e rest entity sp) ≡ executed_line s i n its rest (line_of m t)
      line_as sp =
          executed_as s keys shares.shared i m t sound.placed sound.sound e rest first n from_moment next.is ws same_writes (numbered_apart e.key (count_of t.counts) ts) uncut_inside
          (run_made r t e rest entity sp) (changed e.entity acts t.entities) (all_counted ws t.counts) sp (t.history ++ entry_by r e (Some entity) ∷ []) refl

      state_after : (world_at s (suc n)).state ≡ record { entities = slice_set x.entities e.entity (acts entity); counts = counted x.counts ss }
      unfolding machine_of
      state_after = next_state s shares.shared n e next.is ∙ ap (λ o. acts_at r plan.mappings x e o) at_run.at

      entities_after : (k : ℕ) → line k ≡ i → item_at k (changed e.entity acts t.entities) ≡ slice_get (slice_set x.entities e.entity (acts entity)) k
      entities_after k h =
          let before : item_at k t.entities ≡ slice_get x.entities k = (sound.entities free.awake).each k h ∙ group.entities k (on_own k h) in
          item_changed k e.entity acts t.entities ∙ (elim (test_cases (nat_eq k e.entity)) [
            | inl u ↦
                let here : k ≡ e.entity = eqb-true k e.entity u in
                let there : item_at k t.entities ≡ Some entity = ap (λ j. item_at j t.entities) here ∙ item in
                rw u (ap (option_map acts) there
                ∙ sym (ap (λ j. slice_get (slice_set x.entities e.entity (acts entity)) j) here ∙ get_set_own x.entities e.entity (acts entity) (within_of x.entities e.entity entity at_run.at)))
            | inr f ↦ rw f (before ∙ sym (get_set_other x.entities e.entity k (acts entity) (λ q. different k e.entity f (sym q))))
          ])

      counts_after : (k c : ℕ) → line k ≡ i → IsWriterOn plan k c → item_at c (all_counted ws t.counts) ≡ Some (counted x.counts ss c)
      counts_after k c h w =
          let before : item_at c t.counts ≡ Some (x.counts c) = sound.counts k c h w ∙ ap (λ j. Some j) (group.counts k c (on_own k h) w) in
          let more : length (filter (on c) ws) ≡ count_by (is_on c) ss = numbered_count e.key (count_of t.counts) ts c ∙ same_count c in
          let total : x.counts c + length (filter (on c) ws) ≡ counted x.counts ss c = omega (arith, more, counted_is x.counts ss c) in
          count_after ws t.counts c ∙ (ap (option_map (λ j. j + length (filter (on c) ws))) before ∙ ap (λ j. Some j) total)

      placed_after : (sp : ℕ) → IsPlacedIn net i (run_made r t e rest entity sp)
      placed_after sp = record {
        into = sound.placed.into;
        ins = sound.placed.ins;
        out = λ c a. sound.placed.out c (subst (λ ns. Among c ns) (numbers_all_put ws t.out_ends) a);
        outs = λ c out. (let found = sound.placed.outs c out in
            (with_all (filter (on c) ws) found.0, end_after ws t.out_ends c ∙ ap (option_map (with_all (filter (on c) ws))) found.1, found.2, found.3));
      }

      order_after : (sp : ℕ) → IsInOrder (run_made r t e rest entity sp)
      order_after sp = record {
        until = sound.order.until;
        budget = sound.order.budget;
        few = (let less = free.few in omega arith);
        entities = subst AreRising (sym (numbers_changed e.entity acts t.entities)) sound.order.entities;
        counts = subst AreRising (sym (numbers_all_counted ws t.counts)) sound.order.counts;
        in_ends = sound.order.in_ends;
        out_ends = subst AreRising (sym (numbers_all_put ws t.out_ends)) sound.order.out_ends;
        filled = filled_put ws t.out_ends sound.order.filled;
      }

      pub entry_is : s.entry x e ≡ entry_by r e (Some entity)
      entry_is = ap (entry_by r e) at_run.at

      own_test : is_on_line s i e ≡ true
      own_test = eq-eqb (line e.entity) i own

      history_after : sound.given_up ++ (t.history ++ entry_by r e (Some entity) ∷ []) ≡ line_entries s i (suc n)
      history_after =
          sym (append_same sound.given_up t.history (entry_by r e (Some entity) ∷ []))
          ∙ (ap (λ es. es ++ entry_by r e (Some entity) ∷ []) sound.history
          ∙ (ap (λ (y : Entry). line_entries s i m ++ y ∷ []) (sym entry_is) ∙ sym (entries_next s i m e next own_test)))

      pub sound_after : (sp : ℕ) → IsSoundTimeline plan line s i (suc n) (run_made r t e rest entity sp)
      sound_after sp = record {
        order = order_after sp;
        until = sound.until;
        sound = subst (λ l. IsSoundLine s i l) (sym (line_as sp)) (executed_is_sound s shares.shared i (line_of m t) sound.sound e rest first below_bound next);
        counted = subst (λ l. IsCounted s t.budget i l) (sym (line_as sp))
            (executed_is_counted s shares.shared i (line_of m t) sound.sound e rest first below_bound next t.budget sound.counted free.few);
        placed = placed_after sp;
        mappings = record { inside = sound.mappings.inside; outs = sound.mappings.outs };
        entities = λ awake. record {
          each = λ k h. entities_after k h ∙ sym (ap (λ (y : States B S P). slice_get y.entities k) state_after);
          own = λ k a. (sound.entities free.awake).own k (subst (λ ns. Among k ns) (numbers_changed e.entity acts t.entities) a);
        };
        counts = λ k c h w. counts_after k c h w ∙ sym (ap (λ (y : States B S P). Some (y.counts c)) state_after);
        given_up = sound.given_up;
        history = history_after;
        stopped = λ spent. absurd (let wrong : true ≡ false = sym spent ∙ free.awake in cc);
      }

      -- it comes after all that was executed
      pub comes_last : (j : ℕ) (d : Event P) → j < m → event_at s j ≡ Some d → IsBefore d.key e.key
      unfolding machine_of
      comes_last j d less is = rises s shares.shared j n d e (omega (arith, less, from_moment)) is next.is

      pub history_before : (y : Entry) → Among y t.history → IsBefore y.key e.key
      history_before y a = (let q = of_history y a in subst (λ k. IsBefore k e.key) (sym q.key_is) (comes_last q.number q.event q.below q.is))

      pub low_after : (sp : ℕ) → low_in t ≤ low_in (run_made r t e rest entity sp)
      low_after sp =
          let made = run_made r t e rest entity sp in
          let rise = execute_low s shares.shared i (line_of m t) sound.sound e rest n first next.is in
          let before : low_in t ≡ low_of s i (line_of m t) = low_is s keys i m t bound_same in
          let bound_then : bound_in made ≡ bound_of net i (line_of (suc n) made) = bound_is net shares.shared.joining i made sound.order.in_ends (placed_after sp) (suc n) in
          let then : low_in made ≡ low_of s i (line_of (suc n) made) = low_is s keys i (suc n) made bound_then in
          let same : low_of s i (line_of (suc n) made) ≡ low_of s i (executed_line s i n its rest (line_of m t)) = ap (low_of s i) (line_as sp) in
          omega (arith, rise, before, then, same)

      -- ---- what the call made

      module _ (after : TimelineOf B S P) (k : Entity B S P) (at : item_at e.entity t.entities ≡ Some k) (sp : ℕ) (was_made : after ≡ run_made r t e rest k sp) where
        made_is_this : after ≡ run_made r t e rest entity sp
        made_is_this = (let same : k ≡ entity = (let both : Some k ≡ Some entity = sym at ∙ item in cc) in subst (λ j. after ≡ run_made r t e rest j sp) same was_made)

        pub step_line : line_of (suc n) after ≡ executed_line s i n its rest (line_of m t)
        step_line = ap (line_of (suc n)) made_is_this ∙ line_as sp

        pub step_sound : IsSoundTimeline plan line s i (suc n) after
        step_sound = subst (λ z. IsSoundTimeline plan line s i (suc n) z) (sym made_is_this) (sound_after sp)

        pub step_history : after.history ≡ t.history ++ s.entry x e ∷ []
        step_history = ap (λ (z : TimelineOf B S P). z.history) made_is_this ∙ ap (λ (y : Entry). t.history ++ y ∷ []) (sym entry_is)

        pub step_low : low_in t ≤ low_in after
        step_low = (let rise = low_after sp in let same : low_in after ≡ low_in (run_made r t e rest entity sp) = ap low_in made_is_this in omega arith)
