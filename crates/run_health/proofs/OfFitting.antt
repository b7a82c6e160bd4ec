-- The laws of plans that fit: what writes what, rounds, and cuts that drop nothing.
use Rattle.std.proofs.Common.{◌≡◌, ◌⊎◌, ℕ, ◌+◌, ◌≤◌, Bool, true, ◌&&◌, nat_eq, List, [], ◌∷◌, filter, length, refl, sym, ap, ◌∙◌, subst, inl, inr, arith, Some, slice_get, eqb-true, eq-eqb}
use Rattle.event_order.specs.declared.key.Key.{Key}
use Rattle.event_order.specs.Pending.{Among}
use Rattle.event_order.specs.Machine.{first_events}
use Rattle.event_order.specs.Run.{Run, Chain, share}
use Rattle.event_order.specs.Laws.{HasRounds}
use Rattle.event_order.proofs.Pending.{test_cases}
use Rattle.event_order.proofs.Local.{share_own}
use Rattle.event_order.proofs.Rounds.{rounds}
use Rattle.event_order.proofs.Steps.{event_arises}
use Rattle.ssf_model.specs.declared.out.Written.TheVariants.{Timer as TimerWrite}
use Rattle.ssf_model.specs.declared.event.Event.{Event}
use Rattle.ssf_model.specs.declared.plan.Mapping.{Mapping}
use Rattle.ssf_model.specs.declared.plan.Plan.{Plan}
use Rattle.ssf_model.specs.Reaction.{Reaction, Validity, KeepsValid, LatestTime}
use Rattle.ssf_model.specs.Deliver.{IsModest}
use Rattle.ssf_model.specs.Channels.{Sent, delivered_to, sent_by}
use Rattle.ssf_model.specs.Run.{States, writes_at, machine_of, opening, world_after, run_event, run_events, run_entries, IsPending, Fits}
use Rattle.ssf_model.specs.Scene.{Net, scene_of}
use Rattle.ssf_model.specs.Truth.{is_on_line, line_events_at, AreFew}
use Rattle.run_health.specs.Joined.{IsFollowing, FollowsEarlier, IsPassedOn, IsAligned, KeepsRounds}
use Rattle.ssf_model.proofs.Delivering.{both_hold}
use Rattle.ssf_model.proofs.Lists.{each_among}
use Rattle.ssf_model.proofs.Counts.{numbered_is, writes_rounded}
use Rattle.run_health.proofs.Delivers.{IsOnOwn}
use Rattle.run_health.proofs.Sends.{sent_from}
use Rattle.ssf_model.proofs.Entries.{same_entries}
use Rattle.run_health.proofs.Healths.{done, leads_from}
use Rattle.run_health.proofs.Along.{placed}
use Rattle.event_order.proofs.Shares.{same_after, same_events, chain_share, one_more}

filter_both : {T : Type 0} (p q : T → Bool) (xs : List T) → filter (λ x. p x && q x) xs ≡ filter q (filter p xs)
filter_both p q [] = refl
filter_both p q (x ∷ xs) = elim (test_cases (p x)) [
  | inl t ↦ elim (test_cases (q x)) [
    | inl u ↦ rw (t, u) (ap (λ ys. x ∷ ys) (filter_both p q xs))
    | inr f ↦ rw (t, f) (filter_both p q xs)
  ]
  | inr f ↦ rw f (filter_both p q xs)
]

test_both : (a b : Bool) → a ≡ true → b ≡ true → (a && b) ≡ true
test_both a b h g = rw (h, g) refl

module _ {B S P : Type 0} (r : Reaction S P) (valid : Validity S) (carried : P → Type 0) (law : KeepsValid valid carried r) (modest : IsModest valid carried r)
    (plan : Plan B S P) (until : ℕ) (in_time : until ≤ LatestTime) (fits : Fits valid carried plan) (kept : Key → Bool) where
  abbrev spent_all : ℕ → ℕ → ℕ
  spent_all n = λ k. length (share (machine_of {B = B} r plan.mappings) until kept (opening plan) (λ d. nat_eq 0 0) n)

  -- what an event writes it writes along a mapping, or it ends a wait
  pub follows : (n : ℕ) (e : Event P) → run_event r plan until kept n ≡ Some e → (b : Event P) → Among b ((machine_of {B = B} r plan.mappings).writes (world_after r plan until kept n).state e) →
      IsFollowing r plan (world_after r plan until kept n).state e b
  unfolding machine_of
  follows n e h b a =
      let x : States B S P = (world_after r plan until kept n).state in
      let p = placed r valid carried law modest plan until in_time fits kept n e h in
      let en = p.entity in
      let sends : Among b (writes_at r plan.mappings x e (Some en)) = subst (λ o. Among b (writes_at r plan.mappings x e o)) p.at a in
      let from = numbered_is e.key x.counts (sent_by r plan.mappings e en) b sends in
      let sum : b.key.time ≡ e.key.time + from.sent.delay = ap (λ (k : Key). k.time) from.key_is in
      elim (sent_from plan.mappings e.entity (delivered_to r e en).processes (delivered_to r e en).writes from.sent from.among) [
        | inl w ↦ inl (record {
          writer = en;
          at = p.at;
          mapping = w.mapping;
          delay = w.delay;
          payload = w.payload;
          among = w.among;
          source = leads_from r valid carried law modest plan fits.wired (spent_all n) x e [] en p.at p.due p.healthy w.mapping w.delay w.payload w.among w.written;
          written = w.written;
          target = from.entity_is ∙ ap (λ (u : Sent P). u.entity) w.is;
          channel = ap (λ (k : Key). k.channel) from.key_is ∙ ap (λ (u : Sent P). u.channel) w.is;
          priority = ap (λ (k : Key). k.priority) from.key_is ∙ ap (λ (u : Sent P). u.priority) w.is;
          time = sum ∙ ap (λ (u : Sent P). e.key.time + u.delay) w.is;
          kind = from.kind_is ∙ ap (λ (u : Sent P). u.kind) w.is;
        })
        | inr w ↦ inr (record {
          waiter = en;
          at = p.at;
          process = w.process;
          delay = w.delay;
          ticket = w.ticket;
          written = w.written;
          some_time = each_among (IsOnOwn en.out_channels) (delivered_to r e en).writes (TimerWrite w.process w.delay w.ticket)
              (done r valid carried law modest plan fits.wired (spent_all n) x e [] en p.at p.due p.healthy).owned w.written;
          target = from.entity_is ∙ ap (λ (u : Sent P). u.entity) w.is;
          channel = w.timer ∙ ap (λ (c : ℕ). Some c) (sym (ap (λ (k : Key). k.channel) from.key_is ∙ ap (λ (u : Sent P). u.channel) w.is));
          priority = ap (λ (k : Key). k.priority) from.key_is ∙ ap (λ (u : Sent P). u.priority) w.is;
          time = sum ∙ ap (λ (u : Sent P). e.key.time + u.delay) w.is;
          kind = from.kind_is ∙ ap (λ (u : Sent P). u.kind) w.is;
        })
      ]

  -- every event is one of the opening's or follows an earlier one
  pub event_follows : (n : ℕ) (d : Event P) → run_event r plan until kept n ≡ Some d → Among d plan.events ⊎ FollowsEarlier r plan until kept n d
  event_follows n d h = elim (event_arises (machine_of {B = B} r plan.mappings) until kept (opening plan) n d h) [
    | inl a ↦ inl a
    | inr w ↦ inr (record { at = w.at; before = w.before; by = w.written.by; is = w.written.is; follows = follows w.at w.written.by w.written.is d w.written.among })
  ]

  -- what an event writes at its own time it passes on
  Passes : States B S P → Event P → Type 0
  Passes x e = (b : Event P) → Among b (writes_at r plan.mappings x e (slice_get x.entities e.entity)) → b.key.time ≡ e.key.time → IsPassedOn {B = B} r plan until kept e b

  passes : (n : ℕ) (e : Event P) → run_event r plan until kept n ≡ Some e → Passes (world_after r plan until kept n).state e
  unfolding Passes machine_of
  passes n e h b a same = elim (follows n e h b a) [
    | inl along ↦ let sum = along.time in record { at = n; is = h; along = along; no_delay = omega arith; at_once = omega arith }
    | inr wait ↦ let long = wait.some_time in let sum = wait.time in absurd (omega arith)
  ]

  fitting_rounds : HasRounds (machine_of {B = B} r plan.mappings) Passes (IsPassedOn r plan until kept)
  unfolding machine_of Passes
  fitting_rounds = record {
    parented = λ x e b f a. elim (writes_rounded r plan.mappings x e b (slice_get x.entities e.entity) a) [
      | inl later ↦ inl later
      | inr next ↦ inr (next.0, next.1, f b a next.1)
    ];
  }

  rounds_opened : (d : Event P) → Among d (opening plan).pending → ((machine_of {B = B} r plan.mappings).key d).round ≡ 0
  unfolding machine_of
  rounds_opened d a = (each_among (IsPending carried plan) plan.events d fits.opened.pending a).round

  abbrev pub run : Run (States B S P) (Event P)
  run = record { machine = machine_of r plan.mappings; until = until; kept = kept; opening = opening plan }

  -- before an event of round k stand k events at its time, each of which passed the next on
  pub passed_rounds : (n : ℕ) (e : Event P) → run_event r plan until kept n ≡ Some e →
      Chain run (IsPassedOn r plan until kept) (record { number = n; event = e }) e.key.round
  unfolding machine_of
  passed_rounds n e h =
      rounds (machine_of {B = B} r plan.mappings) until kept (opening plan) Passes (IsPassedOn r plan until kept) fitting_rounds passes
      rounds_opened n e h

  module _ (line : ℕ → ℕ) (aligned : IsAligned plan line) (net : Net) where
    on_own : (e : Event P) → is_on_line (scene_of r plan until kept line net) (line e.entity) e ≡ true
    on_own e = eq-eqb (line e.entity) (line e.entity) refl

    stays_on : (i : ℕ) (p d : Event P) → IsPassedOn r plan until kept p d → is_on_line (scene_of r plan until kept line net) i d ≡ true → is_on_line (scene_of r plan until kept line net) i p ≡ true
    stays_on i p d j on =
        let m = j.along.mapping in
        let ends : line m.from ≡ line m.to = each_among (λ (m : Mapping). m.delay ≡ 0 → line m.from ≡ line m.to) plan.mappings m aligned j.along.among j.no_delay in
        let there : line d.entity ≡ i = eqb-true (line d.entity) i on in
        let here : line p.entity ≡ i = ap line (sym j.along.source) ∙ (ends ∙ (ap line (sym j.along.target) ∙ there)) in
        eq-eqb (line p.entity) i here

    -- an event of round k has k earlier events of its own timeline at its time
    pub own_rounds : (n : ℕ) (e : Event P) → run_event r plan until kept n ≡ Some e →
        e.key.round ≤ length (line_events_at (scene_of r plan until kept line net) (line e.entity) e.key.time n)
    unfolding machine_of
    own_rounds n e h =
        let m = machine_of {B = B} r plan.mappings in
        let on = is_on_line (scene_of r plan until kept line net) (line e.entity) in
        let at : Event P → Bool = λ d. nat_eq d.key.time e.key.time in
        let mine : Event P → Bool = λ d. on d && at d in
        let own : mine e ≡ true = test_both (on e) (at e) (on_own e) (eq-eqb e.key.time e.key.time refl) in
        let long = chain_share m until kept (opening plan) (IsPassedOn r plan until kept) mine
        (λ p d j t held. let parts = both_hold (on d) (at d) held in
        test_both (on p) (at p) (stays_on (line e.entity) p d j parts.0) (eq-eqb p.key.time e.key.time (t ∙ eqb-true d.key.time e.key.time parts.1)))
        e.key.round n e h own (passed_rounds n e h) in
        let split = filter_both on at (first_events m until kept (opening plan) n) in
        omega (
          arith,
          long,
          ap (λ (es : List (Event P)). length es) (share_own m until kept (opening plan) mine n e h own),
          one_more (share m until kept (opening plan) mine n) e,
          ap (λ (es : List (Event P)). length es) split,
        )

    module _ (other : Key → Bool) (most : ℕ) (here : KeepsRounds most kept) (there : KeepsRounds most other) (few : AreFew (scene_of r plan until kept line net) most) where
      -- two cuts that keep all rounds up to the most events of a timeline make no difference
      pub same_worlds : (n : ℕ) → world_after r plan until kept n ≡ world_after r plan until other n
      unfolding machine_of
      same_worlds n =
          same_after (machine_of {B = B} r plan.mappings) until kept (opening plan) Passes (IsPassedOn r plan until kept) fitting_rounds passes
          rounds_opened (is_on_line (scene_of r plan until kept line net)) (λ e. line e.entity) on_own stays_on most few other
          (λ k low. here k low ∙ sym (there k low)) n

      pub same_lists : (n : ℕ) → run_events r plan until kept n ≡ run_events r plan until other n
      unfolding machine_of
      same_lists n =
          same_events (machine_of {B = B} r plan.mappings) until kept (opening plan) Passes (IsPassedOn r plan until kept) fitting_rounds passes
          rounds_opened (is_on_line (scene_of r plan until kept line net)) (λ e. line e.entity) on_own stays_on most few other
          (λ k low. here k low ∙ sym (there k low)) n

      pub same_told : (n : ℕ) → run_entries r plan until kept n ≡ run_entries r plan until other n
      same_told n = same_entries r plan.mappings until kept other (opening plan) n (λ k l. same_worlds k)
