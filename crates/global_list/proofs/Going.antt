-- One step of the list is one step of the run, and what holds along it.
use Rattle.std.proofs.Common.{◌≡◌, ℕ, ◌+◌, ◌-◌, ◌^◌, ◌<◌, ◌≤◌, true, nat_eq, nat_le, List, filter, [], ◌∷◌, length, refl, sym, ap, ◌∙◌, subst, inl, inr, arith, Some, None, slice_get, slice_set, option_map}
use Rattle.std.specs.List.{flat_map}
use Rattle.std.proofs.lemmas.Grind.{common_steps}
use Rattle.event_order.specs.Pending.{Among, put_all}
use Rattle.event_order.proofs.Pending.{test_cases}
use Rattle.event_order.specs.Machine.{World, due, stepped, executed, all_kept}
use Rattle.ssf_model.specs.declared.event.Event.{Event}
use Rattle.ssf_model.specs.declared.event.Entry.{Entry}
use Rattle.ssf_model.specs.declared.event.Line.{Line}
use Rattle.ssf_model.specs.declared.out.Written.{Written}
use Rattle.ssf_model.specs.declared.process.Process.{Process}
use Rattle.ssf_model.specs.declared.entity.Entity.{Entity}
use Rattle.ssf_model.specs.declared.plan.Mapping.{Mapping}
use Rattle.ssf_model.specs.declared.plan.Plan.{Plan}
use Rattle.ssf_model.specs.Reaction.{Reaction, Validity, KeepsValid, LatestTime, Each}
use Rattle.ssf_model.specs.Deliver.{IsModest}
use Rattle.ssf_model.specs.Channels.{Sent, sent, delivered_to, entity_after, sent_by, counted}
use Rattle.ssf_model.specs.Run.{MostTicket, States, Fits, counts_of, acts_at, writes_at, machine_of, opening, timers_of}
use Rattle.global_list.specs.Pending.{key_of}
use Rattle.run_health.specs.Healthy.{MostEvents, IsHealthy, spent_by}
use Rattle.ssf_model.proofs.Lists.{each_all, each_of, place_of}
use Rattle.run_health.proofs.Delivers.{given_timely}
use Rattle.run_health.proofs.Writers.{writer_low}
use Rattle.run_health.proofs.Healths.{given, fine_sent, few_sent}
use Rattle.run_health.proofs.Along.{healthy_along, all_aligned}
use Rattle.event_order.proofs.Shares.{share_length}
use Rattle.global_list.specs.Posting.{IsSendable, IsPosted}
use Rattle.ssf_model.specs.Run.{entry_at}
use Rattle.ssf_model.specs.Run.{world_after}
use Rattle.global_list.specs.Executed.{states_of, world_of, MayExecute, IsExecuted}
use Rattle.global_list.specs.Standing.{Standing, CanGoOn, advanced}

le_true : (a b : ℕ) → nat_le a b ≡ true → a ≤ b
le_true a b h = grind (arith, common_steps)

-- the event that is due is the first
pub record IsFirst {P : Type 0} (until : ℕ) (d e : Event P) : Type 0 where
  pub same : d ≡ e
  pub in_time : e.key.time ≤ until
  pub test : nat_le e.key.time until ≡ true

pub due_first : {P : Type 0} (until : ℕ) (d e : Event P) (ds : List (Event P)) → due key_of until (d ∷ ds) ≡ Some e → IsFirst until d e
due_first until d e ds h = elim (test_cases (nat_le d.key.time until)) [
  | inl t ↦ let g : Some d ≡ Some e = rw t at h in let s : d ≡ e = cc in
      record { same = s; in_time = subst (λ (x : Event _). x.key.time ≤ until) s (le_true d.key.time until t); test = subst (λ (x : Event _). nat_le x.key.time until ≡ true) s t }
  | inr f ↦ let g : None ≡ Some e = rw f at h in absurd (cc)
]

-- what holds of each element by its being in the list
each_sent : {T : Type 0} (Q : T → Type 0) (xs : List T) → ((x : T) → Among x xs → Q x) → Each Q xs
each_sent Q [] f = tt
each_sent Q (x ∷ xs) f = (f x (inl refl), each_sent Q xs (λ y a. f y (inr a)))

keep_all : {T : Type 0} (xs : List T) → filter (λ d. true) xs ≡ xs
keep_all [] = refl
keep_all (x ∷ xs) = ap (λ ys. x ∷ ys) (keep_all xs)

-- an event of a healthy world can be executed where its timeline has executed few events
may_execute : {B S P : Type 0} (r : Reaction S P) (valid : Validity S) (carried : P → Type 0) (law : KeepsValid valid carried r) (modest : IsModest valid carried r)
    (plan : Plan B S P) (fits : Fits valid carried plan) (spent : ℕ → ℕ) (few : (k : ℕ) → spent k < MostEvents) (es : List (Entity B S P)) (cs : List ℕ) (e : Event P) (rest : List (Event P))
    (en : Entity B S P) (at : slice_get es e.entity ≡ Some en) (in_time : e.key.time ≤ LatestTime) (healthy : IsHealthy valid carried plan spent (world_of es cs (e ∷ rest))) →
    length cs ≡ length plan.counts → MayExecute valid r plan.mappings e es cs rest
may_execute {B} {S} {P} r valid carried law modest plan fits spent few es cs e rest en at in_time healthy size =
    let x : States B S P = states_of es cs in
    let first = healthy.pending e (inl refl) in
    let own = healthy.entities e.entity en at in
    let low = few e.entity in
    let fine = fine_sent r valid carried law modest plan fits.wired spent x e rest en at in_time healthy in
    let all : length cs ≡ length plan.entities + length (timers_of plan.entities) + length plan.mappings = size ∙ fits.opened.size in
    record {
      entity = en;
      at = at;
      within = first.entity;
      is_valid = own.is_valid;
      timely = given_timely e.kind en.processes (given r valid carried law modest plan fits.wired spent x e rest en at in_time healthy);
      tickets = each_all (λ (p : Process). p.ticket < 2 ^ 64 - 1) en.processes
          (each_of (λ (p : Process). p.ticket ≤ MostTicket + spent e.entity) (λ (p : Process). p.ticket < 2 ^ 64 - 1) en.processes (λ p q. omega arith) own.tickets);
      time = in_time;
      may = record {
        time = in_time;
        round = omega (arith, first.round);
        sendable = each_sent (IsSendable (length cs)) (sent_by r plan.mappings e en)
            (λ s a. record { channel = let low = writer_low plan fits.wired e.entity s.channel (fine s a).writer in omega arith; delay = (fine s a).delay });
        room = λ s a. omega (arith, healthy.counts e.entity s.channel (fine s a).writer, few_sent r valid carried law modest plan fits.wired spent x e rest en at in_time healthy s.channel);
        told = λ d a. (healthy.pending d (inr a)).number;
      };
    }

module _ {B S P : Type 0} (r : Reaction S P) (ms : List Mapping) (until : ℕ) where
  abbrev pub step_of : (x : States B S P) (e : Event P) (rest : List (Event P)) → World (States B S P) (Event P)
  step_of x e rest = record { state = acts_at r ms x e (slice_get x.entities e.entity); pending = put_all key_of (writes_at r ms x e (slice_get x.entities e.entity)) rest }

  executed_is : (x : States B S P) (e : Event P) (rest : List (Event P)) → executed (machine_of r ms) all_kept x e rest ≡ step_of x e rest
  unfolding machine_of
  executed_is x e rest = ap (λ (ws : List (Event P)). let v : World (States B S P) (Event P) = record { state = acts_at r ms x e (slice_get x.entities e.entity); pending = put_all key_of ws rest } in v)
      (keep_all (writes_at r ms x e (slice_get x.entities e.entity)))

  stepped_first : (x : States B S P) (e : Event P) (rest : List (Event P)) → nat_le e.key.time until ≡ true →
      stepped (machine_of r ms) until all_kept x (e ∷ rest) ≡ executed (machine_of r ms) all_kept x e rest
  unfolding machine_of
  stepped_first x e rest t = rw t refl

  -- a step where the first event is due
  pub stepped_is : (x : States B S P) (ps : List (Event P)) (e : Event P) (rest : List (Event P)) → ps ≡ e ∷ rest → due key_of until ps ≡ Some e →
      stepped (machine_of r ms) until all_kept x ps ≡ step_of x e rest
  stepped_is x ps e rest is d =
      let here : due key_of until (e ∷ rest) ≡ Some e = subst (λ qs. due key_of until qs ≡ Some e) is d in
      ap (λ (qs : List (Event P)). stepped (machine_of r ms) until all_kept x qs) is ∙ (stepped_first x e rest (due_first until e e rest here).test ∙ executed_is x e rest)

  -- what was executed is that step
  pub executed_step : (es0 es1 : List (Entity B S P)) (c0 c1 : List ℕ) (p0 p1 rest : List (Event P)) (e : Event P) (told : Entry) → p0 ≡ e ∷ rest → due key_of until p0 ≡ Some e →
      IsExecuted r ms e (record { before = world_of es0 c0 rest; after = world_of es1 c1 p1; entry = told }) → world_of es1 c1 p1 ≡ stepped (machine_of r ms) until all_kept (states_of es0 c0) p0
  executed_step es0 es1 c0 c1 p0 p1 rest e told is d q =
      ap (λ (x : States B S P). let v : World (States B S P) (Event P) = record { state = x; pending = p1 } in v) q.state
      ∙ (ap (λ (ps : List (Event P)). let v : World (States B S P) (Event P) = record { state = acts_at r ms (states_of es0 c0) e (slice_get es0 e.entity); pending = ps } in v) q.pending
      ∙ sym (stepped_is (states_of es0 c0) p0 e rest is d))

  module _ (valid : Validity S) (carried : P → Type 0) (law : KeepsValid valid carried r) (modest : IsModest valid carried r) where
    -- the event that is due can be executed
    pub may_next : (b : B) (es : List (Entity B S P)) (cs : List ℕ) (ps rest : List (Event P)) (e : Event P) → ps ≡ e ∷ rest → due key_of until ps ≡ Some e →
        CanGoOn valid carried r until (record { behaviour = b; mappings = ms; channels = length cs; world = world_of es cs ps }) → MayExecute valid r ms e es cs rest
    may_next b es cs ps rest e is d go =
        let here : due key_of until (e ∷ rest) ≡ Some e = subst (λ qs. due key_of until qs ≡ Some e) is d in
        let first = due_first until e e rest here in
        let same : ms ≡ go.plan.mappings = ap (λ (s : Standing B S P). s.mappings) go.is in
        let size : length cs ≡ length go.plan.counts = ap (λ (s : Standing B S P). s.channels) go.is in
        let world : world_of es cs ps ≡ world_after r go.plan until all_kept go.n = ap (λ (s : Standing B S P). s.world) go.is in
        let spent : ℕ → ℕ = spent_by r go.plan until all_kept (λ k. 0) go.n in
        let along = healthy_along r valid carried law modest go.plan until go.in_time go.fits all_kept (λ k. 0)
        (all_aligned r valid carried law modest go.plan until go.in_time go.fits all_kept go.plan.mappings) go.n in
        let healthy : IsHealthy valid carried go.plan spent (world_of es cs (e ∷ rest)) =
        subst (λ (qs : List (Event P)). IsHealthy valid carried go.plan spent (world_of es cs qs)) is
        (subst (λ (w : World (States B S P) (Event P)). IsHealthy valid carried go.plan spent w) (sym world) along) in
        let few : (k : ℕ) → spent k < MostEvents = λ k. omega (arith, go.few, share_length (machine_of {B = B} r go.plan.mappings) until all_kept (opening go.plan) (λ d. nat_eq 0 0) go.n) in
        let place = place_of es e.entity ((healthy.pending e (inl refl)).entity) in
        rw same (may_execute r valid carried law modest go.plan go.fits spent few es cs e rest place.0 place.1 (omega (arith, first.in_time, go.in_time)) healthy size)

  -- ---- the code's steps

  same_states : (es es' : List (Entity B S P)) (f f' : ℕ → ℕ) → es ≡ es' → f ≡ f' →
      (let x : States B S P = record { entities = es; counts = f } in x) ≡ (let x : States B S P = record { entities = es'; counts = f' } in x)
  same_states es es' f f' a b = ap (λ (xs : List (Entity B S P)). let x : States B S P = record { entities = xs; counts = f } in x) a
      ∙ ap (λ (h : ℕ → ℕ). let x : States B S P = record { entities = es'; counts = h } in x) b

  pub executed_by : (e : Event P) (es0 : List (Entity B S P)) (en en1 : Entity B S P) (c0 c1 : List ℕ) (p0 p1 : List (Event P)) (ps : List Process) (ws : List (Written P)) (ls : List Line) →
      slice_get es0 e.entity ≡ Some en → en1 ≡ entity_after (delivered_to r e en) en → ps ≡ en1.processes → ws ≡ (delivered_to r e en).writes → ls ≡ (delivered_to r e en).lines →
      IsPosted e.key (flat_map (sent ms e.entity ps) ws) c0 p0 c1 p1 →
      IsExecuted r ms e (record { before = world_of es0 c0 p0; after = world_of (slice_set es0 e.entity en1) c1 p1; entry = record { key = e.key; entity = e.entity; lines = ls } })
  executed_by e es0 en en1 c0 c1 p0 p1 ps ws ls at after_is ps_is ws_is ls_is posted =
      let d = delivered_to r e en in
      let processes : ps ≡ d.processes = ps_is ∙ ap (λ (x : Entity B S P). x.processes) after_is in
      let sents : flat_map (sent ms e.entity ps) ws ≡ sent_by r ms e en =
      ap (λ (qs : List Process). flat_map (sent ms e.entity qs) ws) processes ∙ ap (λ (vs : List (Written P)). flat_map (sent ms e.entity d.processes) vs) ws_is in
      let q : IsPosted e.key (sent_by r ms e en) c0 p0 c1 p1 = subst (λ (ss : List (Sent P)). IsPosted e.key ss c0 p0 c1 p1) sents posted in
      record {
        state = rw at (same_states (slice_set es0 e.entity en1) (slice_set es0 e.entity (entity_after d en)) (counts_of c1) (counted (counts_of c0) (sent_by r ms e en))
            (ap (λ (x : Entity B S P). slice_set es0 e.entity x) after_is) q.counts);
        pending = rw at q.pending;
        entry = rw at (ap (λ (xs : List Line). let t : Entry = record { key = e.key; entity = e.entity; lines = xs } in t) ls_is);
      }

  -- ---- one step of the list

  stood : (b : B) (ms ms' : List Mapping) (n n' : ℕ) (w w' : World (States B S P) (Event P)) → ms ≡ ms' → n ≡ n' → w ≡ w' →
      (let s : Standing B S P = record { behaviour = b; mappings = ms; channels = n; world = w } in s) ≡ (let s : Standing B S P = record { behaviour = b; mappings = ms'; channels = n'; world = w' } in s)
  stood b ms ms' n n' w w' a c e = rw (a, c, e) refl

  pub step_made : (b b' : B) (ms' : List Mapping) (es0 es1 : List (Entity B S P)) (c0 c1 : List ℕ) (p0 p1 rest : List (Event P)) (e : Event P) (told : Entry) → b' ≡ b → ms' ≡ ms → length c1 ≡ length c0 →
      p0 ≡ e ∷ rest → due key_of until p0 ≡ Some e → IsExecuted r ms e (record { before = world_of es0 c0 rest; after = world_of es1 c1 p1; entry = told }) →
      (let s : Standing B S P = record { behaviour = b'; mappings = ms'; channels = length c1; world = world_of es1 c1 p1 } in s)
      ≡ advanced r until (record { behaviour = b; mappings = ms; channels = length c0; world = world_of es0 c0 p0 })
  step_made b b' ms' es0 es1 c0 c1 p0 p1 rest e told own same size is d q =
      rw own (stood b ms' ms (length c1) (length c0) (world_of es1 c1 p1) (stepped (machine_of r ms) until all_kept (states_of es0 c0) p0) same size (executed_step es0 es1 c0 c1 p0 p1 rest e told is d q))

  pub entry_made : (es0 : List (Entity B S P)) (p0 : List (Event P)) (e : Event P) (told : Entry) → due key_of until p0 ≡ Some e → told ≡ entry_at r es0 e → Some told ≡ option_map (entry_at r es0) (due key_of until p0)
  entry_made es0 p0 e told d is = rw d (ap (λ (t : Entry). Some t) is)

  -- where nothing is due a step changes nothing
  pub none_stepped : (x : States B S P) (ps : List (Event P)) → due key_of until ps ≡ None → (let w : World (States B S P) (Event P) = record { state = x; pending = ps } in w) ≡ stepped (machine_of r ms) until all_kept x ps
  unfolding machine_of
  none_stepped x [] none = refl
  none_stepped x (d ∷ ps) none = elim (test_cases (nat_le d.key.time until)) [
    | inl t ↦ let g : Some d ≡ None = rw t at none in absurd (cc)
    | inr f ↦ rw f refl
  ]

  pub none_made : (b b' : B) (ms' : List Mapping) (es0 : List (Entity B S P)) (c0 : List ℕ) (p0 p1 : List (Event P)) → b' ≡ b → ms' ≡ ms → p1 ≡ p0 → due key_of until p0 ≡ None →
      (let s : Standing B S P = record { behaviour = b'; mappings = ms'; channels = length c0; world = world_of es0 c0 p1 } in s)
      ≡ advanced r until (record { behaviour = b; mappings = ms; channels = length c0; world = world_of es0 c0 p0 })
  none_made b b' ms' es0 c0 p0 p1 own same kept none =
      rw (own, kept) (stood b ms' ms (length c0) (length c0) (world_of es0 c0 p0) (stepped (machine_of r ms) until all_kept (states_of es0 c0) p0) same refl (none_stepped (states_of es0 c0) p0 none))

  pub no_entry : (es0 : List (Entity B S P)) (p0 : List (Event P)) → due key_of until p0 ≡ None → None ≡ option_map (entry_at r es0) (due key_of until p0)
  no_entry es0 p0 none = rw none refl
