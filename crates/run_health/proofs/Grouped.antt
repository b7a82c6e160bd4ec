-- A group of entities of a plan that fits depends on its own events alone.
use Rattle.std.proofs.Common.{◌≡◌, ℕ, ◌+◌, ◌≤◌, Bool, true, false, cond, nat_eq, List, [], ◌∷◌, length, refl, sym, ap, ◌∙◌, subst, inl, inr, arith, count_by, Option, Some, None, slice_get, slice_set, eqb-true}
use Rattle.event_order.specs.declared.key.Key.{Key}
use Rattle.event_order.specs.Order.{child_of}
use Rattle.event_order.specs.Pending.{Among}
use Rattle.event_order.proofs.Pending.{test_cases}
use Rattle.event_order.specs.Run.{share, acted}
use Rattle.event_order.specs.Laws.{IsLocal}
use Rattle.event_order.proofs.Local.{own_state}
use Rattle.ssf_model.specs.declared.event.Event.{Event}
use Rattle.ssf_model.specs.declared.entity.Entity.{Entity}
use Rattle.ssf_model.specs.declared.plan.Plan.{Plan}
use Rattle.ssf_model.specs.Reaction.{Reaction, Validity, KeepsValid, LatestTime}
use Rattle.ssf_model.specs.Deliver.{IsModest}
use Rattle.ssf_model.specs.Channels.{Sent, delivered_to, entity_after, sent_by, raised, numbered}
use Rattle.ssf_model.specs.Run.{States, acts_at, writes_at, machine_of, opening, world_after, run_event, Fits}
use Rattle.run_health.specs.Groups.{is_own, IsWriterOn, IsSameGroup}
use Rattle.ssf_model.specs.Channels.{is_on}
use Rattle.ssf_model.proofs.Lists.{different, get_set_own, get_set_other, within_of}
use Rattle.ssf_model.proofs.Counts.{counted_is, none_sent}
use Rattle.run_health.proofs.Writers.{one_writer}
use Rattle.run_health.proofs.Healths.{fine_sent}
use Rattle.run_health.proofs.Along.{placed}

-- ---- counts and numbers

-- what is sent has the same numbers where its channels have the same counts
numbered_same : {P : Type 0} (key : Key) (f g : ℕ → ℕ) (ss : List (Sent P)) → ((s : Sent P) → Among s ss → f s.channel ≡ g s.channel) → numbered key f ss ≡ numbered key g ss
numbered_same key f g [] h = refl
numbered_same {P} key f g (s ∷ ss) h =
    ap (λ n. let e : Event P = record { key = child_of key s.delay s.priority s.channel n; entity = s.entity; kind = s.kind } in e ∷ numbered key (raised f s.channel) ss) (h s (inl refl))
    ∙ ap (λ (es : List (Event P)). record { key = child_of key s.delay s.priority s.channel (g s.channel); entity = s.entity; kind = s.kind } ∷ es)
    (numbered_same key (raised f s.channel) (raised g s.channel) ss (λ t a. ap (λ n. cond (nat_eq t.channel s.channel) (n + 1) n) (h t (inr a))))

-- ---- groups

module _ {B S P : Type 0} (r : Reaction S P) (valid : Validity S) (carried : P → Type 0) (law : KeepsValid valid carried r) (modest : IsModest valid carried r)
    (plan : Plan B S P) (until : ℕ) (kept : Key → Bool) (in_time : until ≤ LatestTime) (fits : Fits valid carried plan) (own : ℕ → Bool) where
  abbrev spent_all : ℕ → ℕ → ℕ
  spent_all n = λ k. length (share (machine_of {B = B} r plan.mappings) until kept (opening plan) (λ d. nat_eq 0 0) n)

  -- what an event sends goes on channels on which its entity writes
  Sends : States B S P → Event P → Type 0
  Sends x e = (en : Entity B S P) → slice_get x.entities e.entity ≡ Some en → (s : Sent P) → Among s (sent_by r plan.mappings e en) → IsWriterOn plan e.entity s.channel

  sends : (n : ℕ) (e : Event P) → run_event r plan until kept n ≡ Some e → Sends (world_after r plan until kept n).state e
  unfolding Sends
  sends n e h en at s a =
      let p = placed r valid carried law modest plan until in_time fits kept n e h in
      (fine_sent r valid carried law modest plan fits.wired (spent_all n) (world_after r plan until kept n).state e [] en at p.due p.healthy s a).writer

  moved : (x y : States B S P) (e : Event P) (o : Option (Entity B S P)) → slice_get x.entities e.entity ≡ o → slice_get y.entities e.entity ≡ o → IsSameGroup plan own x y →
      IsSameGroup plan own (acts_at r plan.mappings x e o) (acts_at r plan.mappings y e o)
  moved x y e None p q same = same
  moved x y e (Some en) p q same =
      let new = entity_after (delivered_to r e en) en in
      let ss = sent_by r plan.mappings e en in
      record {
        entities = λ k own_k. elim (test_cases (nat_eq e.entity k)) [
          | inl t ↦ let here : e.entity ≡ k = eqb-true e.entity k t in
              subst (λ j. slice_get (slice_set x.entities e.entity new) j ≡ slice_get (slice_set y.entities e.entity new) j) here
              (get_set_own x.entities e.entity new (within_of x.entities e.entity en p) ∙ sym (get_set_own y.entities e.entity new (within_of y.entities e.entity en q)))
          | inr f ↦
              get_set_other x.entities e.entity k new (different e.entity k f) ∙ (same.entities k own_k ∙ sym (get_set_other y.entities e.entity k new (different e.entity k f)))
        ];
        counts = λ k c own_k w. counted_is x.counts ss c ∙ (ap (λ n. n + count_by (is_on c) ss) (same.counts k c own_k w) ∙ sym (counted_is y.counts ss c));
      }

  stayed : (x : States B S P) (e : Event P) (o : Option (Entity B S P)) → slice_get x.entities e.entity ≡ o → Sends x e → own e.entity ≡ false →
      IsSameGroup plan own x (acts_at r plan.mappings x e o)
  unfolding Sends
  stayed x e None p fine other = record { entities = λ k own_k. refl; counts = λ k c own_k w. refl }
  stayed x e (Some en) p fine other =
      let new = entity_after (delivered_to r e en) en in
      let ss = sent_by r plan.mappings e en in
      let apart : (k : ℕ) → own k ≡ true → e.entity ≡ k → ⊥ = λ k own_k same. (let no : own k ≡ false = subst (λ j. own j ≡ false) same other in let both : true ≡ false = sym own_k ∙ no in cc) in
      record {
        entities = λ k own_k. sym (get_set_other x.entities e.entity k new (apart k own_k));
        counts = λ k c own_k w.
            let none = none_sent c ss (λ s a on. apart k own_k (one_writer plan fits.wired e.entity k c (subst (λ d. IsWriterOn plan e.entity d) on (fine en p s a)) w)) in
            let sum = counted_is x.counts ss c in omega arith;
      }

  wrote : (x y : States B S P) (e : Event P) (o : Option (Entity B S P)) → slice_get x.entities e.entity ≡ o → Sends x e → own e.entity ≡ true → IsSameGroup plan own x y →
      writes_at r plan.mappings x e o ≡ writes_at r plan.mappings y e o
  unfolding Sends
  wrote x y e None p fine own_e same = refl
  wrote x y e (Some en) p fine own_e same =
      numbered_same e.key x.counts y.counts (sent_by r plan.mappings e en) (λ s a. same.counts e.entity s.channel own_e (fine en p s a))

  local : IsLocal (machine_of {B = B} r plan.mappings) (is_own own) Sends (IsSameGroup plan own)
  unfolding machine_of
  local = record {
    itself = λ x. record { entities = λ k own_k. refl; counts = λ k c own_k w. refl };
    back = λ x y s. record { entities = λ k own_k. sym (s.entities k own_k); counts = λ k c own_k w. sym (s.counts k c own_k w) };
    trans = λ x y z s t. record { entities = λ k own_k. s.entities k own_k ∙ t.entities k own_k; counts = λ k c own_k w. s.counts k c own_k w ∙ t.counts k c own_k w };
    moves = λ x y e f own_e s.
        subst (λ o. IsSameGroup plan own (acts_at r plan.mappings x e (slice_get x.entities e.entity)) (acts_at r plan.mappings y e o)) (s.entities e.entity own_e)
        (moved x y e (slice_get x.entities e.entity) refl (sym (s.entities e.entity own_e)) s);
    writes = λ x y e f own_e s.
        subst (λ o. writes_at r plan.mappings x e (slice_get x.entities e.entity) ≡ writes_at r plan.mappings y e o) (s.entities e.entity own_e)
        (wrote x y e (slice_get x.entities e.entity) refl f own_e s);
    stays = λ x e f other. stayed x e (slice_get x.entities e.entity) refl f other;
  }

  -- after n events the group is as its own events among them, one after another, make it
  pub group_is_own : (n : ℕ) → IsSameGroup plan own (world_after r plan until kept n).state
      (acted (machine_of r plan.mappings) (opening plan).state (share (machine_of {B = B} r plan.mappings) until kept (opening plan) (is_own own) n))
  group_is_own n = own_state (machine_of {B = B} r plan.mappings) until kept (opening plan) (is_own own) Sends (IsSameGroup plan own) local sends n
