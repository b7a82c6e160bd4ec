-- The machine of a plan meets what the laws of machines ask.
use Rattle.std.proofs.Common.{◌≡◌, ℕ, ◌<◌, ◌≤◌, List, [], ◌∷◌, sym, ap, ◌∙◌, subst, inl, inr, arith, Option, Some, None, slice_get}
use Rattle.event_order.specs.declared.key.Key.{Key}
use Rattle.event_order.specs.Order.{IsBefore}
use Rattle.event_order.specs.Pending.{Among, IsApart}
use Rattle.event_order.proofs.Order.{child_after}
use Rattle.event_order.specs.Laws.{IsLawful, IsOpening, HasRounds}
use Rattle.ssf_model.specs.declared.event.Event.{Event}
use Rattle.ssf_model.specs.declared.entity.Entity.{Entity}
use Rattle.ssf_model.specs.declared.plan.Mapping.{Mapping}
use Rattle.ssf_model.specs.declared.plan.Plan.{Plan}
use Rattle.ssf_model.specs.Reaction.{Reaction}
use Rattle.ssf_model.specs.Channels.{Sent, sent_by, numbered, raised, counted}
use Rattle.ssf_model.specs.Run.{States, acts_at, writes_at, machine_of, opening, counts_of}
use Rattle.run_laws.specs.Openings.{OpensInOrder}
use Rattle.ssf_model.proofs.Lists.{each_among}
use Rattle.ssf_model.proofs.Counts.{raised_same, counted_grows, numbered_is, writes_rounded}

numbered_apart : {P : Type 0} (key : Key) (counts : ℕ → ℕ) (ss : List (Sent P)) → IsApart (λ (e : Event P). e.key) (numbered key counts ss)
numbered_apart key counts [] = tt
numbered_apart key counts (s ∷ ss) = (
  (λ y a e.
      let n = numbered_is key (raised counts s.channel) ss y a in
      let q = e ∙ n.key_is in
      let c : s.channel ≡ n.sent.channel = ap (λ (k : Key). k.channel) q in
      let m : counts s.channel ≡ n.number = ap (λ (k : Key). k.number) q in
      let l : raised counts s.channel s.channel ≤ n.number = subst (λ j. raised counts s.channel j ≤ n.number) (sym c) n.low in
      omega (arith, raised_same s.channel counts, l, m)),
  numbered_apart key (raised counts s.channel) ss,
)

module _ {B S P : Type 0} (r : Reaction S P) (ms : List Mapping) where
  -- the key was given out: its number is below its channel's count
  unfoldable pub known : States B S P → Key → Type 0
  known x k = k.number < x.counts k.channel

  writes_rise : (x : States B S P) (e b : Event P) (o : Option (Entity B S P)) → Among b (writes_at r ms x e o) → IsBefore e.key b.key
  writes_rise x e b None a = absurd a
  writes_rise x e b (Some entity) a = let n = numbered_is e.key x.counts (sent_by r ms e entity) b a in
      subst (λ (k : Key). IsBefore e.key k) (sym n.key_is) (child_after e.key n.sent.delay n.sent.priority n.sent.channel n.number)

  writes_apart : (x : States B S P) (e : Event P) (o : Option (Entity B S P)) → IsApart (λ (d : Event P). d.key) (writes_at r ms x e o)
  writes_apart x e None = tt
  writes_apart x e (Some entity) = numbered_apart e.key x.counts (sent_by r ms e entity)

  writes_fresh : (x : States B S P) (e b : Event P) (o : Option (Entity B S P)) → Among b (writes_at r ms x e o) → known x b.key → ⊥
  unfolding known
  writes_fresh x e b None a k = a
  writes_fresh x e b (Some entity) a k = let n = numbered_is e.key x.counts (sent_by r ms e entity) b a in
      let k2 : n.number < x.counts n.sent.channel = subst (λ (q : Key). q.number < x.counts q.channel) n.key_is k in omega (arith, n.low, k2)

  writes_learnt : (x : States B S P) (e b : Event P) (o : Option (Entity B S P)) → Among b (writes_at r ms x e o) → known (acts_at r ms x e o) b.key
  unfolding known
  writes_learnt x e b None a = absurd a
  writes_learnt x e b (Some entity) a = let n = numbered_is e.key x.counts (sent_by r ms e entity) b a in
      subst (λ (q : Key). q.number < counted x.counts (sent_by r ms e entity) q.channel) (sym n.key_is) n.high

  known_kept : (x : States B S P) (e : Event P) (k : Key) (o : Option (Entity B S P)) → known x k → known (acts_at r ms x e o) k
  unfolding known
  known_kept x e k None h = h
  known_kept x e k (Some entity) h = omega (arith, h, counted_grows x.counts (sent_by r ms e entity) k.channel)

  pub lawful : IsLawful (machine_of {B = B} r ms) known
  unfolding machine_of
  lawful = record {
    rises = λ x e b a. writes_rise x e b (slice_get x.entities e.entity) a;
    apart = λ x e. writes_apart x e (slice_get x.entities e.entity);
    fresh = λ x e b a k. writes_fresh x e b (slice_get x.entities e.entity) a k;
    learns = λ x e b a. writes_learnt x e b (slice_get x.entities e.entity) a;
    keeps = λ x e k h. known_kept x e k (slice_get x.entities e.entity) h;
  }

  -- every event may be executed in every state
  abbrev pub fine : States B S P → Event P → Type 0
  fine x e = Unit {0}

  pub has_rounds : HasRounds (machine_of {B = B} r ms) fine (λ e d. Unit {0})
  unfolding machine_of
  has_rounds = record {
    parented = λ x e b f a. elim (writes_rounded r ms x e b (slice_get x.entities e.entity) a) [
      | inl later ↦ inl later
      | inr next ↦ inr (next.0, next.1, tt)
    ];
  }

module _ {B S P : Type 0} (r : Reaction S P) (plan : Plan B S P) (opens : OpensInOrder plan) where
  pub opened : IsOpening (machine_of {B = B} r plan.mappings) (known r plan.mappings) (opening plan)
  unfolding machine_of known
  opened = record {
    risen = opens.rising;
    told = λ d a. each_among (λ (e : Event P). e.key.number < counts_of plan.counts e.key.channel) plan.events d opens.numbers a;
  }

  pub rounds_opened : (d : Event P) → Among d (opening plan).pending → ((machine_of {B = B} r plan.mappings).key d).round ≡ 0
  unfolding machine_of
  rounds_opened d a = each_among (λ (e : Event P). e.key.round ≡ 0) plan.events d opens.rounds a
