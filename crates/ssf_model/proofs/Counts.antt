-- How what is sent is numbered and counted.
use Rattle.std.proofs.Common.{◌≡◌, ◌⊎◌, ℕ, suc, ◌+◌, ◌<◌, ◌≤◌, cond, List, [], ◌∷◌, refl, ap, ◌∙◌, inl, inr, arith, count_by, Option, Some, None, eqb-true}
use Rattle.std.proofs.lemmas.Grind.{common_steps}
use Rattle.event_order.specs.declared.key.Key.{Key}
use Rattle.event_order.specs.Order.{child_of}
use Rattle.event_order.specs.Pending.{Among}
use Rattle.event_order.proofs.Order.{child_cases}
use Rattle.event_order.proofs.Pending.{test_cases}
use Rattle.ssf_model.specs.declared.event.Event.{Event}
use Rattle.ssf_model.specs.declared.entity.Entity.{Entity}
use Rattle.ssf_model.specs.declared.plan.Mapping.{Mapping}
use Rattle.ssf_model.specs.Reaction.{Reaction}
use Rattle.ssf_model.specs.Channels.{Sent, sent_by, is_on, raised, counted, numbered}
use Rattle.ssf_model.specs.Run.{States, writes_at}
use Rattle.ssf_model.proofs.Lists.{count_no}

pub raised_same : (c : ℕ) (counts : ℕ → ℕ) → raised counts c c ≡ counts c + 1
raised_same c counts = grind (arith, common_steps)

module _ {P : Type 0} where
  raised_at : (counts : ℕ → ℕ) (s : Sent P) (c : ℕ) → raised counts s.channel c ≡ counts c + cond (is_on c s) 1 0
  raised_at counts s c = grind (arith, common_steps)

  -- a count after these is the count before and how many of them are on that channel
  pub counted_is : (counts : ℕ → ℕ) (ss : List (Sent P)) (c : ℕ) → counted counts ss c ≡ counts c + count_by (is_on c) ss
  counted_is counts [] c = omega arith
  counted_is counts (s ∷ ss) c = counted_is (raised counts s.channel) ss c ∙ (let h = raised_at counts s c in grind (arith, common_steps))

  raised_grows : (counts : ℕ → ℕ) (s : Sent P) (c : ℕ) → counts c ≤ raised counts s.channel c
  raised_grows counts s c = omega (arith, raised_at counts s c)

  pub counted_grows : (counts : ℕ → ℕ) (ss : List (Sent P)) (c : ℕ) → counts c ≤ counted counts ss c
  counted_grows counts ss c = omega (arith, counted_is counts ss c)

  pub none_sent : (c : ℕ) (ss : List (Sent P)) → ((s : Sent P) → Among s ss → s.channel ≡ c → ⊥) → count_by (is_on c) ss ≡ 0
  none_sent c [] h = refl
  none_sent c (s ∷ ss) h = elim (test_cases (is_on c s)) [
    | inl t ↦ absurd (h s (inl refl) (eqb-true s.channel c t))
    | inr f ↦ count_no (is_on c) s ss f ∙ none_sent c ss (λ t a. h t (inr a))
  ]

  -- an event that is written is what was sent, as a child of its writer, numbered by its channel's count
  pub record IsNumbered (key : Key) (counts : ℕ → ℕ) (ss : List (Sent P)) (b : Event P) : Type 0 where
    pub sent : Sent P
    pub among : Among sent ss
    pub number : ℕ
    pub key_is : b.key ≡ child_of key sent.delay sent.priority sent.channel number
    pub entity_is : b.entity ≡ sent.entity
    pub kind_is : b.kind ≡ sent.kind
    pub low : counts sent.channel ≤ number
    pub high : number < counted counts ss sent.channel

  pub numbered_is : (key : Key) (counts : ℕ → ℕ) (ss : List (Sent P)) (b : Event P) → Among b (numbered key counts ss) → IsNumbered key counts ss b
  numbered_is key counts [] b a = absurd a
  numbered_is key counts (s ∷ ss) b (inl e) = record {
    sent = s;
    among = inl refl;
    number = counts s.channel;
    key_is = ap (λ (d : Event P). d.key) e;
    entity_is = ap (λ (d : Event P). d.entity) e;
    kind_is = ap (λ (d : Event P). d.kind) e;
    low = omega arith;
    high = omega (arith, raised_same s.channel counts, counted_grows (raised counts s.channel) ss s.channel);
  }
  numbered_is key counts (s ∷ ss) b (inr a) = let n = numbered_is key (raised counts s.channel) ss b a in record {
    sent = n.sent;
    among = inr n.among;
    number = n.number;
    key_is = n.key_is;
    entity_is = n.entity_is;
    kind_is = n.kind_is;
    low = omega (arith, raised_grows counts s n.sent.channel, n.low);
    high = n.high;
  }

  -- its number is one that its channel's count has passed
  pub numbered_told : (key : Key) (counts : ℕ → ℕ) (ss : List (Sent P)) (b : Event P) → Among b (numbered key counts ss) → b.key.number < counted counts ss b.key.channel
  numbered_told key counts ss b a = let n = numbered_is key counts ss b a in rw n.key_is n.high

module _ {B S P : Type 0} (r : Reaction S P) (ms : List Mapping) where
  -- what is written is in round 0 of a later time, or in the next round of the same time
  pub writes_rounded : (x : States B S P) (e b : Event P) (o : Option (Entity B S P)) → Among b (writes_at r ms x e o) →
      ((b.key.round ≡ 0) × (e.key.time < b.key.time)) ⊎ ((b.key.round ≡ suc e.key.round) × (b.key.time ≡ e.key.time))
  writes_rounded x e b None a = absurd a
  writes_rounded x e b (Some entity) a = let n = numbered_is e.key x.counts (sent_by r ms e entity) b a in
      rw n.key_is (child_cases e.key n.sent.delay n.sent.priority n.sent.channel n.number)
