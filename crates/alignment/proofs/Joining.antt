-- Chains: joined entities are of one group, and each alignment has the same groups.
use Rattle.std.proofs.Common.{◌≡◌, subst, ℕ, ◌<◌, List, [], ◌∷◌, ◌++◌, refl, sym, ◌∙◌, ap, inl, inr, ◌⊎◌}
use Rattle.event_order.specs.Pending.{Among}
use Rattle.ssf_model.specs.declared.plan.Mapping.{Mapping}
use Rattle.alignment.specs.Alignment.{Ties, JoinsAtOnce, AreNeighbours, IsChain, AreJoined}

pub joined_self : (t : Ties) (a : ℕ) → AreJoined t a a
joined_self t a = ([], refl)

pub joined_neighbour : (t : Ties) (a b : ℕ) → AreNeighbours t a b → AreJoined t a b
joined_neighbour t a b n = (b ∷ [], (n, refl))

chain_then : (t : Ties) (a b c : ℕ) (xs ys : List ℕ) → IsChain t a xs b → IsChain t b ys c → IsChain t a (xs ++ ys) c
chain_then t a b c [] ys p q = subst (λ x. IsChain t x ys c) (sym p) q
chain_then t a b c (x ∷ xs) ys p q = (p.0, chain_then t x b c xs ys p.1 q)

pub joined_then : (t : Ties) (a b c : ℕ) → AreJoined t a b → AreJoined t b c → AreJoined t a c
joined_then t a b c p q = (p.0 ++ q.0, chain_then t a b c p.0 q.0 p.1 q.1)

turned_ends : (a b : ℕ) (m : Mapping) → ((m.from ≡ a) × (m.to ≡ b)) ⊎ ((m.from ≡ b) × (m.to ≡ a)) → ((m.from ≡ b) × (m.to ≡ a)) ⊎ ((m.from ≡ a) × (m.to ≡ b))
turned_ends a b m (inl e) = inr e
turned_ends a b m (inr e) = inl e

turned_tie : (t : Ties) (a b : ℕ) → (t.label a ≡ t.label b) ⊎ ((m : Mapping) × Among m t.mappings × JoinsAtOnce a b m) → (t.label b ≡ t.label a) ⊎ ((m : Mapping) × Among m t.mappings × JoinsAtOnce b a m)
turned_tie t a b (inl e) = inl (sym e)
turned_tie t a b (inr (m, among, joins)) = inr (m, among, record { delay = joins.delay; ends = turned_ends a b m joins.ends })

pub neighbour_turned : (t : Ties) (a b : ℕ) → AreNeighbours t a b → AreNeighbours t b a
neighbour_turned t a b n = record { one = n.other; other = n.one; tied = turned_tie t a b n.tied }

chain_turned : (t : Ties) (a b : ℕ) (xs : List ℕ) → IsChain t a xs b → AreJoined t b a
chain_turned t a b [] p = ([], sym p)
chain_turned t a b (x ∷ xs) p = joined_then t b x a (chain_turned t x b xs p.1) (joined_neighbour t x a (neighbour_turned t a x p.0))

pub joined_turned : (t : Ties) (a b : ℕ) → AreJoined t a b → AreJoined t b a
joined_turned t a b p = chain_turned t a b p.0 p.1

-- two entities with one label, and the ends of a mapping without delay
pub joined_label : (t : Ties) (a b : ℕ) → a < t.entities → b < t.entities → t.label a ≡ t.label b → AreJoined t a b
joined_label t a b i j e = joined_neighbour t a b (record { one = i; other = j; tied = inl e })

pub joined_mapping : (t : Ties) (m : Mapping) → Among m t.mappings → m.from < t.entities → m.to < t.entities → m.delay ≡ 0 → AreJoined t m.from m.to
joined_mapping t m among i j d = joined_neighbour t m.from m.to (record { one = i; other = j; tied = inr (m, among, record { delay = d; ends = inl (refl, refl) }) })

-- what is alike for all neighbours is so along a chain
pub chain_alike : (t : Ties) (f : ℕ → ℕ) → ((a b : ℕ) → AreNeighbours t a b → f a ≡ f b) → (a b : ℕ) (xs : List ℕ) → IsChain t a xs b → f a ≡ f b
chain_alike t f same a b [] p = ap f p
chain_alike t f same a b (x ∷ xs) p = same a x p.0 ∙ chain_alike t f same x b xs p.1

mapping_alike : (t : Ties) (f : ℕ → ℕ) → ((m : Mapping) → Among m t.mappings → m.delay ≡ 0 → f m.from ≡ f m.to) → (a b : ℕ) (m : Mapping) → Among m t.mappings → m.delay ≡ 0 → ((m.from ≡ a) × (m.to ≡ b)) ⊎ ((m.from ≡ b) × (m.to ≡ a)) → f a ≡ f b
mapping_alike t f same a b m among d (inl e) = ap f (sym e.0) ∙ (same m among d ∙ ap f e.1)
mapping_alike t f same a b m among d (inr e) = ap f (sym e.1) ∙ (sym (same m among d) ∙ ap f e.0)

tied_alike : (t : Ties) (f : ℕ → ℕ) → ((a b : ℕ) → a < t.entities → b < t.entities → t.label a ≡ t.label b → f a ≡ f b) → ((m : Mapping) → Among m t.mappings → m.delay ≡ 0 → f m.from ≡ f m.to)
    → (a b : ℕ) → a < t.entities → b < t.entities → (t.label a ≡ t.label b) ⊎ ((m : Mapping) × Among m t.mappings × JoinsAtOnce a b m) → f a ≡ f b
tied_alike t f labels ends a b i j (inl e) = labels a b i j e
tied_alike t f labels ends a b i j (inr (m, among, joins)) = mapping_alike t f ends a b m among joins.delay joins.ends

-- what is alike for one label and for the ends of each mapping without delay is so for joined entities
pub joined_alike : (t : Ties) (f : ℕ → ℕ) → ((a b : ℕ) → a < t.entities → b < t.entities → t.label a ≡ t.label b → f a ≡ f b) → ((m : Mapping) → Among m t.mappings → m.delay ≡ 0 → f m.from ≡ f m.to)
    → (a b : ℕ) → AreJoined t a b → f a ≡ f b
joined_alike t f labels ends a b p = chain_alike t f (λ x y n. tied_alike t f labels ends x y n.one n.other n.tied) a b p.0 p.1
