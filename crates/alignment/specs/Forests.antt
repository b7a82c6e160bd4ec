-- Groups of entities as a forest: the parent of each entity is a lesser one of its group, or itself where it is the least.
-- No public clause cites this file.
use Rattle.std.specs.Prelude.{ℕ, ◌≡◌, ◌<◌, ◌≤◌, List, length, slice_index}
use Rattle.event_order.specs.Pending.{Among}
use Rattle.ssf_model.specs.declared.plan.Mapping.{Mapping}
use Rattle.alignment.specs.Alignment.{Ties, AreJoined}

abbrev pub IsForest : List ℕ → Type 0
IsForest parents = (e : ℕ) → e < length parents → slice_index parents e ≤ e

-- what f gives to an entity it gives to its parent, and so to all of its group
abbrev pub IsAlike : (ℕ → ℕ) → List ℕ → Type 0
IsAlike f parents = (e : ℕ) → e < length parents → f (slice_index parents e) ≡ f e

-- a chain joins each entity to its parent
abbrev pub HasChains : Ties → List ℕ → Type 0
HasChains t parents = (e : ℕ) → e < length parents → AreJoined t e (slice_index parents e)

-- the groups stay, the least of each stays at its top, and b is of the group of a
pub record IsSmoothed (old new : List ℕ) (a b : ℕ) : Type 0 where
  pub count : length new ≡ length old
  pub tops : (e : ℕ) → slice_index old e ≡ e → slice_index new e ≡ e
  pub alike : (f : ℕ → ℕ) → IsAlike f new → IsAlike f old × (f b ≡ f a)
  pub chains : (t : Ties) → HasChains t old → HasChains t new × AreJoined t a b

-- the groups of a and b become one
pub record IsTied (old new : List ℕ) (a b : ℕ) : Type 0 where
  pub count : length new ≡ length old
  pub alike : (f : ℕ → ℕ) → IsAlike f new → IsAlike f old × (f a ≡ f b)
  pub chains : (t : Ties) → HasChains t old → AreJoined t a b → HasChains t new

-- each two entities with one label become one group
pub record AreLabelsTied (old new : List ℕ) (label : ℕ → ℕ) : Type 0 where
  pub count : length new ≡ length old
  pub alike : (f : ℕ → ℕ) → IsAlike f new → IsAlike f old × ((a b : ℕ) → a < length old → b < length old → label a ≡ label b → f a ≡ f b)
  pub chains : (t : Ties) → HasChains t old → t.entities ≡ length old → ((e : ℕ) → t.label e ≡ label e) → HasChains t new

-- the two ends of each mapping without delay become one group
pub record AreEndsTied (old new : List ℕ) (mappings : List Mapping) : Type 0 where
  pub count : length new ≡ length old
  pub alike : (f : ℕ → ℕ) → IsAlike f new → IsAlike f old × ((m : Mapping) → Among m mappings → m.delay ≡ 0 → f m.from ≡ f m.to)
  pub chains : (t : Ties) → HasChains t old → t.entities ≡ length old → ((m : Mapping) → Among m mappings → Among m t.mappings) → HasChains t new

-- timelines of the first entities: each has that of its parent, no two that are the least of their groups have one
-- timeline, and before each entity stands one of each timeline with a lesser number
pub record IsNumbered (parents lines : List ℕ) : Type 0 where
  pub alike : (e : ℕ) → e < length lines → slice_index lines (slice_index parents e) ≡ slice_index lines e
  pub apart : (a b : ℕ) → a < length lines → b < length lines → slice_index parents a ≡ a → slice_index parents b ≡ b → slice_index lines a ≡ slice_index lines b → a ≡ b
  pub numbered : (e i : ℕ) → e < length lines → i < slice_index lines e → (d : ℕ) × (d < e) × (slice_index lines d ≡ i)
