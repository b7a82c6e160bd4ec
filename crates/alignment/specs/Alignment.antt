-- Alignments: which entities of a plan share a timeline, and how timelines are numbered.
use Rattle.std.specs.Prelude.{ℕ, ◌≡◌, ◌*◌, ◌/◌, ◌+◌, ◌<◌, ◌⊎◌, ◌↔◌, max, List, [], ◌∷◌, length, slice_index}
use Rattle.event_order.specs.Pending.{Among}
use Rattle.ssf_model.specs.declared.plan.Mapping.{Mapping}
use Rattle.ssf_model.specs.declared.plan.Plan.{Plan}
use Rattle.alignment.specs.declared.labels.Mode.{Mode}
use Rattle.alignment.specs.declared.labels.Mode.TheVariants.{One, Host, Net, Count}

-- the label that a mode gives to entity e of so many: the same for all, its own, its innermost Net, or the number of its
-- part of `parts` parts
abbrev pub label_of : Mode → List ℕ → ℕ → ℕ → ℕ
label_of One nets entities e = 0
label_of Host nets entities e = e
label_of Net nets entities e = slice_index nets e
label_of (Count parts) nets entities e = e * parts / entities

-- what may tie entities: how many there are, their labels, and the mappings between them
pub record Ties : Type 0 where
  pub entities : ℕ
  pub label : ℕ → ℕ
  pub mappings : List Mapping

abbrev pub ties_of : {B S P : Type 0} → Plan B S P → List ℕ → Mode → Ties
ties_of plan nets mode = record {
  entities = length plan.entities;
  label = label_of mode nets (length plan.entities);
  mappings = plan.mappings;
}

-- the mapping leads without delay from one of two entities to the other
pub record JoinsAtOnce (a b : ℕ) (m : Mapping) : Type 0 where
  pub delay : m.delay ≡ 0
  pub ends : ((m.from ≡ a) × (m.to ≡ b)) ⊎ ((m.from ≡ b) × (m.to ≡ a))

-- two entities have the same label, or a mapping without delay between them
pub record AreNeighbours (t : Ties) (a b : ℕ) : Type 0 where
  pub one : a < t.entities
  pub other : b < t.entities
  pub tied : (t.label a ≡ t.label b) ⊎ ((m : Mapping) × Among m t.mappings × JoinsAtOnce a b m)

-- a chain leads from a over these entities to b, each two in a row being neighbours; its last entity is b itself
abbrev pub IsChain : Ties → ℕ → List ℕ → ℕ → Type 0
IsChain t a [] b = a ≡ b
IsChain t a (x ∷ xs) b = AreNeighbours t a x × IsChain t x xs b

-- a chain joins two entities
abbrev pub AreJoined : Ties → ℕ → ℕ → Type 0
AreJoined t a b = (chain : List ℕ) × IsChain t a chain b

-- the timeline of entity e, where `lines` gives that of each
abbrev pub line_of : List ℕ → ℕ → ℕ
line_of lines e = slice_index lines e

-- how many timelines there are: one more than the greatest number
abbrev pub timeline_count : List ℕ → ℕ
timeline_count [] = 0
timeline_count (i ∷ is) = max (i + 1) (timeline_count is)

-- the timelines of a plan's entities. Two entities share one exactly where a chain joins them. Timelines are numbered by
-- their least entities: before each entity stands one of each timeline with a lesser number
pub record IsAlignment {B S P : Type 0} (plan : Plan B S P) (nets : List ℕ) (mode : Mode) (lines : List ℕ) : Type 0 where
  pub entities : length lines ≡ length plan.entities
  pub shared : (a b : ℕ) → a < length lines → b < length lines → (line_of lines a ≡ line_of lines b) ↔ AreJoined (ties_of plan nets mode) a b
  pub numbered : (e i : ℕ) → e < length lines → i < line_of lines e → (d : ℕ) × (d < e) × (line_of lines d ≡ i)
