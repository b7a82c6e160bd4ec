-- The channels between the timelines of a plan.
use Rattle.std.specs.Prelude.{ℕ, Bool, false, cond, not, ◌&&◌, nat_eq, nat_lt, List, [], ◌∷◌, length, Option, None}
use Rattle.ssf_model.specs.declared.plan.Mapping.{Mapping}
use Rattle.ssf_model.specs.declared.plan.Plan.{Plan}
use Rattle.ssf_model.specs.Scene.{Net}
use Rattle.ssf_model.specs.Truth.{lesser}

-- the two ends of a mapping are on two timelines
abbrev pub crosses : (ℕ → ℕ) → Mapping → Bool
crosses line m = not (nat_eq (line m.from) (line m.to))

-- such a mapping is an appointed one where its delay, in ticks, is below the threshold, and else a windowed one
abbrev pub is_appointed : (ℕ → ℕ) → ℕ → Mapping → Bool
is_appointed line threshold m = crosses line m && nat_lt m.delay threshold

abbrev pub is_windowed : (ℕ → ℕ) → ℕ → Mapping → Bool
is_windowed line threshold m = crosses line m && not (nat_lt m.delay threshold)

-- what the mapping on channel c tells, and `none` where there is no such mapping
abbrev pub at_mapping : {T : Type 0} → List Mapping → ℕ → T → (Mapping → T) → T
at_mapping [] c none tell = none
at_mapping (m ∷ ms) c none tell = cond (nat_eq m.channel c) (tell m) (at_mapping ms c none tell)

-- the least delay of the windowed mappings
abbrev pub least_windowed : (ℕ → ℕ) → ℕ → List Mapping → Option ℕ
least_windowed line threshold [] = None
least_windowed line threshold (m ∷ ms) = cond (is_windowed line threshold m) (lesser (least_windowed line threshold ms) m.delay) (least_windowed line threshold ms)

-- the channels of a plan whose entities stand on so many timelines
abbrev pub net_of : {B S P : Type 0} → Plan B S P → (ℕ → ℕ) → ℕ → ℕ → Net
net_of plan line timelines threshold = record {
  timelines = timelines;
  channels = length plan.counts;
  cross = λ c. at_mapping plan.mappings c false (crosses line);
  appointed = λ c. at_mapping plan.mappings c false (is_appointed line threshold);
  sender = λ c. at_mapping plan.mappings c 0 (λ m. line m.from);
  receiver = λ c. at_mapping plan.mappings c 0 (λ m. line m.to);
  delay = λ c. at_mapping plan.mappings c 0 (λ m. m.delay);
  lookahead = least_windowed line threshold plan.mappings;
}
