-- Lists of items for each timeline, while a plan is being shared out. No public clause cites this file.
use Rattle.std.specs.Prelude.{ℕ, true, false, List, [], ◌∷◌, map, slice_index_or}
use Rattle.std.specs.List.{range_with_len}
use Rattle.ssf_model.specs.declared.plan.Mapping.{Mapping}
use Rattle.alignment.specs.declared.mappings.Class.{Class}
use Rattle.alignment.specs.declared.mappings.Class.TheVariants.{Inside, Appointed, Windowed}
use Rattle.timeline_parts.specs.declared.part.Cross.{Cross}

-- the list of each of so many timelines
abbrev pub for_each : {T : Type 0} → ℕ → (ℕ → List T) → List (List T)
for_each count f = map f (range_with_len 0 count)

-- the list of one timeline
abbrev pub list_at : {T : Type 0} → List (List T) → ℕ → List T
list_at lists i = slice_index_or lists i []

-- a mapping of this class as one between two timelines, at this place, if it is one
abbrev pub crossing : Class → ℕ → Mapping → List Cross
crossing Inside place m = []
crossing Appointed place m = record { mapping = m; place = place; appointed = true } ∷ []
crossing Windowed place m = record { mapping = m; place = place; appointed = false } ∷ []
