-- Mappings by their ends and delays: inside a timeline, appointed or windowed.
use Rattle.std.specs.Prelude.{ℕ, min, Bool, not, ◌&&◌, nat_eq, nat_lt, if◌then◌else◌, List, map, Option, Some, None}
use Rattle.std.specs.List.{filter, fold}
use Rattle.ssf_model.specs.declared.plan.Mapping.{Mapping}
use Rattle.ssf_model.specs.Truth.{lesser}
use Rattle.alignment.specs.declared.mappings.Class.{Class}
use Rattle.alignment.specs.declared.mappings.Class.TheVariants.{Inside, Appointed, Windowed}
use Rattle.alignment.specs.Alignment.{line_of}

-- the two ends of a mapping lie on different timelines
abbrev pub is_cross : List ℕ → Mapping → Bool
is_cross lines m = not (nat_eq (line_of lines m.from) (line_of lines m.to))

-- a cross mapping with a delay below the threshold, in ticks, and one with another delay
abbrev pub is_appointed : List ℕ → ℕ → Mapping → Bool
is_appointed lines threshold m = is_cross lines m && nat_lt m.delay threshold

abbrev pub is_windowed : List ℕ → ℕ → Mapping → Bool
is_windowed lines threshold m = is_cross lines m && not (nat_lt m.delay threshold)

abbrev pub class_of : List ℕ → ℕ → Mapping → Class
class_of lines threshold m = if is_appointed lines threshold m then Appointed else (if is_windowed lines threshold m then Windowed else Inside)

-- the least delay of the windowed mappings, where there is one
abbrev pub least_windowed : List ℕ → ℕ → List Mapping → Option ℕ
least_windowed lines threshold mappings = fold lesser None (map (λ m. m.delay) (filter (is_windowed lines threshold) mappings))

-- what is known of a plan's mappings: the class of each, and the least delay of the windowed ones
pub record Classified : Type 0 where
  pub classes : List Class
  pub least_windowed : Option ℕ

abbrev pub classified : List ℕ → ℕ → List Mapping → Classified
classified lines threshold mappings = record {
  classes = map (class_of lines threshold) mappings;
  least_windowed = least_windowed lines threshold mappings;
}
