-- Ranges in order of their beginnings.
use Rattle.std.specs.Prelude.{ℕ, ◌≤◌, List, [], ◌∷◌}
use Rattle.tcp_rules.specs.declared.records.Range.{Range}

-- each begins where the one before it does, or later, and the first at least here
abbrev pub RiseFrom : ℕ → List Range → Type 0
RiseFrom least [] = Unit {0}
RiseFrom least (r ∷ rs) = (least ≤ r.from) × RiseFrom r.from rs

abbrev pub IsRising : List Range → Type 0
IsRising rs = RiseFrom 0 rs
