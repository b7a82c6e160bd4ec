-- Where outcomes agree, and where a text begins one.
use Rattle.std.specs.Prelude.{ℕ, ◌≡◌, ◌⊎◌, ◌++◌, List}
use Rattle.ssfnet_top.specs.declared.refusal.Refusal.TheVariants as refusal
use Rattle.ssfnet_top.specs.Outcome.{Due, refused}

-- both tell that a budget ends at this time, behind the same text: it may end there at two timelines
pub record EndTogether (due other : Due) : Type 0 where
  pub one : ℕ
  pub two : ℕ
  pub budget : ℕ
  pub below : ℕ
  pub text : List ℕ
  pub first : due ≡ refused (refusal.TimelineBudget one budget below) text
  pub second : other ≡ refused (refusal.TimelineBudget two budget below) text

-- they are the same, but for the timeline at which a budget ends
abbrev pub Agree : Due → Due → Type 0
Agree due other = (due ≡ other) ⊎ EndTogether due other

-- a text is the first part of another
abbrev pub Begins : List ℕ → List ℕ → Type 0
Begins text whole = (rest : List ℕ) × (text ++ rest ≡ whole)
