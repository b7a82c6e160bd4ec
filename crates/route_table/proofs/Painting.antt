-- One route more is taken into account at each bound that its block holds.
use Rattle.std.proofs.Common.{◌≡◌, ◌∙◌, ℕ, ◌+◌, ◌<◌, ◌≤◌, List, length, get_or, set, Option, None, inl, inr, subst, sym, arith}
use Rattle.std.specs.List.Sorted.{IsStrictlyIncreasing}
use Rattle.std.proofs.lemmas.Bool.{cases_lt}
use Rattle.std.proofs.lemmas.List.{get_or-set_same, get_or-set_other, length-set}
use Rattle.spf_routes.specs.declared.graph.Route.{Route}
use Rattle.spf_routes.specs.Best.{route_at, HoldsAt, IsChoice}
use Rattle.spf_routes.proofs.Choices.{passed}
use Rattle.route_table.specs.Tables.{AreChosen}
use Rattle.route_table.proofs.Finding.{rises}

-- the route of this place is taken into account at the bounds before one
pub record IsPainted (routes : List Route) (bounds : List ℕ) (place at : ℕ) (best : List (Option ℕ)) : Type 0 where
  pub as_many : length best ≡ length bounds
  pub done : (k : ℕ) → k < at → k < length bounds → IsChoice routes (get_or bounds k 0) (place + 1) (get_or best k None)
  pub left : (k : ℕ) → at ≤ k → k < length bounds → IsChoice routes (get_or bounds k 0) place (get_or best k None)

module _ (routes : List Route) (bounds : List ℕ) (place : ℕ) where
  pub begins : (best : List (Option ℕ)) (first : ℕ) → AreChosen routes bounds place best → ((k : ℕ) → k < first → k < length bounds → get_or bounds k 0 < (route_at routes place).block.base) → IsPainted routes bounds place first best
  begins best first is below = record {
    as_many = is.as_many;
    done = λ k less within. passed routes (get_or bounds k 0) place (get_or best k None) (is.chosen k within) (λ h. omega (arith, h.0, below k less within));
    left = λ k more within. is.chosen k within;
  }

  pub one_more : (best : List (Option ℕ)) (at : ℕ) (one : Option ℕ) → IsPainted routes bounds place at best → at < length bounds → IsChoice routes (get_or bounds at 0) (place + 1) one → IsPainted routes bounds place (at + 1) (set best at one)
  one_more best at one is within new = record {
    as_many = length-set best at one ∙ is.as_many;
    done = λ k less in_range. elim (cases_lt k at) [
      | inl low ↦ subst (IsChoice routes (get_or bounds k 0) (place + 1)) (sym (get_or-set_other best at k one None (omega arith))) (is.done k low in_range)
      | inr high ↦ let same : k ≡ at = omega arith in
          rw same (subst (IsChoice routes (get_or bounds at 0) (place + 1)) (sym (get_or-set_same best at one None (omega (arith, is.as_many)))) new)
    ];
    left = λ k more in_range. subst (IsChoice routes (get_or bounds k 0) place) (sym (get_or-set_other best at k one None (omega arith))) (is.left k (omega arith) in_range);
  }

  -- at the bounds from this one on the route changes nothing
  pub stops : (best : List (Option ℕ)) (at : ℕ) → IsPainted routes bounds place at best → ((k : ℕ) → at ≤ k → k < length bounds → HoldsAt routes (get_or bounds k 0) place → ⊥) → AreChosen routes bounds (place + 1) best
  stops best at is none = record {
    as_many = is.as_many;
    chosen = λ k within. elim (cases_lt k at) [
      | inl low ↦ is.done k low within
      | inr high ↦ passed routes (get_or bounds k 0) place (get_or best k None) (is.left k high within) (none k high within)
    ];
  }

  -- a block that begins before a bound and does not hold it holds no later one
  pub none_later : IsStrictlyIncreasing bounds → (at : ℕ) → (route_at routes place).block.base ≤ get_or bounds at 0 → (HoldsAt routes (get_or bounds at 0) place → ⊥)
      → (k : ℕ) → at ≤ k → k < length bounds → HoldsAt routes (get_or bounds k 0) place → ⊥
  none_later rising at begun not k more within h = let rise = rises bounds rising at k more within in not (begun, omega (arith, rise, h.1))
