-- One route more to choose from.
use Rattle.std.proofs.Common.{◌≡◌, ℕ, ◌+◌, ◌<◌, ◌≤◌, List, Option, Some, None, inl, inr, subst, sym, arith}
use Rattle.std.proofs.lemmas.Bool.{cases_lt}
use Rattle.spf_routes.specs.declared.graph.Route.{Route}
use Rattle.spf_routes.specs.Best.{route_at, HoldsAt, IsBest, IsChoice}

module _ (routes : List Route) (address place : ℕ) where
  -- a route that does not hold the address changes nothing
  pub passed : (choice : Option ℕ) → IsChoice routes address place choice → (HoldsAt routes address place → ⊥) → IsChoice routes address (place + 1) choice
  passed None h other = λ k lt holds. elim (cases_lt k place) [
    | inl low ↦ h k low holds
    | inr high ↦ let same : k ≡ place = omega arith in other (subst (HoldsAt routes address) same holds)
  ]
  passed (Some best) h other = record {
    there = omega (arith, h.there);
    holds = h.holds;
    longest = λ k lt holds. elim (cases_lt k place) [
      | inl low ↦ h.longest k low holds
      | inr high ↦ let same : k ≡ place = omega arith in absurd (other (subst (HoldsAt routes address) same holds))
    ];
    first = h.first;
  }

  pub taken_first : IsChoice routes address place None → HoldsAt routes address place → IsBest routes address (place + 1) place
  taken_first h holds = record {
    there = omega arith;
    holds = holds;
    longest = λ k lt held. elim (cases_lt k place) [
      | inl low ↦ absurd (h k low held)
      | inr high ↦ let same : k ≡ place = omega arith in subst (λ j. (route_at routes j).block.bits ≤ (route_at routes place).block.bits) (sym same) (omega arith)
    ];
    first = λ k lt held. absurd (h k lt held);
  }

  pub taken_longer : (old : ℕ) → IsBest routes address place old → HoldsAt routes address place → (route_at routes old).block.bits < (route_at routes place).block.bits → IsBest routes address (place + 1) place
  taken_longer old h holds longer = record {
    there = omega arith;
    holds = holds;
    longest = λ k lt held. elim (cases_lt k place) [
      | inl low ↦ omega (arith, h.longest k low held)
      | inr high ↦ let same : k ≡ place = omega arith in subst (λ j. (route_at routes j).block.bits ≤ (route_at routes place).block.bits) (sym same) (omega arith)
    ];
    first = λ k lt held. omega (arith, h.longest k lt held);
  }

  pub kept_longer : (old : ℕ) → IsBest routes address place old → (route_at routes place).block.bits ≤ (route_at routes old).block.bits → IsBest routes address (place + 1) old
  kept_longer old h shorter = record {
    there = omega (arith, h.there);
    holds = h.holds;
    longest = λ k lt held. elim (cases_lt k place) [
      | inl low ↦ h.longest k low held
      | inr high ↦ let same : k ≡ place = omega arith in subst (λ j. (route_at routes j).block.bits ≤ (route_at routes old).block.bits) (sym same) shorter
    ];
    first = h.first;
  }
