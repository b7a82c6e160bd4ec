-- Each tick is in a period: the last that begins up to it.
use Rattle.std.proofs.Common.{◌≡◌, ℕ, ◌≤◌, ◌⊎◌, inl, inr, List, [], ◌∷◌, refl, subst, arith}
use Rattle.std.specs.List.{Contains}
use Rattle.std.proofs.lemmas.Bool.{cases_lt}
use Rattle.net_graph.specs.declared.rows.Network.{Network}
use Rattle.net_layout.specs.Periods.{periods_of, NoneBegins}
use Rattle.net_layout.proofs.Changes.{head_in, tail_in, none_in, in_cases, are_periods}

-- the greatest of a first tick and those of a list, up to some tick
record Latest (tick first : ℕ) (ts : List ℕ) : Type 0 where
  begin : ℕ
  one : (first ≡ begin) ⊎ Contains ts begin
  above : first ≤ begin
  within : begin ≤ tick
  last : (q : ℕ) → Contains ts q → q ≤ tick → q ≤ begin

-- the next tick of the list is past `tick` or below the first
skipped : (tick first t : ℕ) (ts : List ℕ) → (t ≤ tick → t ≤ first) → Latest tick first ts → Latest tick first (t ∷ ts)
skipped tick first t ts skip rest = record {
  begin = rest.begin;
  one = elim rest.one [ inl e ↦ inl e | inr h ↦ inr (tail_in t ts rest.begin h) ];
  above = rest.above;
  within = rest.within;
  last = λ q h most. elim (in_cases t ts q h) [
    | inl e ↦ omega (arith, rest.above, skip (omega arith))
    | inr h' ↦ rest.last q h' most
  ];
}

-- the next tick of the list stands in for the first
taken : (tick first t : ℕ) (ts : List ℕ) → first ≤ t → Latest tick t ts → Latest tick first (t ∷ ts)
taken tick first t ts le rest = record {
  begin = rest.begin;
  one = elim rest.one [
    | inl e ↦ inr (subst (λ (x : ℕ). Contains (t ∷ ts) x) e (head_in t ts))
    | inr h ↦ inr (tail_in t ts rest.begin h)
  ];
  above = omega (arith, rest.above);
  within = rest.within;
  last = λ q h most. elim (in_cases t ts q h) [
    | inl e ↦ omega (arith, rest.above)
    | inr h' ↦ rest.last q h' most
  ];
}

latest : (tick first : ℕ) (ts : List ℕ) → first ≤ tick → Latest tick first ts
latest tick first [] le = record {
  begin = first;
  one = inl refl;
  above = omega arith;
  within = le;
  last = λ q h most. absurd (none_in q h);
}
latest tick first (t ∷ ts) le = elim (cases_lt tick t) [
  | inl past ↦ skipped tick first t ts (λ le'. omega arith) (latest tick first ts le)
  | inr up_to ↦ elim (cases_lt t first) [
    | inl below ↦ skipped tick first t ts (λ le'. omega arith) (latest tick first ts le)
    | inr above ↦ taken tick first t ts above (latest tick t ts up_to)
  ]
]

pub in_a_period : (network : Network) (tick : ℕ) → (begin : ℕ) × Contains (periods_of network) begin × (begin ≤ tick) × NoneBegins network begin tick
in_a_period network tick =
    let found = latest tick 0 (periods_of network) (omega arith) in
    let is = are_periods network in (
      found.begin,
      elim found.one [
        | inl e ↦ subst (λ (x : ℕ). Contains (periods_of network) x) e is.zero
        | inr h ↦ h
      ],
      found.within,
      λ q h more most. let up_to = found.last q h most in omega arith,
    )
