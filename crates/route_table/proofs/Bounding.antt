-- The bounds of one route more, and what sorting keeps of them.
use Rattle.std.proofs.Common.{◌≡◌, ℕ, ◌+◌, ◌^◌, ◌<◌, List, [], ◌∷◌, ◌++◌, inl, inr, refl, sym, subst, arith}
use Rattle.std.specs.List.{Contains}
use Rattle.std.proofs.lemmas.Bool.{cases_lt}
use Rattle.std.proofs.lemmas.List.Elements.{Contains-append_left, Contains-append_right}
use Rattle.ip_blocks.specs.Blocks.{block_end}
use Rattle.spf_routes.specs.declared.graph.Route.{Route}
use Rattle.spf_routes.specs.Best.{route_at}
use Rattle.route_table.specs.Tables.{HasBounds}

-- bounds that have all that others have
pub more_bounds : (routes : List Route) (count : ℕ) (xs ys : List ℕ) → ((x : ℕ) → Contains xs x → Contains ys x) → HasBounds routes count xs → HasBounds routes count ys
more_bounds routes count xs ys to has = record {
  least = to 0 has.least;
  begins = λ k less. to (route_at routes k).block.base (has.begins k less);
  ends = λ k less early. to (block_end (route_at routes k).block) (has.ends k less early);
}

pub pushed : (xs : List ℕ) (y : ℕ) → Contains (xs ++ y ∷ []) y
pushed xs y = Contains-append_right xs (y ∷ []) y (0, omega arith, refl)

pub still : (xs : List ℕ) (y x : ℕ) → Contains xs x → Contains (xs ++ y ∷ []) x
still xs y x has = Contains-append_left xs (y ∷ []) x has

-- bounds that have those of the next route too
pub one_more : (routes : List Route) (count : ℕ) (bounds : List ℕ) → HasBounds routes count bounds → Contains bounds (route_at routes count).block.base
    → (block_end (route_at routes count).block < 2 ^ 32 → Contains bounds (block_end (route_at routes count).block)) → HasBounds routes (count + 1) bounds
one_more routes count bounds has base end = record {
  least = has.least;
  begins = λ k less. elim (cases_lt k count) [
    | inl low ↦ has.begins k low
    | inr high ↦ let same : k ≡ count = omega arith in subst (λ n. Contains bounds (route_at routes n).block.base) (sym same) base
  ];
  ends = λ k less early. elim (cases_lt k count) [
    | inl low ↦ has.ends k low early
    | inr high ↦ let same : count ≡ k = omega arith in subst (λ n. block_end (route_at routes n).block < 2 ^ 32 → Contains bounds (block_end (route_at routes n).block)) same end early
  ];
}
