-- One link more in the table.
use Rattle.std.proofs.Common.{◌≡◌, ℕ, ◌+◌, ◌<◌, ◌⊎◌, List, [], ◌∷◌, ◌++◌, length, get_or, slice_get, Option, Some, None, inl, inr, refl, sym, subst, arith}
use Rattle.std.specs.Prelude.{Contains}
use Rattle.std.proofs.lemmas.Bool.{cases_lt}
use Rattle.std.proofs.lemmas.List.{get_or_append_left, get_or_push, length_push}
use Rattle.std.proofs.lemmas.List.Elements.{Contains-append_left, Contains-push}
use Rattle.ip_blocks.specs.declared.block.Block.{Block}
use Rattle.spf_routes.specs.declared.graph.Route.{Route}
use Rattle.spf_routes.specs.declared.search.Label.{Label}
use Rattle.spf_routes.specs.Best.{no_route}
use Rattle.spf_routes.specs.Walks.{label_of}
use Rattle.spf_routes.specs.Paths.{best_at}
use Rattle.spf_routes.specs.Arms.{IsLesser, AreRoutes}

-- what stands in a list after a push: what stood there, or at the end the new
push_cases : {X : Type 0} (xs : List X) (x d : X) (k : ℕ) → k < length (xs ++ x ∷ []) → ((k < length xs) × (get_or (xs ++ x ∷ []) k d ≡ get_or xs k d)) ⊎ ((k ≡ length xs) × (get_or (xs ++ x ∷ []) k d ≡ x))
push_cases xs x d k lt = elim (cases_lt k (length xs)) [
  | inl low ↦ inl (low, get_or_append_left xs (x ∷ []) d k low)
  | inr high ↦ let end : k ≡ length xs = omega (arith, length_push xs x) in inr (end, get_or_push xs x d k (sym end))
]

pub first_rows : (blocks : List Block) (direct best : List (Option Label)) → AreRoutes blocks direct best 0 [] []
first_rows blocks direct best = record {
  in_order = λ k lt. absurd (omega arith);
  as_many = refl;
  there = λ k lt. absurd (omega arith);
  lesser = λ k lt. absurd (omega arith);
  block = λ k lt. absurd (omega arith);
  all = λ link lt. absurd (omega arith);
}

module _ (blocks : List Block) (direct best : List (Option Label)) (link : ℕ) (routes : List Route) (links : List ℕ) (h : AreRoutes blocks direct best link routes links) where
  same_link : (other : ℕ) → other < link + 1 → (other < link) ⊎ (link ≡ other)
  same_link other lt = elim (cases_lt other link) [ inl low ↦ inl low | inr high ↦ inr (omega arith) ]

  -- a link without a label
  pub rows_skip : IsLesser (best_at direct link) (best_at best link) None → AreRoutes blocks direct best (link + 1) routes links
  rows_skip none = record {
    in_order = h.in_order;
    as_many = h.as_many;
    there = λ k lt. omega (arith, h.there k lt);
    lesser = h.lesser;
    block = h.block;
    all = λ other lt. elim (same_link other lt) [
      | inl low ↦ h.all other low
      | inr same ↦ inl (subst (λ n. IsLesser (best_at direct n) (best_at best n) None) same none)
    ];
  }

  -- a link with a label
  pub rows_more : (route : Route) → IsLesser (best_at direct link) (best_at best link) (Some (label_of route)) → slice_get blocks link ≡ Some route.block → AreRoutes blocks direct best (link + 1) (routes ++ route ∷ []) (links ++ link ∷ [])
  rows_more route lesser block = record {
    in_order = λ k lt. elim (push_cases links link 0 (k + 1) lt) [
      | inl next ↦ omega (arith, next.1, get_or_append_left links (link ∷ []) 0 k (omega arith), h.in_order k next.0)
      | inr end ↦ omega (arith, end.1, get_or_append_left links (link ∷ []) 0 k (omega arith), h.there k (omega arith))
    ];
    as_many = omega (arith, length_push links link, length_push routes route, h.as_many);
    there = λ k lt. elim (push_cases links link 0 k lt) [
      | inl old ↦ omega (arith, old.1, h.there k old.0)
      | inr end ↦ omega (arith, end.1)
    ];
    lesser = λ k lt. elim (push_cases routes route no_route k lt) [
      | inl old ↦ rw (old.1, get_or_append_left links (link ∷ []) 0 k (omega (arith, h.as_many))) (h.lesser k old.0)
      | inr end ↦ rw (end.1, get_or_push links link 0 k (omega (arith, h.as_many))) lesser
    ];
    block = λ k lt. elim (push_cases routes route no_route k lt) [
      | inl old ↦ rw (old.1, get_or_append_left links (link ∷ []) 0 k (omega (arith, h.as_many))) (h.block k old.0)
      | inr end ↦ rw (end.1, get_or_push links link 0 k (omega (arith, h.as_many))) block
    ];
    all = λ other lt. elim (same_link other lt) [
      | inl low ↦ elim (h.all other low) [
        | inl none ↦ inl none
        | inr found ↦ inr (Contains-append_left links (link ∷ []) other found)
      ]
      | inr same ↦ inr (subst (Contains (links ++ link ∷ [])) same (Contains-push links link))
    ];
  }
