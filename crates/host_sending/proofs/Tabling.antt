-- The last period that has begun, and the tables of the periods.
use Rattle.std.proofs.Common.{◌≡◌, ◌∙◌, ℕ, ◌+◌, ◌<◌, ◌≤◌, nat_le, if◌then◌else◌, List, [], ◌∷◌, ◌++◌, length, drop, Option, None, inl, inr, refl, sym, ap, subst, arith, add-one, drop-cons}
use Rattle.std.specs.Prelude.{IfSome}
use Rattle.std.proofs.lemmas.Bool.{cases_lt}
use Rattle.std.proofs.lemmas.List.{at_drop_all, get_or_append_left, length-append}
use Rattle.std.proofs.Math.Seq.{get_or-append_seam}
use Rattle.spf_routes.specs.declared.graph.Route.{Route}
use Rattle.spf_routes.specs.declared.graph.Period.{Period}
use Rattle.route_table.specs.Tables.{KeptPlaces, IsTableOf}
use Rattle.host_rules.specs.Sending.{routes_among}
use Rattle.host_sending.specs.Sites.{period_at, routes_of, table_at, AreTables}

-- the last period of the first ones that has begun is this one
pub record IsLastSoFar (periods : List Period) (now place : ℕ) (last : Option ℕ) : Type 0 where
  pub routes : routes_among [] periods now ≡ routes_among (routes_of periods last) (drop place periods) now
  pub within : IfSome last (λ found. found < length periods)

module _ (periods : List Period) (now : ℕ) where
  pub begin_with : IsLastSoFar periods now 0 None
  begin_with = record { routes = refl; within = tt }

  next_period : (place : ℕ) → place < length periods → drop place periods ≡ period_at periods place ∷ drop (place + 1) periods
  next_period place less = let d = drop-cons periods place (record { from = 0; routes = [] }) less in rw (add-one, d) refl

  pub go_on : (place : ℕ) (last result : Option ℕ) → IsLastSoFar periods now place last → place < length periods
      → routes_of periods result ≡ (if nat_le (period_at periods place).from now then (period_at periods place).routes else routes_of periods last)
      → IfSome result (λ found. found < length periods) → IsLastSoFar periods now (place + 1) result
  go_on place last result is less routes within = record {
    routes = is.routes ∙ ap (λ ps. routes_among (routes_of periods last) ps now) (next_period place less) ∙ ap (λ (rs : List Route). routes_among rs (drop (place + 1) periods) now) (sym routes);
    within = within;
  }

  pub ends_with : (place : ℕ) (last : Option ℕ) → IsLastSoFar periods now place last → length periods ≤ place → routes_of periods last ≡ routes_among [] periods now
  ends_with place last is past = sym (is.routes ∙ at_drop_all (λ (ps : List Period). routes_among (routes_of periods last) ps now) periods place past)

-- a table more
pub one_table_more : (periods : List Period) (count : ℕ) (tables : List KeptPlaces) (table : KeptPlaces) → AreTables periods count tables → IsTableOf (period_at periods count).routes table
    → AreTables periods (count + 1) (tables ++ table ∷ [])
one_table_more periods count tables table are is = record {
  as_many = length-append tables (table ∷ []) ∙ ap (λ (n : ℕ). n + 1) are.as_many;
  each = λ k less. elim (cases_lt k count) [
    | inl low ↦ subst (IsTableOf (period_at periods k).routes) (sym (get_or_append_left tables (table ∷ []) (record { bounds = []; places = [] }) k (omega (arith, low, are.as_many)))) (are.each k low)
    | inr high ↦
        let same : k ≡ count = omega arith in
        let last : table_at (tables ++ table ∷ []) count ≡ table = subst (λ (n : ℕ). table_at (tables ++ table ∷ []) n ≡ table) are.as_many (get_or-append_seam tables table [] (record { bounds = []; places = [] })) in
        rw same (subst (IsTableOf (period_at periods count).routes) (sym last) is)
  ];
}
