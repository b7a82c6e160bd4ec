-- The best route of an address is that of the last bound that is at most the address.
use Rattle.std.proofs.Common.{◌≡◌, ◌∙◌, ℕ, ◌-◌, ◌^◌, ◌<◌, ◌≤◌, nat_le, true, false, List, length, get_or, Option, Some, None, inl, inr, ap, arith}
use Rattle.std.specs.List.{Contains, prefix_len}
use Rattle.std.specs.List.Sorted.{IsStrictlyIncreasing}
use Rattle.std.proofs.lemmas.Bool.{cases_lt}
use Rattle.std.proofs.lemmas.Grind.{common_steps}
use Rattle.std.proofs.lemmas.List.Kept.{AllPairs-from_increasing}
use Rattle.std.proofs.lemmas.List.Sums.{prefix_len_passes, prefix_len_stops, prefix_len-le-length}
use Rattle.std.proofs.lemmas.Option.{slice_get-get_or, get_or_from_slice_get}
use Rattle.ip_blocks.specs.Blocks.{block_end}
use Rattle.spf_routes.specs.declared.graph.Route.{Route}
use Rattle.spf_routes.specs.Best.{route_at, HoldsAt, IsChoice}
use Rattle.ip_layer.specs.Forwarding.{best_route}
use Rattle.ip_layer.proofs.Best.{best_found}
use Rattle.route_table.specs.Tables.{IsTableOf, HasBounds, AreChosen}

pub rises : (xs : List ℕ) → IsStrictlyIncreasing xs → (i j : ℕ) → i ≤ j → j < length xs → get_or xs i 0 ≤ get_or xs j 0
rises xs rising i j le within =
    elim (cases_lt i j) [
      | inl less ↦ let more = AllPairs-from_increasing xs rising i j 0 less within in omega arith
      | inr not_less ↦ let e : i ≡ j = omega arith in rw e (omega arith)
    ]

at_zero : (xs : List ℕ) (k x : ℕ) → k < length xs → get_or xs k x ≡ x → get_or xs k 0 ≡ x
at_zero xs k x within at = get_or_from_slice_get xs k x 0 (slice_get-get_or xs k x within ∙ ap Some at)

is_le : (a b : ℕ) → nat_le a b ≡ true → a ≤ b
is_le a b h = grind (arith, common_steps)

is_more : (a b : ℕ) → nat_le a b ≡ false → b < a
is_more a b h = grind (arith, common_steps)

abbrev count_to : List ℕ → ℕ → ℕ
count_to bounds address = prefix_len (λ bound. nat_le bound address) bounds

module _ (bounds : List ℕ) (rising : IsStrictlyIncreasing bounds) (address : ℕ) where
  low : (k : ℕ) → k < count_to bounds address → get_or bounds k 0 ≤ address
  low k less = is_le (get_or bounds k 0) address (prefix_len_passes (λ bound. nat_le bound address) bounds k 0 less)

  high : (k : ℕ) → count_to bounds address ≤ k → k < length bounds → address < get_or bounds k 0
  high k more within =
      let first = is_more (get_or bounds (count_to bounds address) 0) address (prefix_len_stops (λ bound. nat_le bound address) bounds 0 (omega arith)) in
      let rise = rises bounds rising (count_to bounds address) k more within in
      omega (arith, first, rise)

  -- a bound that is at most the address is at most the last such bound
  pub bound_below : (x : ℕ) → Contains bounds x → x ≤ address → (0 < count_to bounds address) × (x ≤ get_or bounds (count_to bounds address - 1) 0)
  bound_below x (k, within, at) below =
      let is = at_zero bounds k x within at in
      let all = prefix_len-le-length (λ bound. nat_le bound address) bounds in
      elim (cases_lt k (count_to bounds address)) [
        | inl less ↦ let rise = rises bounds rising k (count_to bounds address - 1) (omega arith) (omega (arith, all)) in (omega arith, omega (arith, rise, is))
        | inr more ↦ let past = high k more within in absurd (omega (arith, past, is, below))
      ]

  -- a bound that is above the last such bound is above the address
  pub bound_above : (x : ℕ) → Contains bounds x → 0 < count_to bounds address → get_or bounds (count_to bounds address - 1) 0 < x → address < x
  bound_above x (k, within, at) some above =
      let is = at_zero bounds k x within at in
      let all = prefix_len-le-length (λ bound. nat_le bound address) bounds in
      elim (cases_lt k (count_to bounds address)) [
        | inl less ↦ let rise = rises bounds rising k (count_to bounds address - 1) (omega arith) (omega (arith, all)) in absurd (omega (arith, rise, is, above))
        | inr more ↦ let past = high k more within in omega (arith, past, is)
      ]

-- two addresses that the same blocks hold have the same choices
same_choice : (routes : List Route) (a b n : ℕ) (choice : Option ℕ) → ((k : ℕ) → k < n → HoldsAt routes a k → HoldsAt routes b k) → ((k : ℕ) → k < n → HoldsAt routes b k → HoldsAt routes a k)
    → IsChoice routes b n choice → IsChoice routes a n choice
same_choice routes a b n None to back is = λ k less h. is k less (to k less h)
same_choice routes a b n (Some best) to back is = record {
  there = is.there;
  holds = back best is.there is.holds;
  longest = λ k less h. is.longest k less (to k less h);
  first = λ k less h. is.first k less (to k (omega (arith, is.there)) h);
}

choice_is : (routes : List Route) (a : ℕ) (choice : Option ℕ) → IsChoice routes a (length routes) choice → choice ≡ best_route routes a
choice_is routes a None is = best_found routes a None tt is
choice_is routes a (Some place) is = best_found routes a (Some place) is tt

module _ (routes : List Route) (bounds : List ℕ) (rising : IsStrictlyIncreasing bounds) (has : HasBounds routes (length routes) bounds) (address : ℕ) (small : address < 2 ^ 32) where
  last : ℕ
  last = get_or bounds (count_to bounds address - 1) 0

  some_below : 0 < count_to bounds address
  some_below = let b = bound_below bounds rising address 0 has.least (omega arith) in b.0

  last_below : last ≤ address
  unfolding last
  last_below = low bounds rising address (count_to bounds address - 1) (omega (arith, some_below))

  holds_there : (k : ℕ) → k < length routes → HoldsAt routes address k → HoldsAt routes last k
  unfolding last
  holds_there k less h = let b = bound_below bounds rising address (route_at routes k).block.base (has.begins k less) h.0 in (b.1, omega (arith, last_below, h.1))

  ends_past : (k : ℕ) → k < length routes → last < block_end (route_at routes k).block → address < block_end (route_at routes k).block
  unfolding last
  ends_past k less within = elim (cases_lt (block_end (route_at routes k).block) (2 ^ 32)) [
    | inl early ↦ bound_above bounds rising address (block_end (route_at routes k).block) (has.ends k less early) some_below within
    | inr late ↦ omega (arith, late, small)
  ]

  holds_here : (k : ℕ) → k < length routes → HoldsAt routes last k → HoldsAt routes address k
  holds_here k less h = (omega (arith, h.0, last_below), ends_past k less h.1)

  pub kept_is : (places : List (Option ℕ)) → AreChosen routes bounds (length routes) places → get_or places (count_to bounds address - 1) None ≡ best_route routes address
  unfolding last
  kept_is places chosen =
      let all = prefix_len-le-length (λ bound. nat_le bound address) bounds in
      let some = some_below in
      let is = chosen.chosen (count_to bounds address - 1) (omega (arith, all, some)) in
      choice_is routes address (get_or places (count_to bounds address - 1) None) (same_choice routes address last (length routes) (get_or places (count_to bounds address - 1) None) holds_there holds_here is)

pub table_is : (routes : List Route) (bounds : List ℕ) (places : List (Option ℕ)) → IsStrictlyIncreasing bounds → HasBounds routes (length routes) bounds → AreChosen routes bounds (length routes) places
    → IsTableOf routes (record { bounds = bounds; places = places })
table_is routes bounds places rising has chosen address small = kept_is routes bounds rising has address small places chosen
