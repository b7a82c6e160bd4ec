use Rattle.std.proofs.Common.{◌≡◌, ◌∙◌, ◌-◌, ◌<◌, ℕ, leb, length, get_or, Some, None, rules, ap, sym, arith}
use Rattle.std.specs.List.{prefix_len}
use Rattle.std.specs.List.Sorted.{IsNonDecreasingBy}
use Rattle.std.proofs.lemmas.List.Sums.{prefix_len_is}
use Rattle.std.proofs.lemmas.List.Sorted.{IsPartitionPoint-from_clause, IsPartitionedBy-leb, IsNonDecreasingBy-from_default}
use Rattle.std.proofs.lemmas.Option.{slice_get-get_or, get_or_from_slice_get}
use Rattle.route_table.proofs.Finding.{rises}
use Rattle.route_table.proofs.table.RouteTable.best.Goals as goal

pub returns : goal.returns
returns c =
    let bounds = c.self.inside.bounds.items in
    let address = c.args.address in
    let sorted : IsNonDecreasingBy (λ (n : ℕ). n) bounds = IsNonDecreasingBy-from_default (λ (n : ℕ). n) bounds 0 (rises bounds c.self.invariant.rising) in
    let sorted_slice : IsNonDecreasingBy (λ (n : ℕ). n) c.as_slice.result.now = rw c.as_slice.ensures.value sorted in
    let point = IsPartitionPoint-from_clause (λ (n : ℕ). leb n address) c.as_slice.result.now c.partition_point-within.result c.partition_point-within.ensures.partitioned (IsPartitionedBy-leb (λ (n : ℕ). n) c.as_slice.result.now address sorted_slice) (λ a r q k. search rules) in
    let count : prefix_len (λ (n : ℕ). leb n address) c.as_slice.result.now ≡ c.partition_point-within.result =
    prefix_len_is (λ (n : ℕ). leb n address) c.as_slice.result.now c.partition_point-within.result 0 (omega arith) (λ k less. point.0 k 0 (omega arith) less) (λ less. point.1 c.partition_point-within.result 0 (omega arith) less) in
    let places = c.self.inside.best.items in
    let place = c.saturating_sub.result in
    let within : place < length places = omega (arith, c.self.invariant.some, c.self.invariant.as_many, c.as_slice.ensures.len) in
    let is = get_or_from_slice_get places place c.index.result.now None (slice_get-get_or places place c.index.result.now within ∙ ap Some (sym c.index.ensures)) in
    let at = c.saturating_sub.ensures ∙ ap (λ (n : ℕ). n - 1) (sym count ∙ ap (λ xs. prefix_len (λ (n : ℕ). leb n address) xs) c.as_slice.ensures.value) in
    rw (← c.self.view_is) (sym is ∙ ap (λ (k : ℕ). get_or places k None) at)
