use Rattle.std.proofs.Common.{ℕ, get_or, ltb, rules, arith}
use Rattle.std.specs.List.Sorted.{IsNonDecreasingBy}
use Rattle.std.proofs.lemmas.Bool.{ltb-true, ltb-false}
use Rattle.std.proofs.lemmas.List.Sorted.{IsPartitionPoint-from_clause, IsPartitionedBy-ltb, IsNonDecreasingBy-from_default}
use Rattle.route_table.proofs.Finding.{rises}
use Rattle.route_table.proofs.paint.first_from.Goals as goal

pub returns-clause-before : goal.returns-clause-before
returns-clause-before c =
    let bounds = c.args.bounds.now in
    let sorted : IsNonDecreasingBy (λ (n : ℕ). n) bounds = IsNonDecreasingBy-from_default (λ (n : ℕ). n) bounds 0 (rises bounds c.requires.rising) in
    let point = IsPartitionPoint-from_clause (λ (n : ℕ). ltb n c.args.address) bounds c.partition_point.result c.partition_point.ensures.partitioned (IsPartitionedBy-ltb (λ (n : ℕ). n) bounds c.args.address sorted) (λ a r q k. search rules) in
    λ k less. ltb-true (get_or bounds k 0) c.args.address (point.0 k 0 (omega arith) less)

pub returns-clause-behind : goal.returns-clause-behind
returns-clause-behind c =
    let bounds = c.args.bounds.now in
    let sorted : IsNonDecreasingBy (λ (n : ℕ). n) bounds = IsNonDecreasingBy-from_default (λ (n : ℕ). n) bounds 0 (rises bounds c.requires.rising) in
    let point = IsPartitionPoint-from_clause (λ (n : ℕ). ltb n c.args.address) bounds c.partition_point.result c.partition_point.ensures.partitioned (IsPartitionedBy-ltb (λ (n : ℕ). n) bounds c.args.address sorted) (λ a r q k. search rules) in
    λ k more within. ltb-false (get_or bounds k 0) c.args.address (point.1 k 0 more within)
