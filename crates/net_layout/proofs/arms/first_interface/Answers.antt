use Rattle.std.proofs.Common.{ltb, arith, rules, sym, ap, ◌∙◌}
use Rattle.std.specs.List.{prefix_len}
use Rattle.std.specs.List.Sorted.{IsNonDecreasingBy}
use Rattle.std.proofs.lemmas.List.Sums.{prefix_len_is}
use Rattle.std.proofs.lemmas.List.Sorted.{IsPartitionPoint-from_clause, IsPartitionedBy-ltb}
use Rattle.net_graph.specs.declared.rows.InterfaceRow.{InterfaceRow}
use Rattle.net_graph.specs.Networks.{no_interface}
use Rattle.net_layout.specs.Arms.{first_interface}
use Rattle.net_layout.proofs.arms.first_interface.Goals as goal

pub returns-clause-first : goal.returns-clause-first
unfolding first_interface
returns-clause-first c =
    let sorted : IsNonDecreasingBy (λ (i : InterfaceRow). i.host) c.as_slice.result.now = rw c.as_slice.ensures c.requires.host_by_host in
    let parted = IsPartitionedBy-ltb (λ (i : InterfaceRow). i.host) c.as_slice.result.now c.args.host sorted in
    let point = IsPartitionPoint-from_clause (λ (i : InterfaceRow). ltb i.host c.args.host) c.as_slice.result.now c.partition_point.result c.partition_point.ensures.partitioned parted (λ a r q k. search rules) in
    sym (prefix_len_is (λ (i : InterfaceRow). ltb i.host c.args.host) c.as_slice.result.now c.partition_point.result no_interface (omega arith)
    (λ k lt. point.0 k no_interface (omega arith) lt) (λ lt. point.1 c.partition_point.result no_interface (omega arith) lt))
    ∙ ap (λ xs. prefix_len (λ (i : InterfaceRow). ltb i.host c.args.host) xs) c.as_slice.ensures
