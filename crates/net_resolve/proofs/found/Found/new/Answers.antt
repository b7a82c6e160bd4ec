use Rattle.std.proofs.Common.{ℕ, List, length, replicate, None, ap, ◌∙◌}
use Rattle.net_graph.specs.declared.rows.InterfaceRow.{InterfaceRow}
use Rattle.net_resolve.specs.Tables.{firsts_after}
use Rattle.net_resolve.proofs.Firsts.{firsts_table}
use Rattle.net_resolve.proofs.found.Found.new.Goals as goal

pub invariant_of-result : goal.invariant_of-result
invariant_of-result c =
    let seen = c.args.seen in (
      c.requires,
      firsts_table seen c.in_ok-firsts.firsts.items
          (c.in_ok-firsts.ensures.firsts
          ∙ (ap (λ (n : ℕ). firsts_after (replicate n None) 0 c.as_slice.result.now) c.len.ensures
          ∙ ap (λ (rows : List InterfaceRow). firsts_after (replicate (length seen.host_names) None) 0 rows) c.as_slice.ensures)),
    )
