use Rattle.std.proofs.Common.{◌<◌, sym, ◌∙◌, length}
use Rattle.net_graph.specs.declared.rows.SessionRow.{SessionRow}
use Rattle.net_layout.specs.Wiring.{is_client}
use Rattle.net_layout.proofs.Counting.{counts_skip, counts_more}
use Rattle.net_layout.proofs.limits.client_counts.Goals.{then-is_client, else-is_client}
use Rattle.net_layout.proofs.limits.client_counts.Goals as goal

pub loop-session-preserved : goal.loop-session-preserved
loop-session-preserved c =
    let lt : c.loop-session.session-index < length c.args.network.now.sessions = rw (← c.as_slice-session-items.ensures) c.loop-session-test.true in
    let test = rw c.as_slice-session-items.ensures at c.is_client.ensures in
    elim c.if-is_client.branch [
      | then-is_client w ↦
          rw (w.counts-is, w.count_one.ensures, c.as_slice-session-items.ensures)
          (counts_more is_client (λ (s : SessionRow). s.host) (length c.args.network.now.hosts) c.args.network.now.sessions c.loop-session.counts.items c.loop-session.session-index _ lt c.loop-session.invariant
          (sym test ∙ w.if-is_client.true) ((c.requires.sessions c.loop-session.session-index _ lt).host))
      | else-is_client w ↦
          rw w.counts-is
          (counts_skip is_client (λ (s : SessionRow). s.host) (length c.args.network.now.hosts) c.args.network.now.sessions c.loop-session.counts.items c.loop-session.session-index _ lt c.loop-session.invariant
          (sym test ∙ w.if-is_client.false))
    ]
