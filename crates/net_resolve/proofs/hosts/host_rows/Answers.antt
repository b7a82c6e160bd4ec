use Rattle.std.proofs.Common.{◌≡◌, ℕ, ◌+◌, ◌<◌, List, [], ◌∷◌, length, drop, get_or, arith, ap, ◌∙◌, length-append}
use Rattle.net_graph.specs.declared.rows.HostRow.{HostRow}
use Rattle.net_graph.specs.declared.seen.HostSeen.{HostSeen}
use Rattle.net_graph.specs.declared.seen.Seen.{Seen}
use Rattle.net_graph.specs.NetworkOf.{attachments, host_rows}
use Rattle.net_resolve.specs.Tables.{silent}
use Rattle.net_resolve.proofs.Rows.{host_turn}
use Rattle.net_resolve.proofs.Turns.{drop_item}
use Rattle.net_resolve.proofs.Summaries.{ospf_is, tcp_is}
use Rattle.net_resolve.proofs.hosts.host_rows.Goals as goal

pub loop-host-preserved : goal.loop-host-preserved
loop-host-preserved c =
    let seen = c.args.found.now in let f = c.args.frequency in let all = attachments seen in
    let hs = c.as_slice-host-items.result.now in let i = c.loop-host.host-index in let h = c.host-item.result in
    let before = c.loop-host.rows.items in let n = length seen.hosts in let summaries = c.args.summaries.now in let w = c.summary_of-summary.result in
    let all_hosts : hs ≡ seen.hosts = c.as_slice-host-items.ensures ∙ ap (λ (s : Seen). s.hosts) c.seen.ensures.seen in
    let long : length hs ≡ n = ap (λ (l : List HostSeen). length l) all_hosts in
    let lt : length before < n = omega (arith, long, c.loop-host.invariant.index, c.loop-host-test.true) in
    let at : c.len.result ≡ length before = omega (arith, c.len.ensures, c.loop-host.rows.ok.0) in
    let is : w ≡ get_or summaries (length before) silent = c.summary_of-summary.ensures ∙ ap (λ (k : ℕ). get_or summaries k silent) at in
    let longer : length c.push.new.self.items ≡ length before + 1 = ap (λ (l : List HostRow). length l) c.in_ok-push.ensures.items ∙ length-append before (c.row_of.result ∷ []) in
    record {
      rows = host_turn f seen all (host_rows f seen all 0 seen.hosts) before c.push.new.self.items (drop i hs) (drop (i + 1) hs) h c.in_ok-gateway.gateway w c.row_of.result
          c.loop-host.invariant.rows (drop_item hs i h c.loop-host-test.true c.host-item.is) c.in_ok-gateway.ensures.row
          (ospf_is n summaries seen.sessions (length before) w c.requires.summaries lt is) (tcp_is f n summaries seen.sessions (length before) w c.requires.summaries lt is)
          c.row_of.ensures c.in_ok-push.ensures.items;
      index = omega (arith, longer, c.loop-host.invariant.index);
    }
