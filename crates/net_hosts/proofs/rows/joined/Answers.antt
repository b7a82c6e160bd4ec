use Rattle.std.proofs.Common.{arith}
use Rattle.net_hosts.proofs.Joining.{rows_more, periods_stay}
use Rattle.net_hosts.proofs.rows.joined.Goals as goal

pub loop-host-preserved : goal.loop-host-preserved
loop-host-preserved c =
    let tables = c.args.parts.now.tables in
    let now = c.loop-host.parts.tables in
    let host = c.loop-host.host in
    record {
      rows = rows_more c.args.network.now tables now c.loop-host.rows.items c.push.new.self.items host c.in_ok-take_host.field-0 c.loop-host.invariant.rows c.in_ok-take_host.ensures.rows (c.loop-host.invariant.tables host (omega arith)) c.in_ok-push.ensures.items;
      parts = c.in_ok-take_host.ensures.parts;
      tables = rw c.in_ok-take_host.ensures.tables (periods_stay tables now host c.loop-host.invariant.tables);
    }
