use Rattle.std.proofs.Common.{◌<◌, ◌≤◌, [], length, replicate, refl, ap, ◌∙◌}
use Rattle.net_layout.specs.Sessions.{servers_of}
use Rattle.net_layout.proofs.Gathering.{gathered_none, gathered_all, lists_are}
use Rattle.net_layout.proofs.HostSessions.{servers_in, servers_more}
use Rattle.net_layout.proofs.host_sessions.servers.Goals as goal

pub loop-server-init : goal.loop-server-init
loop-server-init c =
    gathered_none servers_in (length c.args.network.now.hosts) c.in_ok-servers.servers.items (λ h. refl) (c.in_ok-servers.ensures ∙ ap (λ n. replicate n []) c.len.ensures)

pub loop-server-preserved : goal.loop-server-preserved
loop-server-preserved c =
    let lt : c.loop-server.server-index < length c.args.network.now.servers = rw (← c.as_slice-server-items.ensures) c.loop-server-test.true in
    rw (c.in_ok-append_at.ensures, c.as_slice-server-items.ensures)
    (servers_more (length c.args.network.now.hosts) c.args.network.now.servers c.loop-server.servers.items c.loop-server.server-index _ lt ((c.requires.servers c.loop-server.server-index _ lt).client) c.loop-server.invariant)

pub returns : goal.returns
unfolding servers_of
returns c =
    let end : length c.args.network.now.servers ≤ c.loop-server.server-index = rw (← c.as_slice-server-items.ensures) c.loop-server-test.false in
    lists_are servers_in (length c.args.network.now.hosts) c.args.network.now.servers c.loop-server.servers.items
    (gathered_all servers_in (length c.args.network.now.hosts) c.args.network.now.servers c.loop-server.servers.items c.loop-server.server-index end c.loop-server.invariant)
