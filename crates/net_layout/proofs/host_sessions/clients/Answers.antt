use Rattle.std.proofs.Common.{◌<◌, ◌≤◌, [], length, replicate, refl, ap, ◌∙◌}
use Rattle.net_layout.specs.Sessions.{client_in, clients_of}
use Rattle.net_layout.proofs.Gathering.{gathered_none, gathered_all, lists_are}
use Rattle.net_layout.proofs.HostSessions.{of_host, sessions_more}
use Rattle.net_layout.proofs.host_sessions.clients.Goals as goal

pub loop-session-init : goal.loop-session-init
loop-session-init c =
    gathered_none (of_host client_in) (length c.args.network.now.hosts) c.in_ok-clients.clients.items (λ h. refl) (c.in_ok-clients.ensures ∙ ap (λ n. replicate n []) c.len.ensures)

pub loop-session-preserved : goal.loop-session-preserved
loop-session-preserved c =
    let lt : c.loop-session.session-index < length c.args.network.now.sessions = rw (← c.as_slice-session-items.ensures) c.loop-session-test.true in
    rw (c.in_ok-append_at.ensures, c.client_in.ensures, c.as_slice-session-items.ensures)
    (sessions_more client_in (length c.args.network.now.hosts) c.args.network.now.sessions c.loop-session.clients.items c.loop-session.session-index _ lt ((c.requires.sessions c.loop-session.session-index _ lt).host) c.loop-session.invariant)

pub returns : goal.returns
unfolding clients_of
returns c =
    let end : length c.args.network.now.sessions ≤ c.loop-session.session-index = rw (← c.as_slice-session-items.ensures) c.loop-session-test.false in
    lists_are (of_host client_in) (length c.args.network.now.hosts) c.args.network.now.sessions c.loop-session.clients.items
    (gathered_all (of_host client_in) (length c.args.network.now.hosts) c.args.network.now.sessions c.loop-session.clients.items c.loop-session.session-index end c.loop-session.invariant)
