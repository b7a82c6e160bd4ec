use Rattle.std.proofs.Common.{◌≡◌, ◌*◌, ℕ, ltb, sym, ap, ◌∙◌, length, arith}
use Rattle.std.proofs.lemmas.List.{get_or_read}
use Rattle.net_layout.specs.Faults.{has_many_transfers}
use Rattle.net_layout.specs.Sessions.{client_count, server_count}
use Rattle.net_layout.proofs.Finding.{none_next, some_at}
use Rattle.net_layout.proofs.limits.has_many_transfers.Goals as goal

pub returns-then-are_many : goal.returns-then-are_many
unfolding has_many_transfers
returns-then-are_many c =
    let network = c.args.network.now in
    let h : ℕ = c.loop-host.host in
    let clients : c.index.result.now ≡ client_count network h = get_or_read c.in_ok-clients.clients.items h c.index.result.now (omega (arith, c.in_ok-clients.ensures.as_many)) c.index.ensures 0 ∙ c.in_ok-clients.ensures.counts h (omega arith) in
    let servers : c.index-in-loop-host.result.now ≡ server_count network h = get_or_read c.in_ok-servers.servers.items h c.index-in-loop-host.result.now (omega (arith, c.in_ok-servers.ensures.as_many)) c.index-in-loop-host.ensures 0 ∙ c.in_ok-servers.ensures.counts h (omega arith) in
    let test : c.are_many.result ≡ ltb 50000 (client_count network h * server_count network h) =
    c.are_many.ensures ∙ ap (λ (x : ℕ). ltb 50000 (x * c.index-in-loop-host.result.now)) clients ∙ ap (λ (y : ℕ). ltb 50000 (client_count network h * y)) servers in
    sym (some_at (λ k. ltb 50000 (client_count network k * server_count network k)) (length network.hosts) h (omega arith) (sym test ∙ c.if-are_many.true))

pub loop-host-preserved : goal.loop-host-preserved
loop-host-preserved c =
    let network = c.args.network.now in
    let h : ℕ = c.loop-host.host in
    let clients : c.index.result.now ≡ client_count network h = get_or_read c.in_ok-clients.clients.items h c.index.result.now (omega (arith, c.in_ok-clients.ensures.as_many)) c.index.ensures 0 ∙ c.in_ok-clients.ensures.counts h (omega arith) in
    let servers : c.index-in-loop-host.result.now ≡ server_count network h = get_or_read c.in_ok-servers.servers.items h c.index-in-loop-host.result.now (omega (arith, c.in_ok-servers.ensures.as_many)) c.index-in-loop-host.ensures 0 ∙ c.in_ok-servers.ensures.counts h (omega arith) in
    let test : c.are_many.result ≡ ltb 50000 (client_count network h * server_count network h) =
    c.are_many.ensures ∙ ap (λ (x : ℕ). ltb 50000 (x * c.index-in-loop-host.result.now)) clients ∙ ap (λ (y : ℕ). ltb 50000 (client_count network h * y)) servers in
    none_next (λ k. ltb 50000 (client_count network k * server_count network k)) h c.loop-host.invariant (sym test ∙ c.if-are_many.false)
