use Rattle.std.proofs.Common.{◌≡◌, ◌*◌, ltb, false}
use Rattle.std.specs.List.{list_any}
use Rattle.net_graph.specs.Networks.{numbers}
use Rattle.net_layout.specs.Sessions.{client_count, server_count}
use Rattle.net_layout.proofs.limits.has_many_transfers.Given as goal

abbrev pub invariant-loop-host : goal.invariant-loop-host
invariant-loop-host l = list_any (λ h. ltb 50000 (client_count l.network h * server_count l.network h)) (numbers l.host) ≡ false
