use Rattle.std.proofs.Common.{◌+◌}
use Rattle.std.specs.List.{flat_map}
use Rattle.net_graph.specs.Steps.{walked}
use Rattle.net_graph.specs.Visits.{host_copy, ids_in}
use Rattle.net_graph.proofs.Exits.{exit, later}
use Rattle.net_graph.proofs.Walks.{ids_turn, ids_stop, ids_done}
use Rattle.net_graph.proofs.seen.Seen.host_copies.Goals as goal

pub returns-in_err-host_copy-clause-cause : goal.returns-in_err-host_copy-clause-cause
returns-in_err-host_copy-clause-cause c =
    let f = c.args.frequency in let w = c.args.self.now in let ids = c.args.ids in let fault = c.in_err-host_copy.field-0.0 in
    let g = host_copy f c.args.router c.args.net.now c.args.list.now c.args.gateway.now in
    exit (walked f w (flat_map g (ids_in ids))) c.from_residual.result fault c.from_residual.ensures.1
    (later (λ e. ids_stop f (walked f w (flat_map g (ids_in ids))) c.loop-id.self fault g c.loop-id.id (ids.to + 1) c.loop-id.invariant.walk c.loop-id-test.true e) c.in_err-host_copy.ensures.cause)

pub loop-id-preserved : goal.loop-id-preserved
loop-id-preserved c =
    let f = c.args.frequency in let w = c.args.self.now in let ids = c.args.ids in
    let g = host_copy f c.args.router c.args.net.now c.args.list.now c.args.gateway.now in
    record {
      walk = ids_turn f (walked f w (flat_map g (ids_in ids))) c.loop-id.self c.host_copy.new.self g c.loop-id.id (ids.to + 1) c.loop-id.invariant.walk c.loop-id-test.true c.in_ok-host_copy.ensures.walked;
      few = c.in_ok-host_copy.ensures.few;
    }

pub returns-clause-walked : goal.returns-clause-walked
returns-clause-walked c =
    let f = c.args.frequency in let w = c.args.self.now in let ids = c.args.ids in
    let g = host_copy f c.args.router c.args.net.now c.args.list.now c.args.gateway.now in
    ids_done f (walked f w (flat_map g (ids_in ids))) c.loop-id.self g c.loop-id.id (ids.to + 1) c.loop-id.invariant.walk c.loop-id-test.false
