use Rattle.std.proofs.Common.{◌+◌, ◌∙◌, []}
use Rattle.std.specs.List.{flat_map}
use Rattle.net_graph.specs.Steps.{walked}
use Rattle.net_graph.specs.Visits.{an_interface, interface_copy, interface_visits, ids_in}
use Rattle.net_graph.proofs.Exits.{exit, later}
use Rattle.net_graph.proofs.Walks.{interface_ok, interface_no_ids, interface_no_keys, ids_turn, ids_stop, ids_done, met_one, met_fault}
use Rattle.net_graph.proofs.seen.Seen.interfaces.Goals as goal

pub returns-in_err-ids-clause-cause : goal.returns-in_err-ids-clause-cause
returns-in_err-ids-clause-cause c =
    let f = c.args.frequency in let w = c.args.self.now in let x = c.args.list.now in let fault = c.in_err-ids.field-0.0 in
    exit (walked f w (interface_visits f c.args.host.now x)) c.from_residual.result fault c.from_residual.ensures.1 (later (λ e. interface_no_ids f w c.args.host.now x fault e) c.in_err-ids.ensures.cause)

pub returns-in_err-keys-clause-cause : goal.returns-in_err-keys-clause-cause
returns-in_err-keys-clause-cause c =
    let f = c.args.frequency in let w = c.args.self.now in let x = c.args.list.now in let fault = c.in_err-keys.field-0.0 in
    exit (walked f w (interface_visits f c.args.host.now x)) c.from_residual-in_err-keys.result fault c.from_residual-in_err-keys.ensures.1
    (later (λ e. interface_no_keys f w c.args.host.now x c.in_ok-ids.ids fault c.in_ok-ids.ensures.read e) c.in_err-keys.ensures.cause)

pub returns-in_err-add_interface-clause-cause : goal.returns-in_err-add_interface-clause-cause
returns-in_err-add_interface-clause-cause c =
    let f = c.args.frequency in let w = c.args.self.now in let x = c.args.list.now in let fault = c.in_err-add_interface.field-0.0 in
    let ids = c.in_ok-ids.ids in let k = c.in_ok-keys.keys in
    exit (walked f w (interface_visits f c.args.host.now x)) c.from_residual-in_err-add_interface.result fault c.from_residual-in_err-add_interface.ensures.1
    (later (λ e. interface_ok f w c.args.host.now x ids k c.in_ok-ids.ensures.read c.in_ok-keys.ensures.read
    ∙ ids_stop f (walked f w (flat_map (interface_copy c.args.host.now k) (ids_in ids))) c.loop-id.self fault (interface_copy c.args.host.now k) c.loop-id.id (ids.to + 1) c.loop-id.invariant.walk c.loop-id-test.true (met_fault f c.loop-id.self (an_interface c.args.host.now c.loop-id.id k) [] fault e)) c.in_err-add_interface.ensures.cause)

pub loop-id-preserved : goal.loop-id-preserved
loop-id-preserved c =
    let f = c.args.frequency in let w = c.args.self.now in let x = c.args.list.now in
    let ids = c.in_ok-ids.ids in let k = c.in_ok-keys.keys in
    record {
      walk = ids_turn f (walked f w (flat_map (interface_copy c.args.host.now k) (ids_in ids))) c.loop-id.self c.add_interface.new.self (interface_copy c.args.host.now k) c.loop-id.id (ids.to + 1) c.loop-id.invariant.walk c.loop-id-test.true (met_one f c.loop-id.self c.add_interface.new.self (an_interface c.args.host.now c.loop-id.id k) c.in_ok-add_interface.ensures.fine c.in_ok-add_interface.ensures.added);
      few = c.in_ok-add_interface.ensures.few;
    }

pub returns-clause-walked : goal.returns-clause-walked
returns-clause-walked c =
    let f = c.args.frequency in let w = c.args.self.now in let x = c.args.list.now in
    let ids = c.in_ok-ids.ids in let k = c.in_ok-keys.keys in
    interface_ok f w c.args.host.now x ids k c.in_ok-ids.ensures.read c.in_ok-keys.ensures.read
    ∙ ids_done f (walked f w (flat_map (interface_copy c.args.host.now k) (ids_in ids))) c.loop-id.self (interface_copy c.args.host.now k) c.loop-id.id (ids.to + 1) c.loop-id.invariant.walk c.loop-id-test.false
