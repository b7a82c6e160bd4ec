use Rattle.std.proofs.Common.{codes}
use Rattle.net_graph.specs.Steps.{walked}
use Rattle.net_graph.specs.Visits.{pattern_visits, traffic_visits}
use Rattle.net_graph.proofs.Exits.{exit, later}
use Rattle.net_graph.proofs.Walks.{list_turn, list_stop, list_done}
use Rattle.net_graph.proofs.seen.Seen.traffic.Goals as goal

pub returns-in_err-traffic_part-clause-cause : goal.returns-in_err-traffic_part-clause-cause
returns-in_err-traffic_part-clause-cause c =
    let f = c.args.frequency in let whole = walked f c.args.self.now (traffic_visits c.args.net.now c.args.list.now) in let fault = c.in_err-traffic_part.field-0.0 in
    exit whole c.from_residual.result fault c.from_residual.ensures.1
    (later (λ e. list_stop f whole c.loop-attribute.self fault (pattern_visits c.args.net.now) (codes "pattern") c.attributes-attribute-items.result.now c.loop-attribute.attribute-index c.attribute-item.result
    c.loop-attribute.invariant.walk c.loop-attribute-test.true c.attribute-item.is e) c.in_err-traffic_part.ensures.cause)

pub loop-attribute-preserved : goal.loop-attribute-preserved
loop-attribute-preserved c =
    let f = c.args.frequency in let whole = walked f c.args.self.now (traffic_visits c.args.net.now c.args.list.now) in
    record {
      walk = list_turn f whole c.loop-attribute.self c.traffic_part.new.self (pattern_visits c.args.net.now) (codes "pattern") c.attributes-attribute-items.result.now c.loop-attribute.attribute-index c.attribute-item.result
          c.loop-attribute.invariant.walk c.loop-attribute-test.true c.attribute-item.is c.in_ok-traffic_part.ensures.walked;
      few = c.in_ok-traffic_part.ensures.few;
    }

pub returns-clause-walked : goal.returns-clause-walked
returns-clause-walked c =
    let f = c.args.frequency in let whole = walked f c.args.self.now (traffic_visits c.args.net.now c.args.list.now) in
    list_done f whole c.loop-attribute.self (pattern_visits c.args.net.now) (codes "pattern") c.attributes-attribute-items.result.now c.loop-attribute.attribute-index c.loop-attribute.invariant.walk c.loop-attribute-test.false
