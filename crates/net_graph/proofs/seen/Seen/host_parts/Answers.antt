use Rattle.std.proofs.Common.{false, ap, sym, ◌∙◌}
use Rattle.net_graph.specs.Steps.{walked}
use Rattle.net_graph.specs.Visits.{host_parts}
use Rattle.net_graph.proofs.Exits.{exit, later}
use Rattle.net_graph.proofs.Walks.{host_parts_of, host_parts_are, host_turn, host_stop, host_done}
use Rattle.net_graph.proofs.seen.Seen.host_parts.Goals as goal

pub loop-attribute-init : goal.loop-attribute-init
loop-attribute-init c =
    let f = c.args.frequency in let h = c.args.host.now in
    record {
      walk = ap (walked f c.args.self.now) (host_parts_are f h false c.args.list.now ∙ ap (host_parts_of f h false) (sym c.attributes-attribute-items.ensures));
      few = c.requires.few;
    }

pub returns-in_err-met-clause-cause : goal.returns-in_err-met-clause-cause
returns-in_err-met-clause-cause c =
    let f = c.args.frequency in let h = c.args.host.now in let whole = walked f c.args.self.now (host_parts f h false c.args.list.now) in let fault = c.in_err-met.field-0.0 in
    exit whole c.from_residual.result fault c.from_residual.ensures.1
    (later (λ e. host_stop f whole c.loop-attribute.self fault h c.loop-attribute.met c.attributes-attribute-items.result.now c.loop-attribute.attribute-index c.attribute-item.result
    c.loop-attribute.invariant.walk c.loop-attribute-test.true c.attribute-item.is e) c.in_err-met.ensures.cause)

pub loop-attribute-preserved : goal.loop-attribute-preserved
loop-attribute-preserved c =
    let f = c.args.frequency in let h = c.args.host.now in let whole = walked f c.args.self.now (host_parts f h false c.args.list.now) in
    record {
      walk = host_turn f whole c.loop-attribute.self c.host_part.new.self h c.loop-attribute.met c.attributes-attribute-items.result.now c.loop-attribute.attribute-index c.attribute-item.result _
          c.loop-attribute.invariant.walk c.loop-attribute-test.true c.attribute-item.is c.in_ok-met.ensures.met c.in_ok-met.ensures.walked;
      few = c.in_ok-met.ensures.few;
    }

pub returns-clause-walked : goal.returns-clause-walked
returns-clause-walked c =
    let f = c.args.frequency in let h = c.args.host.now in let whole = walked f c.args.self.now (host_parts f h false c.args.list.now) in
    host_done f whole c.loop-attribute.self h c.loop-attribute.met c.attributes-attribute-items.result.now c.loop-attribute.attribute-index c.loop-attribute.invariant.walk c.loop-attribute-test.false
