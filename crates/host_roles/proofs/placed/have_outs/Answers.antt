use Rattle.std.proofs.Common.{ℕ, ◌∙◌, List, sym, ap, subst}
use Rattle.event_order.specs.Pending.{Among}
use Rattle.ssf_model.specs.Reaction.{Each}
use Rattle.host_rules.specs.declared.rows.HostPort.{HostPort}
use Rattle.host_rules.specs.Limits.{HasOuts}
use Rattle.host_roles.proofs.Placing.{each_next}
use Rattle.host_roles.proofs.placed.have_outs.Goals as goal

pub loop-index-preserved : goal.loop-index-preserved
loop-index-preserved c =
    let ways = c.as_slice.ensures ∙ ap (λ (port : HostPort). port.outs) (sym c.index-ports-index.is) in
    each_next (HasOuts c.args.outs.now) c.args.ports.now (Each (HasOuts c.args.outs.now) c.args.ports.now) c.loop-index.index c.index-ports-index.result c.loop-index-test.true c.index-ports-index.is
    (subst (λ (ws : List (ℕ × ℕ)). Each (λ (way : ℕ × ℕ). Among way.1 c.args.outs.now) ws) ways (c.lead_out.ensures.0 c.if-not-lead_out.false)) c.loop-index.invariant
