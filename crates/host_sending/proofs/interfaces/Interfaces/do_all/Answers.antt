use Rattle.std.proofs.Common.{sym, subst}
use Rattle.host_rules.specs.Hosts.{Stack}
use Rattle.host_rules.specs.Limits.{IsStack}
use Rattle.host_sending.specs.Sites.{with_interfaces}
use Rattle.host_sending.proofs.Looping.{acts_next}
use Rattle.host_sending.proofs.Reaching.{done_keeps}
use Rattle.host_sending.proofs.interfaces.Interfaces.do_all.Goals as goal

pub loop-act-preserved : goal.loop-act-preserved
loop-act-preserved c = λ s.
    acts_next c.args.site.now c.args.now c.args.sockets.now c.args.acts.now c.loop-act.act-index c.act-item.result (with_interfaces c.args.self.now s) c.args.out.now
    (with_interfaces c.loop-act.self s) c.loop-act.out (with_interfaces c.do_act.new.self s) c.do_act.new.out c.known.ensures c.requires c.loop-act-test.true c.act-item.is (c.loop-act.invariant s)
    (record { stack = c.do_act.ensures.stack s; writes = c.in_ok-do_act.ensures.writes s; lines = c.in_ok-do_act.ensures.lines s })

pub returns-in_err-do_act-clause-kept : goal.returns-in_err-do_act-clause-kept
returns-in_err-do_act-clause-kept c = λ s k.
    let before = c.loop-act.invariant s in
    subst (λ (t : Stack). IsStack c.args.site.now t) (sym (c.do_act.ensures.stack s))
    (done_keeps c.args.site.now c.args.now c.args.sockets.now c.act-item.result (with_interfaces c.loop-act.self s) c.known.ensures c.requires (before.valid k))
