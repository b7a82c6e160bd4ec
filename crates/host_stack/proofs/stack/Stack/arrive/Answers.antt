use Rattle.std.proofs.Common.{◌≡◌, ◌++◌, sym, subst}
use Rattle.std.specs.Prelude.{OnOk}
use Rattle.ip_layer.specs.declared.verdict.Verdict.TheVariants.{Local}
use Rattle.host_rules.specs.Hosts.{Stack}
use Rattle.host_rules.specs.Effects.{Effect}
use Rattle.host_rules.specs.Sending.{own_addresses}
use Rattle.host_rules.specs.Limits.{IsStack}
use Rattle.host_sending.proofs.Reaching.{verdict_keeps}
use Rattle.host_sending.proofs.Routing.{local_own, received_at}
use Rattle.host_stack.proofs.Looping.{on_ok}
use Rattle.host_stack.proofs.Arriving.{arrives, passes}
use Rattle.host_stack.proofs.stack.Stack.arrive.Goals as goal

pub take_packet-requires-clause-own : goal.take_packet-requires-clause-own
take_packet-requires-clause-own c = local_own c.args.site.now c.routes-routes.result c.args.packet.now (sym c.in-Local.ensures)

pub returns-in-Local-clause-stack : goal.returns-in-Local-clause-stack
returns-in-Local-clause-stack c =
    arrives (λ (e : Effect). OnOk c.take_packet.result (c.take_packet.new.self ≡ e.stack)) c.args.site.now c.args.now c.args.packet.now c.args.self.now c.routes-routes.result Local c.routes-routes.ensures c.in-Local.ensures
    c.take_packet.ensures.stack

pub returns-in-Local-clause-writes : goal.returns-in-Local-clause-writes
returns-in-Local-clause-writes c =
    arrives (λ (e : Effect). OnOk c.take_packet.result (c.take_packet.new.out.writes ≡ c.args.out.now.writes ++ e.writes)) c.args.site.now c.args.now c.args.packet.now c.args.self.now c.routes-routes.result Local
    c.routes-routes.ensures c.in-Local.ensures c.take_packet.ensures.writes

pub returns-in-Local-clause-lines : goal.returns-in-Local-clause-lines
returns-in-Local-clause-lines c =
    arrives (λ (e : Effect). OnOk c.take_packet.result (c.take_packet.new.out.lines ≡ c.args.out.now.lines ++ e.lines)) c.args.site.now c.args.now c.args.packet.now c.args.self.now c.routes-routes.result Local
    c.routes-routes.ensures c.in-Local.ensures c.take_packet.ensures.lines

pub follow-requires : goal.follow-requires
follow-requires c = record {
  now = c.requires.now;
  place = received_at (own_addresses c.args.site.now) c.routes-routes.result c.args.packet.now c.received.result (sym c.received.ensures);
}

pub returns-in_default : goal.returns-in_default
returns-in_default c = record {
  stack = passes (λ (e : Effect). OnOk c.follow.result (c.follow.new.self ≡ e.stack)) c.args.site.now c.args.now c.args.packet.now c.args.self.now c.routes-routes.result c.received.result c.passed_on.result
      c.routes-routes.ensures c.received.ensures c.in_default.not-Local c.passed_on.ensures (on_ok c.follow.result c.follow.ensures.stack);
  writes = passes (λ (e : Effect). OnOk c.follow.result (c.follow.new.out.writes ≡ c.args.out.now.writes ++ e.writes)) c.args.site.now c.args.now c.args.packet.now c.args.self.now c.routes-routes.result c.received.result
      c.passed_on.result c.routes-routes.ensures c.received.ensures c.in_default.not-Local c.passed_on.ensures c.follow.ensures.writes;
  lines = passes (λ (e : Effect). OnOk c.follow.result (c.follow.new.out.lines ≡ c.args.out.now.lines ++ e.lines)) c.args.site.now c.args.now c.args.packet.now c.args.self.now c.routes-routes.result c.received.result
      c.passed_on.result c.routes-routes.ensures c.received.ensures c.in_default.not-Local c.passed_on.ensures c.follow.ensures.lines;
  kept = subst (λ (t : Stack). IsStack c.args.site.now t) (sym c.follow.ensures.stack)
      (verdict_keeps c.args.site.now c.routes-routes.result c.args.now c.passed_on.result c.received.result c.args.self.now c.known.ensures c.requires.now c.requires.valid);
}
