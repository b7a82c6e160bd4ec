use Rattle.std.proofs.Common.{◌≡◌, ◌∙◌, ◌++◌, Some, None, refl, sym, subst, append-nil}
use Rattle.std.specs.Prelude.{OnOk}
use Rattle.std.specs.Option.{option_map}
use Rattle.std.proofs.lemmas.Result.{on_ok_weaker}
use Rattle.host_rules.specs.Hosts.{EntryFields, Stack}
use Rattle.host_rules.specs.Effects.{Effect}
use Rattle.host_rules.specs.Entries.{found}
use Rattle.host_stack.proofs.Looping.{on_ok}
use Rattle.host_stack.proofs.Arriving.{there, segment_goes, refuses, accepts}
use Rattle.host_stack.proofs.stack.Stack.take_segment.Goals as goal

pub turn_at_segment-requires-clause-there : goal.turn_at_segment-requires-clause-there
turn_at_segment-requires-clause-there c =
    let is = rw (← c.self.view_is) at c.requires.valid in
    rw (← c.self.view_is) (there c.sockets_of-sockets.result c.self.inside.sessions c.in-Some.number is.order c.in-Some.ensures)

pub returns-in-Some-clause-stack : goal.returns-in-Some-clause-stack
returns-in-Some-clause-stack c =
    segment_goes (λ (e : Effect). OnOk c.turn_at_segment.result (c.turn_at_segment.new.self ≡ e.stack)) c.args.site.now c.args.now c.in-Some.number c.args.packet.now c.args.segment.now c.args.self.now
    c.sockets_of-sockets.result c.requires.valid.order c.sockets_of-sockets.ensures
    (subst (λ (t : Stack). Some c.in-Some.number ≡ option_map (λ (x : EntryFields). x.number) (found c.sockets_of-sockets.result t.sessions)) c.self.view_is c.in-Some.ensures) c.turn_at_segment.ensures.stack

pub returns-in-Some-clause-writes : goal.returns-in-Some-clause-writes
returns-in-Some-clause-writes c =
    segment_goes (λ (e : Effect). OnOk c.turn_at_segment.result (c.turn_at_segment.new.out.writes ≡ c.args.out.now.writes ++ e.writes)) c.args.site.now c.args.now c.in-Some.number c.args.packet.now c.args.segment.now
    c.args.self.now c.sockets_of-sockets.result c.requires.valid.order c.sockets_of-sockets.ensures
    (subst (λ (t : Stack). Some c.in-Some.number ≡ option_map (λ (x : EntryFields). x.number) (found c.sockets_of-sockets.result t.sessions)) c.self.view_is c.in-Some.ensures) c.turn_at_segment.ensures.writes

pub returns-in-Some-clause-lines : goal.returns-in-Some-clause-lines
returns-in-Some-clause-lines c =
    segment_goes (λ (e : Effect). OnOk c.turn_at_segment.result (c.turn_at_segment.new.out.lines ≡ c.args.out.now.lines ++ e.lines)) c.args.site.now c.args.now c.in-Some.number c.args.packet.now c.args.segment.now
    c.args.self.now c.sockets_of-sockets.result c.requires.valid.order c.sockets_of-sockets.ensures
    (subst (λ (t : Stack). Some c.in-Some.number ≡ option_map (λ (x : EntryFields). x.number) (found c.sockets_of-sockets.result t.sessions)) c.self.view_is c.in-Some.ensures) c.turn_at_segment.ensures.lines

pub returns-then-not-may_accept-clause-stack : goal.returns-then-not-may_accept-clause-stack
returns-then-not-may_accept-clause-stack c =
    refuses (λ (e : Effect). OnOk c.tell_dropped.result (c.args.self.now ≡ e.stack)) c.args.site.now c.args.now c.args.packet.now c.args.segment.now c.args.self.now c.sockets_of-sockets.result
    c.sockets_of-sockets.ensures (subst (λ (t : Stack). None ≡ option_map (λ (x : EntryFields). x.number) (found c.sockets_of-sockets.result t.sessions)) c.self.view_is c.in_default.ensures)
    (sym c.if-not-may_accept.ensures.accepts) (on_ok c.tell_dropped.result refl)

pub returns-then-not-may_accept-clause-writes : goal.returns-then-not-may_accept-clause-writes
returns-then-not-may_accept-clause-writes c =
    refuses (λ (e : Effect). OnOk c.tell_dropped.result (c.tell_dropped.new.out.writes ≡ c.args.out.now.writes ++ e.writes)) c.args.site.now c.args.now c.args.packet.now c.args.segment.now c.args.self.now c.sockets_of-sockets.result
    c.sockets_of-sockets.ensures (subst (λ (t : Stack). None ≡ option_map (λ (x : EntryFields). x.number) (found c.sockets_of-sockets.result t.sessions)) c.self.view_is c.in_default.ensures)
    (sym c.if-not-may_accept.ensures.accepts) (on_ok_weaker c.tell_dropped.result (λ e. e ∙ sym (append-nil c.args.out.now.writes)) c.tell_dropped.ensures.writes)

pub returns-then-not-may_accept-clause-lines : goal.returns-then-not-may_accept-clause-lines
returns-then-not-may_accept-clause-lines c =
    refuses (λ (e : Effect). OnOk c.tell_dropped.result (c.tell_dropped.new.out.lines ≡ c.args.out.now.lines ++ e.lines)) c.args.site.now c.args.now c.args.packet.now c.args.segment.now c.args.self.now c.sockets_of-sockets.result
    c.sockets_of-sockets.ensures (subst (λ (t : Stack). None ≡ option_map (λ (x : EntryFields). x.number) (found c.sockets_of-sockets.result t.sessions)) c.self.view_is c.in_default.ensures)
    (sym c.if-not-may_accept.ensures.accepts) c.tell_dropped.ensures.lines

pub accept-requires-clause-room : goal.accept-requires-clause-room
accept-requires-clause-room c = c.may_accept.ensures.room c.if-not-may_accept.false

pub returns-clause-stack : goal.returns-clause-stack
returns-clause-stack c =
    accepts (λ (e : Effect). OnOk c.accept.result (c.accept.new.self ≡ e.stack)) c.args.site.now c.args.now c.args.packet.now c.args.segment.now c.args.self.now c.sockets_of-sockets.result
    c.sockets_of-sockets.ensures (subst (λ (t : Stack). None ≡ option_map (λ (x : EntryFields). x.number) (found c.sockets_of-sockets.result t.sessions)) c.self.view_is c.in_default.ensures)
    (sym c.if-not-may_accept.ensures.accepts) c.accept.ensures.stack

pub returns-clause-writes : goal.returns-clause-writes
returns-clause-writes c =
    accepts (λ (e : Effect). OnOk c.accept.result (c.accept.new.out.writes ≡ c.args.out.now.writes ++ e.writes)) c.args.site.now c.args.now c.args.packet.now c.args.segment.now c.args.self.now c.sockets_of-sockets.result
    c.sockets_of-sockets.ensures (subst (λ (t : Stack). None ≡ option_map (λ (x : EntryFields). x.number) (found c.sockets_of-sockets.result t.sessions)) c.self.view_is c.in_default.ensures)
    (sym c.if-not-may_accept.ensures.accepts) c.accept.ensures.writes

pub returns-clause-lines : goal.returns-clause-lines
returns-clause-lines c =
    accepts (λ (e : Effect). OnOk c.accept.result (c.accept.new.out.lines ≡ c.args.out.now.lines ++ e.lines)) c.args.site.now c.args.now c.args.packet.now c.args.segment.now c.args.self.now c.sockets_of-sockets.result
    c.sockets_of-sockets.ensures (subst (λ (t : Stack). None ≡ option_map (λ (x : EntryFields). x.number) (found c.sockets_of-sockets.result t.sessions)) c.self.view_is c.in_default.ensures)
    (sym c.if-not-may_accept.ensures.accepts) c.accept.ensures.lines
