use Rattle.std.proofs.Common.{◌≡◌, ◌∙◌, ◌<◌, ◌++◌, List, length, refl, ap, sym, append-nil}
use Rattle.std.specs.Prelude.{OnOk}
use Rattle.std.specs.Option.{ForSome}
use Rattle.tcp_rules.specs.declared.records.Act.{Act}
use Rattle.tcp_rules.specs.Sessions.{at_timeout}
use Rattle.host_rules.specs.Effects.{Effect}
use Rattle.host_rules.specs.Entries.{numbered}
use Rattle.host_rules.specs.Limits.{IsStack}
use Rattle.host_stack.specs.contracts.stack.Stack.{the_view}
use Rattle.host_stack.proofs.Valid.{lost_valid, timeout_valid, turned_client}
use Rattle.host_stack.proofs.Arriving.{with_numbered, turn_done, due_there, times_out, waits_on}
use Rattle.host_stack.proofs.stack.Stack.time_out.Goals as goal

pub returns-then-not-is_due-clause-stack : goal.returns-then-not-is_due-clause-stack
returns-then-not-is_due-clause-stack c =
    rw (← c.self.view_is) (waits_on (λ (e : Effect). the_view c.self.inside ≡ e.stack) c.args.site.now c.args.now c.args.number (the_view c.self.inside) (sym c.if-not-is_due.ensures) refl)

pub returns-then-not-is_due-clause-writes : goal.returns-then-not-is_due-clause-writes
returns-then-not-is_due-clause-writes c =
    rw (← c.self.view_is)
    (waits_on (λ (e : Effect). c.args.out.now.writes ≡ c.args.out.now.writes ++ e.writes) c.args.site.now c.args.now c.args.number (the_view c.self.inside) (sym c.if-not-is_due.ensures) (sym (append-nil c.args.out.now.writes)))

pub returns-then-not-is_due-clause-lines : goal.returns-then-not-is_due-clause-lines
returns-then-not-is_due-clause-lines c =
    rw (← c.self.view_is)
    (waits_on (λ (e : Effect). c.args.out.now.lines ≡ c.args.out.now.lines ++ e.lines) c.args.site.now c.args.now c.args.number (the_view c.self.inside) (sym c.if-not-is_due.ensures) (sym (append-nil c.args.out.now.lines)))

pub returns-in_err-turned-clause-kept : goal.returns-in_err-turned-clause-kept
returns-in_err-turned-clause-kept c =
    let is = rw (← c.self.view_is) at c.requires.valid in
    lost_valid c.args.site.now (the_view c.self.inside) c.args.number c.timeout.new.self is c.in_err-turned.ensures.lost

pub follow_turn-requires-clause-valid : goal.follow_turn-requires-clause-valid
follow_turn-requires-clause-valid c =
    let s = the_view c.self.inside in
    let is = rw (← c.self.view_is) at c.requires.valid in
    with_numbered (IsStack c.args.site.now (record s { sessions = c.timeout.new.self })) (numbered c.args.number s.sessions) (due_there c.args.now (numbered c.args.number s.sessions) (sym c.if-not-is_due.ensures))
    (λ x at. timeout_valid c.args.site.now s c.args.number x c.args.now c.timeout.new.self is at (c.in_ok-turned.ensures.sessions x at))

pub follow_turn-requires-clause-client : goal.follow_turn-requires-clause-client
follow_turn-requires-clause-client c =
    let s = the_view c.self.inside in
    let is = rw (← c.self.view_is) at c.requires.valid in
    with_numbered (ForSome c.in_ok-turned.turned.client (λ client. client < length c.args.site.now.clients)) (numbered c.args.number s.sessions)
    (due_there c.args.now (numbered c.args.number s.sessions) (sym c.if-not-is_due.ensures))
    (λ x at. turned_client c.args.site.now s c.args.number x (at_timeout x.session c.args.now).after c.in_ok-turned.turned is at (c.in_ok-turned.ensures.turned x at))

pub returns-clause-stack : goal.returns-clause-stack
returns-clause-stack c =
    rw (← c.self.view_is)
    (times_out (λ (e : Effect). OnOk c.follow_turn.result (c.follow_turn.new.self ≡ e.stack)) c.args.site.now c.args.now c.args.number (the_view c.self.inside) (sym c.if-not-is_due.ensures)
    (λ x at. turn_done (λ (e : Effect). OnOk c.follow_turn.result (c.follow_turn.new.self ≡ e.stack)) c.args.site.now c.args.now c.args.number x (at_timeout x.session c.args.now) (the_view c.self.inside)
    c.in_ok-turned.turned c.acts-2.result.now c.timeout.new.self at (c.in_ok-turned.ensures.turned x at)
    (c.acts-2.ensures ∙ c.in_ok-turned.ensures.acts x at ∙ ap (λ (acts : List Act). acts ++ (at_timeout x.session c.args.now).acts) c.new-acts.ensures)
    (c.in_ok-turned.ensures.sessions x at) c.follow_turn.ensures.stack))

pub returns-clause-writes : goal.returns-clause-writes
returns-clause-writes c =
    rw (← c.self.view_is)
    (times_out (λ (e : Effect). OnOk c.follow_turn.result (c.follow_turn.new.out.writes ≡ c.args.out.now.writes ++ e.writes)) c.args.site.now c.args.now c.args.number (the_view c.self.inside) (sym c.if-not-is_due.ensures)
    (λ x at. turn_done (λ (e : Effect). OnOk c.follow_turn.result (c.follow_turn.new.out.writes ≡ c.args.out.now.writes ++ e.writes)) c.args.site.now c.args.now c.args.number x (at_timeout x.session c.args.now) (the_view c.self.inside)
    c.in_ok-turned.turned c.acts-2.result.now c.timeout.new.self at (c.in_ok-turned.ensures.turned x at)
    (c.acts-2.ensures ∙ c.in_ok-turned.ensures.acts x at ∙ ap (λ (acts : List Act). acts ++ (at_timeout x.session c.args.now).acts) c.new-acts.ensures)
    (c.in_ok-turned.ensures.sessions x at) c.follow_turn.ensures.writes))

pub returns-clause-lines : goal.returns-clause-lines
returns-clause-lines c =
    rw (← c.self.view_is)
    (times_out (λ (e : Effect). OnOk c.follow_turn.result (c.follow_turn.new.out.lines ≡ c.args.out.now.lines ++ e.lines)) c.args.site.now c.args.now c.args.number (the_view c.self.inside) (sym c.if-not-is_due.ensures)
    (λ x at. turn_done (λ (e : Effect). OnOk c.follow_turn.result (c.follow_turn.new.out.lines ≡ c.args.out.now.lines ++ e.lines)) c.args.site.now c.args.now c.args.number x (at_timeout x.session c.args.now) (the_view c.self.inside)
    c.in_ok-turned.turned c.acts-2.result.now c.timeout.new.self at (c.in_ok-turned.ensures.turned x at)
    (c.acts-2.ensures ∙ c.in_ok-turned.ensures.acts x at ∙ ap (λ (acts : List Act). acts ++ (at_timeout x.session c.args.now).acts) c.new-acts.ensures)
    (c.in_ok-turned.ensures.sessions x at) c.follow_turn.ensures.lines))
