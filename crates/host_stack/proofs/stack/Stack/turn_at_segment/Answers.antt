use Rattle.std.proofs.Common.{◌≡◌, ◌∙◌, ◌<◌, ◌++◌, List, length, ap}
use Rattle.std.specs.Prelude.{OnOk}
use Rattle.std.specs.Option.{ForSome}
use Rattle.tcp_rules.specs.declared.records.Act.{Act}
use Rattle.tcp_rules.specs.Sessions.{at_segment}
use Rattle.host_rules.specs.Effects.{Effect}
use Rattle.host_rules.specs.Entries.{numbered}
use Rattle.host_rules.specs.Limits.{IsStack}
use Rattle.host_stack.specs.contracts.stack.Stack.{the_view}
use Rattle.host_stack.proofs.Valid.{lost_valid, segment_valid, turned_client}
use Rattle.host_stack.proofs.Arriving.{with_numbered, turn_done}
use Rattle.host_stack.proofs.stack.Stack.turn_at_segment.Goals as goal

pub returns-in_err-turned-clause-kept : goal.returns-in_err-turned-clause-kept
returns-in_err-turned-clause-kept c =
    let is = rw (← c.self.view_is) at c.requires.valid in
    lost_valid c.args.site.now (the_view c.self.inside) c.args.number c.segment.new.self is c.in_err-turned.ensures.lost

pub follow_turn-requires-clause-valid : goal.follow_turn-requires-clause-valid
follow_turn-requires-clause-valid c =
    let s = the_view c.self.inside in
    let is = rw (← c.self.view_is) at c.requires.valid in
    let here = rw (← c.self.view_is) at c.requires.there in
    with_numbered (IsStack c.args.site.now (record s { sessions = c.segment.new.self })) (numbered c.args.number s.sessions) here
    (λ x at. segment_valid c.args.site.now s c.args.number x c.args.segment.now c.args.now c.segment.new.self is at c.known.ensures (c.in_ok-turned.ensures.sessions x at))

pub follow_turn-requires-clause-client : goal.follow_turn-requires-clause-client
follow_turn-requires-clause-client c =
    let s = the_view c.self.inside in
    let is = rw (← c.self.view_is) at c.requires.valid in
    let here = rw (← c.self.view_is) at c.requires.there in
    with_numbered (ForSome c.in_ok-turned.turned.client (λ client. client < length c.args.site.now.clients)) (numbered c.args.number s.sessions) here
    (λ x at. turned_client c.args.site.now s c.args.number x (at_segment x.session c.args.segment.now c.args.now).after c.in_ok-turned.turned is at (c.in_ok-turned.ensures.turned x at))

pub returns-clause-stack : goal.returns-clause-stack
returns-clause-stack c =
    rw (← c.self.view_is)
    (λ x at. turn_done (λ (e : Effect). OnOk c.follow_turn.result (c.follow_turn.new.self ≡ e.stack)) c.args.site.now c.args.now c.args.number x (at_segment x.session c.args.segment.now c.args.now) (the_view c.self.inside)
    c.in_ok-turned.turned c.acts-2.result.now c.segment.new.self at (c.in_ok-turned.ensures.turned x at)
    (c.acts-2.ensures ∙ c.in_ok-turned.ensures.acts x at ∙ ap (λ (acts : List Act). acts ++ (at_segment x.session c.args.segment.now c.args.now).acts) c.new-acts.ensures)
    (c.in_ok-turned.ensures.sessions x at) c.follow_turn.ensures.stack)

pub returns-clause-writes : goal.returns-clause-writes
returns-clause-writes c =
    rw (← c.self.view_is)
    (λ x at. turn_done (λ (e : Effect). OnOk c.follow_turn.result (c.follow_turn.new.out.writes ≡ c.args.out.now.writes ++ e.writes)) c.args.site.now c.args.now c.args.number x (at_segment x.session c.args.segment.now c.args.now) (the_view c.self.inside)
    c.in_ok-turned.turned c.acts-2.result.now c.segment.new.self at (c.in_ok-turned.ensures.turned x at)
    (c.acts-2.ensures ∙ c.in_ok-turned.ensures.acts x at ∙ ap (λ (acts : List Act). acts ++ (at_segment x.session c.args.segment.now c.args.now).acts) c.new-acts.ensures)
    (c.in_ok-turned.ensures.sessions x at) c.follow_turn.ensures.writes)

pub returns-clause-lines : goal.returns-clause-lines
returns-clause-lines c =
    rw (← c.self.view_is)
    (λ x at. turn_done (λ (e : Effect). OnOk c.follow_turn.result (c.follow_turn.new.out.lines ≡ c.args.out.now.lines ++ e.lines)) c.args.site.now c.args.now c.args.number x (at_segment x.session c.args.segment.now c.args.now) (the_view c.self.inside)
    c.in_ok-turned.turned c.acts-2.result.now c.segment.new.self at (c.in_ok-turned.ensures.turned x at)
    (c.acts-2.ensures ∙ c.in_ok-turned.ensures.acts x at ∙ ap (λ (acts : List Act). acts ++ (at_segment x.session c.args.segment.now c.args.now).acts) c.new-acts.ensures)
    (c.in_ok-turned.ensures.sessions x at) c.follow_turn.ensures.lines)
