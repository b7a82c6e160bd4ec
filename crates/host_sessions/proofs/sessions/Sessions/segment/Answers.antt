use Rattle.std.proofs.Common.{◌≡◌, ◌∙◌, ap}
use Rattle.tcp_rules.specs.Sessions.{at_segment}
use Rattle.host_rules.specs.Hosts.{EntryFields}
use Rattle.host_rules.specs.Entries.{settled}
use Rattle.host_rules.specs.Hearing.{MostAccepted}
use Rattle.host_sessions.specs.Tabled.{entry_view, back_in}
use Rattle.host_sessions.proofs.Entering.{fresh_turned, few_without, same_found, settled_turned, ok_more}
use Rattle.host_sessions.proofs.sessions.Sessions.segment.Goals as goal

pub settle-requires-clause-fresh : goal.settle-requires-clause-fresh
settle-requires-clause-fresh c = fresh_turned c.args.number (entry_view c.take-entry.result) c.segment.new.self c.args.self.now c.take-entry.new.self c.requires.order c.take-entry.ensures.entry c.take-entry.ensures.rest

pub settle-requires-clause-few : goal.settle-requires-clause-few
settle-requires-clause-few c = few_without c.args.number c.args.self.now c.take-entry.new.self MostAccepted c.requires.few c.take-entry.ensures.rest

pub returns-clause-sessions : goal.returns-clause-sessions
returns-clause-sessions c = λ x at.
    let same : entry_view c.take-entry.result ≡ x = same_found c.args.number (entry_view c.take-entry.result) x c.args.self.now c.take-entry.ensures.entry at in
    let turned : c.segment.new.self ≡ (at_segment x.session c.args.segment.now c.args.now).after = c.in_ok-segment.ensures.session ∙ ap (λ (z : EntryFields). (at_segment z.session c.args.segment.now c.args.now).after) same in
    ok_more c.settle.result (c.settle.new.self ≡ back_in (record (entry_view c.take-entry.result) { session = c.segment.new.self }) c.take-entry.new.self)
    (c.settle.new.self ≡ settled c.args.number (at_segment x.session c.args.segment.now c.args.now).after c.args.self.now)
    (λ back. settled_turned c.args.number (entry_view c.take-entry.result) x c.segment.new.self (at_segment x.session c.args.segment.now c.args.now).after c.args.self.now c.take-entry.new.self c.settle.new.self c.requires.order at same c.take-entry.ensures.rest turned back)
    c.settle.ensures.sessions
