use Rattle.std.proofs.Common.{nat_eq, [], take, ap, ◌∙◌, sym, arith}
use Rattle.alignment.specs.Alignment.{timeline_count}
use Rattle.alignment.proofs.Numbering.{line_below}
use Rattle.plan_shares.specs.Shares.{is_on, events_on}
use Rattle.plan_shares.specs.Lists.{for_each}
use Rattle.plan_shares.proofs.ForEach.{among_here, length_of, put_kept, all_kept}
use Rattle.plan_shares.proofs.entities.put_events.Goals as goal

pub timeline-requires : goal.timeline-requires
timeline-requires g c = c.requires.known c.event-item.result (among_here c.args.events.now c.loop-event.event-index c.event-item.result c.loop-event-test.true c.event-item.is)

pub put-requires : goal.put-requires
put-requires g c =
    let size = length_of (timeline_count c.args.alignment.now) (λ i. events_on c.args.alignment.now i (take c.loop-event.event-index c.args.events.now)) c.loop-event.lists c.loop-event.invariant in
    let known = c.requires.known c.event-item.result (among_here c.args.events.now c.loop-event.event-index c.event-item.result c.loop-event-test.true c.event-item.is) in
    let below = line_below c.args.alignment.now c.event-item.result.entity known in
    omega (arith, size, below, c.timeline.ensures)

pub loop-event-init : goal.loop-event-init
loop-event-init g c = c.in_ok-open.ensures ∙ ap (λ n. for_each n (λ _. [])) c.count.ensures

pub loop-event-preserved : goal.loop-event-preserved
loop-event-preserved g c =
    let known = c.requires.known c.event-item.result (among_here c.args.events.now c.loop-event.event-index c.event-item.result c.loop-event-test.true c.event-item.is) in
    let below = line_below c.args.alignment.now c.event-item.result.entity known in
    put_kept (timeline_count c.args.alignment.now) c.timeline.result (λ i e. is_on c.args.alignment.now i e.entity) c.args.events.now c.loop-event.event-index c.event-item.result c.loop-event.lists c.put.new.self
    c.loop-event-test.true c.event-item.is (λ i. ap (λ l. nat_eq l i) (sym c.timeline.ensures)) c.loop-event.invariant (omega (arith, below, c.timeline.ensures)) c.in_ok-put.ensures

pub returns : goal.returns
returns g c = all_kept (timeline_count c.args.alignment.now) (λ i e. is_on c.args.alignment.now i e.entity) c.args.events.now c.loop-event.event-index c.loop-event.lists c.loop-event-test.false c.loop-event.invariant
