use Rattle.std.proofs.Common.{◌++◌, set, map, subst, ap, ◌∙◌, arith}
use Rattle.event_order.specs.Pending.{Among}
use Rattle.alignment.specs.Alignment.{timeline_count}
use Rattle.alignment.proofs.Numbering.{line_below}
use Rattle.plan_shares.specs.Shares.{timers_in, counted_in}
use Rattle.plan_shares.specs.Lists.{list_at}
use Rattle.plan_shares.proofs.ForEach.{length_of}
use Rattle.plan_shares.proofs.Filling.{first_timers, timers_more, timers_all, get_some}
use Rattle.plan_shares.proofs.counts.put_timers.Goals as goal

pub put_timers_of-requires : goal.put_timers_of-requires
put_timers_of-requires g c =
    let size = length_of (timeline_count c.args.alignment.now) (first_timers c.args.counts.now c.args.alignment.now c.loop-index.index c.args.entities.now) c.loop-index.lists c.loop-index.invariant in
    let below = line_below c.args.alignment.now c.loop-index.index (omega (arith, c.requires.aligned, c.loop-index-test.true)) in
    record {
      line = omega (arith, size, below, c.timeline-line.ensures);
      known = λ channel among. c.requires.known c.loop-index.index channel c.index-entities-index.result
          (get_some c.args.entities.now c.loop-index.index c.index-entities-index.result c.loop-index-test.true c.index-entities-index.is)
          (subst (λ ps. Among channel (timers_in ps)) c.as_slice.ensures among);
    }

pub loop-index-preserved : goal.loop-index-preserved
loop-index-preserved g c =
    let below = line_below c.args.alignment.now c.loop-index.index (omega (arith, c.requires.aligned, c.loop-index-test.true)) in
    timers_more c.args.counts.now c.args.alignment.now (timeline_count c.args.alignment.now) c.loop-index.index c.timeline-line.result c.args.entities.now c.index-entities-index.result c.loop-index.lists c.put_timers_of.new.lists
    c.loop-index-test.true c.index-entities-index.is c.timeline-line.ensures (omega (arith, below, c.timeline-line.ensures)) c.loop-index.invariant
    (c.in_ok-put_timers_of.ensures ∙ ap (λ ps. set c.loop-index.lists c.timeline-line.result (list_at c.loop-index.lists c.timeline-line.result ++ map (counted_in c.args.counts.now) (timers_in ps))) c.as_slice.ensures)

pub returns : goal.returns
returns g c = timers_all c.args.counts.now c.args.alignment.now (timeline_count c.args.alignment.now) c.loop-index.index c.args.entities.now c.loop-index.lists c.loop-index-test.false c.loop-index.invariant
