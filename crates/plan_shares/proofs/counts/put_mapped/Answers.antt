use Rattle.std.proofs.Common.{get_or, arith}
use Rattle.alignment.specs.Alignment.{timeline_count}
use Rattle.alignment.proofs.Numbering.{line_below}
use Rattle.plan_shares.proofs.ForEach.{here_is, among_here, length_of}
use Rattle.plan_shares.proofs.Filling.{with_mapped, mapped_none, mapped_more}
use Rattle.plan_shares.proofs.Crossing.{nothing}
use Rattle.plan_shares.proofs.counts.put_mapped.Goals as goal

pub loop-mapping-init : goal.loop-mapping-init
loop-mapping-init c = mapped_none c.args.counts.now c.args.alignment.now (timeline_count c.args.alignment.now) c.args.mappings.now c.args.lists.now c.requires.size

pub bounds-counts-mapping : goal.bounds-counts-mapping
bounds-counts-mapping c = (c.requires.known (get_or c.args.mappings.now c.loop-mapping.mapping-index nothing) (among_here c.args.mappings.now c.loop-mapping.mapping-index (get_or c.args.mappings.now c.loop-mapping.mapping-index nothing) c.loop-mapping-test.true (here_is c.args.mappings.now c.loop-mapping.mapping-index nothing c.loop-mapping-test.true))).1

pub timeline-requires : goal.timeline-requires
timeline-requires c = (c.requires.known (get_or c.args.mappings.now c.loop-mapping.mapping-index nothing) (among_here c.args.mappings.now c.loop-mapping.mapping-index (get_or c.args.mappings.now c.loop-mapping.mapping-index nothing) c.loop-mapping-test.true (here_is c.args.mappings.now c.loop-mapping.mapping-index nothing c.loop-mapping-test.true))).0

pub put-requires : goal.put-requires
put-requires c =
    let size = length_of (timeline_count c.args.alignment.now) (with_mapped c.args.counts.now c.args.alignment.now c.args.mappings.now c.args.lists.now c.loop-mapping.mapping-index) c.loop-mapping.lists c.loop-mapping.invariant in
    let known = c.requires.known (get_or c.args.mappings.now c.loop-mapping.mapping-index nothing) (among_here c.args.mappings.now c.loop-mapping.mapping-index (get_or c.args.mappings.now c.loop-mapping.mapping-index nothing) c.loop-mapping-test.true (here_is c.args.mappings.now c.loop-mapping.mapping-index nothing c.loop-mapping-test.true)) in
    let below = line_below c.args.alignment.now (get_or c.args.mappings.now c.loop-mapping.mapping-index nothing).from known.0 in
    omega (arith, size, below, c.timeline.ensures)

pub loop-mapping-preserved : goal.loop-mapping-preserved
loop-mapping-preserved c =
    let known = c.requires.known (get_or c.args.mappings.now c.loop-mapping.mapping-index nothing) (among_here c.args.mappings.now c.loop-mapping.mapping-index (get_or c.args.mappings.now c.loop-mapping.mapping-index nothing) c.loop-mapping-test.true (here_is c.args.mappings.now c.loop-mapping.mapping-index nothing c.loop-mapping-test.true)) in
    let below = line_below c.args.alignment.now (get_or c.args.mappings.now c.loop-mapping.mapping-index nothing).from known.0 in
    mapped_more c.args.counts.now c.args.alignment.now (timeline_count c.args.alignment.now) c.loop-mapping.mapping-index c.timeline.result c.args.mappings.now (get_or c.args.mappings.now c.loop-mapping.mapping-index nothing) c.args.lists.now c.loop-mapping.lists c.put.new.self
    c.loop-mapping-test.true (here_is c.args.mappings.now c.loop-mapping.mapping-index nothing c.loop-mapping-test.true) c.timeline.ensures (omega (arith, below, c.timeline.ensures)) c.loop-mapping.invariant c.in_ok-put.ensures
