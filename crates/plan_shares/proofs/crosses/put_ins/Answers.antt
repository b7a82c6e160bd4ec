use Rattle.std.proofs.Common.{get_or, nat_eq, [], take, ap, ◌∙◌, sym, arith}
use Rattle.timeline_parts.specs.declared.part.Cross.{Cross}
use Rattle.alignment.specs.Alignment.{timeline_count}
use Rattle.alignment.proofs.Numbering.{line_below}
use Rattle.plan_shares.specs.Shares.{is_on, into}
use Rattle.plan_shares.specs.Lists.{for_each}
use Rattle.plan_shares.proofs.ForEach.{here_is, among_here, length_of, put_kept, all_kept}
use Rattle.plan_shares.proofs.Crossing.{no_cross}
use Rattle.plan_shares.proofs.crosses.put_ins.Goals as goal

pub timeline-requires : goal.timeline-requires
timeline-requires c = (c.requires.known (get_or c.args.crosses.now c.loop-cross.cross-index no_cross) (among_here c.args.crosses.now c.loop-cross.cross-index (get_or c.args.crosses.now c.loop-cross.cross-index no_cross) c.loop-cross-test.true (here_is c.args.crosses.now c.loop-cross.cross-index no_cross c.loop-cross-test.true))).1

pub put-requires : goal.put-requires
put-requires c =
    let size = length_of (timeline_count c.args.alignment.now) (λ i. into c.args.alignment.now i (take c.loop-cross.cross-index c.args.crosses.now)) c.loop-cross.lists c.loop-cross.invariant in
    let known = c.requires.known (get_or c.args.crosses.now c.loop-cross.cross-index no_cross) (among_here c.args.crosses.now c.loop-cross.cross-index (get_or c.args.crosses.now c.loop-cross.cross-index no_cross) c.loop-cross-test.true (here_is c.args.crosses.now c.loop-cross.cross-index no_cross c.loop-cross-test.true)) in
    let below = line_below c.args.alignment.now (get_or c.args.crosses.now c.loop-cross.cross-index no_cross).mapping.to known.1 in
    omega (arith, size, below, c.timeline.ensures)

pub loop-cross-init : goal.loop-cross-init
loop-cross-init c = c.in_ok-open.ensures ∙ ap (λ n. for_each n (λ _. [])) c.count.ensures

pub loop-cross-preserved : goal.loop-cross-preserved
loop-cross-preserved c =
    let known = c.requires.known (get_or c.args.crosses.now c.loop-cross.cross-index no_cross) (among_here c.args.crosses.now c.loop-cross.cross-index (get_or c.args.crosses.now c.loop-cross.cross-index no_cross) c.loop-cross-test.true (here_is c.args.crosses.now c.loop-cross.cross-index no_cross c.loop-cross-test.true)) in
    let below = line_below c.args.alignment.now (get_or c.args.crosses.now c.loop-cross.cross-index no_cross).mapping.to known.1 in
    put_kept (timeline_count c.args.alignment.now) c.timeline.result (λ i (x : Cross). is_on c.args.alignment.now i x.mapping.to) c.args.crosses.now c.loop-cross.cross-index (get_or c.args.crosses.now c.loop-cross.cross-index no_cross) c.loop-cross.lists c.put.new.self
    c.loop-cross-test.true (here_is c.args.crosses.now c.loop-cross.cross-index no_cross c.loop-cross-test.true) (λ i. ap (λ l. nat_eq l i) (sym c.timeline.ensures)) c.loop-cross.invariant (omega (arith, below, c.timeline.ensures)) c.in_ok-put.ensures

pub returns : goal.returns
returns c = all_kept (timeline_count c.args.alignment.now) (λ i (x : Cross). is_on c.args.alignment.now i x.mapping.to) c.args.crosses.now c.loop-cross.cross-index c.loop-cross.lists c.loop-cross-test.false c.loop-cross.invariant
