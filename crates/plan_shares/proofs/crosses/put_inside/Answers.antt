use Rattle.std.proofs.Common.{get_or, nat_eq, ◌&&◌, sym, [], take, ap, ◌∙◌, arith}
use Rattle.ssf_model.specs.declared.plan.Mapping.{Mapping}
use Rattle.alignment.specs.Alignment.{line_of, timeline_count}
use Rattle.alignment.proofs.Numbering.{line_below}
use Rattle.plan_shares.specs.Shares.{is_on, inside_on}
use Rattle.plan_shares.specs.Lists.{for_each}
use Rattle.plan_shares.proofs.ForEach.{here_is, among_here, length_of, put_kept, skip_kept, all_kept, both_on, never_both}
use Rattle.plan_shares.proofs.Crossing.{nothing}
use Rattle.plan_shares.proofs.crosses.put_inside.Goals as goal
use Rattle.plan_shares.proofs.crosses.put_inside.Goals.{then-timeline-line+in_ok-put, else-timeline-line}

pub timeline-line-requires : goal.timeline-line-requires
timeline-line-requires c = (c.requires.known (get_or c.args.mappings.now c.loop-mapping.mapping-index nothing) (among_here c.args.mappings.now c.loop-mapping.mapping-index (get_or c.args.mappings.now c.loop-mapping.mapping-index nothing) c.loop-mapping-test.true (here_is c.args.mappings.now c.loop-mapping.mapping-index nothing c.loop-mapping-test.true))).0

pub timeline-requires : goal.timeline-requires
timeline-requires c = (c.requires.known (get_or c.args.mappings.now c.loop-mapping.mapping-index nothing) (among_here c.args.mappings.now c.loop-mapping.mapping-index (get_or c.args.mappings.now c.loop-mapping.mapping-index nothing) c.loop-mapping-test.true (here_is c.args.mappings.now c.loop-mapping.mapping-index nothing c.loop-mapping-test.true))).1

pub put-requires : goal.put-requires
put-requires c =
    let size = length_of (timeline_count c.args.alignment.now) (λ i. inside_on c.args.alignment.now i (take c.loop-mapping.mapping-index c.args.mappings.now)) c.loop-mapping.lists c.loop-mapping.invariant in
    let known = c.requires.known (get_or c.args.mappings.now c.loop-mapping.mapping-index nothing) (among_here c.args.mappings.now c.loop-mapping.mapping-index (get_or c.args.mappings.now c.loop-mapping.mapping-index nothing) c.loop-mapping-test.true (here_is c.args.mappings.now c.loop-mapping.mapping-index nothing c.loop-mapping-test.true)) in
    let below = line_below c.args.alignment.now (get_or c.args.mappings.now c.loop-mapping.mapping-index nothing).from known.0 in
    omega (arith, size, below, c.timeline-line.ensures)

pub loop-mapping-init : goal.loop-mapping-init
loop-mapping-init c = c.in_ok-open.ensures ∙ ap (λ n. for_each n (λ _. [])) c.count.ensures

pub loop-mapping-preserved : goal.loop-mapping-preserved
loop-mapping-preserved c =
    let lines = c.args.alignment.now in
    let ms = c.args.mappings.now in
    let k = c.loop-mapping.mapping-index in
    let m : Mapping = get_or ms k nothing in
    let at = here_is ms k nothing c.loop-mapping-test.true in
    let known = c.requires.known m (among_here ms k m c.loop-mapping-test.true at) in
    let below = line_below lines m.from known.0 in
    elim c.if-timeline-line.branch [
      | then-timeline-line+in_ok-put w ↦
          w.lists-is ∙ put_kept (timeline_count lines) c.timeline-line.result (λ i (x : Mapping). is_on lines i x.from && is_on lines i x.to) ms k m c.loop-mapping.lists w.put.new.self c.loop-mapping-test.true at
          (λ i. both_on (line_of lines m.from) (line_of lines m.to) i (sym c.timeline-line.ensures ∙ (sym w.if-timeline-line.true ∙ c.timeline.ensures)) ∙ ap (λ l. nat_eq l i) (sym c.timeline-line.ensures))
          c.loop-mapping.invariant (omega (arith, below, c.timeline-line.ensures)) w.in_ok-put.ensures
      | else-timeline-line w ↦
          w.lists-is ∙ skip_kept (timeline_count lines) (λ i (x : Mapping). is_on lines i x.from && is_on lines i x.to) ms k m c.loop-mapping.lists c.loop-mapping-test.true at
          (λ i. never_both (line_of lines m.from) (line_of lines m.to) i (λ e. w.if-timeline-line.false (c.timeline.ensures ∙ (e ∙ sym c.timeline-line.ensures)))) c.loop-mapping.invariant
    ]

pub returns : goal.returns
returns c = all_kept (timeline_count c.args.alignment.now) (λ i (x : Mapping). is_on c.args.alignment.now i x.from && is_on c.args.alignment.now i x.to) c.args.mappings.now c.loop-mapping.mapping-index c.loop-mapping.lists c.loop-mapping-test.false c.loop-mapping.invariant
