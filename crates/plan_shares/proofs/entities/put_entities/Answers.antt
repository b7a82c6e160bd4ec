use Rattle.std.proofs.Common.{length, take, ap, ◌∙◌, arith}
use Rattle.std.specs.List.{filter, enumerate_from}
use Rattle.std.proofs.lemmas.List.{length-drop}
use Rattle.alignment.specs.Alignment.{timeline_count}
use Rattle.alignment.proofs.Numbering.{line_below}
use Rattle.plan_shares.specs.Shares.{is_on}
use Rattle.plan_shares.proofs.ForEach.{length_of}
use Rattle.plan_shares.proofs.Filling.{rest_is, entities_more, entities_all}
use Rattle.plan_shares.proofs.entities.put_entities.Goals as goal

pub timeline-requires : goal.timeline-requires
timeline-requires g c =
    let next = rest_is c.args.entities c.loop-entity.number c.in-Some.entity c.next.new.self.rest.items (c.loop-entity.invariant.3 ∙ c.in-Some.ensures.steps.0) in
    omega (arith, next.0, c.requires.aligned)

pub put-requires : goal.put-requires
put-requires g c =
    let next = rest_is c.args.entities c.loop-entity.number c.in-Some.entity c.next.new.self.rest.items (c.loop-entity.invariant.3 ∙ c.in-Some.ensures.steps.0) in
    let size = length_of (timeline_count c.args.alignment.now) (λ i. filter (λ x. is_on c.args.alignment.now i x.0) (take c.loop-entity.number (enumerate_from 0 c.args.entities))) c.loop-entity.lists c.loop-entity.invariant.2 in
    let below = line_below c.args.alignment.now c.loop-entity.number (omega (arith, next.0, c.requires.aligned)) in
    omega (arith, size, below, c.timeline.ensures)

pub overflow_add-number : goal.overflow_add-number
overflow_add-number g c =
    let next = rest_is c.args.entities c.loop-entity.number c.in-Some.entity c.next.new.self.rest.items (c.loop-entity.invariant.3 ∙ c.in-Some.ensures.steps.0) in
    omega (arith, next.0, c.requires.few)

pub loop-entity-preserved : goal.loop-entity-preserved
loop-entity-preserved g c =
    let next = rest_is c.args.entities c.loop-entity.number c.in-Some.entity c.next.new.self.rest.items (c.loop-entity.invariant.3 ∙ c.in-Some.ensures.steps.0) in
    let below = line_below c.args.alignment.now c.loop-entity.number (omega (arith, next.0, c.requires.aligned)) in (
      tt,
      tt,
      entities_more c.args.alignment.now (timeline_count c.args.alignment.now) c.loop-entity.number c.args.entities c.in-Some.entity c.loop-entity.lists c.put.new.self c.timeline.result
          next.0 next.1 c.timeline.ensures (omega (arith, below, c.timeline.ensures)) c.loop-entity.invariant.2 c.in_ok-put.ensures,
      next.2,
    )

pub returns : goal.returns
returns g c =
    let none = c.in-None.ensures.steps.0 in
    let items = c.loop-entity.entity-iterator.rest.ok.0 in
    let left = ap (λ xs. length xs) c.loop-entity.invariant.3 in
    let drops = length-drop c.loop-entity.number c.args.entities in
    entities_all c.args.alignment.now (timeline_count c.args.alignment.now) c.loop-entity.number c.args.entities c.loop-entity.lists (omega (arith, none, items, left, drops)) c.loop-entity.invariant.2
