use Rattle.std.proofs.Common.{◌≡◌, ◌∙◌, ap, arith, sym, ℕ, is_some}
use Rattle.event_order.specs.Machine.{all_kept}
use Rattle.ssf_model.specs.Run.{run_event}
use Rattle.global_list.specs.Standing.{standing}
use Rattle.global_list.proofs.Standings.{running_next, running_same, running_ended, running_prefix, running_more, can_go_on, own_reaction}
use Rattle.global_list.proofs.single.run.Goals as goal

pub add_next-requires-after_bounds : goal.add_next-requires-after_bounds
add_next-requires-after_bounds g c κs within =
    can_go_on g.B.Behaviour.reaction g.B.Behaviour.valid g.B.Behaviour.carried c.args.plan c.args.until c.loop-executed._executed c.requires.plan c.requires.until (omega arith)
    (standing c.loop-executed.list) c.loop-executed.invariant.is

pub loop-executed-preserved : goal.loop-executed-preserved
loop-executed-preserved g c =
    let plan = c.args.plan in
    let now = c.loop-executed.invariant in
    running_next (g.B.Behaviour.reaction plan.behaviour) plan c.args.until (g.B.Behaviour.reaction c.loop-executed.list.behaviour)
    (own_reaction g.B.Behaviour.reaction plan c.args.until c.loop-executed._executed (standing c.loop-executed.list) now.is) c.loop-executed._executed (standing c.loop-executed.list) (standing c.add_next.new.list)
    c.loop-executed.entries.items c.add_next.new.entries.items now c.in-Ok-true.ensures.next c.in-Ok-true.ensures.entries (sym c.in-Ok-true.ensures.more ∙ c.in-Ok-true.field-0-test)

pub returns-in-Ok-false-clause-prefix : goal.returns-in-Ok-false-clause-prefix
returns-in-Ok-false-clause-prefix g c =
    let plan = c.args.plan in
    let r = g.B.Behaviour.reaction plan.behaviour in
    running_prefix r plan c.args.until c.loop-executed._executed (standing c.loop-executed.list) c.add_next.new.entries.items
    (running_same r plan c.args.until (g.B.Behaviour.reaction c.loop-executed.list.behaviour) c.loop-executed._executed (standing c.loop-executed.list) c.loop-executed.entries.items c.add_next.new.entries.items
    c.loop-executed.invariant c.in-Ok-false.ensures.entries (sym c.in-Ok-false.ensures.more ∙ c.in-Ok-false.field-0-test))

pub returns-in-Ok-false-clause-most : goal.returns-in-Ok-false-clause-most
returns-in-Ok-false-clause-most g c =
    let plan = c.args.plan in
    let r = g.B.Behaviour.reaction plan.behaviour in
    let w = running_same r plan c.args.until (g.B.Behaviour.reaction c.loop-executed.list.behaviour) c.loop-executed._executed (standing c.loop-executed.list) c.loop-executed.entries.items c.add_next.new.entries.items
    c.loop-executed.invariant c.in-Ok-false.ensures.entries (sym c.in-Ok-false.ensures.more ∙ c.in-Ok-false.field-0-test) in
    omega (arith, w.count)

pub returns-in-Ok-false-clause-finished : goal.returns-in-Ok-false-clause-finished
returns-in-Ok-false-clause-finished g c = λ e.
    let plan = c.args.plan in
    let r = g.B.Behaviour.reaction plan.behaviour in
    let none = sym c.in-Ok-false.ensures.more ∙ c.in-Ok-false.field-0-test in
    running_ended r plan c.args.until c.loop-executed._executed (standing c.loop-executed.list) c.add_next.new.entries.items
    (running_same r plan c.args.until (g.B.Behaviour.reaction c.loop-executed.list.behaviour) c.loop-executed._executed (standing c.loop-executed.list) c.loop-executed.entries.items c.add_next.new.entries.items
    c.loop-executed.invariant c.in-Ok-false.ensures.entries none) none

pub returns-then-has_next-clause-over : goal.returns-then-has_next-clause-over
returns-then-has_next-clause-over g c = λ e.
    let plan = c.args.plan in
    let now = c.loop-executed.invariant in
    let all : c.loop-executed._executed ≡ c.args.budget = omega arith in (
      now.count ∙ all,
      ap (λ (n : ℕ). is_some (run_event (g.B.Behaviour.reaction plan.behaviour) plan c.args.until all_kept n)) (sym all)
          ∙ running_more (g.B.Behaviour.reaction plan.behaviour) plan c.args.until c.loop-executed._executed (standing c.loop-executed.list) c.loop-executed.entries.items now (sym c.has_next.ensures ∙ c.if-has_next.true),
    )

pub returns-clause-finished : goal.returns-clause-finished
returns-clause-finished g c = λ e.
    let plan = c.args.plan in
    running_ended (g.B.Behaviour.reaction plan.behaviour) plan c.args.until c.loop-executed._executed (standing c.loop-executed.list) c.loop-executed.entries.items c.loop-executed.invariant
    (sym c.has_next.ensures ∙ c.if-has_next.false)
