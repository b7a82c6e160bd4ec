use Rattle.std.proofs.Common.{◌≡◌, ◌<◌, ◌∙◌, List, ap, subst, length, get_or}
use Rattle.ssf_model.specs.declared.event.Event.{Event}
use Rattle.ssf_model.specs.Run.{IsPending}
use Rattle.ssf_model.specs.Openings.{reopened}
use Rattle.ssf_model.proofs.Checks.{each_next, each_stops}
use Rattle.ssf_model.proofs.opening.are_pending.Goals as goal

pub returns-then-not-may_be_pending : goal.returns-then-not-may_be_pending
returns-then-not-may_be_pending g c =
    let i = c.loop-index.index in
    let x = c.index-pending-index.result in
    let h : i < length c.args.opening.now.pending = subst (λ (ds : List (Event _)). i < length ds) c.as_slice-pending.ensures c.loop-index-test.true in
    let e : x ≡ get_or c.args.opening.now.pending i x = c.index-pending-index.is ∙ ap (λ (ds : List (Event _)). get_or ds i x) c.as_slice-pending.ensures in (
      (λ h. absurd (cc)),
      (λ all. absurd (each_stops (IsPending (g.B.Behaviour.carried c.args.plan.now.behaviour) (reopened c.args.plan.now c.args.opening.now)) c.args.opening.now.pending i x h e
          (λ is. let yes = c.may_be_pending.ensures.1 is in let no = c.if-not-may_be_pending.true in cc) c.loop-index.invariant all)),
    )

pub loop-index-preserved : goal.loop-index-preserved
loop-index-preserved g c =
    let i = c.loop-index.index in
    let x = c.index-pending-index.result in
    let h : i < length c.args.opening.now.pending = subst (λ (ds : List (Event _)). i < length ds) c.as_slice-pending.ensures c.loop-index-test.true in
    let e : x ≡ get_or c.args.opening.now.pending i x = c.index-pending-index.is ∙ ap (λ (ds : List (Event _)). get_or ds i x) c.as_slice-pending.ensures in
    each_next (IsPending (g.B.Behaviour.carried c.args.plan.now.behaviour) (reopened c.args.plan.now c.args.opening.now)) c.args.opening.now.pending i x h e
    (c.may_be_pending.ensures.0 c.if-not-may_be_pending.false) c.loop-index.invariant
