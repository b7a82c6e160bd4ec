use Rattle.std.proofs.Common.{◌≡◌, ℕ, get_or, Option, Some, None, subst, arith}
use Rattle.std.proofs.lemmas.List.{get_or_read}
use Rattle.spf_routes.specs.declared.graph.Arm.{Arm}
use Rattle.spf_routes.specs.declared.search.Label.{Label}
use Rattle.spf_routes.specs.Paths.{best_at}
use Rattle.spf_routes.specs.Arms.{IsLesser, alone}
use Rattle.spf_routes.proofs.Direct.{no_arm, direct_skip, direct_more}
use Rattle.spf_routes.proofs.routes.direct_labels.Goals as goal

lesser_at : (arm : Arm) (o old r : Option Label) (cost : ℕ) → o ≡ old → cost ≡ arm.cost → IsLesser o (Some (record { cost = cost; interface = arm.interface; next = 0 })) r → IsLesser old (Some (alone arm)) r
lesser_at arm o old r cost e f h =
    let first = subst (λ x. IsLesser x (Some (record { cost = cost; interface = arm.interface; next = 0 })) r) e h in
    subst (λ (k : ℕ). IsLesser old (Some (record { cost = k; interface = arm.interface; next = 0 })) r) f first

pub loop-arm-preserved-then-arm-from : goal.loop-arm-preserved-then-arm-from
loop-arm-preserved-then-arm-from c = direct_skip c.args.arms.now c.args.from c.args.links c.loop-arm.arm-index c.loop-arm.direct.items c.loop-arm-test.true c.loop-arm.invariant c.if-arm-from.true

pub loop-arm-preserved : goal.loop-arm-preserved
loop-arm-preserved c = direct_more c.args.arms.now c.args.from c.args.links c.loop-arm.arm-index c.loop-arm.direct.items c.loop-arm-test.true c.loop-arm.invariant c.lesser.result c.if-arm-from.false (c.requires c.loop-arm.arm-index no_arm c.loop-arm-test.true)
    (lesser_at (get_or c.args.arms.now c.loop-arm.arm-index no_arm) c.index.result.now (best_at c.loop-arm.direct.items (get_or c.args.arms.now c.loop-arm.arm-index no_arm).link) c.lesser.result c.from.result
    (get_or_read c.loop-arm.direct.items (get_or c.args.arms.now c.loop-arm.arm-index no_arm).link c.index.result.now (omega (arith, c.requires c.loop-arm.arm-index no_arm c.loop-arm-test.true, c.loop-arm.invariant.as_many)) c.index.ensures None)
    c.from.ensures c.lesser.ensures)
