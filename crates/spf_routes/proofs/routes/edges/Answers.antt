use Rattle.std.proofs.Common.{ℕ, arith}
use Rattle.std.proofs.lemmas.List.{length_push}
use Rattle.spf_routes.proofs.Direct.{no_arm}
use Rattle.spf_routes.proofs.Edging.{no_edge_more, first_arms, arms_skip, arms_more}
use Rattle.spf_routes.proofs.routes.edges.Goals as goal

pub loop-node-preserved : goal.loop-node-preserved
loop-node-preserved c =
    rw c.in_ok-push.ensures.items (
      omega (arith, length_push c.loop-node.edges.items c.new.result, c.loop-node.invariant.0),
      no_edge_more c.loop-node.edges.items c.new.result c.new.ensures.items c.loop-node.invariant.1,
    )

pub loop-arm-init : goal.loop-arm-init
loop-arm-init c = first_arms c.args.links c.args.nodes c.loop-node.edges.items (omega (arith, c.loop-node.invariant.0)) c.loop-node.invariant.1

pub loop-arm-preserved-then-not-arm : goal.loop-arm-preserved-then-not-arm
loop-arm-preserved-then-not-arm c = arms_skip c.args.arms.now c.args.links c.args.nodes c.loop-arm.arm-index c.loop-arm.edges.items c.loop-arm-test.true c.loop-arm.invariant c.if-not-arm.true

pub loop-arm-preserved : goal.loop-arm-preserved
loop-arm-preserved c =
    let i : ℕ = c.loop-arm.arm-index in
    let low = c.requires.links i no_arm c.loop-arm-test.true in
    let there = c.requires.hosts i no_arm c.loop-arm-test.true in
    arms_more c.args.arms.now c.args.links c.args.nodes i c.loop-arm.edges.items c.loop-arm-test.true c.loop-arm.invariant
    c.index_mut.result.now c.push-in-loop-arm.new.self c.index_mut-in-loop-arm.result.now c.push-in-loop-arm-2.new.self
    c.if-not-arm.false there (omega (arith, low, there)) c.index_mut.ensures.value c.in_ok-push-2.ensures.items c.index_mut-in-loop-arm.ensures.value c.in_ok-push-3.ensures.items
