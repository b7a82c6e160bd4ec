use Rattle.std.proofs.Common.{◌≡◌, false, refl, inl, inr}
use Rattle.event_order.proofs.Pending.{test_cases}
use Rattle.worker_pool.proofs.Onward.{ended_within}
use Rattle.worker_pool.proofs.ending.budget_or.Goals as goal

pub returns-in-Some : goal.returns-in-Some
returns-in-Some g c =
    let core = c.args.core.now in
    let b = core.behaviour in
    let ends = c.in-Some.ensures.some in
    let running : core.barrier.ended ≡ false = elim (test_cases core.barrier.ended) [
      | inl t ↦ absurd (ended_within (g.B.Behaviour.reaction b) (g.B.Behaviour.valid b) (g.B.Behaviour.carried b) (g.met.B.Behaviour.sound b) (g.met.B.Behaviour.modest b) core c.requires.run t c.in-Some.timeline ends.here)
      | inr f ↦ f
    ] in
    inl (c.in-Some.timeline, refl, (running, ends))
