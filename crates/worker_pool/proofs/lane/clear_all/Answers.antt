use Rattle.std.proofs.Common.{sym, subst, arith}
use Rattle.worker_pool.specs.Lanes.{IsCleared}
use Rattle.worker_pool.proofs.Steps.{up_none, up_more, up_all, read_at}
use Rattle.worker_pool.proofs.lane.clear_all.Goals as goal

pub loop-place-init : goal.loop-place-init
loop-place-init g c = up_none (IsCleared g.G.Gate.stops) c.args.lanes.now

pub loop-place-preserved : goal.loop-place-preserved
loop-place-preserved g c =
    let lane = c.index-lanes-place.result in
    up_more (IsCleared g.G.Gate.stops) c.loop-place.place c.args.lanes.now c.loop-place.lanes lane c.clear.new.lane c.loop-place.invariant
    (read_at c.loop-place.lanes c.loop-place.place lane (omega (arith, c.loop-place-test.true, c.loop-place.auto.lanes)) c.index-lanes-place.is)
    (subst (λ x. IsCleared g.G.Gate.stops x c.clear.new.lane) (sym c.index-lanes-place.is) c.clear.ensures)

pub returns : goal.returns
returns g c = up_all (IsCleared g.G.Gate.stops) c.loop-place.place c.args.lanes.now c.loop-place.lanes c.loop-place-test.false c.loop-place.invariant
