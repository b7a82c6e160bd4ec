use Rattle.std.proofs.Common.{◌+◌, subst, arith}
use Rattle.worker_pool.specs.declared.pool.PoolEnd.{PoolEnd}
use Rattle.worker_pool.specs.Ends.{WasStoppedIn, IsTrueEnd, IsStopFirst}
use Rattle.worker_pool.proofs.Lent.{stopped_lane, unstopped_lane}
use Rattle.worker_pool.proofs.Ended.{not_stopped}
use Rattle.worker_pool.proofs.Onward.{carried_twice}
use Rattle.worker_pool.proofs.pool.run_workers.Goals as goal

pub returns-clause-sound : goal.returns-clause-sound
returns-clause-sound g c =
    (carried_twice g.B.Behaviour.valid g.B.Behaviour.carried g.B.Behaviour.reaction c.args.core c.carry_core-core.result.core c.end_of-end.new.core
    c.carry_core-core.ensures.on c.end_of-end.ensures.on).sound

pub returns-clause-since : goal.returns-clause-since
returns-clause-since g c =
    (carried_twice g.B.Behaviour.valid g.B.Behaviour.carried g.B.Behaviour.reaction c.args.core c.carry_core-core.result.core c.end_of-end.new.core
    c.carry_core-core.ensures.on c.end_of-end.ensures.on).since

pub returns-clause-stopped : goal.returns-clause-stopped
returns-clause-stopped g c = λ w is.
    let lanes = c.carry_core-core.new.lanes in
    let q = subst (λ (e : PoolEnd). IsStopFirst (WasStoppedIn g.G.Gate.stops lanes) e) is c.end_of-end.ensures.first in
    stopped_lane g.G.Gate.stops c.args.lanes.now lanes c.carry_core-core.auto.lanes c.carry_core-core.ensures.lanes w q.0

pub returns-clause-first : goal.returns-clause-first
returns-clause-first g c = λ w is k before after early was at.
    let lanes = c.carry_core-core.new.lanes in
    let q = subst (λ (e : PoolEnd). IsStopFirst (WasStoppedIn g.G.Gate.stops lanes) e) is c.end_of-end.ensures.first in
    unstopped_lane g.G.Gate.stops c.args.lanes.now lanes c.carry_core-core.ensures.lanes k before after (q.1 k early) was at

pub returns-clause-unstopped : goal.returns-clause-unstopped
returns-clause-unstopped g c = λ none k before after early was at.
    let lanes = c.carry_core-core.new.lanes in
    let q = not_stopped (WasStoppedIn g.G.Gate.stops lanes) c.end_of-end.result c.end_of-end.ensures.first none in
    unstopped_lane g.G.Gate.stops c.args.lanes.now lanes c.carry_core-core.ensures.lanes k before after (q k) was at

pub returns-clause-crossed : goal.returns-clause-crossed
returns-clause-crossed g c = λ is.
    let lanes = c.carry_core-core.new.lanes in
    let q = subst (λ (e : PoolEnd). IsTrueEnd (WasStoppedIn g.G.Gate.stops lanes) (c.windows-first.result.0 + c.args.crossings) c.end_of-end.new.core e) is c.end_of-end.ensures.end in
    omega (arith, q.0, c.windows-first.ensures.crossed)

pub returns-clause-gates : goal.returns-clause-gates
returns-clause-gates g c = λ w before after was is. (c.carry_core-core.ensures.lanes w before after was is).up
