use Rattle.std.proofs.Common.{◌^◌, refl}
use Rattle.sync_core.specs.Cores.{core_of}
use Rattle.worker_pool.proofs.Lent.{cleared_idle, cleared_carried}
use Rattle.worker_pool.proofs.Ended.{in_order, on_core, few_core}
use Rattle.worker_pool.proofs.pool.carry_core.Goals as goal

pub carry_parts-parts-requires-clause-idle : goal.carry_parts-parts-requires-clause-idle
carry_parts-parts-requires-clause-idle g c κs within = cleared_idle g.G.Gate.stops c.args.lanes.now c.clear_all.new.lanes c.clear_all.auto.lanes c.clear_all.ensures

pub put_together-requires-clause-ordered : goal.put_together-requires-clause-ordered
put_together-requires-clause-ordered g c κs within =
    in_order g.B.Behaviour.valid g.B.Behaviour.carried g.B.Behaviour.reaction c.args.core (core_of c.take_apart-parts.result) (core_of c.carry_parts-parts.result.0) (core_of c.carry_parts-parts.result.0)
    c.take_apart-parts.ensures.parts refl c.requires.run c.carry_parts-parts.ensures.gathered

pub returns-clause-on : goal.returns-clause-on
returns-clause-on g c =
    on_core g.B.Behaviour.valid g.B.Behaviour.carried g.B.Behaviour.reaction c.args.core (core_of c.take_apart-parts.result) (core_of c.carry_parts-parts.result.0) c.put_together.result
    c.take_apart-parts.ensures.parts c.put_together.ensures c.requires.run c.carry_parts-parts.ensures.gathered

pub returns-clause-few : goal.returns-clause-few
returns-clause-few g c =
    few_core g.B.Behaviour.valid g.B.Behaviour.carried g.B.Behaviour.reaction c.args.core (core_of c.take_apart-parts.result) (core_of c.carry_parts-parts.result.0) c.put_together.result
    c.take_apart-parts.ensures.parts c.put_together.ensures c.requires.run c.carry_parts-parts.ensures.gathered (2 ^ 32) c.known.ensures.timelines

pub returns-clause-lanes : goal.returns-clause-lanes
returns-clause-lanes g c =
    cleared_carried g.G.Gate.stops c.args.lanes.now c.clear_all.new.lanes c.carry_parts-parts.new.lanes c.carry_parts-parts.auto.lanes c.clear_all.ensures c.carry_parts-parts.ensures.lanes c.clear_all.auto.lanes
