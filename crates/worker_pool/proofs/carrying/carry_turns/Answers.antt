use Rattle.turn_table.specs.Turned.{table_of, key_of}
use Rattle.share_rules.specs.Places.{shape_of}
use Rattle.worker_pool.proofs.Lent.{all_free, all_idle, all_back, all_carried}
use Rattle.worker_pool.proofs.carrying.carry_turns.Goals as goal

pub carry_lanes-requires-clause-passes : goal.carry_lanes-requires-clause-passes
carry_lanes-requires-clause-passes g c κs within =
    all_free (table_of c.args.turns) (shape_of (key_of c.args.turns).value) c.args.passes.items c.args.lanes.now c.lend_all.new.lanes c.lend_all.auto.lanes c.requires.passes c.lend_all.ensures.lent

pub carry_lanes-requires-clause-idle : goal.carry_lanes-requires-clause-idle
carry_lanes-requires-clause-idle g c κs within = all_idle g.G.Gate.stops c.args.passes.items c.args.lanes.now c.lend_all.new.lanes c.lend_all.auto.lanes c.requires.idle c.lend_all.ensures.lent

pub take_all_back-requires-clause-workers : goal.take_all_back-requires-clause-workers
take_all_back-requires-clause-workers g c = λ w lane at. (let q = c.carry_lanes.ensures.passes w lane at in (q.worker, q.here))

pub gather-requires-clause-passes : goal.gather-requires-clause-passes
gather-requires-clause-passes g c =
    all_back (table_of c.args.turns) (shape_of (key_of c.args.turns).value) c.carry_lanes.new.lanes c.take_all_back.new.passes.items c.carry_lanes.ensures.passes c.take_all_back.ensures.passes

pub returns-clause-lanes : goal.returns-clause-lanes
returns-clause-lanes g c =
    all_carried g.G.Gate.stops c.args.passes.items c.args.lanes.now c.lend_all.new.lanes c.carry_lanes.new.lanes c.take_all_back.new.lanes c.lend_all.auto.lanes c.carry_lanes.auto.lanes c.take_all_back.auto.lanes
    c.lend_all.ensures.lent c.carry_lanes.ensures.lanes c.take_all_back.ensures.kept
