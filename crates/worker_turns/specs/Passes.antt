-- What contracts say of workers.
use Rattle.turn_table.specs.declared.pass.Pass.{Pass}
use Rattle.worker_turns.specs.declared.worker.Worker.{Worker}

-- the worker's pass
abbrev pub pass_of : Worker → Pass
pass_of w = w.pass
