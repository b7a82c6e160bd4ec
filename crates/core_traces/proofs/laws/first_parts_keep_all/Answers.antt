use Rattle.core_traces.proofs.First.{first_from}
use Rattle.core_traces.proofs.Records.{none_below}
use Rattle.core_traces.proofs.laws.first_parts_keep_all.Goals as goal

pub returns-clause-core : goal.returns-clause-core
returns-clause-core g c = λ b plan nets mode lines threshold until budget most core fits aligned in_time low up first.
    first_from (g.B.Behaviour.reaction b) (g.B.Behaviour.valid b) (g.B.Behaviour.carried b) (g.met.B.Behaviour.sound b) (g.met.B.Behaviour.modest b) plan fits nets mode lines aligned threshold until in_time budget low most up core first

pub returns-clause-none : goal.returns-clause-none
returns-clause-none g c = λ b plan until kept. none_below (g.B.Behaviour.reaction b) plan until kept
