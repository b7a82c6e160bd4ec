use Rattle.ssfnet_top.proofs.BothWays.{steps_and_workers}
use Rattle.ssfnet_top.proofs.laws.workers_change_nothing.Goals as goal

pub returns : goal.returns
returns c = λ files words others one two until budget threshold workers aligned due first by_steps second by_workers same reports p.
    steps_and_workers one two until budget threshold workers aligned by_steps by_workers same reports due files words others first second p
