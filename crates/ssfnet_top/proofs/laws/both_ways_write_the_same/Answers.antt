use Rattle.ssfnet_top.proofs.BothWays.{outcomes_same}
use Rattle.ssfnet_top.proofs.laws.both_ways_write_the_same.Goals as goal

pub returns : goal.returns
returns c = λ files words others one two until budget most threshold aligned due other first by_one second by_many same p q well fine.
    outcomes_same one two until budget most threshold aligned by_one by_many same due other well fine files words others first second p q
