use Rattle.dml_lexer.proofs.OneSplit as proof
use Rattle.dml_lexer.proofs.laws.one_list.Goals as goal

pub returns : goal.returns
returns c = λ bytes tokens other h g. proof.one_list bytes tokens other h g
