use Rattle.dml_lexer.proofs.InOrder as proof
use Rattle.dml_lexer.proofs.laws.tokens_are_in_order.Goals as goal

pub returns : goal.returns
returns c = λ bytes tokens h. proof.tokens_in_order bytes tokens h
