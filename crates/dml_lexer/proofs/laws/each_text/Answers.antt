use Rattle.dml_lexer.proofs.EachText as proof
use Rattle.dml_lexer.proofs.laws.each_text.Goals as goal

pub returns : goal.returns
returns c = λ bytes. proof.each_text bytes
