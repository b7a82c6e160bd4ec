use Rattle.dml_lexer.proofs.OneSplit as proof
use Rattle.dml_lexer.proofs.laws.one_fault.Goals as goal

pub returns-clause-bad_byte : goal.returns-clause-bad_byte
returns-clause-bad_byte c = λ bytes at other h g. proof.one_bad bytes at other h g

pub returns-clause-open_quote : goal.returns-clause-open_quote
returns-clause-open_quote c = λ bytes at other h g. proof.one_open bytes at other h g

pub returns-clause-not_both : goal.returns-clause-not_both
returns-clause-not_both c = λ bytes at other h g. proof.not_both bytes at other h g
