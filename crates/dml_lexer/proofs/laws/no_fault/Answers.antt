use Rattle.dml_lexer.proofs.OneSplit as proof
use Rattle.dml_lexer.proofs.laws.no_fault.Goals as goal

pub returns-clause-bad_byte : goal.returns-clause-bad_byte
returns-clause-bad_byte c = λ bytes tokens at h g. proof.no_bad bytes tokens at h g

pub returns-clause-open_quote : goal.returns-clause-open_quote
returns-clause-open_quote c = λ bytes tokens at h g. proof.no_open bytes tokens at h g
