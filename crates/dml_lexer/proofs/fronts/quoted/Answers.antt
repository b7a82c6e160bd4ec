use Rattle.dml_lexer.proofs.Runs.{quoted_begins, open_begins}
use Rattle.dml_lexer.proofs.fronts.quoted.Goals as goal

pub returns-then-len-more : goal.returns-then-len-more
returns-then-len-more c = quoted_begins c.args.more.now c.len_before-len.result c.len_before-len.ensures.run c.if-len-more.true

pub returns-else-len-more : goal.returns-else-len-more
returns-else-len-more c = open_begins c.args.more.now c.len_before-len.result c.len_before-len.ensures.run c.if-len-more.false
