use Rattle.std.proofs.Common.{◌∙◌, sym}
use Rattle.dml_lexer.proofs.Runs.{word_begins}
use Rattle.dml_lexer.proofs.fronts.word.Goals as goal

pub returns-then-is_word_byte : goal.returns-then-is_word_byte
returns-then-is_word_byte c =
    word_begins c.args.first c.args.more.now c.word_len.result (sym c.is_word_byte.ensures ∙ c.if-is_word_byte.true) c.word_len.ensures.run c.word_len.ensures.within
