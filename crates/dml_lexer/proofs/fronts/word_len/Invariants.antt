use Rattle.std.proofs.Common.{◌≡◌, ◌+◌, drop}
use Rattle.std.specs.List.{prefix_len}
use Rattle.dml_lexer.specs.Tokens.{is_word_byte}
use Rattle.dml_lexer.proofs.fronts.word_len.Given as goal

abbrev pub invariant-loop-at : goal.invariant-loop-at
invariant-loop-at l = prefix_len is_word_byte l.bytes ≡ l.at + prefix_len is_word_byte (drop l.at l.bytes)
