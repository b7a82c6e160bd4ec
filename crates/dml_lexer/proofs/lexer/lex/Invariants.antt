use Rattle.std.proofs.Common.{length, ◌-◌, ◌≤◌, All}
use Rattle.dml_lexer.specs.Tokens.{LiesIn}
use Rattle.dml_lexer.proofs.Walked.{Walked}
use Rattle.dml_lexer.proofs.lexer.lex.Given as goal

abbrev pub invariant-loop-at : goal.invariant-loop-at
invariant-loop-at l = record {
  walked : Walked l.bytes l.at l.tokens.items;
  within : l.at ≤ length l.bytes;
  lie : All (LiesIn (length l.bytes)) l.tokens.items;
}

abbrev pub decreases-loop-at : goal.decreases-loop-at
decreases-loop-at l = length l.bytes - l.at
