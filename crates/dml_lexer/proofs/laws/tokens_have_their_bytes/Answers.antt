use Rattle.std.proofs.lemmas.List.Elements.{All-from_recursion}
use Rattle.dml_lexer.specs.Tokens.{HasItsBytes}
use Rattle.dml_lexer.proofs.TokenBytes as proof
use Rattle.dml_lexer.proofs.laws.tokens_have_their_bytes.Goals as goal

pub returns : goal.returns
returns c = λ bytes tokens h. All-from_recursion (HasItsBytes bytes) tokens (proof.tokens_have_their_bytes bytes tokens h)
