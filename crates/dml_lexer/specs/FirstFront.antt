-- What stands at the beginning of a text.
use Rattle.std.specs.Prelude.{ℕ, ◌<◌, ◌≤◌, List, length, take, drop, Option, Some, None}
use Rattle.dml_lexer.specs.declared.lexer.TokenKind.{TokenKind}
use Rattle.dml_lexer.specs.declared.fronts.FirstFront.{FirstFront}
use Rattle.dml_lexer.specs.declared.fronts.FirstFront.TheVariants as first
use Rattle.dml_lexer.specs.Tokens.{IsFront, BeginsBad, BeginsOpen}

-- the first `len` bytes are a front of this kind
pub record BeginsFront (kind : Option TokenKind) (len : ℕ) (bytes : List ℕ) : Type 0 where
  pub some : 0 < len
  pub within : len ≤ length bytes
  pub is : IsFront kind (take len bytes) (drop len bytes)

abbrev pub Begins : List ℕ → FirstFront → Type 0
Begins bytes (first.Skipped len) = BeginsFront None len bytes
Begins bytes (first.Token kind len) = BeginsFront (Some kind) len bytes
Begins bytes first.NoFront = BeginsBad bytes
Begins bytes first.Unclosed = BeginsOpen bytes
