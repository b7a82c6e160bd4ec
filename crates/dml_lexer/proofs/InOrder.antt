-- The tokens of a text stand one after another.
use Rattle.std.proofs.Common.{◌≡◌, ℕ, ◌+◌, ◌<◌, ◌≤◌, List, [], ◌∷◌, ◌++◌, length, ap, sym, subst, arith}
use Rattle.std.specs.Prelude.{Option, Some, None}
use Rattle.dml_lexer.specs.declared.lexer.TokenKind.{TokenKind}
use Rattle.dml_lexer.specs.declared.lexer.TokenKind.TheVariants as kind
use Rattle.dml_lexer.specs.declared.lexer.Token.{Token}
use Rattle.dml_lexer.specs.Tokens.{IsFront, Front, text_of, AreFronts, with_token, tokens_from, Spelt, AreInOrder}

-- no token is empty
some_bytes : (k : TokenKind) (front rest : List ℕ) → IsFront (Some k) front rest → 0 < length front
some_bytes kind.Word front rest is = is.0
some_bytes kind.Quoted front rest (text, e, none) = let n : length front ≡ length (34 ∷ (text ++ 34 ∷ [])) = ap length e in omega arith
some_bytes kind.LeftBracket front rest is = let n : length front ≡ 1 = ap length is in omega arith
some_bytes kind.RightBracket front rest is = let n : length front ≡ 1 = ap length is in omega arith

from_later : (at to : ℕ) (tokens : List Token) → at ≤ to → AreInOrder to tokens → AreInOrder at tokens
from_later at to [] le h = tt
from_later at to (t ∷ tokens) le h = (omega (arith, le, h.0), h.1, h.2)

with_front : (k : Option TokenKind) (at : ℕ) (front rest : List ℕ) (tokens : List Token) → IsFront k front rest → AreInOrder (at + length front) tokens → AreInOrder at (with_token k at (at + length front) tokens)
with_front None at front rest tokens is h = from_later at (at + length front) tokens (omega arith) h
with_front (Some k) at front rest tokens is h = (omega arith, omega (arith, some_bytes k front rest is), h)

in_order_from : (at : ℕ) (fronts : List Front) → AreFronts fronts [] → AreInOrder at (tokens_from at fronts)
in_order_from at [] are = tt
in_order_from at (f ∷ fronts) are = with_front f.kind at f.bytes (text_of fronts ++ []) (tokens_from (at + length f.bytes) fronts) are.0 (in_order_from (at + length f.bytes) fronts are.1)

pub tokens_in_order : (bytes : List ℕ) (tokens : List Token) → Spelt bytes tokens → AreInOrder 0 tokens
tokens_in_order bytes tokens h = subst (AreInOrder 0) (sym h.these) (in_order_from 0 h.fronts h.are)
