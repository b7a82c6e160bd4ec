-- The tokens of a DML text. The text is split into fronts, one after another: a blank byte, a comment, a bracket,
-- a quoted text or a word. The tokens are the fronts that are neither blank nor comment.
use Rattle.std.specs.Prelude.{ℕ, ◌≡◌, ◌+◌, ◌-◌, ◌<◌, ◌≤◌, Bool, true, false, not, ◌&&◌, ◌||◌, ◌==◌, nat_lt, ◌⊎◌, List, [], ◌∷◌, ◌++◌, length, slice_range, Option, Some, None}
use Rattle.std.specs.List.{AllByRecursion}
use Rattle.dml_lexer.specs.declared.lexer.TokenKind.{TokenKind}
use Rattle.dml_lexer.specs.declared.lexer.TokenKind.TheVariants as kind
use Rattle.dml_lexer.specs.declared.lexer.Token.{Token}
use Rattle.dml_lexer.specs.declared.lexer.LexFault.{LexFault}
use Rattle.dml_lexer.specs.declared.lexer.LexFault.TheVariants.{BadByte, OpenQuote, Memory}

-- space, tab, LF and CR
abbrev pub is_blank : ℕ → Bool
is_blank byte = byte == 32 || byte == 9 || byte == 10 || byte == 13

-- `#`, `[`, `]` and `"`, each of which begins a front of its own
abbrev pub is_mark : ℕ → Bool
is_mark byte = byte == 35 || byte == 91 || byte == 93 || byte == 34

-- a byte of a word: from 0x21 to 0x7E or from 0x80 on, and no mark
abbrev pub is_word_byte : ℕ → Bool
is_word_byte byte = (nat_lt 32 byte && nat_lt byte 127 || nat_lt 127 byte) && not (is_mark byte)

-- what follows is empty, or begins with a byte that does not pass
abbrev pub Ends : (ℕ → Bool) → List ℕ → Type 0
Ends p [] = Unit {0}
Ends p (byte ∷ more) = p byte ≡ false

-- the run is bytes that pass, and as long as it can be before what follows it
pub record IsRun (p : ℕ → Bool) (run rest : List ℕ) : Type 0 where
  pub all : AllByRecursion (λ byte. p byte ≡ true) run
  pub longest : Ends p rest

-- a blank byte
abbrev pub IsBlank : List ℕ → Type 0
IsBlank front = (byte : ℕ) × (is_blank byte ≡ true) × (front ≡ byte ∷ [])

-- from a `#` up to the next LF or the end
abbrev pub IsComment : List ℕ → List ℕ → Type 0
IsComment front rest = (text : List ℕ) × (front ≡ 35 ∷ text) × IsRun (λ byte. not (byte == 10)) text rest

-- a word that no word byte follows
abbrev pub IsWord : List ℕ → List ℕ → Type 0
IsWord front rest = (0 < length front) × IsRun is_word_byte front rest

-- any bytes but `"` between two of them
abbrev pub IsQuoted : List ℕ → Type 0
IsQuoted front = (text : List ℕ) × (front ≡ 34 ∷ (text ++ 34 ∷ [])) × AllByRecursion (λ byte. not (byte == 34) ≡ true) text

-- these bytes, before the rest, are a front: a token of this kind, or blank or comment where the kind is None
abbrev pub IsFront : Option TokenKind → List ℕ → List ℕ → Type 0
IsFront None front rest = IsBlank front ⊎ IsComment front rest
IsFront (Some kind.Word) front rest = IsWord front rest
IsFront (Some kind.Quoted) front rest = IsQuoted front
IsFront (Some kind.LeftBracket) front rest = front ≡ 91 ∷ []
IsFront (Some kind.RightBracket) front rest = front ≡ 93 ∷ []

-- the bytes of a front and the kind of its token
pub record Front : Type 0 where
  pub kind : Option TokenKind
  pub bytes : List ℕ

abbrev pub text_of : List Front → List ℕ
text_of [] = []
text_of (front ∷ fronts) = front.bytes ++ text_of fronts

-- each is a front before those that follow it and then the rest
abbrev pub AreFronts : List Front → List ℕ → Type 0
AreFronts [] rest = Unit {0}
AreFronts (front ∷ fronts) rest = IsFront front.kind front.bytes (text_of fronts ++ rest) × AreFronts fronts rest

-- a token from one place to another before others, where the kind is that of one
abbrev pub with_token : Option TokenKind → ℕ → ℕ → List Token → List Token
with_token None from to tokens = tokens
with_token (Some kind) from to tokens = record { kind = kind; from = from; to = to } ∷ tokens

-- the tokens among fronts of which the first begins at this place
abbrev pub tokens_from : ℕ → List Front → List Token
tokens_from at [] = []
tokens_from at (front ∷ fronts) = with_token front.kind at (at + length front.bytes) (tokens_from (at + length front.bytes) fronts)

-- fronts cover all bytes, and these are their tokens
pub record Spelt (bytes : List ℕ) (tokens : List Token) : Type 0 where
  pub fronts : List Front
  pub are : AreFronts fronts []
  pub cover : bytes ≡ text_of fronts
  pub these : tokens ≡ tokens_from 0 fronts

-- a byte that begins no front
abbrev pub BeginsBad : List ℕ → Type 0
BeginsBad [] = ⊥
BeginsBad (byte ∷ more) = is_blank byte || is_mark byte || is_word_byte byte ≡ false

-- a quote without a later one
abbrev pub BeginsOpen : List ℕ → Type 0
BeginsOpen [] = ⊥
BeginsOpen (byte ∷ more) = (byte ≡ 34) × AllByRecursion (λ byte. not (byte == 34) ≡ true) more

-- fronts reach this place, and such bytes stand there
pub record Reaches (bytes : List ℕ) (at : ℕ) (Stand : List ℕ → Type 0) : Type 0 where
  pub fronts : List Front
  pub rest : List ℕ
  pub are : AreFronts fronts rest
  pub cover : bytes ≡ text_of fronts ++ rest
  pub place : length (text_of fronts) ≡ at
  pub stand : Stand rest

-- the text has no tokens, for this reason; want of memory says nothing of the text
abbrev pub Unspelt : List ℕ → LexFault → Type 0
Unspelt bytes (BadByte at) = Reaches bytes at BeginsBad
Unspelt bytes (OpenQuote at) = Reaches bytes at BeginsOpen
Unspelt bytes Memory = Unit {0}

-- a token lies in a text of this length: it is not empty, and a quoted one has two quotes
abbrev pub least_length : TokenKind → ℕ
least_length kind.Quoted = 2
least_length _ = 1

pub record LiesIn (end : ℕ) (token : Token) : Type 0 where
  pub least : token.from + least_length token.kind ≤ token.to
  pub last : token.to ≤ end

-- The bytes that a token of this kind spans. Those of a word are word bytes, and at least one. A quoted text is a
-- quote, the bytes between, none of them a quote, and again a quote. A bracket is its one byte.
abbrev pub SpansBytes : List ℕ → TokenKind → ℕ → ℕ → Type 0
SpansBytes bytes kind.Word from to = (0 < length (slice_range bytes from to)) × AllByRecursion (λ byte. is_word_byte byte ≡ true) (slice_range bytes from to)
SpansBytes bytes kind.Quoted from to =
    (slice_range bytes from to ≡ 34 ∷ (slice_range bytes (from + 1) (to - 1) ++ 34 ∷ []))
    × AllByRecursion (λ byte. not (byte == 34) ≡ true) (slice_range bytes (from + 1) (to - 1))
SpansBytes bytes kind.LeftBracket from to = slice_range bytes from to ≡ 91 ∷ []
SpansBytes bytes kind.RightBracket from to = slice_range bytes from to ≡ 93 ∷ []

abbrev pub HasItsBytes : List ℕ → Token → Type 0
HasItsBytes bytes token = SpansBytes bytes token.kind token.from token.to

-- the tokens stand one after another from this place on, and none of them is empty
abbrev pub AreInOrder : ℕ → List Token → Type 0
AreInOrder at [] = Unit {0}
AreInOrder at (token ∷ tokens) = (at ≤ token.from) × (token.from < token.to) × AreInOrder token.to tokens
