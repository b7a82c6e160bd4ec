-- What the bytes of a file mean: a tree, or the fault that stands first.
use Rattle.std.specs.Prelude.{ℕ, ◌≡◌, ◌<◌, ◌≤◌, true, List, length, Result, Ok, Err}
use Rattle.dml_lexer.specs.declared.lexer.Token.{Token}
use Rattle.dml_lexer.specs.declared.lexer.LexFault.{LexFault}
use Rattle.dml_lexer.specs.declared.lexer.LexFault.TheVariants as lexical
use Rattle.dml_lexer.specs.Tokens.{Spelt, Unspelt}
use Rattle.dml_tree.specs.declared.reading.TreeFault.{TreeFault}
use Rattle.dml_tree.specs.declared.reading.TreeFault.TheVariants as fault
use Rattle.dml_tree.specs.Attributes.{Attributes}
use Rattle.dml_tree.specs.Grammar.{Spells, Faulted}
use Rattle.dml_tree.specs.SameTree.{same_tree}

-- a fault of the tokens among those of a tree
abbrev pub of_lexing : LexFault → TreeFault
of_lexing (lexical.BadByte at) = fault.BadByte at
of_lexing (lexical.OpenQuote at) = fault.OpenQuote at
of_lexing lexical.Memory = fault.Memory

-- the longest file, in bytes
abbrev pub most_bytes : ℕ
most_bytes = 16777216

-- the tokens of the bytes have no tree, for this reason
pub record HasNoTree (file : ℕ) (bytes : List ℕ) (reason : TreeFault) : Type 0 where
  pub short : length bytes ≤ most_bytes
  pub tokens : List Token
  pub spelt : Spelt bytes tokens
  pub faulted : Faulted file bytes tokens reason

-- the tokens of the bytes spell the tree
pub record HasTree (file : ℕ) (bytes : List ℕ) (tree : Attributes) : Type 0 where
  pub short : length bytes ≤ most_bytes
  pub tokens : List Token
  pub spelt : Spelt bytes tokens
  pub spells : Spells file bytes 0 tokens tree

-- A file of this number with these bytes means this. A file that is too long has no other fault, and one without
-- tokens none of the grammar's. Want of memory is no meaning.
abbrev pub Reads : ℕ → List ℕ → Result Attributes TreeFault → Type 0
Reads file bytes (Ok tree) = HasTree file bytes tree
Reads file bytes (Err fault.TooLong) = most_bytes < length bytes
Reads file bytes (Err (fault.BadByte at)) = (length bytes ≤ most_bytes) × Unspelt bytes (lexical.BadByte at)
Reads file bytes (Err (fault.OpenQuote at)) = (length bytes ≤ most_bytes) × Unspelt bytes (lexical.OpenQuote at)
Reads file bytes (Err (fault.KeyWanted at)) = HasNoTree file bytes (fault.KeyWanted at)
Reads file bytes (Err (fault.ValueWanted at)) = HasNoTree file bytes (fault.ValueWanted at)
Reads file bytes (Err (fault.OpenList at)) = HasNoTree file bytes (fault.OpenList at)
Reads file bytes (Err (fault.StrayClose at)) = HasNoTree file bytes (fault.StrayClose at)
Reads file bytes (Err (fault.NestedTooDeep at)) = HasNoTree file bytes (fault.NestedTooDeep at)
Reads file bytes (Err fault.Memory) = ⊥

-- what is answered is the meaning, unless memory ran out
abbrev pub AnswersFault : (Result Attributes TreeFault → Type 0) → TreeFault → Type 0
AnswersFault Means fault.Memory = Unit {0}
AnswersFault Means reason = Means (Err reason)

abbrev pub Answers : (Result Attributes TreeFault → Type 0) → Result Attributes TreeFault → Type 0
Answers Means (Ok tree) = Means (Ok tree)
Answers Means (Err reason) = AnswersFault Means reason

-- Where some bytes spell an equal tree and this text is not too long, the text reads back as an equal tree, whatever
-- number its file has. Neither the places of the tree nor the length of those bytes matter.
abbrev pub ReadsBack : List ℕ → Attributes → Type 0
ReadsBack text tree =
    (file number : ℕ) (bytes : List ℕ) (tokens : List Token) (like : Attributes)
    → Spelt bytes tokens → Spells file bytes 0 tokens like → same_tree like tree ≡ true → length text ≤ most_bytes
    → (again : Attributes) × Reads number text (Ok again) × (same_tree again tree ≡ true)
