-- The grammar of DML over tokens, its prefixes, and where a list of tokens that has no tree goes wrong.
use Rattle.std.specs.Prelude.{ℕ, ◌≡◌, ◌+◌, ◌-◌, ◌<◌, nat_lt, if◌then◌else◌, ◌⊎◌, List, [], ◌∷◌, ◌++◌, length, slice_range, Option, Some, None}
use Rattle.dml_lexer.specs.declared.lexer.Token.{Token}
use Rattle.dml_lexer.specs.declared.lexer.TokenKind.{TokenKind}
use Rattle.dml_lexer.specs.declared.lexer.TokenKind.TheVariants.{Word, Quoted, LeftBracket, RightBracket}
use Rattle.dml_tree.specs.declared.tree.Place.{Place}
use Rattle.dml_tree.specs.declared.reading.TreeFault.{TreeFault}
use Rattle.dml_tree.specs.declared.reading.TreeFault.TheVariants.{KeyWanted, ValueWanted, OpenList, StrayClose, NestedTooDeep}
use Rattle.dml_tree.specs.Attributes.{Attributes, none, plain, list}

-- the text of a word is its bytes, and of a quoted text those between the quotes; a bracket has none
abbrev pub IsTextOf : List ℕ → TokenKind → ℕ → ℕ → List ℕ → Type 0
IsTextOf bytes Word from to text = text ≡ slice_range bytes from to
IsTextOf bytes Quoted from to text = text ≡ slice_range bytes (from + 1) (to - 1)
IsTextOf bytes LeftBracket from to text = ⊥
IsTextOf bytes RightBracket from to text = ⊥

abbrev pub IsText : List ℕ → Token → List ℕ → Type 0
IsText bytes token text = IsTextOf bytes token.kind token.from token.to text

-- a key is a word, and its place is the byte at which it begins
pub record IsKey (file : ℕ) (bytes : List ℕ) (token : Token) (key : List ℕ) (place : Place) : Type 0 where
  pub word : token.kind ≡ Word
  pub text : key ≡ slice_range bytes token.from token.to
  pub at : place ≡ record { file = file; at = token.from }

-- the most lists that may be open at once
abbrev pub most_open : ℕ
most_open = 128

-- The tokens spell the tree where so many lists are open. No tokens spell no attributes. A key, a text and tokens
-- that spell the rest, or a key, a `[`, tokens that spell a list, a `]` and tokens that spell the rest, spell an
-- attribute and the rest.
abbrev pub Spells : ℕ → List ℕ → ℕ → List Token → Attributes → Type 0
Spells file bytes depth tokens none = tokens ≡ []
Spells file bytes depth tokens (plain key place text rest) =
    (k : Token) × (v : Token) × (more : List Token)
    × (tokens ≡ k ∷ v ∷ more) × IsKey file bytes k key place × IsText bytes v text × Spells file bytes depth more rest
Spells file bytes depth tokens (list key place inner rest) =
    (k : Token) × (l : Token) × (body : List Token) × (r : Token) × (more : List Token)
    × (tokens ≡ k ∷ l ∷ (body ++ r ∷ more)) × IsKey file bytes k key place × (l.kind ≡ LeftBracket) × (r.kind ≡ RightBracket)
    × (depth < most_open) × Spells file bytes (depth + 1) body inner × Spells file bytes depth more rest

-- what may stand at a place
pub data Wanted : Type 0 where
  key_wanted : Wanted
  value_wanted : Wanted

-- The tokens begin a list in the grammar and lead to a place where this is wanted; `opened` has the places of the
-- `[` that are open there, the outermost first. They are whole attributes; or those and a key; or those, a key, a
-- `[` and tokens that begin the list inside.
abbrev pub Begins : ℕ → List ℕ → ℕ → List Token → List ℕ → Wanted → Type 0
Begins file bytes depth tokens [] key_wanted = (tree : Attributes) × Spells file bytes depth tokens tree
Begins file bytes depth tokens [] value_wanted =
    (before : List Token) × (k : Token) × (tree : Attributes)
    × (tokens ≡ before ++ k ∷ []) × Spells file bytes depth before tree × (k.kind ≡ Word)
Begins file bytes depth tokens (at ∷ opened) wanted =
    (before : List Token) × (k : Token) × (l : Token) × (inside : List Token) × (tree : Attributes)
    × (tokens ≡ before ++ k ∷ l ∷ inside) × Spells file bytes depth before tree × (k.kind ≡ Word) × (l.kind ≡ LeftBracket)
    × (l.from ≡ at) × (depth < most_open) × Begins file bytes (depth + 1) inside opened wanted

-- The fault of a token that may not stand there, at the place of its first byte.
abbrev pub refusal_of : Wanted → List ℕ → TokenKind → ℕ → Option TreeFault
refusal_of key_wanted opened Word at = None
refusal_of key_wanted opened Quoted at = Some (KeyWanted at)
refusal_of key_wanted opened LeftBracket at = Some (KeyWanted at)
refusal_of key_wanted [] RightBracket at = Some (StrayClose at)
refusal_of key_wanted (b ∷ opened) RightBracket at = None
refusal_of value_wanted opened Word at = None
refusal_of value_wanted opened Quoted at = None
refusal_of value_wanted opened LeftBracket at = if nat_lt (length opened) most_open then None else Some (NestedTooDeep at)
refusal_of value_wanted opened RightBracket at = Some (ValueWanted at)

abbrev pub refusal : Wanted → List ℕ → Token → Option TreeFault
refusal wanted opened token = refusal_of wanted opened token.kind token.from

-- The fault of an end that may not be there: at the innermost open `[`, or at the end itself.
abbrev pub end_refusal : Wanted → List ℕ → ℕ → Option TreeFault
end_refusal key_wanted [] end = None
end_refusal key_wanted (at ∷ []) end = Some (OpenList at)
end_refusal key_wanted (at ∷ (b ∷ opened)) end = end_refusal key_wanted (b ∷ opened) end
end_refusal value_wanted opened end = Some (ValueWanted end)

-- the first token that may not stand where the tokens before it lead
pub record Refused (file : ℕ) (bytes : List ℕ) (tokens : List Token) (fault : TreeFault) : Type 0 where
  pub before : List Token
  pub token : Token
  pub after : List Token
  pub opened : List ℕ
  pub wanted : Wanted
  pub split : tokens ≡ before ++ token ∷ after
  pub begins : Begins file bytes 0 before opened wanted
  pub fault_is : refusal wanted opened token ≡ Some fault

-- all tokens begin a list, and the end may not be there
pub record Unended (file : ℕ) (bytes : List ℕ) (tokens : List Token) (fault : TreeFault) : Type 0 where
  pub opened : List ℕ
  pub wanted : Wanted
  pub begins : Begins file bytes 0 tokens opened wanted
  pub fault_is : end_refusal wanted opened (length bytes) ≡ Some fault

abbrev pub Faulted : ℕ → List ℕ → List Token → TreeFault → Type 0
Faulted file bytes tokens fault = Refused file bytes tokens fault ⊎ Unended file bytes tokens fault
