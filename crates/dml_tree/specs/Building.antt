-- How a tree that is built stands for the tokens that were gone over.
use Rattle.std.specs.Prelude.{ℕ, ◌≡◌, ◌+◌, ◌<◌, ◌⊎◌, List, [], ◌∷◌, ◌++◌, length, Option, Some, None, Result, Ok, Err}
use Rattle.dml_lexer.specs.declared.lexer.Token.{Token}
use Rattle.dml_lexer.specs.declared.lexer.TokenKind.TheVariants.{LeftBracket}
use Rattle.dml_tree.specs.declared.tree.Attribute.{Attribute}
use Rattle.dml_tree.specs.declared.tree.Value.{Value}
use Rattle.dml_tree.specs.declared.tree.Value.TheVariants as value
use Rattle.dml_tree.specs.declared.reading.TreeFault.{TreeFault}
use Rattle.dml_tree.specs.declared.reading.TreeFault.TheVariants.{Memory}
use Rattle.dml_tree.specs.declared.builder.Open.{Open}
use Rattle.dml_tree.specs.declared.builder.Key.{Key}
use Rattle.dml_tree.specs.declared.builder.Builder.{Builder}
use Rattle.dml_tree.specs.Attributes.{Attributes}
use Rattle.dml_tree.specs.TreeView.{tree_of}
use Rattle.dml_tree.specs.Grammar.{Spells, IsKey, Wanted, key_wanted, value_wanted, most_open, refusal, Faulted}

-- The tokens spell the attributes, or those and a key; or the attributes before the outermost open list, its key,
-- its `[`, and what stands in it.
abbrev pub Stands : ℕ → List ℕ → ℕ → List Token → List Open → List Attribute → Option Key → Type 0
Stands file bytes depth tokens [] attributes None = Spells file bytes depth tokens (tree_of attributes)
Stands file bytes depth tokens [] attributes (Some key) =
    (before : List Token) × (k : Token)
    × (tokens ≡ before ++ k ∷ []) × Spells file bytes depth before (tree_of attributes) × IsKey file bytes k key.text key.place
Stands file bytes depth tokens (o ∷ opens) attributes key =
    (before : List Token) × (k : Token) × (l : Token) × (inside : List Token)
    × (tokens ≡ before ++ k ∷ l ∷ inside) × Spells file bytes depth before (tree_of o.before.items) × IsKey file bytes k o.key.text o.key.place
    × (l.kind ≡ LeftBracket) × (l.from ≡ o.bracket) × (depth < most_open) × Stands file bytes (depth + 1) inside opens attributes key

abbrev pub brackets : List Open → List ℕ
brackets [] = []
brackets (o ∷ opens) = o.bracket ∷ brackets opens

abbrev pub wanted : Option Key → Wanted
wanted None = key_wanted
wanted (Some key) = value_wanted

-- the tree so far stands for these tokens
abbrev pub Holds : List ℕ → List Token → Builder → Type 0
Holds bytes tokens b = Stands b.file bytes 0 tokens b.opened.items b.attributes.items b.key

-- one more token was gone over
pub record GoesOn (bytes : List ℕ) (token : Token) (old : Builder) (key : Option Key) (new : Builder) : Type 0 where
  pub file : new.file ≡ old.file
  pub holds : (tokens : List Token) → Stands old.file bytes 0 tokens old.opened.items old.attributes.items key → Holds bytes (tokens ++ token ∷ []) new

-- the fault of the token, or no memory
abbrev pub IsRefusal : List Open → Wanted → Token → TreeFault → Type 0
IsRefusal opens wants token fault = (fault ≡ Memory) ⊎ (refusal wants (brackets opens) token ≡ Some fault)

-- what the tokens of a text give
abbrev pub Builds : ℕ → List ℕ → List Token → Result Attributes TreeFault → Type 0
Builds file bytes tokens (Ok tree) = Spells file bytes 0 tokens tree
Builds file bytes tokens (Err fault) = (fault ≡ Memory) ⊎ Faulted file bytes tokens fault

-- the innermost list has one attribute more, and nothing else changed
pub record IsOneMore (old : Builder) (key : Key) (value : Value) (new : Builder) : Type 0 where
  pub file : new.file ≡ old.file
  pub opened : new.opened.items ≡ old.opened.items
  pub key_left : new.key ≡ old.key
  pub attributes : new.attributes.items ≡ old.attributes.items ++ record { key = key.text; place = key.place; value = value } ∷ []

-- one list more is open, and it is empty
pub record IsOpened (old : Builder) (key : Key) (bracket : ℕ) (new : Builder) : Type 0 where
  pub file : new.file ≡ old.file
  pub fewer : length old.opened.items < most_open
  pub opened : new.opened.items ≡ old.opened.items ++ record { before = old.attributes; key = key; bracket = bracket } ∷ []
  pub key_left : new.key ≡ old.key
  pub attributes : new.attributes.items ≡ []

-- the innermost list was closed, and stands as an attribute in the one around it
pub record IsClosed (old new : Builder) : Type 0 where
  pub file : new.file ≡ old.file
  pub closed : Open
  pub opened : old.opened.items ≡ new.opened.items ++ closed ∷ []
  pub key_left : new.key ≡ old.key
  pub attributes : new.attributes.items ≡ closed.before.items ++ record { key = closed.key.text; place = closed.key.place; value = value.List (tree_of old.attributes.items) } ∷ []
