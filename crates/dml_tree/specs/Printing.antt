-- The canonical printing of a tree. Each attribute stands on a line of its own, indented by two spaces for each
-- open list: `key value`, or `key [`, the list, and `]` at the key's indent. Each line ends with LF.
use Rattle.std.specs.Prelude.{ℕ, ◌+◌, ◌==◌, Bool, not, ◌&&◌, if◌then◌else◌, List, [], ◌∷◌, ◌++◌, replicate, length}
use Rattle.std.specs.List.{list_all}
use Rattle.dml_lexer.specs.Tokens.{is_word_byte}
use Rattle.dml_tree.specs.Attributes.{Attributes, none, plain, list}

-- a text that is not empty and has word bytes alone
abbrev pub is_bare : List ℕ → Bool
is_bare text = not (length text == 0) && list_all is_word_byte text

-- bare, or between quotes
abbrev pub shown : List ℕ → List ℕ
shown text = if is_bare text then text else (34 ∷ [] ++ text ++ 34 ∷ [])

abbrev pub blanks : ℕ → List ℕ
blanks count = replicate count 32

-- the end of a line with a text
abbrev pub text_end : List ℕ → List ℕ
text_end text = 32 ∷ [] ++ shown text ++ 10 ∷ []

-- the lines of a tree whose attributes stand after so many blanks
abbrev pub printing : ℕ → Attributes → List ℕ
printing indent none = []
printing indent (plain key place text rest) = blanks indent ++ key ++ text_end text ++ printing indent rest
printing indent (list key place inner rest) =
    blanks indent ++ key ++ 32 ∷ 91 ∷ 10 ∷ [] ++ printing (indent + 2) inner ++ blanks indent ++ 93 ∷ 10 ∷ [] ++ printing indent rest
