-- Equality of trees: the same keys and values in the same order. Places are not looked at.
use Rattle.std.specs.Prelude.{ℕ, Bool, true, false, ◌&&◌, nat_eq, List}
use Rattle.std.specs.Cmp.Lexicographic.{pointwise}
use Rattle.dml_tree.specs.Attributes.{Attributes, none, plain, list}

abbrev pub same_text : List ℕ → List ℕ → Bool
same_text a b = pointwise nat_eq a b

abbrev pub same_tree : Attributes → Attributes → Bool
same_tree none none = true
same_tree none (plain key place text rest) = false
same_tree none (list key place inner rest) = false
same_tree (plain key place text rest) none = false
same_tree (plain key place text rest) (plain key' place' text' rest') = same_text key key' && same_text text text' && same_tree rest rest'
same_tree (plain key place text rest) (list key' place' inner' rest') = false
same_tree (list key place inner rest) none = false
same_tree (list key place inner rest) (plain key' place' text' rest') = false
same_tree (list key place inner rest) (list key' place' inner' rest') = same_text key key' && same_tree inner inner' && same_tree rest rest'
