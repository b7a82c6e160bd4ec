-- The values of a key in a list of attributes, and which model a tree has.
use Rattle.std.specs.Prelude.{ℕ, Bool, ◌&&◌, nat_le, nat_lt, List, [], ◌∷◌, map, Option, Some, None, Result, Ok, Err, codes, is_some, filter, if◌then◌else◌}
use Rattle.std.specs.Cmp.Lexicographic.{pointwise}
use Rattle.std.specs.Prelude.{nat_eq}
use Rattle.std.specs.Str.Parse.{digits_value}
use Rattle.dml_tree.specs.declared.tree.Attribute.{Attribute}
use Rattle.dml_tree.specs.declared.tree.Value.{Value}
use Rattle.dml_tree.specs.declared.tree.Value.TheVariants as value
use Rattle.dml_tree.specs.Attributes.{Attributes}
use Rattle.nhi_address.specs.Number.{is_numeral}
use Rattle.net_graph.specs.declared.fault.ShapeFault.{ShapeFault}
use Rattle.net_graph.specs.declared.fault.ShapeFault.TheVariants.{BadNumber}

-- the values of the attributes with this key, in their order
abbrev pub values_of : List ℕ → List Attribute → List Value
values_of key xs = map (λ x. x.value) (filter (λ x. pointwise nat_eq x.key key) xs)

-- those of some values that are lists
abbrev pub lists_in : List Value → List Attributes
lists_in [] = []
lists_in (value.Plain text ∷ more) = lists_in more
lists_in (value.List inner ∷ more) = inner ∷ lists_in more

-- the lists that are values of this key; texts are passed by
abbrev pub lists_of : List ℕ → List Attribute → List Attributes
lists_of key xs = lists_in (values_of key xs)

abbrev pub first_of : {A : Type 0} → List A → Option A
first_of [] = None
first_of (x ∷ xs) = Some x

-- the model of the tree is a Net
abbrev pub has_net : List Attribute → Bool
has_net root = is_some (first_of (lists_of (codes "Net") root))

-- the number of a value, which has to be a text of 1 to 18 digits, from `least` on and below `end`
abbrev pub number_of_value : List ℕ → ℕ → ℕ → Value → Result ℕ ShapeFault
number_of_value key least end (value.Plain text) = let n = digits_value 10 text in
    if is_numeral 18 text && nat_le least n && nat_lt n end then Ok n else Err (BadNumber key)
number_of_value key least end (value.List inner) = Err (BadNumber key)
