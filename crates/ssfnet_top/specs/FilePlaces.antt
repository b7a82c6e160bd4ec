-- Where the attributes of a tree, and the faults of its substitutions, stand.
use Rattle.std.specs.Prelude.{ℕ, ◌<◌, List, length}
use Rattle.dml_tree.specs.declared.tree.Place.{Place}
use Rattle.dml_tree.specs.Attributes.{Attributes, none, plain, list}
use Rattle.dml_resolve.specs.declared.resolving.PathFault.{PathFault}
use Rattle.dml_resolve.specs.declared.resolving.PathFault.TheVariants.{BadPath, UnknownPath, NotAList, TooDeep, TooLarge, Memory}

-- this holds of the place of each attribute, at any depth
abbrev pub AllPlaces : (Place → Type 0) → Attributes → Type 0
AllPlaces P none = Unit {0}
AllPlaces P (plain key place text rest) = P place × AllPlaces P rest
AllPlaces P (list key place inner rest) = P place × AllPlaces P inner × AllPlaces P rest

-- this holds of the place of the fault, where it has one
abbrev pub HasPlace : (Place → Type 0) → PathFault → Type 0
HasPlace P (BadPath place) = P place
HasPlace P (UnknownPath place) = P place
HasPlace P (NotAList place) = P place
HasPlace P (TooDeep place) = P place
HasPlace P TooLarge = Unit {0}
HasPlace P Memory = Unit {0}

-- the places of the tree, or of the fault, name files of these names
abbrev pub ArePlaced : List (List ℕ) → Attributes → Type 0
ArePlaced names tree = AllPlaces (λ place. place.file < length names) tree

abbrev pub IsPlaced : List (List ℕ) → PathFault → Type 0
IsPlaced names fault = HasPlace (λ place. place.file < length names) fault
