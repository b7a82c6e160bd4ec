-- The resolved tree: every `_find` and `_extends` is replaced by what its path names.
use Rattle.std.specs.Prelude.{ℕ, zero, suc, ◌+◌, ◌==◌, Bool, true, false, not, ◌&&◌, ◌||◌, if◌then◌else◌, nat_eq, nat_lt, List, [], ◌∷◌, ◌++◌, length, filter, codes, Option, Some, None, Result, Ok, Err}
use Rattle.std.specs.Cmp.Lexicographic.{pointwise}
use Rattle.dml_tree.specs.declared.tree.Place.{Place}
use Rattle.dml_tree.specs.Attributes.{Attributes, none, plain, list, weight}
use Rattle.dml_resolve.specs.declared.resolving.PathFault.{PathFault}
use Rattle.dml_resolve.specs.declared.resolving.PathFault.TheVariants as fault

-- the two keys of substitutions
abbrev pub is_find : List ℕ → Bool
is_find key = pointwise nat_eq key (codes "_find")

abbrev pub is_extends : List ℕ → Bool
is_extends key = pointwise nat_eq key (codes "_extends")

abbrev pub is_substitution : List ℕ → Bool
is_substitution key = is_find key || is_extends key

-- the most substitutions in one another, and the greatest weight
abbrev pub most_nested : ℕ
most_nested = 64

abbrev pub most_weight : ℕ
most_weight = 1000000

-- A path begins with `.` and has one or more components, none of them empty, with `.` between them.

-- the component that is read, where the text ends
abbrev pub last_component : List ℕ → Option (List (List ℕ))
last_component [] = None
last_component (b ∷ bs) = Some ((b ∷ bs) ∷ [])

-- the component that is read, where others follow
abbrev pub next_component : List ℕ → Option (List (List ℕ)) → Option (List (List ℕ))
next_component [] others = None
next_component (b ∷ bs) None = None
next_component (b ∷ bs) (Some others) = Some ((b ∷ bs) ∷ others)

-- the components of a text, given the bytes of the one that is read
abbrev pub components_from : List ℕ → List ℕ → Option (List (List ℕ))
components_from read [] = last_component read
components_from read (byte ∷ text) =
    if byte == 46 then next_component read (components_from [] text) else components_from (read ++ byte ∷ []) text

abbrev pub components : List ℕ → Option (List (List ℕ))
components [] = None
components (byte ∷ text) = if byte == 46 then components_from [] text else None

-- What is computed with the weight so far: a value and the new weight, or the first fault met.
abbrev pub Counted : Type 0 → Type 0
Counted A = ℕ → Result (A × ℕ) PathFault

abbrev pub pure : {A : Type 0} → A → Counted A
pure x weight = Ok (x, weight)

abbrev pub refuse : {A : Type 0} → PathFault → Counted A
refuse reason weight = Err reason

abbrev pub and_then : {A B : Type 0} → Result (A × ℕ) PathFault → (A → Counted B) → Result (B × ℕ) PathFault
and_then (Ok found) f = f found.0 found.1
and_then (Err reason) f = Err reason

infixl 10 ◌>>=◌
abbrev pub ◌>>=◌ : {A B : Type 0} → Counted A → (A → Counted B) → Counted B
◌>>=◌ m f weight = and_then (m weight) f

-- the weight grows, and may not pass its limit
abbrev pub count : ℕ → Counted (Unit {0})
count more weight = if nat_lt most_weight (weight + more) then Err fault.TooLarge else Ok (tt, weight + more)

-- An attribute of a level. A list comes with what it is written as, in which paths are looked up, and with what
-- it is expanded to, at the depth of the attribute.
pub data Entry : Type 0 where
  text_entry : (key : List ℕ) (place : Place) (text : List ℕ) → Entry
  list_entry : (key : List ℕ) (place : Place) (written : Attributes) (expanded : Counted Attributes) → Entry

abbrev pub entry_key : Entry → List ℕ
entry_key (text_entry key place text) = key
entry_key (list_entry key place written expanded) = key

abbrev pub same_key : List ℕ → Entry → Bool
same_key key entry = pointwise nat_eq (entry_key entry) key

abbrev pub is_list : Entry → Bool
is_list (text_entry key place text) = false
is_list (list_entry key place written expanded) = true

-- the entries of a complete level as a tree, each list expanded in order
abbrev pub expand_entries : List Entry → Counted Attributes
expand_entries [] = pure none
expand_entries (text_entry key place text ∷ entries) = expand_entries entries >>= λ rest. pure (plain key place text rest)
expand_entries (list_entry key place written expanded ∷ entries) =
    expanded >>= λ inner. expand_entries entries >>= λ rest. pure (list key place inner rest)

-- a level and then what it is expanded to; each attribute counts when the level is complete
abbrev pub expand : Counted (List Entry) → Counted Attributes
expand level = level >>= λ entries. count (length entries) >>= λ _. expand_entries entries

-- a plain attribute of this key is written in the list
abbrev pub has_plain : Attributes → List ℕ → Bool
has_plain none wanted = false
has_plain (plain key place text rest) wanted = not (is_substitution key) && pointwise nat_eq key wanted || has_plain rest wanted
has_plain (list key place inner rest) wanted = not (is_substitution key) && pointwise nat_eq key wanted || has_plain rest wanted

-- the first list among these, which have a key that was wanted
abbrev pub first_list : Place → List Entry → Counted Attributes
first_list place [] = refuse (fault.NotAList place)
first_list place (text_entry key there text ∷ entries) = first_list place entries
first_list place (list_entry key there written expanded ∷ entries) = pure written

-- the attributes that are wanted, where there are some
abbrev pub known : Place → List Entry → Counted (List Entry)
known place [] = refuse (fault.UnknownPath place)
known place (entry ∷ entries) = pure (entry ∷ entries)

-- the attributes of a key, where there are some
abbrev pub with_key : Place → List ℕ → List Entry → Counted (List Entry)
with_key place key entries = known place (filter (same_key key) entries)

-- the attributes that further components name: each of them is looked up in the level of the first list that was found
abbrev pub named_from : Place → (Attributes → Counted (List Entry)) → List (List ℕ) → List Entry → Counted (List Entry)
named_from place level [] found = pure found
named_from place level (component ∷ components) found =
    first_list place found >>= λ written. level written >>= λ inside. with_key place component inside >>= λ found. named_from place level components found

-- the attributes that a path names, whose first component is looked up among these
abbrev pub named : Place → (Attributes → Counted (List Entry)) → List (List ℕ) → List Entry → Counted (List Entry)
named place level [] entries = refuse (fault.BadPath place)
named place level (component ∷ components) entries = with_key place component entries >>= λ found. named_from place level components found

-- the plain attributes written in a list, with what their lists are expanded to one level below
abbrev pub plain_entries : (Attributes → Counted (List Entry)) → Attributes → List Entry
plain_entries level none = []
plain_entries level (plain key place text rest) = if is_substitution key then plain_entries level rest else text_entry key place text ∷ plain_entries level rest
plain_entries level (list key place inner rest) = if is_substitution key then plain_entries level rest else list_entry key place inner (expand (level inner)) ∷ plain_entries level rest

-- an attribute that `_find` gives stands one level below
abbrev pub moved : (Attributes → Counted (List Entry)) → List Entry → List Entry
moved level [] = []
moved level (text_entry key place text ∷ entries) = text_entry key place text ∷ moved level entries
moved level (list_entry key place written expanded ∷ entries) = list_entry key place written (expand (level written)) ∷ moved level entries

-- what a substitution gives, where levels one below can be formed: none at depth 64
abbrev pub substituted : Attributes → Option (Attributes → Counted (List Entry)) → Attributes → List ℕ → Place → List (List ℕ) → Counted (List Entry)
substituted root None written key place path = refuse (fault.TooDeep place)
substituted root (Some level) written key place path =
    count 1 >>= λ _.
    named place level path (plain_entries level root) >>= λ found.
    if is_find key then pure (moved level found)
    else (first_list place found >>= λ included. level included >>= λ entries. pure (filter (λ entry. not (has_plain written (entry_key entry))) entries))

-- the path that a substitution follows
abbrev pub path_or_fault : Place → Option (List (List ℕ)) → Counted (List (List ℕ))
path_or_fault place None = refuse (fault.BadPath place)
path_or_fault place (Some path) = pure path

abbrev pub path_of : Place → List ℕ → Counted (List (List ℕ))
path_of place text = path_or_fault place (components text)

-- The level of a list, attribute by attribute; `kept` says which lists are kept as written.
abbrev pub level_from : Attributes → Option (Attributes → Counted (List Entry)) → (List ℕ → Bool) → Attributes → Attributes → Counted (List Entry)
level_from root below kept written none = pure []
level_from root below kept written (plain key place text rest) =
    (if is_substitution key then (path_of place text >>= λ path. substituted root below written key place path) else pure (text_entry key place text ∷ [])) >>= λ entries.
    level_from root below kept written rest >>= λ others. pure (entries ++ others)
level_from root below kept written (list key place inner rest) =
    (if is_substitution key then refuse (fault.BadPath place)
    else pure (list_entry key place inner (if kept key then pure inner else expand (level_from root below (λ _. false) inner inner)) ∷ [])) >>= λ entries.
    level_from root below kept written rest >>= λ others. pure (entries ++ others)

-- the levels that a substitution may form, where so many may still be followed in one another
unfoldable pub below : Attributes → ℕ → Option (Attributes → Counted (List Entry))
below root zero = None
below root (suc left) = Some (λ written. level_from root (below root left) (λ _. false) written written)

-- the level of a list where so many substitutions may still be followed in one another
abbrev pub level : Attributes → ℕ → Attributes → Counted (List Entry)
level root left written = level_from root (below root left) (λ _. false) written written

-- an attribute `schemas` that is written in the root list is kept as it is
abbrev pub is_schemas : List ℕ → Bool
is_schemas key = pointwise nat_eq key (codes "schemas")

abbrev pub result_of : Result (Attributes × ℕ) PathFault → Result Attributes PathFault
result_of (Ok found) = Ok found.0
result_of (Err reason) = Err reason

-- the resolved tree, or the fault that is met first
unfoldable pub resolved : Attributes → Result Attributes PathFault
resolved root = result_of (expand (level_from root (below root most_nested) is_schemas root root) 0)

-- the attributes of a resolved tree but those in the lists `schemas` of the root. At least so many were counted: a copy
-- of `schemas` that a substitution gives is counted, and is left out here
abbrev pub counted_weight : Attributes → ℕ
counted_weight none = 0
counted_weight (plain key place text rest) = 1 + counted_weight rest
counted_weight (list key place inner rest) = 1 + (if is_schemas key then 0 else weight inner) + counted_weight rest
