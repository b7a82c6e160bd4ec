-- What the attributes of a level stand for, and where they may lie.
use Rattle.std.specs.Prelude.{◌≡◌, ℕ, ◌<◌, ◌≤◌, Bool, true, false, not, ◌&&◌, if◌then◌else◌, nat_eq, List, [], ◌∷◌, ◌++◌, Result, Ok, Err}
use Rattle.std.specs.Borrow.{Bor}
use Rattle.std.specs.Ordering.{nat_cmp}
use Rattle.std.specs.Cmp.Lexicographic.{pointwise, slice_cmp}
use Rattle.std.specs.BTreeSet.{BTreeSet, contains_by}
use Rattle.dml_tree.specs.declared.tree.Place.{Place}
use Rattle.dml_tree.specs.declared.tree.Attribute.{Attribute}
use Rattle.dml_tree.specs.declared.tree.Value.{Value}
use Rattle.dml_tree.specs.declared.tree.Value.TheVariants as value
use Rattle.dml_tree.specs.Attributes.{Attributes, weight}
use Rattle.dml_resolve.specs.declared.members.Member.{Member}
use Rattle.dml_resolve.specs.Resolving.{Counted, pure, refuse, ◌>>=◌, Entry, text_entry, list_entry, expand, level, level_from, below, is_schemas, is_substitution, substituted, path_of, has_plain, counted_weight}
use Rattle.dml_resolve.specs.declared.resolving.PathFault.{PathFault}
use Rattle.dml_resolve.specs.declared.resolving.PathFault.TheVariants as fault

-- an attribute in whose list so many substitutions may be followed in one another
abbrev pub entry_from : Attributes → ℕ → Bool → List ℕ → Place → Value → Entry
entry_from root left kept key place (value.Plain text) = text_entry key place text
entry_from root left kept key place (value.List inner) = list_entry key place inner (if kept then pure inner else expand (level root left inner))

abbrev pub entry_of : Attributes → Member → Entry
entry_of root member = entry_from root member.left member.kept member.attribute.now.key member.attribute.now.place member.attribute.now.value

abbrev pub entries_of : Attributes → List Member → List Entry
entries_of root [] = []
entries_of root (member ∷ members) = entry_of root member ∷ entries_of root members

-- the level of a list, which may be the root list
abbrev pub level_at : Attributes → ℕ → Bool → Attributes → Counted (List Entry)
level_at root left is_root written = level_from root (below root left) (λ key. is_root && is_schemas key) written written

-- what one attribute of a list gives
abbrev pub given_by : Attributes → ℕ → Bool → Attributes → List ℕ → Place → Value → Counted (List Entry)
given_by root left is_root written key place (value.Plain text) =
    if is_substitution key then (path_of place text >>= λ path. substituted root (below root left) written key place path) else pure (text_entry key place text ∷ [])
given_by root left is_root written key place (value.List inner) =
    if is_substitution key then refuse (fault.BadPath place)
    else pure (list_entry key place inner (if is_root && is_schemas key then pure inner else expand (level root left inner)) ∷ [])

abbrev pub given : Attributes → ℕ → Bool → Attributes → Attribute → Counted (List Entry)
given root left is_root written attribute = given_by root left is_root written attribute.key attribute.place attribute.value

-- what a substitution gives
abbrev pub followed_by : Attributes → ℕ → Attributes → List ℕ → Place → Value → Counted (List Entry)
followed_by root left written key place (value.Plain text) = path_of place text >>= λ path. substituted root (below root left) written key place path
followed_by root left written key place (value.List inner) = refuse (fault.BadPath place)

abbrev pub followed : Attributes → ℕ → Attributes → Attribute → Counted (List Entry)
followed root left written attribute = followed_by root left written attribute.key attribute.place attribute.value

-- the value of an attribute of a level, its list resolved
abbrev pub value_by : Attributes → ℕ → Bool → Value → Counted Value
value_by root left kept (value.Plain text) = pure (value.Plain text)
value_by root left kept (value.List inner) = (if kept then pure inner else expand (level root left inner)) >>= λ tree. pure (value.List tree)

abbrev pub value_of : Attributes → Member → Counted Value
value_of root member = value_by root member.left member.kept member.attribute.now.value

-- these entries and then those
abbrev pub adds : List Entry → Result (List Entry × ℕ) PathFault → Result (List Entry × ℕ) PathFault
adds entries (Ok found) = Ok (entries ++ found.0, found.1)
adds entries (Err reason) = Err reason

-- the attribute has this key
abbrev pub is_keyed : List ℕ → Member → Bool
is_keyed key member = pointwise nat_eq member.attribute.now.key key

-- no plain attribute of the list has the attribute's key
abbrev pub is_missing : Attributes → Member → Bool
is_missing written member = not (has_plain written member.attribute.now.key)

-- the set has the keys of the plain attributes of the list
abbrev pub IsKeysOf : Attributes → BTreeSet (Bor (List ℕ)) → Type 0
IsKeysOf written keys = (wanted : List ℕ) → contains_by (λ key. slice_cmp nat_cmp wanted key.now) keys ≡ has_plain written wanted

-- the attribute where `_find` gives it, one level below
abbrev pub moved_to : ℕ → Member → Member
moved_to left member = record { attribute = member.attribute; left = left; kept = false }

-- how many attributes a value has
abbrev pub value_weight : Value → ℕ
value_weight (value.Plain text) = 0
value_weight (value.List inner) = weight inner

abbrev pub inner_weight : Member → ℕ
inner_weight member = value_weight member.attribute.now.value

-- an attribute of the level of this list: it stands as deep with a lighter list, or deeper
pub record IsWithin (root : Attributes) (left : ℕ) (written : Attributes) (is_root : Bool) (member : Member) : Type 0 where
  pub no_more : member.left ≤ left
  pub lighter : left ≤ member.left → inner_weight member < weight written
  pub small : inner_weight member ≤ weight root
  pub expands : is_root ≡ false → member.kept ≡ false
  pub schemas : member.kept ≡ true → is_schemas member.attribute.now.key ≡ true

abbrev pub IsSmall : ℕ → Member → Type 0
IsSmall most member = inner_weight member ≤ most

-- how many attributes of a resolved list are counted
abbrev pub weight_at : Bool → Attributes → ℕ
weight_at true tree = counted_weight tree
weight_at false tree = weight tree
