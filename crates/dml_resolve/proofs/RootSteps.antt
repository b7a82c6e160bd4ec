-- The plain attributes of the root list under their keys.
use Rattle.std.proofs.Common.{◌≡◌, ℕ, ◌<◌, ◌≤◌, ◌+◌, zero, suc, Bool, true, false, Bor, List, Vec, Global, [], ◌∷◌, ◌++◌, get_or, length, drop, map, filter, All, refl, subst, ap, sym, ◌∙◌, arith, append-nil, append_assoc}
use Rattle.std.specs.Prelude.{cond, nat_eq, not, ◌&&◌, if◌then◌else◌, Option, Some, None}
use Rattle.std.specs.Cmp.Lexicographic.{pointwise}
use Rattle.std.specs.Option.{option_map_or}
use Rattle.std.proofs.lemmas.List.{map-append}
use Rattle.std.proofs.lemmas.List.Elements.{All-filter}
use Rattle.dml_tree.specs.declared.tree.Place.{Place}
use Rattle.dml_tree.specs.declared.tree.Attribute.{Attribute}
use Rattle.dml_tree.specs.declared.tree.Value.{Value}
use Rattle.dml_tree.specs.declared.tree.Value.TheVariants as value
use Rattle.dml_tree.specs.Attributes.{Attributes, weight}
use Rattle.dml_tree.specs.TreeView.{tree_of, with_value, attributes}
use Rattle.dml_resolve.specs.declared.members.Member.{Member}
use Rattle.dml_resolve.specs.Resolving.{Entry, text_entry, list_entry, same_key, plain_entries, expand, level, is_substitution}
use Rattle.dml_resolve.specs.Members.{entry_from, entries_of, value_weight, IsSmall}
use Rattle.dml_resolve.specs.Roots.{is_plain, root_member}
use Rattle.dml_resolve.specs.Places.{has_key}
use Rattle.dml_resolve.proofs.Entries.{tree_whole, drop_item}
use Rattle.dml_resolve.proofs.Measures.{lighter_at}

-- what a plain attribute of the root list stands for
abbrev root_entry : Attributes → ℕ → Attribute → Entry
root_entry root left x = entry_from root left false x.key x.place x.value

found_first : (s k : Bool) (wanted : List ℕ) (e : Entry) (rest : List Entry) → same_key wanted e ≡ k → filter (same_key wanted) (if s then rest else e ∷ rest) ≡ (if (not s && k) then e ∷ filter (same_key wanted) rest else filter (same_key wanted) rest)
found_first true k wanted e rest h = refl
found_first false k wanted e rest h = ap (λ b. if b then e ∷ filter (same_key wanted) rest else filter (same_key wanted) rest) h

root_first : (root : Attributes) (left : ℕ) (wanted key : List ℕ) (place : Place) (v : Value) (rest : Attributes) →
    filter (same_key wanted) (plain_entries (level root left) (with_value key place v rest)) ≡ (if (not (is_substitution key) && pointwise nat_eq key wanted) then entry_from root left false key place v ∷ filter (same_key wanted) (plain_entries (level root left) rest) else filter (same_key wanted) (plain_entries (level root left) rest))
root_first root left wanted key place (value.Plain text) rest = found_first (is_substitution key) (pointwise nat_eq key wanted) wanted (text_entry key place text) (plain_entries (level root left) rest) refl
root_first root left wanted key place (value.List inner) rest = found_first (is_substitution key) (pointwise nat_eq key wanted) wanted (list_entry key place inner (expand (level root left inner))) (plain_entries (level root left) rest) refl

map_first : (f : Attribute → Entry) (b : Bool) (x : Attribute) (xs : List Attribute) → (if b then f x ∷ map f xs else map f xs) ≡ map f (if b then x ∷ xs else xs)
map_first f true x xs = refl
map_first f false x xs = refl

root_found : (root : Attributes) (left : ℕ) (wanted : List ℕ) (xs : List Attribute) → filter (same_key wanted) (plain_entries (level root left) (tree_of xs)) ≡ map (root_entry root left) (filter (is_plain wanted) xs)
root_found root left wanted [] = refl
root_found root left wanted (x ∷ xs) =
    root_first root left wanted x.key x.place x.value (tree_of xs)
    ∙ (ap (λ l. if is_plain wanted x then root_entry root left x ∷ l else l) (root_found root left wanted xs)
    ∙ map_first (root_entry root left) (is_plain wanted x) x (filter (is_plain wanted) xs))

member_entries : (root : Attributes) (left : ℕ) (found : List (Bor Attribute)) → entries_of root (map (root_member left) found) ≡ map (root_entry root left) (map (λ (attribute : Bor Attribute). attribute.now) found)
member_entries root left [] = refl
member_entries root left (x ∷ xs) = ap (λ l. root_entry root left x.now ∷ l) (member_entries root left xs)

-- what stands under a key is what is found in the root list
pub root_entries : (root : Attributes) (left : ℕ) (wanted : List ℕ) (found : List (Bor Attribute)) (members : List Member) →
    map (λ (attribute : Bor Attribute). attribute.now) found ≡ filter (is_plain wanted) (attributes root) → members ≡ map (root_member left) found →
    entries_of root members ≡ filter (same_key wanted) (plain_entries (level root left) root)
root_entries root left wanted found members here made =
    ap (entries_of root) made
    ∙ (member_entries root left found
    ∙ (ap (map (root_entry root left)) here
    ∙ (sym (root_found root left wanted (attributes root))
    ∙ ap (λ t. filter (same_key wanted) (plain_entries (level root left) t)) (tree_whole root (attributes root) refl))))

small_members : (most left : ℕ) (found : List (Bor Attribute)) → All (λ (x : Attribute). value_weight x.value ≤ most) (map (λ (attribute : Bor Attribute). attribute.now) found) → All (IsSmall most) (map (root_member left) found)
small_members most left [] h k d lt = absurd (omega (arith, lt))
small_members most left (x ∷ xs) h zero d lt = h zero x.now (omega arith)
small_members most left (x ∷ xs) h (suc k) d lt = small_members most left xs (λ j e l. h (suc j) e (omega (arith, l))) k d (omega (arith, lt))

small_attributes : (root : Attributes) → All (λ (x : Attribute). value_weight x.value ≤ weight root) (attributes root)
small_attributes root k d lt =
    let same : weight (tree_of (attributes root)) ≡ weight root = ap weight (tree_whole root (attributes root) refl) in
    omega (arith, lighter_at (attributes root) k d lt)

pub root_small : (root : Attributes) (left : ℕ) (wanted : List ℕ) (found : List (Bor Attribute)) (members : List Member) →
    map (λ (attribute : Bor Attribute). attribute.now) found ≡ filter (is_plain wanted) (attributes root) → members ≡ map (root_member left) found → All (IsSmall (weight root)) members
root_small root left wanted found members here made =
    let all = All-filter (is_plain wanted) (λ (x : Attribute). value_weight x.value ≤ weight root) (attributes root) (small_attributes root) in
    subst (All (IsSmall (weight root))) (sym made) (small_members (weight root) left found (subst (All (λ (x : Attribute). value_weight x.value ≤ weight root)) (sym here) all))

-- the attributes of a found list, none where there is none
abbrev pub items_of : Option (Vec (Bor Attribute) Global) → List Attribute
items_of found = option_map_or (λ found. map (λ (attribute : Bor Attribute). attribute.now) found.items) found []

-- one more attribute stands under its key
pub put_step : (same : Bool) (x : Bor Attribute) (own old mid new : Option (Vec (Bor Attribute) Global)) (start : List (Bor Attribute)) (pushed : Vec (Bor Attribute) Global) →
    map (λ (attribute : Bor Attribute). attribute.now) start ≡ items_of own → pushed.items ≡ start ++ x ∷ [] →
    mid ≡ cond same None old → new ≡ cond same (Some pushed) mid → (same ≡ true → own ≡ old) → items_of new ≡ items_of old ++ (if same then x.now ∷ [] else [])
put_step true x own old mid new start pushed taken more removed inserted here =
    ap items_of inserted
    ∙ (ap (map (λ (attribute : Bor Attribute). attribute.now)) more
    ∙ (map-append (λ (attribute : Bor Attribute). attribute.now) start (x ∷ [])
    ∙ ap (λ l. l ++ x.now ∷ []) (taken ∙ ap items_of (here refl))))
put_step false x own old mid new start pushed taken more removed inserted here =
    ap items_of (inserted ∙ removed) ∙ sym (append-nil (items_of old))

-- one more attribute of the root list is put
pub put_plain : (wanted : List ℕ) (xs : List Attribute) (i : ℕ) (x : Attribute) (old new : List Attribute) → i < length xs → x ≡ get_or xs i x → is_substitution x.key ≡ false →
    new ≡ old ++ filter (has_key wanted) (x ∷ []) → new ++ filter (is_plain wanted) (drop (i + 1) xs) ≡ old ++ filter (is_plain wanted) (drop i xs)
put_plain wanted xs i x old new lt is plain put =
    ap (λ l. l ++ filter (is_plain wanted) (drop (i + 1) xs)) put
    ∙ (append_assoc old (filter (has_key wanted) (x ∷ [])) (filter (is_plain wanted) (drop (i + 1) xs))
    ∙ ap (λ l. old ++ l) (sym (ap (filter (is_plain wanted)) (drop_item xs i x lt is) ∙ plain_first (is_substitution x.key) (has_key wanted x) x (filter (is_plain wanted) (drop (i + 1) xs)) plain)))
  where
    plain_first : (s k : Bool) (x : Attribute) (rest : List Attribute) → s ≡ false → (if (not s && k) then x ∷ rest else rest) ≡ (if k then x ∷ [] else []) ++ rest
    plain_first false true x rest h = refl
    plain_first false false x rest h = refl
    plain_first true k x rest h = absurd (cc)

-- a substitution is passed
pub put_passed : (wanted : List ℕ) (xs : List Attribute) (i : ℕ) (x : Attribute) (old : List Attribute) → i < length xs → x ≡ get_or xs i x → is_substitution x.key ≡ true →
    old ++ filter (is_plain wanted) (drop (i + 1) xs) ≡ old ++ filter (is_plain wanted) (drop i xs)
put_passed wanted xs i x old lt is substitution =
    ap (λ l. old ++ l) (sym (ap (filter (is_plain wanted)) (drop_item xs i x lt is) ∙ ap (λ s. if (not s && has_key wanted x) then x ∷ filter (is_plain wanted) (drop (i + 1) xs) else filter (is_plain wanted) (drop (i + 1) xs)) substitution))
