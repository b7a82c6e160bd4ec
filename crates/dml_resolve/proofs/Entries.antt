-- The attributes of a level as entries of the definition.
use Rattle.std.proofs.Common.{◌≡◌, ℕ, ◌<◌, ◌≤◌, ◌+◌, suc, Bool, true, false, List, [], ◌∷◌, ◌++◌, length, get_or, drop, map, filter, refl, ap, sym, ◌∙◌, add-one, append_assoc, drop_of_length-le}
use Rattle.std.specs.Prelude.{cond, nat_eq, not, ◌&&◌, ◌||◌, if◌then◌else◌}
use Rattle.std.specs.Cmp.Lexicographic.{pointwise}
use Rattle.std.proofs.Math.Seq.{drop-cons}
use Rattle.dml_tree.specs.declared.tree.Place.{Place}
use Rattle.dml_tree.specs.declared.tree.Attribute.{Attribute}
use Rattle.dml_tree.specs.declared.tree.Value.{Value}
use Rattle.dml_tree.specs.declared.tree.Value.TheVariants as value
use Rattle.dml_tree.specs.Attributes.{Attributes, none}
use Rattle.dml_tree.specs.TreeView.{tree_of, with_value, attributes}
use Rattle.dml_tree.proofs.TreeLists.{tree_of-attributes}
use Rattle.dml_resolve.specs.declared.members.Member.{Member}
use Rattle.dml_resolve.specs.Resolving.{Entry, entry_key, same_key, has_plain, is_substitution, moved, level}
use Rattle.dml_resolve.specs.Members.{entry_from, entry_of, entries_of, is_keyed, is_missing, moved_to}

-- an item, and those behind it
pub drop_item : {A : Type 0} (xs : List A) (i : ℕ) (x : A) → i < length xs → x ≡ get_or xs i x → drop i xs ≡ x ∷ drop (i + 1) xs
drop_item xs i x lt is = drop-cons xs i x lt ∙ (ap (λ y. y ∷ drop (suc i) xs) (sym is) ∙ ap (λ n. x ∷ drop n xs) (sym (add-one i)))

-- an attribute, and the tree of those behind it
pub tree_item : (xs : List Attribute) (i : ℕ) (x : Attribute) → i < length xs → x ≡ get_or xs i x → tree_of (drop i xs) ≡ with_value x.key x.place x.value (tree_of (drop (i + 1) xs))
tree_item xs i x lt is = ap tree_of (drop_item xs i x lt is)

pub tree_end : (xs : List Attribute) (i : ℕ) → length xs ≤ i → tree_of (drop i xs) ≡ none
tree_end xs i le = ap tree_of (drop_of_length-le xs le)

pub tree_whole : (t : Attributes) (xs : List Attribute) → xs ≡ attributes t → tree_of xs ≡ t
tree_whole t xs is = ap tree_of is ∙ tree_of-attributes t

has_plain-with_value : (key : List ℕ) (place : Place) (v : Value) (rest : Attributes) (wanted : List ℕ) → has_plain (with_value key place v rest) wanted ≡ (not (is_substitution key) && pointwise nat_eq key wanted || has_plain rest wanted)
has_plain-with_value key place (value.Plain text) rest wanted = refl
has_plain-with_value key place (value.List inner) rest wanted = refl

pub has_plain_at : (xs : List Attribute) (i : ℕ) (x : Attribute) (wanted : List ℕ) → i < length xs → x ≡ get_or xs i x → has_plain (tree_of (drop i xs)) wanted ≡ (not (is_substitution x.key) && pointwise nat_eq x.key wanted || has_plain (tree_of (drop (i + 1) xs)) wanted)
has_plain_at xs i x wanted lt is = ap (λ t. has_plain t wanted) (tree_item xs i x lt is) ∙ has_plain-with_value x.key x.place x.value (tree_of (drop (i + 1) xs)) wanted

-- a plain attribute of the key stands there
pub plain_there : (s k rest : Bool) → s ≡ false → k ≡ true → (not s && k || rest) ≡ true
plain_there s k rest h e = ap (λ b. not b && k || rest) h ∙ ap (λ b. b || rest) e

pub entries_of-append : (root : Attributes) (xs ys : List Member) → entries_of root (xs ++ ys) ≡ entries_of root xs ++ entries_of root ys
entries_of-append root [] ys = refl
entries_of-append root (x ∷ xs) ys = ap (λ l. entry_of root x ∷ l) (entries_of-append root xs ys)

entry_key-from : (root : Attributes) (left : ℕ) (kept : Bool) (key : List ℕ) (place : Place) (v : Value) → entry_key (entry_from root left kept key place v) ≡ key
entry_key-from root left kept key place (value.Plain text) = refl
entry_key-from root left kept key place (value.List inner) = refl

entry_key-of : (root : Attributes) (x : Member) → entry_key (entry_of root x) ≡ x.attribute.now.key
entry_key-of root x = entry_key-from root x.left x.kept x.attribute.now.key x.attribute.now.place x.attribute.now.value

same_cond : (p q : Bool) (e : Entry) (l l' : List Entry) → p ≡ q → l ≡ l' → (if p then e ∷ l else l) ≡ (if q then e ∷ l' else l')
same_cond p q e l l' h i = ap (λ b. if b then e ∷ l else l) h ∙ ap (λ m. if q then e ∷ m else m) i

push_cond : (root : Attributes) (q : Bool) (x : Member) (xs : List Member) → (if q then entry_of root x ∷ entries_of root xs else entries_of root xs) ≡ entries_of root (if q then x ∷ xs else xs)
push_cond root true x xs = refl
push_cond root false x xs = refl

pub keyed : (root : Attributes) (key : List ℕ) (xs : List Member) → filter (same_key key) (entries_of root xs) ≡ entries_of root (filter (is_keyed key) xs)
keyed root key [] = refl
keyed root key (x ∷ xs) =
    same_cond (same_key key (entry_of root x)) (is_keyed key x) (entry_of root x) _ _ (ap (λ k. pointwise nat_eq k key) (entry_key-of root x)) (keyed root key xs)
    ∙ push_cond root (is_keyed key x) x (filter (is_keyed key) xs)

pub missing : (root written : Attributes) (xs : List Member) → filter (λ entry. not (has_plain written (entry_key entry))) (entries_of root xs) ≡ entries_of root (filter (is_missing written) xs)
missing root written [] = refl
missing root written (x ∷ xs) =
    same_cond (not (has_plain written (entry_key (entry_of root x)))) (is_missing written x) (entry_of root x) _ _ (ap (λ k. not (has_plain written k)) (entry_key-of root x)) (missing root written xs)
    ∙ push_cond root (is_missing written x) x (filter (is_missing written) xs)

moved_by : (root : Attributes) (l left : ℕ) (kept : Bool) (key : List ℕ) (place : Place) (v : Value) (rest : List Entry) → moved (level root l) (entry_from root left kept key place v ∷ rest) ≡ entry_from root l false key place v ∷ moved (level root l) rest
moved_by root l left kept key place (value.Plain text) rest = refl
moved_by root l left kept key place (value.List inner) rest = refl

pub moved_all : (root : Attributes) (l : ℕ) (xs : List Member) → moved (level root l) (entries_of root xs) ≡ entries_of root (map (moved_to l) xs)
moved_all root l [] = refl
moved_all root l (x ∷ xs) =
    moved_by root l x.left x.kept x.attribute.now.key x.attribute.now.place x.attribute.now.value (entries_of root xs)
    ∙ ap (λ r. entry_from root l false x.attribute.now.key x.attribute.now.place x.attribute.now.value ∷ r) (moved_all root l xs)

pub keep_step : (p : Member → Bool) (xs : List Member) (i : ℕ) (x : Member) (before after : List Member) → i < length xs → x ≡ get_or xs i x → p x ≡ true → after ≡ before ++ x ∷ [] → after ++ filter p (drop (i + 1) xs) ≡ before ++ filter p (drop i xs)
keep_step p xs i x before after lt is e pushed =
    ap (λ l. l ++ filter p (drop (i + 1) xs)) pushed ∙ (append_assoc before (x ∷ []) (filter p (drop (i + 1) xs))
    ∙ ap (λ l. before ++ l) (sym (ap (filter p) (drop_item xs i x lt is) ∙ ap (λ b. if b then x ∷ filter p (drop (i + 1) xs) else filter p (drop (i + 1) xs)) e)))

pub skip_step : (p : Member → Bool) (xs : List Member) (i : ℕ) (x : Member) (before : List Member) → i < length xs → x ≡ get_or xs i x → p x ≡ false → before ++ filter p (drop (i + 1) xs) ≡ before ++ filter p (drop i xs)
skip_step p xs i x before lt is e =
    ap (λ l. before ++ l) (sym (ap (filter p) (drop_item xs i x lt is) ∙ ap (λ b. if b then x ∷ filter p (drop (i + 1) xs) else filter p (drop (i + 1) xs)) e))

-- the key of one more plain attribute is in the set
pub key_put : (s k old new rest whole : Bool) → s ≡ false → new ≡ cond k true old → (old || (not s && k || rest)) ≡ whole → (new || rest) ≡ whole
key_put false true true new rest whole h e f = ap (λ b. b || rest) e ∙ f
key_put false true false new rest whole h e f = ap (λ b. b || rest) e ∙ f
key_put false false old new rest whole h e f = ap (λ b. b || rest) e ∙ f
key_put true k old new rest whole h e f = absurd (cc)

-- a substitution adds no key
pub key_passed : (s k old rest whole : Bool) → s ≡ true → (old || (not s && k || rest)) ≡ whole → (old || rest) ≡ whole
key_passed true k old rest whole h f = f
key_passed false k old rest whole h f = absurd (cc)

pub or_none : (b : Bool) → (b || false) ≡ b
or_none true = refl
or_none false = refl
